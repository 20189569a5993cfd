use Rattle.std.proofs.Common.{◌≡◌, take}
use Rattle.order_witness.specs.Heads.{heads_of}
use Rattle.order_witness.proofs.heads.heads_of.Given as goal

abbrev pub invariant-loop-run : goal.invariant-loop-run
invariant-loop-run l = l.firsts.items ≡ heads_of l.line (take l.run-index l.runs)
