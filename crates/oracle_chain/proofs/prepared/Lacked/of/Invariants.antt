use Rattle.std.proofs.Common.{◌≡◌, take}
use Rattle.oracle_chain.proofs.prepared.Lacked.of.Given as goal

abbrev pub invariant-loop-ask : goal.invariant-loop-ask
invariant-loop-ask l = l.made ≡ take l.ask-index l.asks
