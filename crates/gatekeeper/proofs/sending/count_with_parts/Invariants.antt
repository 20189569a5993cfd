use Rattle.std.proofs.Common.{◌≡◌, take, count_by}
use Rattle.gatekeeper.specs.Messages.{has_parts}
use Rattle.gatekeeper.proofs.sending.count_with_parts.Given as goal

abbrev pub invariant-loop-parts : goal.invariant-loop-parts
invariant-loop-parts l = l.count ≡ count_by has_parts (take l.parts-index l.shares)
