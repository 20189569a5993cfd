use Rattle.std.proofs.Common.{take}
use Rattle.backing_store.specs.Keeping.{held_of, unordered_of, IsAsked}
use Rattle.backing_store.proofs.asked.asked_at.Given as goal

abbrev pub invariant-loop-name : goal.invariant-loop-name
invariant-loop-name l = IsAsked l.asked (unordered_of l.stamp (held_of l.lasts.entries (take l.name-index l.names)))
