use Rattle.std.proofs.Common.{◌≡◌, ℕ, get_or, None}
use Rattle.weaver_workers.proofs.hearing.no_clocks.Given as goal

abbrev pub invariant-loop-gate : goal.invariant-loop-gate
invariant-loop-gate l = (from : ℕ) → get_or l.clocks.items from None ≡ None
