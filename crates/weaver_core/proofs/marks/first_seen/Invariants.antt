use Rattle.std.proofs.Common.{◌≡◌, drop}
use Rattle.weaver_core.specs.Marks.{first_seen, has_mark}
use Rattle.weaver_core.proofs.marks.first_seen.Given as goal

-- the first one of those that are left is the first one of all
abbrev pub invariant-loop-counted : goal.invariant-loop-counted
invariant-loop-counted l = first_seen (has_mark l.visits.entries) l.request (drop l.counted-index l.counts) ≡ first_seen (has_mark l.visits.entries) l.request l.counts
