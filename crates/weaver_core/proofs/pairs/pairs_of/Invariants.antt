use Rattle.std.proofs.Common.{◌≡◌, ◌++◌, drop}
use Rattle.weaver_core.specs.Marks.{has_mark, mark_of}
use Rattle.weaver_core.specs.Reporting.{all_pairs_found, found_in}
use Rattle.weaver_core.proofs.pairs.pairs_of.Given as goal

-- the pairs so far, and then those of the entries that are left
abbrev pub invariant-loop-place : goal.invariant-loop-place
invariant-loop-place l =
    l.pairs ++ all_pairs_found (found_in l.requests.entries) l.store (mark_of (found_in l.requests.entries) (has_mark l.visits.entries) l.store) (drop l.place l.log)
    ≡ all_pairs_found (found_in l.requests.entries) l.store (mark_of (found_in l.requests.entries) (has_mark l.visits.entries) l.store) l.log
