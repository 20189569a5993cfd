use Rattle.std.proofs.Common.{◌≡◌, ◌++◌, drop}
use Rattle.std.specs.List.{filter_map}
use Rattle.weaver_core.specs.Reporting.{found_in, pair_found}
use Rattle.weaver_core.proofs.pairs.add_pairs_before.Given as goal

-- the pairs so far, and then those of the places that are left
abbrev pub invariant-loop-place : goal.invariant-loop-place
invariant-loop-place l =
    l.pairs ++ filter_map (pair_found (found_in l.requests.entries) l.earlier l.asked l.later) (drop l.place-index l.places)
    ≡ l.fn.pairs ++ filter_map (pair_found (found_in l.requests.entries) l.earlier l.asked l.later) l.places
