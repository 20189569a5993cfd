use Rattle.std.proofs.Common.{◌≡◌, length}
use Rattle.std.specs.Prelude.{filter}
use Rattle.std.specs.List.{range_with_len}
use Rattle.weaver_core.proofs.Numbering.{is_of_session}
use Rattle.lock_tests.proofs.turns.bench.requests_of.Given as goal

abbrev pub invariant-loop-r : goal.invariant-loop-r
invariant-loop-r g l =
    (l.found.items ≡ filter (is_of_session l.fn.script l.fn.session) (range_with_len 0 l.r)) × (l.requests ≡ l.fn.script.requests)
    × (l.r-end ≡ length l.fn.script.requests) × (l.session ≡ l.fn.session)
