use Rattle.std.proofs.Common.{◌≡◌, vec_len}
use Rattle.std.specs.List.{All}
use Rattle.lock_tests.specs.Turns.{IsReadySeat}
use Rattle.lock_tests.proofs.turns.rows.play_rows.Given as goal

abbrev pub invariant-loop-who : goal.invariant-loop-who
invariant-loop-who g l = record {
  ready : All (IsReadySeat l.fn.script l.fn.shared) l.seats.items;
  count : vec_len l.seats ≡ vec_len l.initial.seats;
}
