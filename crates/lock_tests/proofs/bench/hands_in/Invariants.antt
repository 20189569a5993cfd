use Rattle.std.specs.Vec.Iter.{into_iter_items, into_iter_len}
use Rattle.std.proofs.Common.{◌≡◌, ◌++◌, length, map}
use Rattle.lock_tests.specs.Workers.{hand_of_player}
use Rattle.lock_tests.proofs.bench.hands_in.Given as goal

abbrev pub invariant-loop-player : goal.invariant-loop-player
invariant-loop-player g l = record {
  all : l.hands.items ++ map hand_of_player (into_iter_items l.player-iterator) ≡ map hand_of_player l.fn.players.items;
  long : into_iter_len l.player-iterator ≡ length (into_iter_items l.player-iterator);
}
