use Rattle.std.specs.Vec.Iter.{into_iter_items, into_iter_len}
use Rattle.std.proofs.Common.{◌≡◌, ◌++◌, length, map}
use Rattle.lock_tests.specs.Workers.{player_of}
use Rattle.lock_tests.proofs.bench.players_of.Given as goal

abbrev pub invariant-loop-hand : goal.invariant-loop-hand
invariant-loop-hand g l = record {
  all : l.players.items ++ map player_of (into_iter_items l.hand-iterator) ≡ map player_of l.fn.hands.items;
  long : into_iter_len l.hand-iterator ≡ length (into_iter_items l.hand-iterator);
}
