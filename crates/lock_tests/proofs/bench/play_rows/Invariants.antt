use Rattle.std.proofs.Common.{◌≡◌, vec_len}
use Rattle.lock_tests.specs.Workers.{ArePlayers}
use Rattle.lock_tests.proofs.bench.play_rows.Given as goal

abbrev pub invariant-loop-who : goal.invariant-loop-who
invariant-loop-who g l = record {
  players : ArePlayers l.fn.shared l.players.items;
  count : vec_len l.players ≡ vec_len l.initial.players;
}
