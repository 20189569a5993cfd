use Rattle.std.proofs.Common.{◌≡◌, [], All}
use Rattle.std.specs.Vec.{vec_len}
use Rattle.shard_queue.specs.Outbox.{Channel}
use Rattle.gatekeeper.specs.declared.places.Place.{Place}
use Rattle.gatekeeper.proofs.sending.empty_channels.Given as goal

abbrev pub invariant-loop-shard : goal.invariant-loop-shard
invariant-loop-shard l = (vec_len l.channels ≡ l._shard) × All (λ (channel : Channel Place). channel.sent ≡ []) l.channels.items
