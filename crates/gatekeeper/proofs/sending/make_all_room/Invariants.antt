use Rattle.std.proofs.Common.{ℕ, ◌<◌}
use Rattle.gatekeeper.specs.Messages.{KeepsSent, HasRoomAt}
use Rattle.gatekeeper.proofs.sending.make_all_room.Given as goal

abbrev pub invariant-loop-shard : goal.invariant-loop-shard
invariant-loop-shard l = KeepsSent l.fn.channels.items l.channels.items × ((shard : ℕ) → shard < l.shard → HasRoomAt l.channels.items shard)
