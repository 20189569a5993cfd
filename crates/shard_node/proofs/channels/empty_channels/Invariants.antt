use Rattle.std.proofs.Common.{◌≡◌, All}
use Rattle.std.specs.Vec.{vec_len}
use Rattle.shard_queue.specs.Inbox.{Incoming, nothing_arrived}
use Rattle.shard_node.specs.declared.waiting.Waiting.{Waiting}
use Rattle.shard_node.proofs.channels.empty_channels.Given as goal

abbrev pub invariant-loop-gate : goal.invariant-loop-gate
invariant-loop-gate l = (vec_len l.channels ≡ l._gate) × All (λ (channel : Incoming Waiting). channel ≡ nothing_arrived) l.channels.items
