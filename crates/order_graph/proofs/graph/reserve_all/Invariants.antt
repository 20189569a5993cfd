use Rattle.std.proofs.Common.{◌≡◌, ◌<◌, ◌≤◌, ℕ, length}
use Rattle.order_graph.specs.Chains.{events_of, room_of}
use Rattle.order_graph.proofs.graph.reserve_all.Given as goal

abbrev pub invariant-loop-chain : goal.invariant-loop-chain
invariant-loop-chain l =
    (length l.chains ≡ length l.initial.chains)
    × ((gate : ℕ) → gate < l.chain-index → l.events ≤ room_of l.chains gate)
    × ((gate : ℕ) → room_of l.initial.chains gate ≤ room_of l.chains gate)
    × ((gate : ℕ) → events_of l.chains gate ≡ events_of l.initial.chains gate)
