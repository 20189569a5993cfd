-- A hand of these locks has a pass for each gatekeeper and for each shard.
-- Used by Entering, Leaving, NewHands, OwnLogs, Sending, ShardDone, ShardEntered, ShardLeft and ShardVisited.
use Rattle.std.proofs.Common.{◌≡◌, ℕ, ◌<◌, length, arith}
use Rattle.std.specs.List.{All}
use Rattle.weave_entries.specs.declared.gate_log.GateDeed.{GateDeed}
use Rattle.weave_entries.specs.declared.shard_log.ShardDeed.{ShardDeed}
use Rattle.chronicle.specs.declared.pass.Pass.{Pass}
use Rattle.chronicle.specs.Passes.{number_of}
use Rattle.weaver_locks.specs.declared.hand.Hand.{Hand}
use Rattle.weaver_locks.specs.declared.shared.Shared.{Shared}
use Rattle.weaver_locks.specs.Hands.{hand_number, IsHand}

-- they have its number
pub record HaveItsNumber (hand : Hand) : Type 0 where
  pub gates : All (λ (p : Pass GateDeed). number_of p ≡ hand_number hand) hand.gates.items
  pub oracle : number_of hand.oracle ≡ hand_number hand
  pub shards : All (λ (p : Pass ShardDeed). number_of p ≡ hand_number hand) hand.shards.items

module _ (shared : Shared) (hand : Hand) (is : IsHand shared hand) where
  -- a hand has a pass for each gatekeeper
  pub has_gate : (gate : ℕ) → gate < length shared.gates.items → gate < length hand.gates.items
  has_gate gate low = omega (arith, low, is.gates)

  -- a hand has a pass for each shard
  pub has_shard : (shard : ℕ) → shard < length shared.shards.items → shard < length hand.shards.items
  has_shard shard low = omega (arith, low, is.shards)
