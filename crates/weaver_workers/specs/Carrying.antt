-- What hands do that begin nothing: clocks are passed on, empty messages are sent, messages are brought and processed.
use Rattle.std.specs.Prelude.{◌≡◌, ◌≢◌, ℕ, ◌<◌, Bool, true, false, List, ◌++◌, slice_index_or, Contains, IsTrue, Option, Some, None}
use Rattle.vector_stamp.specs.declared.clock.Clock.{Clock}
use Rattle.weave_entries.specs.declared.gate_log.GateEntry.{GateEntry}
use Rattle.weave_entries.specs.declared.gate_log.GateDeed.{GateDeed}
use Rattle.weave_entries.specs.declared.gate_log.GateDeed.TheVariants.{Heard, Nop}
use Rattle.weave_entries.specs.declared.shard_log.ShardEntry.{ShardEntry}
use Rattle.weave_entries.specs.declared.shard_log.ShardDeed.{ShardDeed}
use Rattle.weave_entries.specs.declared.shard_log.ShardDeed.TheVariants.{Arrived, Applied}
use Rattle.weave_entries.specs.GateReplay.{clock_of}
use Rattle.weave_account.specs.Account.{gate_log, shard_log}
use Rattle.weave_account.specs.GoesOn.{IsBeginningOf}
use Rattle.seen_logs.specs.Seen.{IsWithin}
use Rattle.weaver_locks.specs.declared.hand.Hand.{Hand}
use Rattle.weaver_locks.specs.declared.shared.Shared.{Shared}
use Rattle.weaver_locks.specs.Hands.{hand_number, made_by, seen_by, IsHand}

-- a gatekeeper hears a clock, or sends an empty message
abbrev pub is_telling : GateDeed → Bool
is_telling (Heard clock) = true
is_telling (Nop shard number stamp low) = true
is_telling _ = false

-- a message arrives at a shard, or is processed there
abbrev pub is_bringing : ShardDeed → Bool
is_bringing (Arrived gate number message) = true
is_bringing (Applied gate number) = true
is_bringing _ = false

-- a log has gained entries, each of which passes
pub record Gains {E : Type 0} (passes : E → Bool) (old new : List E) : Type 0 where
  pub added : List E
  pub log : new ≡ old ++ added
  pub pass : (entry : E) → Contains added entry → IsTrue (passes entry)

-- The hand has begun, judged, sent, read, finished and raised nothing. All that it made are clocks that gatekeepers
-- heard, empty messages, and messages that arrived at shards or were processed there. It has seen no less than before.
pub record OnlyCarries (old new : Hand) : Type 0 where
  pub number : hand_number new ≡ hand_number old
  pub more : IsWithin (seen_by old) (seen_by new)
  pub gates : (home : ℕ) → Gains (λ (entry : GateEntry). is_telling entry.deed)
      (gate_log (made_by old) home) (gate_log (made_by new) home)
  pub store : (made_by new).store ≡ (made_by old).store
  pub oracle : (made_by new).oracle ≡ (made_by old).oracle
  pub shards : (shard : ℕ) → Gains (λ (entry : ShardEntry). is_bringing entry.deed)
      (shard_log (made_by old) shard) (shard_log (made_by new) shard)

-- and it is a hand of these locks
pub record Carries (shared : Shared) (old new : Hand) : Type 0 where
  pub hand : IsHand shared new
  pub only : OnlyCarries old new

-- all that the hand made at gatekeepers and shards is at this gatekeeper
pub record IsAtGate (gate : ℕ) (old new : Hand) : Type 0 where
  pub gates : (home : ℕ) → home ≢ gate → gate_log (made_by new) home ≡ gate_log (made_by old) home
  pub shards : (made_by new).shards ≡ (made_by old).shards

-- all of it that is at shards is at this one
abbrev pub IsAtNoOtherShard : ℕ → Hand → Hand → Type 0
IsAtNoOtherShard shard old new = (at : ℕ) → at ≢ shard → shard_log (made_by new) at ≡ shard_log (made_by old) at

-- all of it is at this shard
pub record IsAtShard (shard : ℕ) (old new : Hand) : Type 0 where
  pub gates : (made_by new).gates ≡ (made_by old).gates
  pub shards : IsAtNoOtherShard shard old new

-- the hand only carries, at this gatekeeper alone
pub record CarriesAtGate (shared : Shared) (gate : ℕ) (old new : Hand) : Type 0 where
  pub carries : Carries shared old new
  pub there : IsAtGate gate old new

-- and at this shard alone
pub record CarriesAtShard (shared : Shared) (shard : ℕ) (old new : Hand) : Type 0 where
  pub carries : Carries shared old new
  pub there : IsAtShard shard old new

-- This is a gatekeeper's clock at a place of its log that the hand has seen, and that isn't before what it had seen.
pub record HasSaid (old new : Hand) (from : ℕ) (clock : Clock) : Type 0 where
  pub said : List GateEntry
  pub late : IsBeginningOf (gate_log (seen_by old) from) said
  pub seen : IsBeginningOf said (gate_log (seen_by new) from)
  pub clock_is : clock ≡ clock_of from said

-- The gatekeeper has heard since, from the hand, a clock of another one, `from`, not older than the hand had seen.
pub record HasHeard (old new : Hand) (gate from : ℕ) : Type 0 where
  pub clock : Clock
  pub said : HasSaid old new from clock
  pub added : List GateEntry
  pub log : gate_log (made_by new) gate ≡ gate_log (made_by old) gate ++ added
  pub entry : GateEntry
  pub heard : Contains added entry
  pub deed : entry.deed ≡ Heard clock

-- each gatekeeper below this number but `from` has heard `from` so
abbrev pub HaveHeardBelow : ℕ → ℕ → Hand → Hand → Type 0
HaveHeardBelow bound from old new = (gate : ℕ) → gate < bound → gate ≢ from → HasHeard old new gate from

-- the gatekeeper has heard this clock from the hand
pub record HasTold (hand : Hand) (gate : ℕ) (clock : Clock) : Type 0 where
  pub entry : GateEntry
  pub own : Contains (gate_log (made_by hand) gate) entry
  pub deed : entry.deed ≡ Heard clock

-- it has heard each clock of a list that has one
abbrev pub AreTold : Hand → ℕ → List (Option Clock) → Type 0
AreTold hand gate clocks = (from : ℕ) (clock : Clock) → slice_index_or clocks from None ≡ Some clock
    → HasTold hand gate clock

-- The gatekeeper has heard from the hand a clock of another one, `from`, not older than the hand had seen: now, or it
-- had before.
pub record IsUpToDate (old new : Hand) (gate from : ℕ) : Type 0 where
  pub clock : Clock
  pub said : HasSaid old new from clock
  pub told : HasTold new gate clock

-- it is up to date with each other one below this number
abbrev pub IsUpToDateBelow : ℕ → ℕ → Hand → Hand → Type 0
IsUpToDateBelow bound gate old new = (from : ℕ) → from < bound → from ≢ gate → IsUpToDate old new gate from
