-- What a hand's clocks and empty messages have done.
use Rattle.std.specs.Prelude.{◌≡◌, ◌∷◌, ℕ, List, [], Result, Ok, Err}
use Rattle.vector_stamp.specs.declared.clock.Clock.{Clock}
use Rattle.weave_entries.specs.declared.gate_log.GateEntry.{GateEntry}
use Rattle.weave_entries.specs.declared.gate_log.GateDeed.TheVariants.{Heard, Nop}
use Rattle.weave_entries.specs.GateReplay.{clock_of, low_mark, next_number, next_stamp, running_of}
use Rattle.weaver_locks.specs.declared.hand.Hand.{Hand}
use Rattle.weaver_locks.specs.GateHolds.{gate_entry_by, WasAtGate}
use Rattle.weaver_hands.specs.declared.fault.HandFault.{HandFault}
use Rattle.weaver_hands.specs.declared.fault.HandFault.TheVariants.{Busy, NotYet, Empty, Waits, Memory}
use Rattle.weaver_hands.specs.Leaving.{MadeNone}
use Rattle.weaver_hands.specs.Transactions.{FoundBusy}

-- The gatekeeper `from` said its clock in one hold, and `to` heard it in a second.
pub record TellsClock (shards : ℕ) (old new : Hand) (from to : ℕ) : Type 0 where
  pub told : Hand
  pub said : List GateEntry
  pub clock : Clock
  pub clock_is : clock ≡ clock_of from said
  pub says : WasAtGate shards old told from said []
  pub before : List GateEntry
  pub hears : WasAtGate shards told new to before (gate_entry_by told (Heard clock) ∷ [])

-- what `say_and_hear` answers
abbrev pub TellsAs : ℕ → Hand → Hand → ℕ → ℕ → Result (Unit {0}) HandFault → Type 0
TellsAs shards old new from to (Ok done) = TellsClock shards old new from to
TellsAs shards old new from to (Err Memory) = MadeNone old new
TellsAs shards old new from to (Err Busy) = ⊥
TellsAs shards old new from to (Err (NotYet shard at)) = ⊥
TellsAs shards old new from to (Err Empty) = ⊥
TellsAs shards old new from to (Err (Waits vertex)) = ⊥

-- An empty message was sent in one hold.
pub record SendsEmptyMessage (shards : ℕ) (old new : Hand) (gate shard : ℕ) : Type 0 where
  pub before : List GateEntry
  pub was : (let stamp = next_stamp gate (clock_of gate before) in
      WasAtGate shards old new gate before (gate_entry_by old
      (Nop shard (next_number shard before) stamp (low_mark stamp (running_of before))) ∷ []))

-- what `nop` answers
abbrev pub NopsAs : ℕ → Hand → Hand → ℕ → ℕ → Result (Unit {0}) HandFault → Type 0
NopsAs shards old new gate shard (Ok done) = SendsEmptyMessage shards old new gate shard
NopsAs shards old new gate shard (Err Busy) = FoundBusy shards old new gate
NopsAs shards old new gate shard (Err Memory) = MadeNone old new
NopsAs shards old new gate shard (Err (NotYet other at)) = ⊥
NopsAs shards old new gate shard (Err Empty) = ⊥
NopsAs shards old new gate shard (Err (Waits vertex)) = ⊥
