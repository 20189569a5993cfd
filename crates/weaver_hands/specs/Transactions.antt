-- What a hand's transaction and its begin of a program have done.
use Rattle.std.specs.Prelude.{◌≡◌, ◌⊎◌, ◌∷◌, ℕ, List, [], Option, None, Result, Ok, Err, is_some, IsTrue}
use Rattle.std.specs.Option.{ForSome}
use Rattle.graph_ops.specs.declared.op.Op.{Op}
use Rattle.vector_stamp.specs.declared.clock.Stamp.{Stamp}
use Rattle.vector_stamp.specs.Clocks.{counts_no_more}
use Rattle.vector_stamp.specs.Order.{has_64_bits, stamp_before}
use Rattle.weave_entries.specs.declared.gate_log.GateEntry.{GateEntry}
use Rattle.weave_entries.specs.declared.gate_log.GateDeed.TheVariants.{BeganTx, BeganProgram}
use Rattle.weave_entries.specs.declared.verdict.Verdict.{Verdict}
use Rattle.weave_entries.specs.GateReplay.{begun_stamp, clock_of, flight_of}
use Rattle.weaver_locks.specs.declared.hand.Hand.{Hand}
use Rattle.weaver_locks.specs.GateHolds.{gate_entry_by, SendsIn, WasAtGate}
use Rattle.weaver_locks.specs.Closing.{entries_by}
use Rattle.weaver_locks.specs.Hands.{hand_number, made_by, seen_by}
use Rattle.weaver_locks.specs.StoreHolds.{JudgesIn}
use Rattle.weaver_hands.specs.declared.fault.HandFault.{HandFault}
use Rattle.weaver_hands.specs.declared.fault.HandFault.TheVariants.{Busy, NotYet, Empty, Waits, Memory}
use Rattle.weaver_hands.specs.Leaving.{MadeNone}

-- what the hand made is what has its number among what it has seen
abbrev pub HasSeenOwn : Hand → Type 0
HasSeenOwn hand = made_by hand ≡ entries_by (hand_number hand) (seen_by hand)

-- A transaction was begun in one hold, judged in a second and sent in a third.
pub record Transacts (shards : ℕ) (old new : Hand) (gate request : ℕ) (ops : List Op) (last : Option Stamp)
    (stamp : Stamp) (verdict : Verdict) : Type 0 where
  pub begun : Hand
  pub begun_seen : HasSeenOwn begun
  pub judged : Hand
  pub judged_seen : HasSeenOwn judged
  pub before : List GateEntry
  pub begins : WasAtGate shards old begun gate before (gate_entry_by old (BeganTx request stamp) ∷ [])
  pub stamp_is : stamp ≡ begun_stamp gate (clock_of gate before) last
  pub not_busy : flight_of before ≡ None
  pub after_last : ForSome last (λ heard. IsTrue (stamp_before heard stamp))
  pub hears_no_more : ForSome last (λ heard. IsTrue (counts_no_more gate (clock_of gate before) heard.clock))
  pub bits : IsTrue (has_64_bits stamp.clock)
  pub judges : JudgesIn begun judged request stamp ops (Ok verdict)
  pub flying : List GateEntry
  pub sends : SendsIn shards judged new gate flying ops verdict (Ok tt)
  pub flight_is : sends.flight ≡ record { author = hand_number old; request = request; stamp = stamp }

-- It was begun in one hold, and then the hand was out of memory, and made no other entry.
pub record StopsBegun (shards : ℕ) (old new : Hand) (gate request : ℕ) (last : Option Stamp) : Type 0 where
  pub begun : Hand
  pub stamp : Stamp
  pub before : List GateEntry
  pub begins : WasAtGate shards old begun gate before (gate_entry_by old (BeganTx request stamp) ∷ [])
  pub stamp_is : stamp ≡ begun_stamp gate (clock_of gate before) last
  pub stops : MadeNone begun new

-- It was begun in one hold and judged in a second, and then the hand was out of memory, and made no other entry.
pub record StopsJudged (shards : ℕ) (old new : Hand) (gate request : ℕ) (ops : List Op) (last : Option Stamp)
    : Type 0 where
  pub begun : Hand
  pub judged : Hand
  pub stamp : Stamp
  pub before : List GateEntry
  pub begins : WasAtGate shards old begun gate before (gate_entry_by old (BeganTx request stamp) ∷ [])
  pub stamp_is : stamp ≡ begun_stamp gate (clock_of gate before) last
  pub verdict : Verdict
  pub judges : JudgesIn begun judged request stamp ops (Ok verdict)
  pub stops : MadeNone judged new

-- what is left of a transaction at whose begin, judgement or sending the hand was out of memory
abbrev pub StopsInPart : ℕ → Hand → Hand → ℕ → ℕ → List Op → Option Stamp → Type 0
StopsInPart shards old new gate request ops last = MadeNone old new
    ⊎ (StopsBegun shards old new gate request last ⊎ StopsJudged shards old new gate request ops last)

-- A program was begun in one hold.
pub record Starts (shards : ℕ) (old new : Hand) (gate request : ℕ) (last : Option Stamp) (stamp : Stamp) : Type 0 where
  pub before : List GateEntry
  pub begins : WasAtGate shards old new gate before (gate_entry_by old (BeganProgram request stamp) ∷ [])
  pub stamp_is : stamp ≡ begun_stamp gate (clock_of gate before) last
  pub after_last : ForSome last (λ heard. IsTrue (stamp_before heard stamp))
  pub hears_no_more : ForSome last (λ heard. IsTrue (counts_no_more gate (clock_of gate before) heard.clock))
  pub bits : IsTrue (has_64_bits stamp.clock)

-- A transaction was in flight at the gatekeeper in this call's hold, and nothing was done.
pub record FoundBusy (shards : ℕ) (old new : Hand) (gate : ℕ) : Type 0 where
  pub before : List GateEntry
  pub was : WasAtGate shards old new gate before []
  pub busy : IsTrue (is_some (flight_of before))

-- what `transact` answers
abbrev pub TransactsAs : ℕ → Hand → Hand → ℕ → ℕ → List Op → Option Stamp → Result (Stamp × Verdict) HandFault → Type 0
TransactsAs shards old new gate request ops last (Ok (stamp, verdict)) =
    Transacts shards old new gate request ops last stamp verdict
TransactsAs shards old new gate request ops last (Err Busy) = FoundBusy shards old new gate
TransactsAs shards old new gate request ops last (Err Memory) = StopsInPart shards old new gate request ops last
TransactsAs shards old new gate request ops last (Err (NotYet shard at)) = ⊥
TransactsAs shards old new gate request ops last (Err Empty) = ⊥
TransactsAs shards old new gate request ops last (Err (Waits vertex)) = ⊥

-- what `start` answers
abbrev pub StartsAs : ℕ → Hand → Hand → ℕ → ℕ → Option Stamp → Result Stamp HandFault → Type 0
StartsAs shards old new gate request last (Ok stamp) = Starts shards old new gate request last stamp
StartsAs shards old new gate request last (Err Memory) = MadeNone old new
StartsAs shards old new gate request last (Err Busy) = ⊥
StartsAs shards old new gate request last (Err (NotYet shard at)) = ⊥
StartsAs shards old new gate request last (Err Empty) = ⊥
StartsAs shards old new gate request last (Err (Waits vertex)) = ⊥
