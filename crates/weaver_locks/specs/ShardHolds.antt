-- What a hold of a shard is for the hand that is in it, and what the calls answer there.
use Rattle.std.specs.Prelude.{◌≡◌, ◌∷◌, ◌++◌, ℕ, List, [], map, take, None, Option, Result, Ok, Err, IfOk, IfErr, OnOk}
use Rattle.weave_data.specs.declared.name.Name.{Name}
use Rattle.graph_ops.specs.declared.record.Record.{Record}
use Rattle.shard_queue.specs.declared.inbox.Arrival.{Arrival}
use Rattle.shard_queue.specs.declared.inbox.Arrival.TheVariants.{Kept, Repeat}
use Rattle.shard_node.specs.declared.fault.VisitFault.{VisitFault}
use Rattle.shard_node.specs.Shards.{IsRightlyUnread}
use Rattle.vector_stamp.specs.declared.clock.Stamp.{Stamp}
use Rattle.weave_entries.specs.declared.oracle_log.OracleEntry.{OracleEntry}
use Rattle.weave_entries.specs.declared.shard_log.ShardEntry.{ShardEntry}
use Rattle.weave_entries.specs.declared.shard_log.ShardDeed.{ShardDeed}
use Rattle.weave_entries.specs.declared.shard_log.ShardDeed.TheVariants.{Visited}
use Rattle.weave_entries.specs.OracleReplay.{oracle_entry_of, pairs_of_log}
use Rattle.weave_entries.specs.ShardReplay.{first_unready, state_of_updates, updates_of}
use Rattle.weave_entries.specs.ShardRules.{entries_of_visit, is_settled_by, updates_read}
use Rattle.weave_account.specs.Account.{shard_log}
use Rattle.weave_account.specs.GoesOn.{IsBeginningOf}
use Rattle.seen_logs.specs.Seen.{IsWithin, OracleRefersWithin, ShardRefersWithin}
use Rattle.weaver_locks.specs.declared.hand.Hand.{Hand}
use Rattle.weaver_locks.specs.Hands.{hand_number, made_by, seen_by, with_shard_entries}

-- the entry of a hand's deed
abbrev pub shard_entry_by : Hand → ShardDeed → ShardEntry
shard_entry_by hand deed = record { author = hand_number hand; deed = deed }

-- one entry of the hand if the call answered Ok, and none if it was refused
abbrev pub shard_entries_of : {A F : Type 0} → Hand → ShardDeed → Result A F → List ShardEntry
shard_entries_of hand deed (Ok answer) = shard_entry_by hand deed ∷ []
shard_entries_of hand deed (Err fault) = []

-- the entry of a message that arrived for the first time
abbrev pub arrival_entries : {F : Type 0} → Hand → ShardDeed → Result Arrival F → List ShardEntry
arrival_entries hand deed (Ok Kept) = shard_entry_by hand deed ∷ []
arrival_entries hand deed (Ok Repeat) = []
arrival_entries hand deed (Err fault) = []

-- A hand was in the lock of a shard, whose log was `before`, and added these entries of its own there, and these to the
-- oracle's log within it, and nothing else anywhere. It has seen the shard's log whole, and all that its entries refer
-- to.
pub record WasAtShard (shards : ℕ) (old new : Hand) (shard : ℕ) (before added : List ShardEntry)
    (asked : List OracleEntry) : Type 0 where
  pub number : hand_number new ≡ hand_number old
  pub found : IsBeginningOf (shard_log (seen_by old) shard) before
  pub left : shard_log (seen_by new) shard ≡ before ++ added
  pub made : made_by new ≡ with_shard_entries shard added asked (made_by old)
  pub more : IsWithin (seen_by old) (seen_by new)
  pub refers : ShardRefersWithin shards (seen_by new) shard

-- the shard's entry of a visit, and the oracle's if it added a pair; none if it was refused
abbrev pub visit_entries : {A F : Type 0} → Hand → ℕ → Stamp → Name → List ShardEntry → List OracleEntry → Result A F
    → List ShardEntry
visit_entries hand request stamp vertex before settled result = shard_entries_of hand
    (Visited request stamp vertex (updates_read (pairs_of_log settled) stamp vertex before)
    (is_settled_by (pairs_of_log settled) stamp vertex before)) result

abbrev pub asked_entries : {A F : Type 0} → Hand → Stamp → Name → List ShardEntry → List OracleEntry → Result A F
    → List OracleEntry
asked_entries hand stamp vertex before settled (Ok answer) =
    map oracle_entry_of (entries_of_visit (pairs_of_log settled) (hand_number hand) stamp vertex before)
asked_entries hand stamp vertex before settled (Err fault) = []

-- A vertex was read for a program in this hold, and in that of the oracle within it, whose log was `settled`.
pub record VisitsIn (gates shards : ℕ) (old new : Hand) (shard request : ℕ) (stamp : Stamp) (vertex : Name)
    (result : Result (Option Record) VisitFault) : Type 0 where
  pub before : List ShardEntry
  pub settled : List OracleEntry
  pub was : WasAtShard shards old new shard before (visit_entries old request stamp vertex before settled result)
      (asked_entries old stamp vertex before settled result)
  pub oracle_found : IsBeginningOf (seen_by old).oracle settled
  pub oracle_left : (seen_by new).oracle ≡ settled ++ asked_entries old stamp vertex before settled result
  pub oracle_refers : OracleRefersWithin (seen_by new)
  pub ready : OnOk result (first_unready gates stamp before ≡ None)
  pub state : IfOk result (λ state. state ≡ state_of_updates
      (take (updates_read (pairs_of_log settled) stamp vertex before) (updates_of vertex before)))
  pub refused : IfErr result (λ fault. IsRightlyUnread gates stamp before fault)
