-- What a shard's notes have seen before it drops old versions: a vertex was made and then deleted at the one
-- gatekeeper, which sent both to the one shard, and an empty message after them.
-- For tests: no public contract cites this.
use Rattle.std.specs.Prelude.{◌≡◌, ◌≤◌, ℕ, List, [], ◌∷◌, None, Some, codes}
use Rattle.weave_data.specs.declared.name.Name.{Name}
use Rattle.graph_ops.specs.declared.op.Op.{Op}
use Rattle.graph_ops.specs.declared.op.Op.TheVariants.{Create, Delete}
use Rattle.graph_ops.specs.declared.part.Part.{Part}
use Rattle.vector_stamp.specs.declared.clock.Clock.{Clock}
use Rattle.vector_stamp.specs.declared.clock.Stamp.{Stamp}
use Rattle.weave_entries.specs.declared.gate_log.GateEntry.{GateEntry}
use Rattle.weave_entries.specs.declared.gate_log.GateDeed.TheVariants.{BeganTx, Sent, Nop}
use Rattle.weave_entries.specs.declared.message.Message.{Message}
use Rattle.weave_entries.specs.declared.store_log.StoreEntry.{StoreEntry}
use Rattle.weave_entries.specs.declared.store_log.StoreDeed.TheVariants.{Judged}
use Rattle.weave_entries.specs.declared.verdict.Verdict.{Verdict}
use Rattle.weave_entries.specs.declared.verdict.Verdict.TheVariants.{Committed}
use Rattle.weave_entries.specs.ShardRules.{IsTakable}
use Rattle.weave_account.specs.declared.account.Account.{Account}
use Rattle.seen_logs.specs.Entries.{store_entries}
use Rattle.seen_logs.specs.References.{ArrivesAsSeen}
use Rattle.chronicle.specs.Passes.{seen_by_note}
use Rattle.oracle_lock.specs.Seen.{gates_noted}
use Rattle.shard_lock.specs.Notes.{NotedShardView}

-- the vertex
abbrev pub vertex : Name
vertex = codes "v"

-- a clock that counts this many events of the gatekeeper, and the stamp of the last of them
abbrev pub clock_of_count : ℕ → Clock
clock_of_count count = record { epoch = 0; counts = count ∷ 0 ∷ 0 ∷ 0 ∷ 0 ∷ 0 ∷ 0 ∷ 0 ∷ [] }

abbrev pub stamp_of_count : ℕ → Stamp
stamp_of_count count = record { home = 0; clock = clock_of_count count }

-- an operation on the vertex, which this many transactions named before
abbrev pub part_of : ℕ → Op → Part
part_of before op = record { vertex = vertex; before = before; ops = op ∷ [] }

-- the message of a transaction of this operation, with this stamp's count
abbrev pub message_of : ℕ → ℕ → ℕ → Op → Message
message_of request count before op = record {
  request = Some request;
  stamp = stamp_of_count count;
  low = clock_of_count count;
  parts = part_of before op ∷ [];
}

-- the three messages
abbrev pub made_message : Message
made_message = message_of 0 1 0 (Create vertex)

abbrev pub deleted_message : Message
deleted_message = message_of 1 2 1 (Delete vertex)

abbrev pub empty : Message
empty = record { request = None; stamp = stamp_of_count 3; low = clock_of_count 3; parts = [] }

-- the gatekeeper's entries: the begin of a transaction with this count, its one message with this number, and the empty
-- message
abbrev pub begin_entry : ℕ → ℕ → GateEntry
begin_entry request count = record { author = 0; deed = BeganTx request (stamp_of_count count) }

abbrev pub send_entry : ℕ → ℕ → Message → GateEntry
send_entry request number message =
    record { author = 0; deed = Sent request (record { shard = 0; number = number; message = message } ∷ []) }

abbrev pub empty_entry : GateEntry
empty_entry = record { author = 0; deed = Nop 0 3 (stamp_of_count 3) (clock_of_count 3) }

abbrev pub sent_log : List GateEntry
sent_log =
    begin_entry 0 1 ∷ send_entry 0 1 made_message ∷ begin_entry 1 2 ∷ send_entry 1 2 deleted_message ∷ empty_entry ∷ []

-- the verdict of a transaction, a commit with this number of the vertex that this many named before, and the store's
-- entry of one with this count, which is its number too
abbrev pub verdict_of : ℕ → ℕ → Verdict
verdict_of number before = Committed number [] (record { vertex = vertex; before = before } ∷ [])

abbrev pub judge_entry : ℕ → ℕ → ℕ → Op → StoreEntry
judge_entry request count before op = record {
  author = 0;
  deed = Judged request (stamp_of_count count) (op ∷ []) [] (verdict_of count before);
}

abbrev pub judged_log : List StoreEntry
judged_log = judge_entry 0 1 0 (Create vertex) ∷ judge_entry 1 2 1 (Delete vertex) ∷ []

-- what was seen of all logs
abbrev pub dropping_run : Account
dropping_run = record { gates = sent_log ∷ []; store = judged_log; oracle = []; shards = []; sessions = [] }

-- this is the message with this number that was sent to the shard
pub record IsSentToShard (number : ℕ) (message : Message) : Type 0 where
  pub from_one : 1 ≤ number
  pub takable : IsTakable message
  pub seen : ArrivesAsSeen dropping_run 1 0 0 number message

-- the notes of the shard, which is the only one, have seen these logs
pub record HasSeenRun (noted_shard : NotedShardView) : Type 0 where
  pub number : noted_shard.shard.number ≡ 0
  pub gates : noted_shard.shard.gates ≡ 1
  pub shards : noted_shard.shards ≡ 1
  pub gate_logs : gates_noted noted_shard.notes.gates.items ≡ sent_log ∷ []
  pub store_log : store_entries (seen_by_note noted_shard.notes.store) ≡ judged_log
