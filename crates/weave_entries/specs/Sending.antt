-- The messages of a commit: its operations, vertex by vertex, to the shards that keep the vertices.
use Rattle.std.specs.Prelude.{◌≡◌, ℕ, Bool, ◌==◌, List, [], map, filter, Some}
use Rattle.std.specs.List.{list_any, range_with_len}
use Rattle.weave_data.specs.Names.{shard_of}
use Rattle.graph_ops.specs.Mentions.{named_by}
pub use Rattle.graph_ops.specs.VertexOps.{ops_on}
use Rattle.graph_ops.specs.declared.op.Op.{Op}
use Rattle.graph_ops.specs.declared.part.Part.{Part}
use Rattle.weave_entries.specs.declared.message.Addressed.{Addressed}
use Rattle.weave_entries.specs.declared.verdict.Counted.{Counted}
use Rattle.weave_entries.specs.declared.verdict.Verdict.{Verdict}
use Rattle.weave_entries.specs.declared.verdict.Verdict.TheVariants.{Committed, Conflict, Refused}
use Rattle.weave_entries.specs.declared.gate_log.GateEntry.{GateEntry}
use Rattle.weave_entries.specs.GateReplay.{BegunRequest, next_number, running_of, low_mark}

-- the part for a vertex: its operations, and how many commits named it before
abbrev pub part_for : List Op → Counted → Part
part_for ops counted = record { vertex = counted.vertex; before = counted.before; ops = ops_on counted.vertex ops }

-- whether a shard, of this many, keeps the vertex
abbrev pub is_kept_at : ℕ → ℕ → Counted → Bool
is_kept_at shards shard counted = shard_of counted.vertex shards == shard

-- the parts for the vertices of a shard, in order of naming
abbrev pub parts_for : ℕ → ℕ → List Op → List Counted → List Part
parts_for shards shard ops counts = map (part_for ops) (filter (is_kept_at shards shard) counts)

-- the shards that keep a named vertex, in rising order
abbrev pub shards_named : ℕ → List Counted → List ℕ
shards_named shards counts = filter (λ shard. list_any (is_kept_at shards shard) counts) (range_with_len 0 shards)

-- the message of a transaction to a shard, with the channel's next number, at the end of the log
abbrev pub message_to : ℕ → List GateEntry → BegunRequest → List Op → List Counted → ℕ → Addressed
message_to shards log begun ops counts shard = record {
  shard = shard;
  number = next_number shard log;
  message = record {
    request = Some begun.request;
    stamp = begun.stamp;
    low = low_mark begun.stamp (running_of log);
    parts = parts_for shards shard ops counts;
  };
}

-- a transaction's messages by its verdict: of a commit one to each shard that keeps a named vertex, in rising order of
-- shards; otherwise none
abbrev pub messages_of : ℕ → List GateEntry → BegunRequest → List Op → Verdict → List Addressed
messages_of shards log begun ops (Committed number answers counts) =
    map (message_to shards log begun ops counts) (shards_named shards counts)
messages_of shards log begun ops (Conflict vertex newer) = []
messages_of shards log begun ops (Refused op reason at) = []

-- the counts of a verdict are of the vertices that the operations name, in that order
abbrev pub IsCountsOf : List Op → Verdict → Type 0
IsCountsOf ops (Committed number answers counts) = map (λ (counted : Counted). counted.vertex) counts ≡ named_by ops
IsCountsOf ops (Conflict vertex newer) = Unit {0}
IsCountsOf ops (Refused op reason at) = Unit {0}
