-- What the machines do at `visit`. Of this a public contract cites `HasReadMore` alone, in crate weaver_hands.
use Rattle.std.specs.Prelude.{◌≡◌, ◌≢◌, ℕ, List, ◌∷◌, ◌++◌, All, take, None, Some}
use Rattle.weave_data.specs.declared.name.Name.{Name}
use Rattle.weave_data.specs.Names.{shard_of}
use Rattle.vector_stamp.specs.declared.clock.Stamp.{Stamp}
use Rattle.vector_stamp.specs.Coherence.{AreCoherent}
use Rattle.vector_stamp.specs.Order.{id_of}
use Rattle.vector_stamp.specs.Seeing.{last_seen, seen_of}
use Rattle.graph_ops.specs.Operations.{State}
use Rattle.program_defs.specs.Visits.{next_visit}
use Rattle.order_graph.specs.Building.{ends_of}
use Rattle.report_rules.specs.declared.report.StepAnswer.{StepAnswer}
use Rattle.report_rules.specs.declared.report.StepAnswer.TheVariants as answer
use Rattle.weave_entries.specs.declared.oracle_log.OracleEntry.{OracleEntry}
use Rattle.weave_entries.specs.declared.shard_log.ShardEntry.{ShardEntry}
use Rattle.weave_entries.specs.declared.shard_log.ShardDeed.TheVariants.{Visited}
use Rattle.weave_entries.specs.OracleReplay.{pairs_of_log}
use Rattle.weave_entries.specs.ShardReplay.{first_unready, state_of_updates, updates_of}
use Rattle.weave_entries.specs.ShardRules.{IsKeptFor, kept_stamps, update_stamps}
use Rattle.weave_entries.specs.StoreRule.{entries_of_settling}
use Rattle.step_rules.specs.Entries.{made_entry}
use Rattle.path_program.specs.AnyPrograms.{HasRead, any_of, next_read}
use Rattle.path_program.specs.declared.any.AnyProgram.{AnyProgram}
use Rattle.weaver_core.specs.ShardTable.{AddsToShard, ShardTable, shard_log_at}
use Rattle.weaver_core.specs.declared.walks.Running.{Running}

-- One vertex

-- the shard can be asked for a vertex for a program of this stamp
pub record CanBeVisited (oracle : List OracleEntry) (log : List ShardEntry) (stamp : Stamp) (v : Name) : Type 0 where
  pub other_ids : All (λ (update : Stamp). id_of update ≢ id_of stamp) (kept_stamps v log)
  pub coherent : AreCoherent (stamp ∷ kept_stamps v log ++ ends_of (pairs_of_log oracle))
  pub base : IsKeptFor stamp v log

-- after how many updates of the vertex the program reads it
abbrev pub updates_seen : List OracleEntry → List ShardEntry → Stamp → Name → ℕ
updates_seen oracle log stamp v = seen_of (pairs_of_log oracle) stamp (update_stamps v log)

-- the oracle's entry for this: the last one seen is put before the program, unless that one precedes it already
abbrev pub entries_asked : List OracleEntry → List ShardEntry → Stamp → Name → List OracleEntry
entries_asked oracle log stamp v =
    entries_of_settling 0 (pairs_of_log oracle) (last_seen (updates_seen oracle log stamp v) (update_stamps v log))
    stamp

-- the state that it reads
abbrev pub state_seen : List OracleEntry → List ShardEntry → Stamp → Name → State
state_seen oracle log stamp v = state_of_updates (take (updates_seen oracle log stamp v) (updates_of v log))

-- the vertex was read at its shard, in the logs of shard and oracle
pub record IsReadAtShard (old new : ShardTable) (oracle then_oracle : List OracleEntry) (shard r : ℕ) (stamp : Stamp)
    (v : Name) : Type 0 where
  pub ready : first_unready old.gates stamp (shard_log_at old shard) ≡ None
  pub adds : AddsToShard old new shard
      (Visited r stamp v (updates_seen oracle (shard_log_at old shard) stamp v)
      (made_entry (entries_asked oracle (shard_log_at old shard) stamp v)))
  pub oracle_is : then_oracle ≡ oracle ++ entries_asked oracle (shard_log_at old shard) stamp v

-- and this is the state that the program read
pub record Reads (old new : ShardTable) (oracle then_oracle : List OracleEntry) (shard r : ℕ) (stamp : Stamp) (v : Name)
    (state : State) : Type 0 where
  pub visited : IsReadAtShard old new oracle then_oracle shard r stamp v
  pub state_is : state ≡ state_seen oracle (shard_log_at old shard) stamp v

-- The walk

-- a walk asks for the vertex that its reads ask for
abbrev pub AsksForNextVisit : AnyProgram → Type 0
AsksForNextVisit walk = (reads : List (Name × State)) → HasRead walk reads
    → next_read walk ≡ next_visit reads (any_of walk)

-- a walk of which nothing but the room may differ
pub record IsSameWalk (old new : AnyProgram) : Type 0 where
  pub program_is : any_of new ≡ any_of old
  pub next_is : next_read new ≡ next_read old
  pub reads : (reads : List (Name × State)) → HasRead old reads → HasRead new reads

-- a program of which nothing but the room may differ
pub record IsSameProgram (old new : Running) : Type 0 where
  pub request_is : new.request ≡ old.request
  pub stamp_is : new.stamp ≡ old.stamp
  pub walk : IsSameWalk old.walk new.walk

-- the program has read one more state
pub record HasReadMore (old new : Running) (v : Name) (state : State) : Type 0 where
  pub request_is : new.request ≡ old.request
  pub stamp_is : new.stamp ≡ old.stamp
  pub program_is : any_of new.walk ≡ any_of old.walk
  pub reads : (reads : List (Name × State)) → HasRead old.walk reads → HasRead new.walk ((v, state) ∷ reads)

-- The step

-- the program visited its next vertex
pub record VisitsNext (shards : ℕ) (old new : ShardTable) (oracle then_oracle : List OracleEntry)
    (was is : Running) : Type 0 where
  pub vertex : Name
  pub next_is : next_read was.walk ≡ Some vertex
  pub visited : IsReadAtShard old new oracle then_oracle (shard_of vertex shards) was.request was.stamp vertex
  pub read : HasReadMore was is vertex (state_seen oracle (shard_log_at old (shard_of vertex shards)) was.stamp vertex)

-- the program's next vertex is not ready
pub record NextNotReady (shards : ℕ) (old : ShardTable) (was : Running) (shard gate : ℕ) : Type 0 where
  pub vertex : Name
  pub next_is : next_read was.walk ≡ Some vertex
  pub shard_is : shard ≡ shard_of vertex shards
  pub unready : first_unready old.gates was.stamp (shard_log_at old shard) ≡ Some gate

-- nothing but the room for one more read may differ
pub record AreSameLogs (old new : ShardTable) (oracle then_oracle : List OracleEntry) (was is : Running) : Type 0 where
  pub shards_are : new ≡ old
  pub oracle_is : then_oracle ≡ oracle
  pub program : IsSameProgram was is

-- what `visit` answers of a running program, and what it leaves
abbrev pub VisitsForProgram : ℕ → ShardTable → ShardTable → List OracleEntry → List OracleEntry → Running → Running
    → StepAnswer → Type 0
VisitsForProgram shards old new oracle then_oracle was is answer.Ok =
    VisitsNext shards old new oracle then_oracle was is
VisitsForProgram shards old new oracle then_oracle was is answer.Idle =
    AreSameLogs old new oracle then_oracle was is × (next_read was.walk ≡ None)
VisitsForProgram shards old new oracle then_oracle was is (answer.Again shard gate) =
    AreSameLogs old new oracle then_oracle was is × NextNotReady shards old was shard gate
VisitsForProgram shards old new oracle then_oracle was is _ = ⊥
