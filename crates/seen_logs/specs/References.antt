-- The table of references: to what an entry of a log refers in the other logs, by cases on entries.
-- What somebody has seen of the logs of a run is an account whose logs are beginnings of those logs. Its sessions play
-- no part. So the words of the account speak of what was seen: an entry's references are facts of the account, with
-- what was seen in place of the whole logs.
use Rattle.std.specs.Prelude.{◌≡◌, ◌⊎◌, ℕ, ◌-◌, ◌<◌, List, ◌∷◌, map, take, Contains, IsTrue, None, ⊤}
use Rattle.std.specs.Option.{ForSome}
use Rattle.weave_data.specs.declared.name.Name.{Name}
use Rattle.weave_data.specs.Names.{shard_of}
use Rattle.graph_ops.specs.Operations.{State}
use Rattle.vector_stamp.specs.declared.clock.Stamp.{Stamp}
use Rattle.program_defs.specs.declared.program.Program.{Program}
use Rattle.program_defs.specs.Visits.{next_visit}
use Rattle.weave_entries.specs.declared.gate_log.GateEntry.{GateEntry}
use Rattle.weave_entries.specs.declared.gate_log.GateDeed.{GateDeed}
use Rattle.weave_entries.specs.declared.gate_log.GateDeed.TheVariants.{BeganTx, BeganProgram, Sent, Nop, Heard, Raised, Finished}
use Rattle.weave_entries.specs.declared.message.Message.{Message}
use Rattle.weave_entries.specs.declared.oracle_log.OracleDeed.{OracleDeed}
use Rattle.weave_entries.specs.declared.oracle_log.OracleDeed.TheVariants.{Settled}
use Rattle.weave_entries.specs.declared.oracle_log.OracleEntry.{OracleEntry}
use Rattle.weave_entries.specs.declared.shard_log.ShardEntry.{ShardEntry}
use Rattle.weave_entries.specs.declared.shard_log.ShardDeed.{ShardDeed}
use Rattle.weave_entries.specs.declared.shard_log.ShardDeed.TheVariants.{Arrived, Applied, Visited, Collected}
use Rattle.weave_entries.specs.declared.store_log.StoreEntry.{StoreEntry}
use Rattle.weave_entries.specs.declared.store_log.StoreDeed.{StoreDeed}
use Rattle.weave_entries.specs.GateReplay.{addressed_to, programs_of, txs_of}
use Rattle.weave_entries.specs.OracleReplay.{settled_entry}
use Rattle.weave_entries.specs.ShardReplay.{Update, Visit, updates_of}
use Rattle.weave_entries.specs.StoreReplay.{Judgement, commits_of, judged_by}
use Rattle.weave_account.specs.declared.account.Account.{Account}
use Rattle.weave_account.specs.Account.{IsBegunStamp, Precedence, gate_log, reads_of}
use Rattle.weave_account.specs.Channels.{SendsJudged}
use Rattle.weave_account.specs.Clocks.{IsKnown}
use Rattle.weave_account.specs.Oracle.{HasItsEntry, IsAskedByCommit, IsAskedByVisit}
use Rattle.weave_account.specs.Seen.{IsMade}
use Rattle.weave_account.specs.Shards.{update_at, update_of}
use Rattle.weave_account.specs.Store.{IsRightVerdict}

-- Gatekeepers

-- A program is finished after visits of its own: they were seen, and some program reads no more over the states that
-- they read. Which program, and that these are all its visits, is not said here.
pub record EndsAsSeen (seen : Account) (r : ℕ) : Type 0 where
  pub program : Program
  pub reads : List (Name × State)
  pub read : (vertex : Name × State) → Contains reads vertex → Contains (reads_of seen r) vertex
  pub whole : next_visit reads program ≡ None

-- A stamp and a heard clock refer to the events that they count, and to the raise of their epoch. What is sent refers
-- to its judgement, of whose operations and verdict its messages are, and a finished program to its visits.
abbrev pub GateRefersAs : Account → ℕ → List GateEntry → ℕ → GateDeed → Type 0
GateRefersAs seen shards before author (BeganTx r stamp) = IsKnown seen stamp.clock
GateRefersAs seen shards before author (BeganProgram r stamp) = IsKnown seen stamp.clock
GateRefersAs seen shards before author (Sent r messages) = SendsJudged seen shards before author r messages
GateRefersAs seen shards before author (Nop shard number stamp low) = IsKnown seen stamp.clock
GateRefersAs seen shards before author (Heard clock) = IsKnown seen clock
GateRefersAs seen shards before author (Raised epoch) = ⊤
GateRefersAs seen shards before author (Finished r) = EndsAsSeen seen r

-- The store

-- a judgement refers to its begin, of the same author, and to the pairs by which the last commits precede it, or by
-- which it precedes one of them
pub record JudgesAsSeen (seen : Account) (before : List StoreEntry) (judged : Judgement) : Type 0 where
  pub home : ℕ
  pub begun : Contains (txs_of (gate_log seen home))
      (record { author = judged.author; request = judged.request; stamp = judged.stamp })
  pub right : IsRightVerdict seen (commits_of before) judged.stamp judged.ops judged.verdict

-- the store's only kind of entry is a judgement
abbrev pub StoreRefersAs : Account → List StoreEntry → ℕ → StoreDeed → Type 0
StoreRefersAs seen before author deed = JudgesAsSeen seen before (judged_by author deed)

-- The oracle

-- an entry refers to the begins of its stamps
abbrev pub OracleRefersAs : Account → OracleDeed → Type 0
OracleRefersAs seen (Settled earlier later places) =
    (stamp : Stamp) → Contains (later ∷ earlier) stamp → IsBegunStamp seen stamp

-- for a hand alone: it refers to the commit or the visit that asked, which is made later in the same hold
abbrev pub IsAskedAsSeen : Account → OracleEntry → Type 0
IsAskedAsSeen seen entry = IsAskedByCommit seen (settled_entry entry) ⊎ IsAskedByVisit seen (settled_entry entry)

-- Shards

-- a message refers to its sending, and to the judgement of which it was made, if it has parts
pub record ArrivesAsSeen (seen : Account) (shards shard home number : ℕ) (message : Message) : Type 0 where
  pub sent : Contains (addressed_to shard (gate_log seen home))
      (record { shard = shard; number = number; message = message })
  pub made : IsMade shards seen.store shard message

-- A visit refers to its program's begin, to the commits that it read, to the pairs by which the last of them precedes
-- the program and the program precedes the next one, and to the oracle's entry if it asked for one. Its vertex is kept
-- by this shard.
pub record VisitsAsSeen (seen : Account) (shards shard : ℕ) (before : List ShardEntry) (visit : Visit) : Type 0 where
  pub home : ℕ
  pub by : ℕ
  pub begun : Contains (programs_of (gate_log seen home))
      (record { author = by; request = visit.request; stamp = visit.stamp })
  pub kept_here : shard_of visit.vertex shards ≡ shard
  pub commits_read : (update : Update) → Contains (take visit.updates (updates_of visit.vertex before)) update
      → Contains (map (update_of visit.vertex) (commits_of seen.store)) update
  pub after_seen : 0 < visit.updates → ForSome (update_at visit.vertex (visit.updates - 1) before)
      (λ (update : Update). Precedence seen update.stamp visit.stamp)
  pub before_skipped : ForSome (update_at visit.vertex visit.updates before)
      (λ (update : Update). Precedence seen visit.stamp update.stamp)
  pub asked : IsTrue visit.settled → HasItsEntry seen before visit

-- the processing of a message and a collection refer to nothing in other logs
abbrev pub ShardRefersAs : Account → ℕ → ℕ → List ShardEntry → ℕ → ShardDeed → Type 0
ShardRefersAs seen shards shard before author (Arrived home number message) =
    ArrivesAsSeen seen shards shard home number message
ShardRefersAs seen shards shard before author (Applied home number) = ⊤
ShardRefersAs seen shards shard before author (Visited r stamp v updates settled) =
    VisitsAsSeen seen shards shard before
    (record { author = author; request = r; stamp = stamp; vertex = v; updates = updates; settled = settled })
ShardRefersAs seen shards shard before author (Collected bound) = ⊤
