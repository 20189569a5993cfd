-- The rules that the log of a shard keeps (Weaver, PVLDB 9(11) 2016), each over the replay of the entries before an
-- entry.
use Rattle.std.specs.Prelude.{◌≡◌, ◌≢◌, ℕ, ◌+◌, ◌-◌, ◌^◌, ◌<◌, ◌≤◌, Bool, not, List, [], ◌++◌, map, drop, length, slice_get, All, AllPairs, IsTrue, None, Some}
use Rattle.std.specs.List.{list_any}
use Rattle.std.specs.Option.{IsSomeAnd}
use Rattle.weave_data.specs.declared.name.Name.{Name}
use Rattle.graph_ops.specs.declared.part.Part.{Part}
use Rattle.graph_ops.specs.VertexOps.{none_refused}
use Rattle.vector_stamp.specs.declared.clock.Stamp.{Stamp}
use Rattle.vector_stamp.specs.Order.{stamp_before, unordered}
use Rattle.vector_stamp.specs.Precedence.{GivenPair, precedes}
use Rattle.vector_stamp.specs.Seeing.{seen_of, last_seen}
use Rattle.vector_stamp.specs.Settling.{SettledEntry, additions_from, places_of, pairs_of, entries_of_call}
use Rattle.weave_entries.specs.declared.message.Message.{Message}
use Rattle.weave_entries.specs.declared.shard_log.ShardEntry.{ShardEntry}
use Rattle.weave_entries.specs.declared.shard_log.ShardDeed.{ShardDeed}
use Rattle.weave_entries.specs.declared.shard_log.ShardDeed.TheVariants.{Arrived, Applied, Visited, Collected}
use Rattle.weave_entries.specs.Logs.{AtEachEntry}
use Rattle.weave_entries.specs.ShardReplay.{Update, arrived_at, processed_count, head_of, updates_of, waits_at, state_of_updates, first_unready, dropped_from, bound_of}

-- What a program reads

-- how many versions of a vertex were dropped
abbrev pub dropped_of : Name → List ShardEntry → ℕ
dropped_of v log = dropped_from v [] log 0

-- the stamps of the updates applied to a vertex
abbrev pub update_stamps : Name → List ShardEntry → List Stamp
update_stamps v log = map (λ (update : Update). update.stamp) (updates_of v log)

-- the stamps of those whose versions are kept
abbrev pub kept_stamps : Name → List ShardEntry → List Stamp
kept_stamps v log = drop (dropped_of v log) (update_stamps v log)

-- after how many updates of a vertex a program reads it, by these pairs of a judge
abbrev pub updates_read : List GivenPair → Stamp → Name → List ShardEntry → ℕ
updates_read pairs program v log = dropped_of v log + seen_of pairs program (kept_stamps v log)

-- the stamp of the last of these updates, as a list of one; none if it reads none of those that are kept
abbrev pub last_read : List GivenPair → Stamp → Name → List ShardEntry → List Stamp
last_read pairs program v log = last_seen (seen_of pairs program (kept_stamps v log)) (kept_stamps v log)

-- whether the judge has to put that update before the program
abbrev pub is_settled_by : List GivenPair → Stamp → Name → List ShardEntry → Bool
is_settled_by pairs program v log =
    list_any (λ update. not (precedes pairs update program)) (last_read pairs program v log)

-- the judge's pairs after the visit: the last of these updates was put before the program, if it did not precede it
abbrev pub pairs_after_visit : List GivenPair → Stamp → Name → List ShardEntry → List GivenPair
pairs_after_visit pairs program v log =
    pairs ++ pairs_of (additions_from 0 pairs (last_read pairs program v log) program) program

-- what the judge's log gains by the visit: an entry of this author if a pair was added
abbrev pub entries_of_visit : List GivenPair → ℕ → Stamp → Name → List ShardEntry → List SettledEntry
entries_of_visit pairs author program v log =
    entries_of_call author (last_read pairs program v log) program
    (places_of (additions_from 0 pairs (last_read pairs program v log) program))

-- one of the kept updates is unordered with the program: only then is the judge asked
abbrev pub is_judge_asked_by_visit : Stamp → Name → List ShardEntry → Bool
is_judge_asked_by_visit program v log = list_any (λ update. unordered update program) (kept_stamps v log)

-- what is kept reaches back far enough: if versions were dropped, the oldest kept one is before the program
abbrev pub IsKeptFor : Stamp → Name → List ShardEntry → Type 0
IsKeptFor program v log = 1 ≤ dropped_of v log
    → IsSomeAnd (slice_get (kept_stamps v log) 0) (λ oldest. IsTrue (stamp_before oldest program))

-- The messages

-- a message that a shard takes: its vertices are distinct, and its counts below the greatest number of 64 bits
pub record IsTakable (message : Message) : Type 0 where
  pub apart : AllPairs (λ (one other : Part). one.vertex ≢ other.vertex) message.parts
  pub small : All (λ (part : Part). part.before < 2 ^ 64 - 1) message.parts

-- the operations of each part of a message pass on the state of its vertex
abbrev pub PassesAt : List ShardEntry → Message → Type 0
PassesAt log message =
    All (λ (part : Part). IsTrue (none_refused part.ops (state_of_updates (updates_of part.vertex log)))) message.parts

-- The rules

-- a message arrives: it is of one of the gatekeepers, its number is from 1, and that number has not arrived
pub record ArrivesOnce (gates : ℕ) (before : List ShardEntry) (gate number : ℕ) (message : Message) : Type 0 where
  pub gate_is : gate < gates
  pub from_one : 1 ≤ number
  pub new : arrived_at gate number before ≡ None
  pub takable : IsTakable message

-- the head of a channel is processed: it has the next number, each of its counts is the number of updates applied to
-- that vertex, and its operations pass
pub record IsHeadInTurn (gates : ℕ) (before : List ShardEntry) (gate number : ℕ) : Type 0 where
  pub gate_is : gate < gates
  pub number_is : number ≡ processed_count gate before + 1
  pub message : Message
  pub head : head_of gate before ≡ Some message
  pub in_turn : waits_at message before ≡ None
  pub passes : PassesAt before message

-- A program reads a vertex: the shard is ready for it, what is kept reaches back far enough, and it reads the state
-- after the last update that it sees by some pairs of a judge.
-- It is marked if the judge had to put that update before the program.
pub record IsReadRightly (gates : ℕ) (before : List ShardEntry) (program : Stamp) (v : Name) (updates : ℕ)
    (settled : Bool) : Type 0 where
  pub ready : first_unready gates program before ≡ None
  pub base : IsKeptFor program v before
  pub applied : updates ≤ length (updates_of v before)
  pub pairs : List GivenPair
  pub updates_are : updates ≡ updates_read pairs program v before
  pub settled_is : settled ≡ is_settled_by pairs program v before

-- a deed is right after these entries
abbrev pub FitsShard : ℕ → List ShardEntry → ShardDeed → Type 0
FitsShard gates before (Arrived gate number message) = ArrivesOnce gates before gate number message
FitsShard gates before (Applied gate number) = IsHeadInTurn gates before gate number
FitsShard gates before (Visited request program v updates settled) =
    IsReadRightly gates before program v updates settled
FitsShard gates before (Collected bound) = bound ≡ bound_of gates before

-- a log of a shard of n gatekeepers: each entry is right after those before it
abbrev pub IsShardLog : ℕ → List ShardEntry → Type 0
IsShardLog gates log = AtEachEntry (λ before entry. FitsShard gates before entry.deed) log
