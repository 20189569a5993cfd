-- The rule by which the store judges a transaction, over the commits before it and the pairs of the oracle (validation
-- by the stamp of the last update, Weaver, PVLDB 9(11) 2016).
use Rattle.std.specs.Prelude.{◌≡◌, ◌≢◌, ℕ, ◌+◌, ◌^◌, List, [], map, filter, length, All, Option, None, Some, Ok, Err}
use Rattle.std.specs.List.{find, filter_map}
use Rattle.std.specs.Option.{option_map}
use Rattle.weave_data.specs.declared.name.Name.{Name}
use Rattle.graph_ops.specs.declared.op.Op.{Op}
use Rattle.graph_ops.specs.Mentions.{named_by}
use Rattle.graph_ops.specs.PlainGraph.{TxOutcome, transaction}
use Rattle.vector_stamp.specs.declared.clock.Stamp.{Stamp}
use Rattle.vector_stamp.specs.Order.{id_of, stamp_before, unordered}
use Rattle.vector_stamp.specs.Precedence.{GivenPair, precedes}
use Rattle.vector_stamp.specs.Settling.{additions_from, places_of, entries_of_call}
use Rattle.weave_entries.specs.declared.verdict.Counted.{Counted}
use Rattle.weave_entries.specs.declared.verdict.Verdict.{Verdict}
use Rattle.weave_entries.specs.declared.verdict.Verdict.TheVariants.{Committed, Conflict, Refused}
use Rattle.weave_entries.specs.declared.oracle_log.OracleEntry.{OracleEntry}
use Rattle.weave_entries.specs.declared.store_log.StoreEntry.{StoreEntry}
use Rattle.weave_entries.specs.declared.store_log.StoreDeed.{StoreDeed}
use Rattle.weave_entries.specs.declared.store_log.StoreDeed.TheVariants.{Judged}
use Rattle.weave_entries.specs.Logs.{AtEachEntry}
use Rattle.weave_entries.specs.OracleReplay.{oracle_entry_of}
use Rattle.weave_entries.specs.StoreReplay.{Judgement, Commit, judgements_of, commits_of, count_naming, last_naming, graph_committed}

-- a transaction that is judged has fewer operations than this: each names two vertices at most
abbrev pub ops_bound : ℕ
ops_bound = 2 ^ 31

-- a named vertex with the last commit that names it
pub record LastCommit : Type 0 where
  pub vertex : Name
  pub commit : Commit

-- the named vertices that a commit names already, each with the last one, in order of naming
abbrev pub lasts_of : List Op → List Commit → List LastCommit
lasts_of ops commits =
    filter_map (λ (v : Name). option_map (λ (commit : Commit). record { vertex = v; commit = commit })
    (last_naming v commits)) (named_by ops)

-- those whose last commit is unordered with the stamp: the oracle is asked to put these before it
abbrev pub asked_of : Stamp → List LastCommit → List LastCommit
asked_of stamp lasts = filter (λ (last : LastCommit). unordered last.commit.stamp stamp) lasts

-- their stamps, in order of naming
abbrev pub asked_stamps : Stamp → List LastCommit → List Stamp
asked_stamps stamp lasts = map (λ (last : LastCommit). last.commit.stamp) (asked_of stamp lasts)

-- their vertices
abbrev pub asked_vertices : Stamp → List LastCommit → List Name
asked_vertices stamp lasts = map (λ (last : LastCommit). last.vertex) (asked_of stamp lasts)

-- each named vertex with the number of commits that name it
abbrev pub counts_of : List Op → List Commit → List Counted
counts_of ops commits = map (λ (v : Name). record { vertex = v; before = count_naming v commits }) (named_by ops)

-- a conflict with the last commit at a vertex, if there is such a vertex; otherwise the rest
abbrev pub conflict_or : Option LastCommit → Verdict → Verdict
conflict_or (Some last) rest = Conflict last.vertex last.commit.request
conflict_or None rest = rest

-- the verdict by the outcome of the operations: after these commits the next number, with the answers and the counts;
-- or the first refused operation
abbrev pub verdict_by : List Op → List Commit → TxOutcome → Verdict
verdict_by ops commits (Ok passed) = Committed (length commits + 1) passed.gots (counts_of ops commits)
verdict_by ops commits (Err stopped) = Refused stopped.op stopped.reason (length commits)

-- The verdict. First a conflict at the first named vertex whose last stamp the new one is before; then one at the first
-- of those asked that it precedes; then the outcome of the operations on the graph that the commits leave.
abbrev pub verdict_on : List GivenPair → List Commit → Stamp → List Op → Verdict
verdict_on pairs commits stamp ops =
    conflict_or (find (λ (last : LastCommit). stamp_before stamp last.commit.stamp) (lasts_of ops commits)) (
    conflict_or (find (λ (last : LastCommit). precedes pairs stamp last.commit.stamp)
    (asked_of stamp (lasts_of ops commits))) (
    verdict_by ops commits (transaction ops (graph_committed commits))))

-- What the oracle adds

-- the oracle's entries when it puts each of the earlier events before the later one that doesn't yet precede it: one
-- entry, or none if it adds no pair
abbrev pub entries_of_settling : ℕ → List GivenPair → List Stamp → Stamp → List OracleEntry
entries_of_settling author pairs earlier later =
    map oracle_entry_of (entries_of_call author earlier later (places_of (additions_from 0 pairs earlier later)))

-- only a commit's pairs are kept
abbrev pub settled_if : Verdict → List OracleEntry → List OracleEntry
settled_if (Committed number answers counts) entries = entries
settled_if (Conflict vertex newer) entries = []
settled_if (Refused op reason at) entries = []

-- The log

-- the stamps of the transactions that were judged
abbrev pub stamps_judged : List StoreEntry → List Stamp
stamps_judged log = map (λ (judged : Judgement). judged.stamp) (judgements_of log)

-- a transaction is judged by the rule, by some pairs of a judge: its stamp is of no transaction that was judged before,
-- and its entry names the vertices whose last stamp was unordered with it
pub record IsJudged (before : List StoreEntry) (stamp : Stamp) (ops : List Op) (asked : List Name) (verdict : Verdict) :
    Type 0 where
  pub new : All (λ (judged : Stamp). id_of judged ≢ id_of stamp) (stamps_judged before)
  pub asked_are : asked ≡ asked_vertices stamp (lasts_of ops (commits_of before))
  pub pairs : List GivenPair
  pub verdict_is : verdict ≡ verdict_on pairs (commits_of before) stamp ops

-- a deed is right after these entries
abbrev pub FitsStore : List StoreEntry → StoreDeed → Type 0
FitsStore before (Judged request stamp ops asked verdict) = IsJudged before stamp ops asked verdict

-- a log of the store: each entry is right after those before it
abbrev pub IsStoreLog : List StoreEntry → Type 0
IsStoreLog log = AtEachEntry (λ before entry. FitsStore before entry.deed) log
