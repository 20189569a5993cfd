-- What the store promises of a commit, over any judge.
use Rattle.std.specs.Prelude.{ℕ, Bool, not, ◌&&◌, List, [], map}
use Rattle.std.specs.List.{flat_map, list_any}
use Rattle.vector_stamp.specs.declared.clock.Stamp.{Stamp}
use Rattle.vector_stamp.specs.Order.{stamp_before, unordered}
use Rattle.vector_stamp.specs.Precedence.{GivenPair}
use Rattle.vector_stamp.specs.Settling.{additions_from, places_of, pairs_of, SettledEntry, entries_of_call}
use Rattle.graph_ops.specs.declared.op.Op.{Op}
use Rattle.weave_entries.specs.declared.store_log.StoreEntry.{StoreEntry}
use Rattle.weave_entries.specs.declared.store_log.StoreDeed.TheVariants.{Judged}
use Rattle.weave_entries.specs.declared.verdict.Verdict.{Verdict}
use Rattle.weave_entries.specs.declared.verdict.Verdict.TheVariants.{Committed, Conflict, Refused}
use Rattle.weave_entries.specs.StoreReplay.{Commit, commits_of}
pub use Rattle.weave_entries.specs.StoreRule.{stamps_judged}
use Rattle.weave_entries.specs.StoreRule.{LastCommit, lasts_of, asked_stamps, asked_vertices, verdict_on}

-- the stamps that the store keeps: those of the last commits, one for each vertex that a commit names
abbrev pub stamps_kept : List Commit → List Stamp
stamps_kept commits =
    map (λ (last : LastCommit). last.commit.stamp)
    (lasts_of (flat_map (λ (commit : Commit). commit.ops) commits) commits)

-- the named vertices that a commit names already, each with the last one
abbrev pub lasts_at : List StoreEntry → List Op → List LastCommit
lasts_at log ops = lasts_of ops (commits_of log)

-- the stamps that the judge is asked to put before the new one
abbrev pub asked_at : List StoreEntry → Stamp → List Op → List Stamp
asked_at log stamp ops = asked_stamps stamp (lasts_at log ops)

-- whether the judge is asked: the new stamp is before no last one, and unordered with at least one
abbrev pub is_judge_asked : List StoreEntry → Stamp → List Op → Bool
is_judge_asked log stamp ops =
    not (list_any (λ (last : LastCommit). stamp_before stamp last.commit.stamp) (lasts_at log ops))
    && list_any (λ (last : LastCommit). unordered last.commit.stamp stamp) (lasts_at log ops)

-- the verdict of a store with this log and a judge with these pairs
abbrev pub verdict_at : List GivenPair → List StoreEntry → Stamp → List Op → Verdict
verdict_at pairs log stamp ops = verdict_on pairs (commits_of log) stamp ops

-- the entry of a judgement: who asked, what was judged and asked, and the verdict
abbrev pub judged_entry : ℕ → ℕ → Stamp → List Op → List StoreEntry → Verdict → StoreEntry
judged_entry author request stamp ops log verdict =
    record { author = author; deed = Judged request stamp ops (asked_vertices stamp (lasts_at log ops)) verdict }

-- what is kept of a commit alone
abbrev pub of_commit : {A : Type 0} → Verdict → List A → List A
of_commit (Committed number answers counts) kept = kept
of_commit (Conflict vertex newer) kept = []
of_commit (Refused op reason at) kept = []

-- the pairs that a verdict leaves with the judge: a commit's alone
abbrev pub pairs_added : Verdict → List GivenPair → List Stamp → Stamp → List GivenPair
pairs_added verdict pairs earlier later = of_commit verdict (pairs_of (additions_from 0 pairs earlier later) later)

-- the entry that it leaves in the judge's log: a commit's, if it added a pair
abbrev pub entries_added : Verdict → ℕ → List GivenPair → List Stamp → Stamp → List SettledEntry
entries_added verdict author pairs earlier later =
    of_commit verdict (entries_of_call author earlier later (places_of (additions_from 0 pairs earlier later)))
