-- What the log of the store says of its state: which transactions were judged, the commits in their order, and the
-- graph that they leave.
use Rattle.std.specs.Prelude.{ℕ, ◌==◌, Bool, List, [], ◌∷◌, map, reverse, fold, filter, length, Option}
use Rattle.std.specs.List.{find, flat_map}
use Rattle.weave_data.specs.declared.name.Name.{Name}
use Rattle.graph_ops.specs.declared.op.Op.{Op}
use Rattle.graph_ops.specs.Mentions.{named_by, is_among}
use Rattle.graph_ops.specs.PlainGraph.{PlainGraph, empty_graph, transaction, graph_left}
use Rattle.vector_stamp.specs.declared.clock.Stamp.{Stamp}
use Rattle.weave_entries.specs.declared.verdict.Verdict.{Verdict}
use Rattle.weave_entries.specs.declared.verdict.Verdict.TheVariants.{Committed, Conflict, Refused}
use Rattle.weave_entries.specs.declared.store_log.StoreEntry.{StoreEntry}
use Rattle.weave_entries.specs.declared.store_log.StoreDeed.{StoreDeed}
use Rattle.weave_entries.specs.declared.store_log.StoreDeed.TheVariants.{Judged}

-- What was judged

-- a transaction that was judged: who asked, its stamp and operations, the named vertices whose last stamp was unordered
-- with it, and the verdict
pub record Judgement : Type 0 where
  pub author : ℕ
  pub request : ℕ
  pub stamp : Stamp
  pub ops : List Op
  pub asked : List Name
  pub verdict : Verdict

-- an entry as a judgement
abbrev pub judged_by : ℕ → StoreDeed → Judgement
judged_by author (Judged request stamp ops asked verdict) =
    record { author = author; request = request; stamp = stamp; ops = ops; asked = asked; verdict = verdict }

-- the judgements of a log, in order
abbrev pub judgements_of : List StoreEntry → List Judgement
judgements_of log = map (λ (entry : StoreEntry). judged_by entry.author entry.deed) log

-- the judgement of a request, if it has one
abbrev pub judgement_of : ℕ → List StoreEntry → Option Judgement
judgement_of request log = find (λ (judged : Judgement). judged.request == request) (judgements_of log)

-- The commits

-- a committed transaction
pub record Commit : Type 0 where
  pub request : ℕ
  pub stamp : Stamp
  pub ops : List Op

-- the commit that a verdict makes of a transaction, if it does
abbrev pub commit_if : Verdict → Commit → List Commit
commit_if (Committed number answers counts) commit = commit ∷ []
commit_if (Conflict vertex newer) commit = []
commit_if (Refused op reason at) commit = []

-- the commit of an entry, if it is one
abbrev pub commit_by : StoreDeed → List Commit
commit_by (Judged request stamp ops asked verdict) =
    commit_if verdict (record { request = request; stamp = stamp; ops = ops })

-- the commits of a log, in order: the n-th of them has the number n
abbrev pub commits_of : List StoreEntry → List Commit
commits_of log = flat_map (λ (entry : StoreEntry). commit_by entry.deed) log

-- whether a commit names the vertex
abbrev pub names_vertex : Name → Commit → Bool
names_vertex v commit = is_among (named_by commit.ops) v

-- the commits that name a vertex, in order
abbrev pub commits_naming : Name → List Commit → List Commit
commits_naming v commits = filter (names_vertex v) commits

-- how many commits name it
abbrev pub count_naming : Name → List Commit → ℕ
count_naming v commits = length (commits_naming v commits)

-- the last commit that names it, if there is one
abbrev pub last_naming : Name → List Commit → Option Commit
last_naming v commits = find (names_vertex v) (reverse commits)

-- The graph

-- the graph with a commit replayed on it
abbrev pub graph_with_commit : PlainGraph → Commit → PlainGraph
graph_with_commit graph commit = graph_left graph (transaction commit.ops graph)

-- the graph that commits leave, replayed in their order on the empty one
abbrev pub graph_committed : List Commit → PlainGraph
graph_committed commits = fold graph_with_commit empty_graph commits
