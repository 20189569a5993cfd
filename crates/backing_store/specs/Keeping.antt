-- What the store keeps besides its log: it is what the log's replay gives. For proofs: no public contract cites it.
use Rattle.std.specs.Prelude.{◌≡◌, ℕ, ◌+◌, cond, List, [], ◌∷◌, map, filter, fold, length, Option, Some, None, position, nat_eq}
use Rattle.std.specs.List.{filter_map}
use Rattle.std.specs.Option.{option_map, option_map_or, option_or}
use Rattle.std.specs.Map.{lookup}
use Rattle.weave_data.specs.Names.{same_name}
use Rattle.weave_data.specs.declared.name.Name.{Name}
use Rattle.vector_stamp.specs.declared.clock.Stamp.{Stamp}
use Rattle.vector_stamp.specs.Order.{stamp_before, unordered}
use Rattle.graph_ops.specs.PlainGraph.{PlainGraph}
use Rattle.weave_entries.specs.declared.store_log.StoreEntry.{StoreEntry}
use Rattle.weave_entries.specs.declared.verdict.Counted.{Counted}
use Rattle.weave_entries.specs.StoreReplay.{Judgement, Commit, judgements_of, commits_of, count_naming, last_naming, graph_committed}
use Rattle.weave_entries.specs.StoreRule.{IsStoreLog}
use Rattle.backing_store.specs.declared.lasts.KeptCommit.{KeptCommit}
use Rattle.backing_store.specs.declared.asked.Asked.{Asked}

-- The last commits

-- what is kept of the last commit that names a vertex, with the number of those that do
abbrev pub kept_commit : ℕ → Commit → KeptCommit
kept_commit count commit = record { request = commit.request; stamp = commit.stamp; commits = count }

-- what is kept at a vertex, if a commit names it
abbrev pub kept_at : List Commit → Name → Option KeptCommit
kept_at commits v = option_map (kept_commit (count_naming v commits)) (last_naming v commits)

-- what a table has at a vertex
abbrev pub held_at : List (Name × KeptCommit) → Name → Option KeptCommit
held_at table v = lookup (same_name v) table

-- a table has at each vertex what is kept there
abbrev pub KeepsLasts : List (Name × KeptCommit) → List Commit → Type 0
KeepsLasts table commits = (v : Name) → held_at table v ≡ kept_at commits v

-- these vertices with what the table has at each, if it has something
abbrev pub held_of : List (Name × KeptCommit) → List Name → List (Name × KeptCommit)
held_of table names = filter_map (λ (v : Name). option_map (λ (last : KeptCommit). (v, last)) (held_at table v)) names

-- those whose stamp is unordered with the new one
abbrev pub unordered_of : Stamp → List (Name × KeptCommit) → List (Name × KeptCommit)
unordered_of stamp held = filter (λ (one : Name × KeptCommit). unordered one.1.stamp stamp) held

-- the vertices, stamps and requests of these
pub record IsAsked (asked : Asked) (held : List (Name × KeptCommit)) : Type 0 where
  pub vertices_are : asked.vertices ≡ map (λ (one : Name × KeptCommit). one.0) held
  pub stamps_are : asked.stamps ≡ map (λ (one : Name × KeptCommit). one.1.stamp) held
  pub newer_are : asked.newer ≡ map (λ (one : Name × KeptCommit). one.1.request) held

-- a vertex with the request of its last commit, if the new stamp is before that one's
abbrev pub newer_if : Stamp → Name → Option KeptCommit → Option (Name × ℕ)
newer_if stamp v None = None
newer_if stamp v (Some last) = cond (stamp_before stamp last.stamp) (Some (v, last.request)) None

-- the first of these vertices with a newer last commit, and that one's request
abbrev pub first_newer : List (Name × KeptCommit) → Stamp → List Name → Option (Name × ℕ)
first_newer table stamp [] = None
first_newer table stamp (v ∷ names) = option_or (newer_if stamp v (held_at table v)) (first_newer table stamp names)

-- how many commits a table counts at a vertex
abbrev pub count_held : List (Name × KeptCommit) → Name → ℕ
count_held table v = option_map_or (λ (last : KeptCommit). last.commits) (held_at table v) 0

-- what a table has at a vertex after a commit with these counts
abbrev pub held_after : ℕ → Stamp → List Counted → Name → Option KeptCommit → Option KeptCommit
held_after request stamp counts v held =
    fold (λ (had : Option KeptCommit) (counted : Counted). cond (same_name counted.vertex v)
    (Some (record { request = request; stamp = stamp; commits = counted.before + 1 })) had) held counts

-- The verdicts

-- a table has at each request the place of its first entry
abbrev pub FindsEntries : List (ℕ × ℕ) → List StoreEntry → Type 0
FindsEntries places log =
    (request : ℕ) → lookup (nat_eq request) places
    ≡ position (λ (judged : Judgement). nat_eq judged.request request) (judgements_of log)

-- The whole

-- the fields are what the replay of the log gives
pub record IsStoreReplay (graph : PlainGraph) (lasts : List (Name × KeptCommit)) (made : ℕ) (places : List (ℕ
    × ℕ)) (log : List StoreEntry) : Type 0 where
  pub graph_is : graph ≡ graph_committed (commits_of log)
  pub lasts_are : KeepsLasts lasts (commits_of log)
  pub made_is : made ≡ length (commits_of log)
  pub places_are : FindsEntries places log
  pub right : IsStoreLog log
