-- What the store looks up in its table is what the rule looks up in the commits.
-- Used by Committing and Judging.
use Rattle.std.proofs.Common.{◌≡◌, ℕ, List, [], ◌∷◌, map, length, Option, None, Some, inl, inr, refl, sym, ap, ◌∙◌}
use Rattle.std.specs.List.{find, cons_option, filter_map}
use Rattle.std.specs.Option.{option_map, option_map_or, option_or}
use Rattle.std.proofs.lemmas.Bool.{cases_Bool}
use Rattle.std.proofs.lemmas.Simd.{map-map}
use Rattle.weave_data.proofs.Ends.{filter_map_is}
use Rattle.weave_data.specs.declared.name.Name.{Name}
use Rattle.vector_stamp.specs.declared.clock.Stamp.{Stamp}
use Rattle.vector_stamp.specs.Order.{stamp_before, unordered}
use Rattle.graph_ops.specs.declared.op.Op.{Op}
use Rattle.graph_ops.specs.Mentions.{named_by}
use Rattle.weave_entries.specs.declared.verdict.Verdict.{Verdict}
use Rattle.weave_entries.specs.declared.verdict.Verdict.TheVariants.{Conflict}
use Rattle.weave_entries.specs.StoreReplay.{Commit, names_vertex, count_naming, last_naming}
use Rattle.weave_entries.specs.StoreRule.{LastCommit, lasts_of, asked_of, asked_stamps, asked_vertices, counts_of, conflict_or}
use Rattle.backing_store.specs.declared.lasts.KeptCommit.{KeptCommit}
use Rattle.backing_store.specs.declared.asked.Asked.{Asked}
use Rattle.backing_store.specs.Keeping.{kept_commit, held_at, held_of, unordered_of, newer_if, first_newer, count_held, KeepsLasts, IsAsked}
use Rattle.backing_store.proofs.Firsts.{none_from_end}

-- the last commit at a vertex
abbrev last_at : List Commit → Name → Option LastCommit
last_at commits v = option_map (λ (commit : Commit). record { vertex = v; commit = commit }) (last_naming v commits)

abbrev lasts_among : List Commit → List Name → List LastCommit
lasts_among commits names = filter_map (last_at commits) names

-- a conflict if there is a newer commit, otherwise the rest
abbrev pub newer_or : Option (Name × ℕ) → Verdict → Verdict
newer_or None rest = rest
newer_or (Some newer) rest = Conflict newer.0 newer.1

module _ (table : List (Name × KeptCommit)) (commits : List Commit) (keeps : KeepsLasts table commits) where
  -- The first check

  module _ (stamp : Stamp) (rest : Verdict) where
    -- a conflict at the first of these that the stamp is before, if there is one, and else the rest
    abbrev conflict_among : List LastCommit → Verdict
    conflict_among lasts = conflict_or (find (λ (last : LastCommit). stamp_before stamp last.commit.stamp) lasts) rest

    newer_more : (v : Name) (found : Option Commit) (held : Option KeptCommit) (n : ℕ)
        → held ≡ option_map (kept_commit n) found
        → (more : List LastCommit) (newer : Option (Name × ℕ)) → conflict_among more ≡ newer_or newer rest
        → conflict_among (cons_option (option_map
        (λ (commit : Commit). record { vertex = v; commit = commit }) found) more)
        ≡ newer_or (option_or (newer_if stamp v held) newer) rest
    newer_more v None held n is more newer so_far = rw is so_far
    newer_more v (Some commit) held n is more newer so_far =
        rw is (elim (cases_Bool (stamp_before stamp commit.stamp)) [
          | inl holds ↦ rw holds refl
          | inr fails ↦ rw fails so_far
        ])

    -- the table gives the conflict at the first vertex with a newer last commit as the commits do, or else the rest
    pub newer_is : (names : List Name) → conflict_or (find (λ (last : LastCommit). stamp_before stamp last.commit.stamp) (lasts_among commits names)) rest ≡ newer_or (first_newer table stamp names) rest
    newer_is [] = refl
    newer_is (v ∷ names) = newer_more v (last_naming v commits) (held_at table v) (count_naming v commits) (keeps v) (lasts_among commits names) (first_newer table stamp names) (newer_is names)

  -- What is asked

  -- a last commit as the table has it
  abbrev as_held : LastCommit → Name × KeptCommit
  as_held last = (last.vertex, kept_commit (count_naming last.vertex commits) last.commit)

  held_more : (v : Name) (found : Option Commit) (held : Option KeptCommit) → held ≡ option_map (kept_commit (count_naming v commits)) found → (more : List LastCommit) (rest : List (Name × KeptCommit)) → rest ≡ map as_held more → cons_option (option_map (λ (last : KeptCommit). (v, last)) held) rest ≡ map as_held (cons_option (option_map (λ (commit : Commit). record { vertex = v; commit = commit }) found) more)
  held_more v None held is more rest so_far = rw is so_far
  held_more v (Some commit) held is more rest so_far = rw is (ap (λ (ones : List (Name × KeptCommit)). (v, kept_commit (count_naming v commits) commit) ∷ ones) so_far)

  -- what the table has at these vertices are their last commits, each with its number of commits
  pub held_is : (names : List Name) → held_of table names ≡ map as_held (lasts_among commits names)
  held_is [] = refl
  held_is (v ∷ names) = held_more v (last_naming v commits) (held_at table v) (keeps v) (lasts_among commits names) (held_of table names) (held_is names)

  unordered_is : (stamp : Stamp) (names : List Name) → unordered_of stamp (held_of table names) ≡ map as_held (asked_of stamp (lasts_among commits names))
  unordered_is stamp names = ap (unordered_of stamp) (held_is names) ∙ filter_map_is as_held (λ (one : Name × KeptCommit). unordered one.1.stamp stamp) (lasts_among commits names)

  module _ (ops : List Op) (stamp : Stamp) (asked : Asked) (is : IsAsked asked (unordered_of stamp (held_of table (named_by ops)))) where
    -- the vertices that are asked by the table are those of the rule
    pub vertices_asked : asked.vertices ≡ asked_vertices stamp (lasts_of ops commits)
    vertices_asked = is.vertices_are ∙ ap (map (λ (one : Name × KeptCommit). one.0)) (unordered_is stamp (named_by ops)) ∙ map-map _ _ (asked_of stamp (lasts_of ops commits))

    -- the stamps that are asked by the table are those of the rule
    pub stamps_asked : asked.stamps ≡ asked_stamps stamp (lasts_of ops commits)
    stamps_asked = is.stamps_are ∙ ap (map (λ (one : Name × KeptCommit). one.1.stamp)) (unordered_is stamp (named_by ops)) ∙ map-map _ _ (asked_of stamp (lasts_of ops commits))

    -- the requests of the newer commits by the table are those of the rule
    pub newer_asked : asked.newer ≡ map (λ (last : LastCommit). last.commit.request) (asked_of stamp (lasts_of ops commits))
    newer_asked = is.newer_are ∙ ap (map (λ (one : Name × KeptCommit). one.1.request)) (unordered_is stamp (named_by ops)) ∙ map-map _ _ (asked_of stamp (lasts_of ops commits))

  -- The counts

  count_from : (v : Name) (found : Option Commit) (held : Option KeptCommit) (n : ℕ) → held ≡ option_map (kept_commit n) found → (found ≡ None → n ≡ 0) → option_map_or (λ (last : KeptCommit). last.commits) held 0 ≡ n
  count_from v None held n is none = rw is (sym (none refl))
  count_from v (Some commit) held n is none = rw is refl

  -- the table counts at a vertex as many commits as name it
  pub count_is : (v : Name) → count_held table v ≡ count_naming v commits
  count_is v = count_from v (last_naming v commits) (held_at table v) (count_naming v commits) (keeps v) (λ none. ap length (none_from_end (names_vertex v) commits none))

  -- so its counts for the vertices that operations name are those of the rule
  pub counts_are : (ops : List Op) → map (λ (v : Name). record { vertex = v; before = count_held table v }) (named_by ops) ≡ counts_of ops commits
  counts_are ops = ap (λ (count : Name → ℕ). map (λ (v : Name). record { vertex = v; before = count v }) (named_by ops)) (λ i v. count_is v i)
