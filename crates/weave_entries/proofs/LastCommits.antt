-- `lasts_of` has the last commit at each named vertex, and no others.
-- Used by crates backing_store, step_rules and store_lock.
use Rattle.std.proofs.Common.{◌≡◌, List, Contains, Option, None, Some, refl, ap, subst}
use Rattle.std.specs.Option.{option_map}
use Rattle.weave_data.proofs.Members.{filter_map_has, has_filter_map}
use Rattle.weave_data.specs.declared.name.Name.{Name}
use Rattle.graph_ops.specs.Mentions.{named_by}
use Rattle.graph_ops.specs.declared.op.Op.{Op}
use Rattle.weave_entries.specs.StoreReplay.{Commit, last_naming}
use Rattle.weave_entries.specs.StoreRule.{LastCommit, lasts_of}

-- a commit as the last one at a vertex
abbrev pub last-at : Name → Commit → LastCommit
last-at v commit = record { vertex = v; commit = commit }

-- the last commit at a vertex, if a commit names it
abbrev last-naming : List Commit → Name → Option LastCommit
last-naming commits v = option_map (last-at v) (last_naming v commits)

module _ (ops : List Op) (commits : List Commit) where
  -- each of the last commits is that of its vertex, and the vertex is named
  pub last-is : (last : LastCommit) → Contains (lasts_of ops commits) last
      → (last_naming last.vertex commits ≡ Some last.commit) × Contains (named_by ops) last.vertex
  last-is last h = at (last_naming from.0 commits) refl from.2
    where
      from : (v : Name) × Contains (named_by ops) v × (last-naming commits v ≡ Some last)
      from = filter_map_has (last-naming commits) (named_by ops) last h

      at : (o : Option Commit) → last_naming from.0 commits ≡ o → option_map (last-at from.0) o ≡ Some last
          → (last_naming last.vertex commits ≡ Some last.commit) × Contains (named_by ops) last.vertex
      at None e is = cc
      at (Some commit) e is =
          let same : last-at from.0 commit ≡ last = cc in (
            subst (λ (l : LastCommit). last_naming l.vertex commits ≡ Some l.commit) same e,
            subst (λ (l : LastCommit). Contains (named_by ops) l.vertex) same from.1,
          )

  -- and each named vertex that a commit names is there with its last one
  pub last-there : (v : Name) (commit : Commit) → Contains (named_by ops) v → last_naming v commits ≡ Some commit
      → Contains (lasts_of ops commits) (last-at v commit)
  last-there v commit named e = has_filter_map (last-naming commits) (named_by ops) v (last-at v commit) named
      (ap (option_map (last-at v)) e)
