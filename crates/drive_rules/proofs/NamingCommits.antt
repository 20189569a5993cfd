-- The commits that name a vertex: the list cut at one of them, and the one at each place of it.
-- Used by SomeHead.
use Rattle.std.proofs.Common.{◌≡◌, ℕ, ◌+◌, ◌<◌, cond, List, [], ◌∷◌, ◌++◌, IsTrue, ◌⊎◌, inl, inr, refl, ap, ◌∙◌, arith}
use Rattle.std.proofs.lemmas.Bool.{cases_Bool, cases_lt}
use Rattle.std.proofs.lemmas.List.{append_assoc, append-nil}
use Rattle.std.proofs.lemmas.List.Concat.{flat_map-append}
use Rattle.std.proofs.lemmas.List.Elements.{filter-append}
use Rattle.weave_data.proofs.Ends.{by_last}
use Rattle.weave_data.specs.declared.name.Name.{Name}
use Rattle.weave_entries.specs.declared.store_log.StoreEntry.{StoreEntry}
use Rattle.weave_entries.specs.StoreReplay.{Commit, commit_by, commits_naming, commits_of, count_naming, names_vertex}
use Rattle.weave_entries.proofs.StoreLogs.{commit-cases}
use Rattle.drive_rules.specs.LowerLaws.{LawsForReadiness}

-- the commits that name the vertex, cut at one of them
pub naming-cut : (v : Name) (store before after : List StoreEntry) (entry : StoreEntry) (commit : Commit) → store ≡ before ++ entry ∷ after
    → commit_by entry.deed ≡ commit ∷ [] → IsTrue (names_vertex v commit)
    → commits_naming v (commits_of store) ≡ commits_naming v (commits_of before) ++ commit ∷ commits_naming v (commits_of after)
naming-cut v store before after entry commit is commit-is named =
    ap (λ l. commits_naming v (commits_of l)) is
    ∙ ap (commits_naming v) (flat_map-append (λ (e : StoreEntry). commit_by e.deed) before (entry ∷ after) ∙ ap (λ cs. commits_of before ++ (cs ++ commits_of after)) commit-is)
    ∙ filter-append (names_vertex v) (commits_of before) (commit ∷ commits_of after)
    ∙ ap (λ b. commits_naming v (commits_of before) ++ cond b (commit ∷ commits_naming v (commits_of after)) (commits_naming v (commits_of after))) named

-- the commit at a place of those that name the vertex
pub record IsAtPlace (v : Name) (log : List StoreEntry) (place : ℕ) : Type 0 where
  pub before : List StoreEntry
  pub entry : StoreEntry
  pub after : List StoreEntry
  pub is : log ≡ before ++ entry ∷ after
  pub commit : Commit
  pub commit_is : commit_by entry.deed ≡ commit ∷ []
  pub named : IsTrue (names_vertex v commit)
  pub place_is : count_naming v (commits_of before) ≡ place

-- there is one at each place below their count
pub at-place : (laws : LawsForReadiness) (v : Name) (log : List StoreEntry) (place : ℕ) → place < count_naming v (commits_of log) → IsAtPlace v log place
at-place laws v =
    by_last (λ log. (place : ℕ) → place < count_naming v (commits_of log) → IsAtPlace v log place)
    (λ place below. absurd (omega (arith, below)))
    (λ log entry more place below. at log entry more place below (commit-cases entry.deed))
  where
    longer : (log : List StoreEntry) (entry : StoreEntry) (place : ℕ) → IsAtPlace v log place → IsAtPlace v (log ++ entry ∷ []) place
    longer log entry place n = record {
      before = n.before;
      entry = n.entry;
      after = n.after ++ entry ∷ [];
      is = ap (λ l. l ++ entry ∷ []) n.is ∙ append_assoc n.before (n.entry ∷ n.after) (entry ∷ []);
      commit = n.commit;
      commit_is = n.commit_is;
      named = n.named;
      place_is = n.place_is;
    }

    at : (log : List StoreEntry) (entry : StoreEntry) → ((place : ℕ) → place < count_naming v (commits_of log) → IsAtPlace v log place)
        → (place : ℕ) → place < count_naming v (commits_of (log ++ entry ∷ [])) → (commit_by entry.deed ≡ []) ⊎ ((c : Commit) × (commit_by entry.deed ≡ c ∷ [])) → IsAtPlace v (log ++ entry ∷ []) place
    at log entry more place below (inl none) =
        let e = ap (λ cs. count_naming v cs) (laws.logs.commits log entry ∙ ap (λ cs. commits_of log ++ cs) none ∙ append-nil (commits_of log)) in
        longer log entry place (more place (omega (arith, below, e)))
    at log entry more place below (inr (c, one)) =
        let e : count_naming v (commits_of (log ++ entry ∷ [])) ≡ count_naming v (commits_of log) + cond {A = ℕ} (names_vertex v c) 1 0 =
        ap (λ cs. count_naming v cs) (laws.logs.commits log entry ∙ ap (λ cs. commits_of log ++ cs) one) ∙ laws.logs.count v (commits_of log) c in
        elim (cases_lt place (count_naming v (commits_of log))) [
          | inl less ↦ longer log entry place (more place less)
          | inr over ↦ elim (cases_Bool (names_vertex v c)) [
            | inl named ↦
                let l : cond {A = ℕ} (names_vertex v c) 1 0 ≡ 1 = ap (λ b. cond {A = ℕ} b 1 0) named in
                record { before = log; entry = entry; after = []; is = refl; commit = c; commit_is = one; named = named; place_is = omega (arith, e, l, below, over) }
            | inr other ↦ let l : cond {A = ℕ} (names_vertex v c) 1 0 ≡ 0 = ap (λ b. cond {A = ℕ} b 1 0) other in absurd (omega (arith, e, l, below, over))
          ]
        ]
