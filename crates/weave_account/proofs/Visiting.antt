-- What a visit reads: of the commits that name its vertex the first ones precede the program, and the program
-- precedes all others. It rests on the clause on shards, and on "nothing unprocessed precedes".
-- Used by Meeting, OneReport, ReadingPlace, RefusalsClause and VisitsSee.
use Rattle.std.proofs.Common.{◌≡◌, ℕ, zero, suc, ◌-◌, ◌<◌, ◌≤◌, cond, List, [], ◌∷◌, ◌++◌, map, length, take, drop, Contains, AllPairs, IsTrue, Some, inl, inr, refl, sym, ap, subst, ◌∙◌, arith}
use Rattle.std.specs.Prelude.{slice_get}
use Rattle.std.specs.Option.{option_map}
use Rattle.std.proofs.lemmas.Bool.{cases_lt}
use Rattle.std.proofs.lemmas.List.{length-map}
use Rattle.std.proofs.lemmas.Option.{slice_get-map}
use Rattle.weave_data.proofs.Members.{has_read, has_head, has_tail, has_none, filter_has, cut_at}
use Rattle.vector_stamp.specs.declared.clock.Stamp.{Stamp}
use Rattle.vector_stamp.specs.Order.{stamp_before}
use Rattle.vector_stamp.specs.Precedence.{ByStamps, Through}
use Rattle.weave_data.specs.declared.name.Name.{Name}
use Rattle.program_defs.specs.declared.script.Script.{Script}
use Rattle.weave_entries.specs.declared.shard_log.ShardEntry.{ShardEntry}
use Rattle.weave_entries.specs.declared.store_log.StoreEntry.{StoreEntry}
use Rattle.weave_entries.specs.declared.store_log.StoreDeed.{StoreDeed}
use Rattle.weave_entries.specs.declared.store_log.StoreDeed.TheVariants.{Judged}
use Rattle.weave_entries.specs.declared.verdict.Verdict.TheVariants.{Committed, Conflict, Refused}
use Rattle.weave_entries.specs.ShardReplay.{updates_of}
use Rattle.weave_entries.specs.StoreReplay.{Commit, commit_by, commits_of, names_vertex as names, commits_naming, count_naming}
use Rattle.std.proofs.lemmas.List.Concat.{flat_map-append}
use Rattle.std.proofs.lemmas.List.Elements.{filter-append, Contains-append_cases}
use Rattle.weave_account.specs.declared.account.Account.{Account}
use Rattle.weave_account.specs.Account.{pairs_in, commits_in, Precedence}
use Rattle.weave_account.specs.Shards.{AreShardDeeds, update_at, IsRightVisit}
use Rattle.weave_data.proofs.Ordered.{pairs_across}
use Rattle.weave_data.proofs.Images.{flat-has}
use Rattle.weave_data.proofs.Lists.{get-some}
use Rattle.weave_account.proofs.Ordering.{Earlier, ordered}
use Rattle.weave_account.specs.Shards.{update_of}
use Rattle.weave_account.proofs.Sessions.{take-more, cut-here, take-drop}
use Rattle.weave_account.proofs.Unprocessed.{IsCommitAt, unprocessed}
use Rattle.weave_account.proofs.Updates.{shows}
use Rattle.weave_account.proofs.Basis.{Basis}
use Rattle.weave_account.proofs.Basis.{acyclic}

-- Lists

module _ {A : Type 0} where
  -- the element at an early place of the first ones is that of the list
  pub get-take : (n : ℕ) (xs : List A) (j : ℕ) → j < n → slice_get (take n xs) j ≡ slice_get xs j
  get-take zero xs j lt = absurd (omega (arith, lt))
  get-take (suc n) [] j lt = refl
  get-take (suc n) (x ∷ xs) zero lt = refl
  get-take (suc n) (x ∷ xs) (suc j) lt = get-take n xs j (omega (arith, lt))

  drop-here : (xs : List A) (n : ℕ) (x : A) → slice_get xs n ≡ Some x → drop n xs ≡ x ∷ drop (suc n) xs
  drop-here [] n x e = cc
  drop-here (y ∷ xs) zero x e = let same : y ≡ x = cc in ap (λ k. k ∷ xs) same
  drop-here (y ∷ xs) (suc n) x e = drop-here xs n x e

  in-take : (first : List A) (x : A) (rest : List A) (n : ℕ) → length first < n → Contains (take n (first ++ x ∷ rest)) x
  in-take first x rest zero lt = absurd (omega (arith, lt))
  in-take [] x rest (suc n) lt = has_head x (take n rest)
  in-take (y ∷ first) x rest (suc n) lt = has_tail y (take n (first ++ x ∷ rest)) x (in-take first x rest n (omega (arith, lt)))

  take-within : (n : ℕ) (xs : List A) → length (take n xs) ≤ length xs
  take-within zero xs = omega arith
  take-within (suc n) [] = omega arith
  take-within (suc n) (x ∷ xs) = let le = take-within n xs in omega (arith, le)

-- an entry has one commit at most
pub single-commit : (deed : StoreDeed) (commit : Commit) → Contains (commit_by deed) commit → commit_by deed ≡ commit ∷ []
single-commit (Judged r stamp ops asked (Committed number answers counts)) commit h =
    elim (has_read _ [] commit h) [ inl same ↦ ap (λ k. k ∷ []) same | inr none ↦ absurd (has_none commit none) ]
single-commit (Judged r stamp ops asked (Conflict v newer)) commit h = absurd (has_none commit h)
single-commit (Judged r stamp ops asked (Refused op reason at)) commit h = absurd (has_none commit h)

-- each commit has its place in the store
pub commit-at : (account : Account) (commit : Commit) → Contains (commits_in account) commit → IsCommitAt account commit
commit-at account commit h =
    let entry = flat-has (λ (e : StoreEntry). commit_by e.deed) account.store commit h in
    let place = cut_at account.store entry.0 entry.1.0 in
    record { before = place.before; entry = entry.0; after = place.after; is = place.is; commit_is = single-commit (entry.0).deed commit entry.1.1 }

module _ (script : Script) (account : Account) (basis : Basis script account)
    (shard : ℕ) (inside : shard < script.shards) (log : List ShardEntry) (each : AreShardDeeds script account shard log)
    (r : ℕ) (stamp : Stamp) (v : Name) (k : ℕ) (visit : IsRightVisit script account shard log r stamp v k) where
  abbrev naming : List Commit
  naming = commits_naming v (commits_in account)

  in-order : AllPairs (Earlier account) naming
  in-order = ordered script account v account.store basis.is.store.judges

  updates-are : updates_of v log ≡ map (update_of v) (take (length (updates_of v log)) naming)
  updates-are = (shows script account basis shard v visit.kept_here log each).are

  enough : length (updates_of v log) ≤ length naming
  enough =
      let e = ap length updates-are ∙ length-map (take (length (updates_of v log)) naming) (update_of v) in
      let le = take-within (length (updates_of v log)) naming in
      omega (arith, e, le)

  -- the update at a place is that of the commit there
  update-is : (j : ℕ) (c : Commit) → j < length (updates_of v log) → slice_get naming j ≡ Some c
      → update_at v j log ≡ Some (update_of v c)
  update-is j c lt e =
      ap (λ us. slice_get us j) updates-are
      ∙ slice_get-map (update_of v) (take (length (updates_of v log)) naming) j
      ∙ ap (option_map (update_of v)) (get-take (length (updates_of v log)) naming j lt ∙ e)

  -- the first ones precede the program
  pub seen-precede : (c : Commit) → Contains (take k naming) c → Precedence account c.stamp stamp
  seen-precede c h = at k refl h
    where
      at : (n : ℕ) → k ≡ n → Contains (take n naming) c → Precedence account c.stamp stamp
      at zero e h = absurd (has_none c h)
      at (suc j) e h =
          let applied = visit.applied in
          let many = enough in
          let last = get-some naming j (omega (arith, e, applied, many)) in
          let here : update_at v j log ≡ Some (update_of v last.0) = update-is j last.0 (omega (arith, e, applied)) last.1 in
          let index : k - 1 ≡ j = omega (arith, e) in
          let p : Precedence account (last.0).stamp stamp =
          visit.after_seen (omega (arith, e)) (update_of v last.0) (ap (λ n. update_at v n log) index ∙ here) in
          elim (Contains-append_cases (take j naming) (last.0 ∷ []) c (subst (λ cs. Contains cs c) (take-more naming j last.0 last.1) h)) [
            | inl earlier ↦ Through c.stamp (last.0).stamp stamp (pairs_across (Earlier account) (take j naming) (last.0 ∷ drop (suc j) naming) c last.0 (subst (AllPairs (Earlier account)) (cut-here naming j last.0 last.1) in-order) earlier (has_head last.0 (drop (suc j) naming))) p
            | inr here' ↦ elim (has_read last.0 [] c here') [ inl same ↦ subst (λ (d : Commit). Precedence account d.stamp stamp) same p | inr none ↦ absurd (has_none c none) ]
          ]

  -- the program precedes each commit at the vertex after those whose updates its visit saw
  pub others-follow : (c : Commit) → Contains (drop k naming) c → Precedence account stamp c.stamp
  others-follow c h =
      elim (cases_lt k (length (updates_of v log))) [
        | inl skipped ↦
            let many = enough in
            let next = get-some naming k (omega (arith, skipped, many)) in
            let p : Precedence account stamp (next.0).stamp = visit.before_skipped (update_of v next.0) (update-is k next.0 skipped next.1) in
            elim (has_read next.0 (drop (suc k) naming) c (subst (λ cs. Contains cs c) (drop-here naming k next.0 next.1) h)) [
              | inl same ↦ subst (λ (d : Commit). Precedence account stamp d.stamp) same p
              | inr later ↦ Through stamp (next.0).stamp c.stamp p (pairs_across (Earlier account) (take k naming ++ next.0 ∷ []) (drop (suc k) naming) next.0 c (subst (AllPairs (Earlier account)) (cut-here naming k next.0 next.1 ∙ step (take k naming) next.0 (drop (suc k) naming)) in-order) (last-in (take k naming) next.0) later)
            ]
        | inr all ↦
            let applied = visit.applied in
            let same : k ≡ length (updates_of v log) = omega (arith, all, applied) in
            ByStamps stamp c.stamp (not-applied (subst (λ n. Contains (drop n naming) c) same h))
      ]
    where
      step : (xs : List Commit) (x : Commit) (ys : List Commit) → xs ++ x ∷ ys ≡ (xs ++ x ∷ []) ++ ys
      step [] x ys = refl
      step (z ∷ xs) x ys = ap (λ zs. z ∷ zs) (step xs x ys)

      last-in : (xs : List Commit) (x : Commit) → Contains (xs ++ x ∷ []) x
      last-in [] x = has_head x []
      last-in (z ∷ xs) x = has_tail z (xs ++ x ∷ []) x (last-in xs x)

      in-drop : (n : ℕ) (xs : List Commit) → Contains (drop n xs) c → Contains xs c
      in-drop zero xs h = h
      in-drop (suc n) [] h = h
      in-drop (suc n) (x ∷ xs) h = has_tail x xs c (in-drop n xs h)

      not-applied : Contains (drop (length (updates_of v log)) naming) c → IsTrue (stamp_before stamp c.stamp)
      not-applied later =
          let parts = filter_has (names v) (commits_in account) c (in-drop (length (updates_of v log)) naming later) in
          let place = commit-at account c parts.0 in
          let all : naming ≡ commits_naming v (commits_of place.before) ++ c ∷ commits_naming v (commits_of place.after) =
          ap (commits_naming v)
          (ap commits_of place.is ∙ flat_map-append (λ (e : StoreEntry). commit_by e.deed) place.before (place.entry ∷ place.after) ∙ ap (λ cs. commits_of place.before ++ (cs ++ commits_of place.after)) place.commit_is)
          ∙ filter-append (names v) (commits_of place.before) (c ∷ commits_of place.after)
          ∙ ap (λ b. commits_naming v (commits_of place.before) ++ cond b (c ∷ commits_naming v (commits_of place.after)) (commits_naming v (commits_of place.after))) parts.1 in
          let unapplied : length (updates_of v log) ≤ count_naming v (commits_of place.before) = elim (cases_lt (count_naming v (commits_of place.before)) (length (updates_of v log))) [
            | inr le ↦ le
            | inl less ↦ absurd (twice (subst (λ cs. Contains (take (length (updates_of v log)) cs) c) (sym all) (in-take (commits_naming v (commits_of place.before)) c (commits_naming v (commits_of place.after)) (length (updates_of v log)) less)) later)
          ] in
          unprocessed script account basis shard v visit.kept_here inside log each stamp visit.ready c place parts.1 unapplied
        where
          twice : Contains (take (length (updates_of v log)) naming) c → Contains (drop (length (updates_of v log)) naming) c → ⊥
          twice first later =
              let p : Precedence account c.stamp c.stamp =
              pairs_across (Earlier account) (take (length (updates_of v log)) naming) (drop (length (updates_of v log)) naming) c c
              (subst (AllPairs (Earlier account)) (take-drop naming (length (updates_of v log))) in-order) first later in
              acyclic script account basis c.stamp ((basis.laws.decided (pairs_in account) c.stamp c.stamp).0 p)
