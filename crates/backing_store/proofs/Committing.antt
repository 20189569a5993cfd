-- What a commit knows before it asks the judge.
-- Used by `commit`, `commits` and `counts_are_at_most_the_commits`.
use Rattle.std.proofs.Common.{◌≡◌, ◌≢◌, ℕ, ◌<◌, ◌≤◌, ◌^◌, Bool, true, false, not, cond, ◌&&◌, ◌||◌, List, [], ◌∷◌, ◌++◌, length, map, filter, Contains, All, IsSome, Option, None, Some, ◌⊎◌, inl, inr, refl, sym, ap, subst, ◌∙◌, arith}
use Rattle.std.specs.List.{list_any, find}
use Rattle.std.proofs.lemmas.List.Elements.{All-map, All-nil}
use Rattle.std.proofs.lemmas.List.{length-append, length-map}
use Rattle.weave_data.specs.declared.name.Name.{Name}
use Rattle.vector_stamp.specs.declared.clock.Stamp.{Stamp}
use Rattle.vector_stamp.specs.Order.{id_of, stamp_before, unordered}
use Rattle.vector_stamp.specs.Coherence.{AreCoherent}
use Rattle.vector_stamp.specs.Precedence.{GivenPair}
use Rattle.graph_ops.specs.declared.op.Op.{Op}
use Rattle.graph_ops.specs.declared.op.Reason.TheVariants.{Exists}
use Rattle.graph_ops.specs.Mentions.{named_by}
use Rattle.graph_ops.specs.PlainGraph.{PlainGraph}
use Rattle.weave_entries.specs.declared.store_log.StoreEntry.{StoreEntry}
use Rattle.weave_entries.specs.declared.store_log.StoreDeed.{StoreDeed}
use Rattle.weave_entries.specs.declared.store_log.StoreDeed.TheVariants.{Judged}
use Rattle.weave_entries.specs.declared.verdict.Counted.{Counted}
use Rattle.weave_entries.specs.declared.verdict.Verdict.{Verdict}
use Rattle.weave_entries.specs.declared.verdict.Verdict.TheVariants.{Committed, Conflict, Refused}
use Rattle.graph_ops.specs.declared.tx.Got.{Got}
use Rattle.weave_entries.specs.StoreReplay.{Commit, commit_by, commits_of, names_vertex, count_naming}
use Rattle.weave_entries.specs.StoreRule.{LastCommit, lasts_of, asked_stamps, asked_vertices, conflict_or, verdict_on, ops_bound}
use Rattle.backing_store.specs.declared.lasts.KeptCommit.{KeptCommit}
use Rattle.backing_store.specs.declared.asked.Asked.{Asked}
use Rattle.backing_store.specs.Commits.{stamps_judged, stamps_kept, is_judge_asked}
use Rattle.backing_store.specs.Keeping.{first_newer, held_of, unordered_of, IsAsked, IsStoreReplay}
use Rattle.backing_store.specs.Trying.{counts_in, IsBefore}
use Rattle.backing_store.proofs.Members.{filter_le, all_members, asked_le, asked_others, asked_among}
use Rattle.backing_store.proofs.Replay.{by_rule, counts_given}
use Rattle.backing_store.proofs.Rule.{newer_or, newer_is, vertices_asked, stamps_asked}

-- Numbers

one_at_most : (deed : StoreDeed) → length (commit_by deed) ≤ 1
one_at_most (Judged request stamp ops asked (Committed number answers counts)) = omega arith
one_at_most (Judged request stamp ops asked (Conflict vertex newer)) = omega arith
one_at_most (Judged request stamp ops asked (Refused op reason at)) = omega arith

-- there are no more commits than entries
pub commits_le : (log : List StoreEntry) → length (commits_of log) ≤ length log
commits_le [] = omega arith
commits_le (entry ∷ log) = omega (arith, length-append (commit_by entry.deed) (commits_of log), one_at_most entry.deed, commits_le log)

-- and each count is at most the number of commits
pub counts_le : (pairs : List GivenPair) (commits : List Commit) (stamp : Stamp) (ops : List Op) (number : ℕ) (answers : List Got) (counts : List Counted) → verdict_on pairs commits stamp ops ≡ Committed number answers counts → All (λ (counted : Counted). counted.before ≤ length commits) counts
counts_le pairs commits stamp ops number answers counts is =
    subst (All (λ (one : Counted). one.before ≤ length commits)) (sym (by_rule pairs commits stamp ops number answers counts (sym is)))
    (All-map (λ (one : Counted). one.before ≤ length commits) (λ (v : Name). record { vertex = v; before = count_naming v commits }) (named_by ops)
    (all_members (λ (v : Name). count_naming v commits ≤ length commits) (named_by ops) (λ v h. filter_le (names_vertex v) commits)))

module _ (pairs : List GivenPair) (log : List StoreEntry) (stamp : Stamp) (ops : List Op) (verdict : Verdict) (is : verdict ≡ verdict_on pairs (commits_of log) stamp ops) where
  -- if no more vertices are named than there is room for, neither are more counted
  pub counts_fit : (room : ℕ) → length (named_by ops) ≤ room → length (counts_in verdict) ≤ room
  counts_fit room fits =
      elim (counts_given pairs (commits_of log) stamp ops verdict is) [
        | inl counted ↦ let e : length (counts_in verdict) ≡ length (named_by ops) = ap length counted ∙ length-map (named_by ops) (λ (v : Name). record { vertex = v; before = count_naming v (commits_of log) }) in omega arith
        | inr none ↦ let e : length (counts_in verdict) ≡ 0 = ap length none in omega arith
      ]

  -- with fewer than 2 to the 63 entries in the log, each count is below 2 to the 63
  pub counts_low : length log < 2 ^ 63 → All (λ (counted : Counted). counted.before < 2 ^ 63) (counts_in verdict)
  counts_low few =
      elim (counts_given pairs (commits_of log) stamp ops verdict is) [
        | inl counted ↦ subst (All (λ (one : Counted). one.before < 2 ^ 63)) (sym counted) (All-map (λ (one : Counted). one.before < 2 ^ 63) (λ (v : Name). record { vertex = v; before = count_naming v (commits_of log) }) (named_by ops)
            (all_members (λ (v : Name). count_naming v (commits_of log) < 2 ^ 63) (named_by ops) (λ v h. omega (arith, filter_le (names_vertex v) (commits_of log), commits_le log))))
        | inr none ↦ subst (All (λ (one : Counted). one.before < 2 ^ 63)) (sym none) (All-nil (λ (one : Counted). one.before < 2 ^ 63))
      ]

-- The judge

found_none : {A : Type 0} (p : A → Bool) (xs : List A) → find p xs ≡ None → list_any p xs ≡ false
found_none p [] none = refl
found_none p (x ∷ xs) none = at (p x) refl none (found_none p xs)
  where
    at : (b : Bool) → p x ≡ b → cond b (Some x) (find p xs) ≡ None → (find p xs ≡ None → list_any p xs ≡ false) → b || list_any p xs ≡ false
    at true e none rest = absurd (cc)
    at false e none rest = rest none

nothing_left : {A : Type 0} (p : A → Bool) (xs : List A) → list_any p xs ≡ false → filter p xs ≡ []
nothing_left p [] none = refl
nothing_left p (x ∷ xs) none = at (p x) refl none (nothing_left p xs)
  where
    at : (b : Bool) → p x ≡ b → b || list_any p xs ≡ false → (list_any p xs ≡ false → filter p xs ≡ []) → cond b (x ∷ filter p xs) (filter p xs) ≡ []
    at true e none rest = absurd (cc)
    at false e none rest = rest none

no_conflict : (found : Option LastCommit) → conflict_or found (Refused 0 Exists 0) ≡ Refused 0 Exists 0 → found ≡ None
no_conflict None is = refl
no_conflict (Some last) is = absurd (cc)

module _ (graph : PlainGraph) (lasts : List (Name × KeptCommit)) (made : ℕ) (places : List (ℕ × ℕ)) (log : List StoreEntry) (kept : IsStoreReplay graph lasts made places log) (stamp : Stamp) (ops : List Op) (names named : List Name) (names_are : names ≡ named_by ops) (named_are : named ≡ named_by ops) (asked : Asked) (asked_is : IsAsked asked (unordered_of stamp (held_of lasts names))) where
  all_asked : IsAsked asked (unordered_of stamp (held_of lasts (named_by ops)))
  all_asked = subst (λ (vs : List Name). IsAsked asked (unordered_of stamp (held_of lasts vs))) names_are asked_is

  -- what the store has before it judges a transaction is that of the commits of its log
  pub known_before : IsBefore graph lasts made named asked stamp ops (commits_of log)
  known_before = record {
    graph_is = kept.graph_is;
    lasts_are = kept.lasts_are;
    made_is = kept.made_is;
    names_are = named_are;
    asked_is = subst (λ (vs : List Name). IsAsked asked (unordered_of stamp (held_of lasts vs))) (sym named_are) all_asked;
  }

  -- the stamps that it asks the judge about are those of the rule
  pub stamps_are : asked.stamps ≡ asked_stamps stamp (lasts_of ops (commits_of log))
  stamps_are = stamps_asked lasts (commits_of log) kept.lasts_are ops stamp asked all_asked

  -- and so are their vertices
  pub vertices_are : asked.vertices ≡ asked_vertices stamp (lasts_of ops (commits_of log))
  vertices_are = vertices_asked lasts (commits_of log) kept.lasts_are ops stamp asked all_asked

  -- with fewer operations than the bound it asks about fewer than 2 to the power of 32 stamps
  pub few_asked : length ops < ops_bound → length asked.stamps < 2 ^ 32
  few_asked few = let e : length asked.stamps ≡ length (asked_stamps stamp (lasts_of ops (commits_of log))) = ap length stamps_are in omega (arith, asked_le stamp ops (commits_of log))

  -- if the new stamp has another id than each judged one, it has another id than each one that is asked
  pub others_asked : All (λ (judged : Stamp). id_of judged ≢ id_of stamp) (stamps_judged log) → All (λ event. id_of event ≢ id_of stamp) asked.stamps
  others_asked others = subst (All (λ event. id_of event ≢ id_of stamp)) (sym stamps_are) (asked_others stamp ops log others)

  -- if the new, the kept and the known stamps are coherent, so are the new, the asked and the known ones
  pub coherent_asked : (known : List Stamp) → ((stamps others : List Stamp) → AreCoherent others → ((one : Stamp) → Contains stamps one → Contains others one) → AreCoherent stamps) → AreCoherent (stamp ∷ stamps_kept (commits_of log) ++ known) → AreCoherent (stamp ∷ asked.stamps ++ known)
  coherent_asked known part coherent =
      subst (λ (stamps : List Stamp). AreCoherent (stamp ∷ stamps ++ known)) (sym stamps_are)
      (part (stamp ∷ asked_stamps stamp (lasts_of ops (commits_of log)) ++ known) (stamp ∷ stamps_kept (commits_of log) ++ known) coherent (asked_among stamp ops (commits_of log) known))

  -- if the judge isn't asked, the stamp is before a last one or nothing is asked
  pub not_asked : is_judge_asked log stamp ops ≡ false → IsSome (first_newer lasts stamp named) ⊎ (asked.stamps ≡ [])
  not_asked is = by (first_newer lasts stamp named) refl
    where
      before : LastCommit → Bool
      before last = stamp_before stamp last.commit.stamp

      by : (newer : Option (Name × ℕ)) → first_newer lasts stamp named ≡ newer → IsSome (first_newer lasts stamp named) ⊎ (asked.stamps ≡ [])
      by (Some newer) e = inl (subst IsSome (sym e) refl)
      by None e =
          let none : find (λ (last : LastCommit). stamp_before stamp last.commit.stamp) (lasts_of ops (commits_of log)) ≡ None =
          no_conflict (find (λ (last : LastCommit). stamp_before stamp last.commit.stamp) (lasts_of ops (commits_of log))) (newer_is lasts (commits_of log) kept.lasts_are stamp (Refused 0 Exists 0) (named_by ops) ∙ ap (λ (vs : List Name). newer_or (first_newer lasts stamp vs) (Refused 0 Exists 0)) (sym named_are) ∙ ap (λ (newer : Option (Name × ℕ)). newer_or newer (Refused 0 Exists 0)) e) in
          let first : list_any (λ (last : LastCommit). stamp_before stamp last.commit.stamp) (lasts_of ops (commits_of log)) ≡ false = found_none _ (lasts_of ops (commits_of log)) none in
          let second : list_any (λ (last : LastCommit). unordered last.commit.stamp stamp) (lasts_of ops (commits_of log)) ≡ false = sym (ap (λ b. not b && list_any (λ (last : LastCommit). unordered last.commit.stamp stamp) (lasts_of ops (commits_of log))) first) ∙ is in
          inr (stamps_are ∙ ap (map (λ (last : LastCommit). last.commit.stamp)) (nothing_left (λ (last : LastCommit). unordered last.commit.stamp stamp) (lasts_of ops (commits_of log)) second))
