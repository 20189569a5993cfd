-- What is at a key of a map after another was put, and the place of a name in a list of requests.
-- Used by Indexing.
use Rattle.std.proofs.Common.{◌≡◌, ℕ, ◌+◌, suc, Bool, true, false, cond, List, [], ◌∷◌, ◌++◌, length, Option, Some, None, Ordering, refl, sym, ap, ◌∙◌, subst, arith}
use Rattle.std.specs.declared.cmp.Ordering.TheVariants.{Less, Equal, Greater}
use Rattle.std.specs.List.{position_from}
use Rattle.std.specs.Ordering.{is_eq, match_ordering}
use Rattle.weave_data.proofs.Lists.{none-of_both}
use Rattle.weave_data.specs.Names.{name_cmp, same_name, one_name}
use Rattle.weave_data.specs.Pairs.{at_key, put}
use Rattle.graph_ops.proofs.Vertices.{same_name-refl}

-- whether two names are the same doesn't depend on which comes first
pub same_both_ways : (a b : List ℕ) → same_name a b ≡ same_name b a
same_both_ways a b = go (same_name a b) refl (same_name b a) refl
  where
    go : (s : Bool) → same_name a b ≡ s → (t : Bool) → same_name b a ≡ t → s ≡ t
    go true h true k = refl
    go false h false k = refl
    go true h false k = sym (subst (λ c. same_name c a ≡ true) (one_name a b h) (same_name-refl a)) ∙ k
    go false h true k = sym h ∙ subst (λ c. same_name c b ≡ true) (one_name b a k) (same_name-refl b)

module _ {X : Type 0} where
  kept_or_new : (q_is_k q_is_e : Bool) (v : X) (old : X) (rest : Option X) → (q_is_k ≡ true → q_is_e ≡ true → ⊥)
      → cond q_is_e (Some old) (cond q_is_k (Some v) rest) ≡ cond q_is_k (Some v) (cond q_is_e (Some old) rest)
  kept_or_new true true v old rest apart = absurd (apart refl refl)
  kept_or_new true false v old rest apart = refl
  kept_or_new false q_is_e v old rest apart = refl

  over_it : (q_is : Bool) (v old : X) (rest : Option X) → cond q_is (Some v) rest ≡ cond q_is (Some v) (cond q_is (Some old) rest)
  over_it true v old rest = refl
  over_it false v old rest = refl

  in_place : (k q : List ℕ) (v : X) (e : List ℕ × X) (es rest : List (List ℕ × X)) (o : Ordering) → name_cmp k e.0 ≡ o → at_key q rest ≡ cond (same_name q k) (Some v) (at_key q es)
      → at_key q (match_ordering o ((k, v) ∷ e ∷ es) ((e.0, v) ∷ es) (e ∷ rest)) ≡ cond (same_name q k) (Some v) (at_key q (e ∷ es))
  in_place k q v e es rest Less h more = refl
  in_place k q v e es rest Equal h more =
      let same : k ≡ e.0 = one_name k e.0 (ap is_eq h) in
      subst (λ c. cond (same_name q e.0) (Some v) (at_key q es) ≡ cond (same_name q c) (Some v) (cond (same_name q e.0) (Some e.1) (at_key q es))) (sym same) (over_it (same_name q e.0) v e.1 (at_key q es))
  in_place k q v e es rest Greater h more =
      ap (λ found. cond (same_name q e.0) (Some e.1) found) more ∙ kept_or_new (same_name q k) (same_name q e.0) v e.1 (at_key q es) apart
    where
      apart : same_name q k ≡ true → same_name q e.0 ≡ true → ⊥
      apart a b =
          let same : k ≡ e.0 = sym (one_name q k a) ∙ one_name q e.0 b in
          let both : is_eq Greater ≡ true = sym (ap is_eq h) ∙ subst (λ c. same_name k c ≡ true) same (same_name-refl k) in
          absurd cc

  -- after a value was put at a key it is there, and at each other key is what was there before
  pub at_key-put : (k q : List ℕ) (v : X) (es : List (List ℕ × X)) → at_key q (put k v es) ≡ cond (same_name q k) (Some v) (at_key q es)
  at_key-put k q v [] = refl
  at_key-put k q v (e ∷ es) = in_place k q v e es (put k v es) (name_cmp k e.0) refl (at_key-put k q v es)

  one_more : (k : List ℕ) (v : X) (e : List ℕ × X) (es rest : List (List ℕ × X)) (o : Ordering) → name_cmp k e.0 ≡ o → same_name k e.0 ≡ false → length rest ≡ suc (length es)
      → length (match_ordering o ((k, v) ∷ e ∷ es) ((e.0, v) ∷ es) (e ∷ rest)) ≡ suc (suc (length es))
  one_more k v e es rest Less h new more = refl
  one_more k v e es rest Equal h new more = let both : is_eq Equal ≡ false = sym (ap is_eq h) ∙ new in absurd cc
  one_more k v e es rest Greater h new more = ap suc more

  -- a new key is one more
  pub length-put : (k : List ℕ) (v : X) (es : List (List ℕ × X)) → at_key k es ≡ None → length (put k v es) ≡ suc (length es)
  length-put k v [] none = refl
  length-put k v (e ∷ es) none =
      let parts = none-of_both (same_name k e.0) e.1 (at_key k es) none in
      one_more k v e es (put k v es) (name_cmp k e.0) refl parts.0 (length-put k v es parts.1)

module _ {K : Type 0} (test : K → Bool) where
  -- one more at the end is the first that passes
  pub position_from-push_yes : (i : ℕ) (xs : List K) (x : K) → position_from test i xs ≡ None → test x ≡ true → position_from test i (xs ++ x ∷ []) ≡ Some (i + length xs)
  position_from-push_yes i [] x none passes = ap (λ b. cond b (Some i) None) passes ∙ ap (λ n. Some n) (omega arith)
  position_from-push_yes i (y ∷ xs) x none passes =
      let parts = none-of_both (test y) i (position_from test (i + 1) xs) none in
      ap (λ b. cond b (Some i) (position_from test (i + 1) (xs ++ x ∷ []))) parts.0 ∙ position_from-push_yes (i + 1) xs x parts.1 passes ∙ ap (λ n. Some n) (omega arith)

  -- one more that doesn't pass changes nothing
  pub position_from-push_no : (i : ℕ) (xs : List K) (x : K) → test x ≡ false → position_from test i (xs ++ x ∷ []) ≡ position_from test i xs
  position_from-push_no i [] x fails = ap (λ b. cond b (Some i) None) fails
  position_from-push_no i (y ∷ xs) x fails = ap (λ found. cond (test y) (Some i) found) (position_from-push_no (i + 1) xs x fails)

  -- the last one counts by its test alone
  pub position_from-last : (i : ℕ) (xs : List K) (x y : K) → test x ≡ test y → position_from test i (xs ++ x ∷ []) ≡ position_from test i (xs ++ y ∷ [])
  position_from-last i [] x y same = ap (λ b. cond b (Some i) None) same
  position_from-last i (z ∷ xs) x y same = ap (λ found. cond (test z) (Some i) found) (position_from-last (i + 1) xs x y same)
