-- Keys that are put after others in a rising order.
-- Used by `goes_last`, `with_last` and StatesRead.
use Rattle.std.proofs.Common.{◌≡◌, ℕ, zero, suc, Bool, true, ◌&&◌, List, [], ◌∷◌, ◌++◌, length, refl, ap, ◌∙◌, subst, arith}
use Rattle.std.specs.Prelude.{slice_get, Some}
use Rattle.std.specs.declared.cmp.Ordering.{Ordering}
use Rattle.std.specs.declared.cmp.Ordering.TheVariants.{Less, Equal, Greater}
use Rattle.std.specs.Cmp.Lexicographic.{nat_list_cmp_total}
use Rattle.std.specs.List.{AllByRecursion}
use Rattle.std.specs.List.Sorted.{IsStrictlySortedBy}
use Rattle.std.specs.Map.{keys_of}
use Rattle.std.specs.Ordering.{is_lt, match_ordering, ordering_reverse}
use Rattle.std.proofs.Math.Bool.{and-false, and-true}
use Rattle.std.proofs.lemmas.Bool.{and_parts}
use Rattle.std.proofs.lemmas.Map.Keys.{sorted_head, sorted_tail}
use Rattle.weave_data.specs.Names.{name_cmp}
use Rattle.weave_data.specs.Pairs.{IsRising, put}
use Rattle.weave_report.specs.ReadingStates.{goes_last}

less_of : (o : Ordering) → is_lt o ≡ true → o ≡ Less
less_of Less e = refl
less_of Equal e = absurd cc
less_of Greater e = absurd cc

both_less : (o last : Ordering) (rest : Bool) → rest ≡ is_lt last → (last ≡ Less → o ≡ Less) → (is_lt o && rest) ≡ is_lt last
both_less o Less rest e h = ap (λ o. is_lt o && rest) (h refl) ∙ e
both_less o Equal rest e h = ap (λ r. is_lt o && r) e ∙ and-false (is_lt o)
both_less o Greater rest e h = ap (λ r. is_lt o && r) e ∙ and-false (is_lt o)

module _ {X : Type 0} where
  at_place : (P : List ℕ → Type 0) (pairs : List (List ℕ × X)) (k : ℕ) (pair : List ℕ × X) → AllByRecursion P (keys_of pairs) → slice_get pairs k ≡ Some pair → P pair.0
  at_place P [] k pair h e = absurd cc
  at_place P (p ∷ pairs) zero pair h e = let same : p ≡ pair = cc in subst (λ (p : List ℕ × X). P p.0) same h.0
  at_place P (p ∷ pairs) (suc k) pair h e = at_place P pairs k pair h.1 e

  -- among rising keys the last one decides
  pub last_decides : (pairs : List (List ℕ × X)) (k : ℕ) (pair : List ℕ × X) (key : List ℕ) → IsRising pairs → length pairs ≡ suc k → slice_get pairs k ≡ Some pair
      → goes_last key pairs ≡ is_lt (name_cmp pair.0 key)
  last_decides [] k pair key h n e = absurd cc
  last_decides (p ∷ []) zero pair key h n e = let same : p ≡ pair = cc in and-true (is_lt (name_cmp p.0 key)) ∙ ap (λ (p : List ℕ × X). is_lt (name_cmp p.0 key)) same
  last_decides (p ∷ []) (suc k) pair key h n e = absurd cc
  last_decides (p ∷ q ∷ pairs) zero pair key h n e = absurd (omega (arith, n))
  last_decides (p ∷ q ∷ pairs) (suc k) pair key h n e =
      let below : name_cmp p.0 pair.0 ≡ Less = at_place (λ k. name_cmp p.0 k ≡ Less) (q ∷ pairs) k pair (sorted_head name_cmp p.0 (keys_of (q ∷ pairs)) h) e in
      both_less (name_cmp p.0 key) (name_cmp pair.0 key) (goes_last key (q ∷ pairs))
      (last_decides (q ∷ pairs) k pair key (sorted_tail name_cmp p.0 (keys_of (q ∷ pairs)) h) (omega (arith, n)) e)
      (λ less. nat_list_cmp_total.trans p.0 pair.0 key below less)

  -- a key above those that are there goes to their end
  pub put_behind : (pairs : List (List ℕ × X)) (key : List ℕ) (value : X) → goes_last key pairs ≡ true → put key value pairs ≡ pairs ++ (key, value) ∷ []
  put_behind [] key value h = refl
  put_behind (e ∷ es) key value h =
      let parts = and_parts (is_lt (name_cmp e.0 key)) (goes_last key es) h in
      let above : name_cmp key e.0 ≡ Greater = nat_list_cmp_total.antisymm key e.0 ∙ ap ordering_reverse (less_of (name_cmp e.0 key) parts.0) in
      ap (λ o. match_ordering o ((key, value) ∷ e ∷ es) ((e.0, value) ∷ es) (e ∷ put key value es)) above
      ∙ ap (λ more. e ∷ more) (put_behind es key value parts.1)

  -- keys still rise with one above them at their end
  pub rising-push : (pairs : List (List ℕ × X)) (key : List ℕ) (value : X) → IsRising pairs → goes_last key pairs ≡ true → IsRising (pairs ++ (key, value) ∷ [])
  unfolding IsStrictlySortedBy
  rising-push [] key value h k = (tt, tt)
  rising-push (p ∷ pairs) key value h k =
      let parts = and_parts (is_lt (name_cmp p.0 key)) (goes_last key pairs) k in
      (all_push pairs h.0 (less_of (name_cmp p.0 key) parts.0), rising-push pairs key value h.1 parts.1)
    where
      all_push : (others : List (List ℕ × X)) → AllByRecursion (λ k. name_cmp p.0 k ≡ Less) (keys_of others) → name_cmp p.0 key ≡ Less → AllByRecursion (λ k. name_cmp p.0 k ≡ Less) (keys_of (others ++ (key, value) ∷ []))
      all_push [] a less = (less, tt)
      all_push (o ∷ others) a less = (a.0, all_push others a.1 less)

  below_key : (first : List ℕ) (pairs rest : List (List ℕ × X)) (key : List ℕ) (value : X) → AllByRecursion (λ k. name_cmp first k ≡ Less) (keys_of (pairs ++ (key, value) ∷ rest)) → name_cmp first key ≡ Less
  below_key first [] rest key value h = h.0
  below_key first (p ∷ pairs) rest key value h = below_key first pairs rest key value h.1

  -- a key among rising ones is above those before it
  pub rising-last : (pairs rest : List (List ℕ × X)) (key : List ℕ) (value : X) → IsRising (pairs ++ (key, value) ∷ rest) → goes_last key pairs ≡ true
  rising-last [] rest key value h = refl
  rising-last (p ∷ pairs) rest key value h =
      let less = below_key p.0 pairs rest key value (sorted_head name_cmp p.0 (keys_of (pairs ++ (key, value) ∷ rest)) h) in
      ap (λ o. is_lt o && goes_last key pairs) less ∙ rising-last pairs rest key value (sorted_tail name_cmp p.0 (keys_of (pairs ++ (key, value) ∷ rest)) h)
