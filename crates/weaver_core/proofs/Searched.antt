-- A binary search among replies of rising requests.
-- Used by `reply`.
use Rattle.std.proofs.Common.{◌≡◌, ◌≢◌, ℕ, ◌<◌, ◌≤◌, List, AllPairs, Contains, Ok, Err, length, inl, inr, refl, sym, ap, subst, ◌∙◌, arith}
use Rattle.std.specs.Prelude.{slice_index_or}
use Rattle.std.specs.Ordering.{nat_cmp, ordering_index}
use Rattle.std.specs.declared.cmp.Ordering.{Ordering}
use Rattle.std.specs.declared.cmp.Ordering.TheVariants.{Less, Equal, Greater}
use Rattle.std.specs.List.Sorted.{IsBinarySearchResult, IsPartitionPoint, IsSearchInRange}
use Rattle.std.specs.Cmp.{ranked}
use Rattle.std.proofs.lemmas.Bool.{cases_lt}
use Rattle.std.proofs.lemmas.List.{get_or_default}
use Rattle.weave_data.proofs.Ordered.{pairs_placed}
use Rattle.report_rules.specs.declared.report.Reply.{Reply}

-- what an answer says
equal-is : (a r : ℕ) → nat_cmp a r ≡ Equal → a ≡ r
equal-is a r is = ranked a r Equal (sym is)

less-is : (a r : ℕ) → nat_cmp a r ≡ Less → a < r
less-is a r is = ranked a r Less (sym is)

greater-is : (a r : ℕ) → nat_cmp a r ≡ Greater → r < a
greater-is a r is = ranked a r Greater (sym is)

-- answers rise with the numbers
index-rises : (a b r : ℕ) → a ≤ b → ordering_index (nat_cmp a r) ≤ ordering_index (nat_cmp b r)
index-rises a b r le = by (nat_cmp a r) refl (nat_cmp b r) refl
  where
    by : (x : Ordering) → nat_cmp a r ≡ x → (y : Ordering) → nat_cmp b r ≡ y → ordering_index (nat_cmp a r) ≤ ordering_index (nat_cmp b r)
    by Less xe y ye = subst (λ o. ordering_index o ≤ ordering_index (nat_cmp b r)) (sym xe) (omega arith)
    by Equal xe Less ye = absurd (let one = equal-is a r xe in let other = less-is b r ye in omega (arith, one, other, le))
    by Equal xe Equal ye = subst (λ o. ordering_index o ≤ ordering_index (nat_cmp b r)) (sym xe) (subst (λ o. 1 ≤ ordering_index o) (sym ye) (omega arith))
    by Equal xe Greater ye = subst (λ o. ordering_index o ≤ ordering_index (nat_cmp b r)) (sym xe) (subst (λ o. 1 ≤ ordering_index o) (sym ye) (omega arith))
    by Greater xe Less ye = absurd (let one = greater-is a r xe in let other = less-is b r ye in omega (arith, one, other, le))
    by Greater xe Equal ye = absurd (let one = greater-is a r xe in let other = equal-is b r ye in omega (arith, one, other, le))
    by Greater xe Greater ye = subst (λ o. ordering_index o ≤ ordering_index (nat_cmp b r)) (sym xe) (subst (λ o. 2 ≤ ordering_index o) (sym ye) (omega arith))

module _ (replies : List Reply) (r : ℕ) where
  abbrev compared : Reply → Ordering
  compared reply = nat_cmp reply.request r

  -- if the search ends at a place, the reply there is one to the request
  pub found-here : (place : ℕ) → IsSearchInRange (Ok place) (length replies) → IsBinarySearchResult compared replies (Ok place) → (reply : Reply) → reply ≡ slice_index_or replies place reply → Contains replies reply × (reply.request ≡ r)
  found-here place within is reply at =
      ((place, within, sym at), equal-is reply.request r (ap compared at ∙ is reply))

  -- if it ends without one, and the replies are of rising requests, no reply is to the request
  pub not-found : AllPairs (λ (a b : Reply). a.request < b.request) replies → (place : ℕ) → IsSearchInRange (Err place) (length replies) → IsBinarySearchResult compared replies (Err place) → (reply : Reply) → Contains replies reply → reply.request ≢ r
  not-found rise place within is reply has same = elim (cases_lt has.0 place) [
    | inl low ↦ (let less = less-is reply.request r (ap compared (sym has.2) ∙ parts.0 has.0 reply (omega arith) low) in omega (arith, less, same))
    | inr high ↦ (let more = greater-is reply.request r (ap compared (sym has.2) ∙ parts.1 has.0 reply high has.1) in omega (arith, more, same))
  ]
    where
      rising : (i j : ℕ) (d : Reply) → i ≤ j → j < length replies → ordering_index (compared (slice_index_or replies i d)) ≤ ordering_index (compared (slice_index_or replies j d))
      rising i j d le below = index-rises _ _ r (ordered i j d le below)
        where
          ordered : (i j : ℕ) (d : Reply) → i ≤ j → j < length replies → (slice_index_or replies i d).request ≤ (slice_index_or replies j d).request
          ordered i j d le below = elim (cases_lt i j) [
            | inl less ↦
                let x = slice_index_or replies i d in
                let y = slice_index_or replies j d in
                let first : i < length replies = omega (arith, less, below) in
                let lower = pairs_placed (λ (a b : Reply). a.request < b.request) replies rise x y (i, first, sym (get_or_default replies i d x first)) (j, below, sym (get_or_default replies j d y below)) less in
                omega (arith, lower)
            | inr past ↦ (let one : i ≡ j = omega (arith, past, le) in subst (λ n. (slice_index_or replies i d).request ≤ (slice_index_or replies n d).request) one (omega arith))
          ]

      parts : IsPartitionPoint (λ y. compared y ≡ Less) (λ y. compared y ≡ Greater) replies place
      parts = is rising
