-- What tests of neighbours say of all, if they are transitive.
-- Used by `are_stamps_apart`, `begun_by_stamps`, `do_sessions_take_turns`, `places_by_stamps`, `requests_by_session`,
-- `sessions_rise`, `stamps_rise` and Ways.
use Rattle.std.proofs.Common.{◌≡◌, ◌≢◌, ℕ, zero, suc, ◌+◌, ◌-◌, ◌<◌, Bool, not, ◌||◌, ◌&&◌, ◌==◌, IsTrue, AllPairs, Contains, List, [], ◌∷◌, ◌++◌, length, map, get_or, Option, Some, None, eqb, ltb, ◌⊎◌, inl, inr, refl, sym, ◌∙◌, subst, arith}
use Rattle.std.specs.Prelude.{slice_get, slice_index, nat_lt}
use Rattle.std.specs.List.Sorted.{IsPermutation}
use Rattle.std.specs.Option.{option_and_then}
use Rattle.std.proofs.lemmas.Bool.{and_parts, and_from, or_cases, or_left, or_right, cases_lt, eqb-true, eq-eqb, ltb-true, lt-ltb, ne_eqb, not_from_false}
use Rattle.std.proofs.lemmas.List.{get_or_default, map-append}
use Rattle.std.proofs.lemmas.List.Elements.{Contains-append_left, Contains-append_right}
use Rattle.std.proofs.lemmas.List.Sorted.{IsPermutation-map, Contains-permutation}
use Rattle.vector_stamp.specs.declared.clock.Stamp.{Stamp}
use Rattle.vector_stamp.specs.Order.{own_count, id_before, stamp_before, are_apart}
use Rattle.program_defs.specs.declared.script.Script.{Script}
use Rattle.program_defs.specs.declared.script.Request.{Request}
use Rattle.report_rules.specs.declared.report.Reply.{Reply}
use Rattle.report_rules.specs.Lookups.{are_both, request_at}
use Rattle.report_rules.specs.RightReport.{are_begun_in_turn}
use Rattle.weave_data.proofs.Members.{has_head}
use Rattle.weave_data.proofs.Ordered.{pairs_cases}
use Rattle.order_witness.specs.Begun.{stamp_in}
use Rattle.order_witness.specs.Rising.{stamp_entry, session_entry, comes_before, request_comes_before, session_comes_before, AreInTurnTo, AreStampsApart, DoSessionsTakeTurns}
use Rattle.order_witness.proofs.Strict.{IsStrict}

-- Neighbours, and all

module _ (test : ℕ → ℕ → Bool) (transitive : (a b c : ℕ) → IsTrue (test a b) → IsTrue (test b c) → IsTrue (test a c)) (xs : List ℕ) (in_turn : AreInTurnTo test xs (length xs)) where
  far : (i n : ℕ) → i + suc n < length xs → IsTrue (test (slice_index xs i) (slice_index xs (i + suc n)))
  far i zero below =
      let same : i + 1 ≡ i + suc zero = omega arith in
      subst (λ k. IsTrue (test (slice_index xs i) (slice_index xs k))) same (in_turn i (omega (arith, below)))
  far i (suc n) below =
      let same : (i + suc n) + 1 ≡ i + suc (suc n) = omega arith in
      subst (λ k. IsTrue (test (slice_index xs i) (slice_index xs k))) same
      (transitive (slice_index xs i) (slice_index xs (i + suc n)) (slice_index xs ((i + suc n) + 1)) (far i n (omega (arith, below))) (in_turn (i + suc n) (omega (arith, below))))

  all_pairs : AllPairs (λ a b. IsTrue (test a b)) xs
  all_pairs i j d less below =
      let same : i + suc (j - suc i) ≡ j = omega arith in
      let both : IsTrue (test (slice_index xs i) (slice_index xs j)) = subst (λ k. IsTrue (test (slice_index xs i) (slice_index xs k))) same (far i (j - suc i) (omega arith)) in
      let first : slice_index xs i ≡ get_or xs i d = get_or_default xs i 0 d (omega arith) in
      let second : slice_index xs j ≡ get_or xs j d = get_or_default xs j 0 d below in
      subst (λ b. IsTrue (test (get_or xs i d) b)) second (subst (λ a. IsTrue (test a (slice_index xs j))) first both)

  -- if by a transitive test each of a list comes before the next, of two different ones one comes before the other
  pub two_of : (a b : ℕ) → Contains xs a → Contains xs b → a ≢ b → IsTrue (test a b) ⊎ IsTrue (test b a)
  two_of a b has_a has_b other =
      elim (pairs_cases (λ x y. IsTrue (test x y)) xs all_pairs a b has_a has_b) [ inl same ↦ absurd (other same) | inr either ↦ either ]

-- if the test passes at all neighbours so far and at the next two, it passes at all up to there
pub in_turn_more : (test : ℕ → ℕ → Bool) (xs : List ℕ) (next : ℕ) → AreInTurnTo test xs next → ((k : ℕ) → k + 1 ≡ next → IsTrue (test (slice_index xs k) (slice_index xs (k + 1)))) → AreInTurnTo test xs (next + 1)
in_turn_more test xs next so_far here k below =
    elim (cases_lt (k + 1) next) [
      | inl before ↦ so_far k before
      | inr last ↦ here k (omega (arith, below, last))
    ]

-- if the elements before and at a place pass the test, so do those at and after the place before it
pub neighbours_at : (test : ℕ → ℕ → Bool) (xs : List ℕ) (next k : ℕ) → k + 1 ≡ next → IsTrue (test (slice_index xs (next - 1)) (slice_index xs next)) → IsTrue (test (slice_index xs k) (slice_index xs (k + 1)))
neighbours_at test xs next k last h =
    let first : next - 1 ≡ k = omega (arith, last) in
    subst (λ n. IsTrue (test (slice_index xs k) (slice_index xs n))) (sym last) (subst (λ n. IsTrue (test (slice_index xs n) (slice_index xs next))) first h)

-- Stamps

less_id : (s t u : Stamp) → IsTrue (id_before s t) → IsTrue (id_before t u) → IsTrue (id_before s u)
less_id s t u g h =
    elim (or_cases (ltb s.clock.epoch t.clock.epoch) _ g) [
      | inl first ↦ elim (or_cases (ltb t.clock.epoch u.clock.epoch) _ h) [
        | inl second ↦ or_left _ _ (lt-ltb s.clock.epoch u.clock.epoch (omega (arith, ltb-true s.clock.epoch t.clock.epoch first, ltb-true t.clock.epoch u.clock.epoch second)))
        | inr second ↦
            let same : t.clock.epoch ≡ u.clock.epoch = eqb-true t.clock.epoch u.clock.epoch (and_parts (eqb t.clock.epoch u.clock.epoch) _ second).0 in
            or_left _ _ (lt-ltb s.clock.epoch u.clock.epoch (omega (arith, ltb-true s.clock.epoch t.clock.epoch first, same)))
      ]
      | inr first ↦
          let parts = and_parts (eqb s.clock.epoch t.clock.epoch) (ltb (own_count s) (own_count t)) first in
          let same : s.clock.epoch ≡ t.clock.epoch = eqb-true s.clock.epoch t.clock.epoch parts.0 in
          let less : own_count s < own_count t = ltb-true (own_count s) (own_count t) parts.1 in
          elim (or_cases (ltb t.clock.epoch u.clock.epoch) _ h) [
            | inl second ↦ or_left _ _ (lt-ltb s.clock.epoch u.clock.epoch (omega (arith, same, ltb-true t.clock.epoch u.clock.epoch second)))
            | inr second ↦
                let more = and_parts (eqb t.clock.epoch u.clock.epoch) (ltb (own_count t) (own_count u)) second in
                let same_too : s.clock.epoch ≡ u.clock.epoch = same ∙ eqb-true t.clock.epoch u.clock.epoch more.0 in
                let less_too : own_count s < own_count u = omega (arith, less, ltb-true (own_count t) (own_count u) more.1) in
                or_right (ltb s.clock.epoch u.clock.epoch) _ (and_from _ _ (eq-eqb s.clock.epoch u.clock.epoch same_too) (lt-ltb (own_count s) (own_count u) less_too))
          ]
    ]

-- what the test of two stamps says
comes_cases : (s t : Stamp) → IsTrue (comes_before s t) → (s.home < t.home) ⊎ ((s.home ≡ t.home) × IsTrue (id_before s t) × IsTrue (stamp_before s t))
comes_cases s t h =
    elim (or_cases (ltb s.home t.home) _ h) [
      | inl less ↦ inl (ltb-true s.home t.home less)
      | inr same ↦
          let parts = and_parts (eqb s.home t.home && id_before s t) (stamp_before s t) same in
          let first = and_parts (eqb s.home t.home) (id_before s t) parts.0 in
          inr (eqb-true s.home t.home first.0, first.1, parts.1)
    ]

comes_less : (s t : Stamp) → s.home < t.home → IsTrue (comes_before s t)
comes_less s t less = or_left _ _ (lt-ltb s.home t.home less)

comes_so : IsStrict → (s t u : Stamp) → IsTrue (comes_before s t) → IsTrue (comes_before t u) → IsTrue (comes_before s u)
comes_so strict s t u g h =
    elim (comes_cases s t g) [
      | inl less ↦ elim (comes_cases t u h) [
        | inl more ↦ comes_less s u (omega (arith, less, more))
        | inr same ↦ comes_less s u (omega (arith, less, same.0))
      ]
      | inr same ↦ elim (comes_cases t u h) [
        | inl more ↦ comes_less s u (omega (arith, same.0, more))
        | inr too ↦ or_right (ltb s.home u.home) _ (and_from _ _ (and_from _ _ (eq-eqb s.home u.home (same.0 ∙ too.0)) (less_id s t u same.1 too.1)) (strict.transitive s t u same.2 too.2))
      ]
    ]

apart_first : (s t : Stamp) → IsTrue (comes_before s t) → IsTrue (are_apart s t)
apart_first s t h =
    elim (comes_cases s t h) [
      | inl less ↦ or_left _ _ (or_left _ _ (not_from_false (eqb s.home t.home) (ne_eqb s.home t.home (λ same. omega (arith, same, less)))))
      | inr same ↦ or_left _ _ (or_right (not (eqb s.home t.home)) _ (and_from _ _ same.1 same.2))
    ]

apart_second : (s t : Stamp) → IsTrue (comes_before t s) → IsTrue (are_apart s t)
apart_second s t h =
    elim (comes_cases t s h) [
      | inl less ↦ or_left _ _ (or_left _ _ (not_from_false (eqb s.home t.home) (ne_eqb s.home t.home (λ same. omega (arith, same, less)))))
      | inr same ↦ or_right (not (eqb s.home t.home) || (id_before s t && stamp_before s t)) _ (and_from _ _ same.1 same.2)
    ]

both_so : (o p q : Option Stamp) → ((s t u : Stamp) → IsTrue (comes_before s t) → IsTrue (comes_before t u) → IsTrue (comes_before s u)) → IsTrue (are_both comes_before o p) → IsTrue (are_both comes_before p q) → IsTrue (are_both comes_before o q)
both_so None p q so g h = cc
both_so (Some s) None q so g h = cc
both_so (Some s) (Some t) None so g h = cc
both_so (Some s) (Some t) (Some u) so g h = so s t u g h

module _ (strict : IsStrict) (replies : List Reply) where
  requests_so : (a b c : ℕ) → IsTrue (request_comes_before replies a b) → IsTrue (request_comes_before replies b c) → IsTrue (request_comes_before replies a c)
  requests_so a b c g h = both_so (stamp_in replies a) (stamp_in replies b) (stamp_in replies c) (comes_so strict) g h

  with_stamps : (a b : ℕ) (s t : Stamp) → stamp_in replies a ≡ Some s → stamp_in replies b ≡ Some t → IsTrue (request_comes_before replies a b) → IsTrue (comes_before s t)
  with_stamps a b s t at_a at_b h = subst (λ o. IsTrue (are_both comes_before (Some s) o)) at_b (subst (λ o. IsTrue (are_both comes_before o (stamp_in replies b))) at_a h)

  -- if each of some requests comes before the next, and all begun ones are among them, their stamps are apart
  pub stamps_apart : (places : List ℕ) → ((place : ℕ) (stamp : Stamp) → stamp_in replies place ≡ Some stamp → Contains places place)
      → AreInTurnTo (request_comes_before replies) places (length places) → AreStampsApart replies
  stamps_apart places there in_turn a b s t other at_a at_b =
      elim (two_of (request_comes_before replies) requests_so places in_turn a b (there a s at_a) (there b t at_b) other) [
        | inl first ↦ apart_first s t (with_stamps a b s t at_a at_b first)
        | inr second ↦ apart_second s t (with_stamps b a t s at_b at_a second)
      ]

-- each place of the entries is still among the places after sorting
pub places_moved : (entries sorted : List (ℕ × ℕ × ℕ × ℕ)) (places : List ℕ) → IsPermutation entries sorted → places ≡ map (λ (one : ℕ × ℕ × ℕ × ℕ). one.3) sorted
    → (place : ℕ) → Contains (map (λ (one : ℕ × ℕ × ℕ × ℕ). one.3) entries) place → Contains places place
places_moved entries sorted places moved is place has =
    subst (λ (ps : List ℕ). Contains ps place) (sym is) (Contains-permutation (map (λ (one : ℕ × ℕ × ℕ × ℕ). one.3) entries) (map (λ (one : ℕ × ℕ × ℕ × ℕ). one.3) sorted) place (IsPermutation-map (λ (one : ℕ × ℕ × ℕ × ℕ). one.3) entries sorted moved) has)

-- Sessions

turn_so : IsStrict → (o p q : Option Stamp) → IsTrue (are_begun_in_turn o p) → IsTrue (are_begun_in_turn p q) → IsTrue (are_begun_in_turn o q)
turn_so strict o p None g h = refl
turn_so strict o None (Some u) g h = cc
turn_so strict None (Some t) (Some u) g h = cc
turn_so strict (Some s) (Some t) (Some u) g h = strict.transitive s t u g h

module _ (strict : IsStrict) (script : Script) (replies : List Reply) where
  -- by these requests, a comes before b
  abbrev session_test : ℕ → ℕ → Request → Request → Bool
  session_test a b x y = nat_lt x.session y.session || ((x.session == y.session) && nat_lt a b && are_begun_in_turn (stamp_in replies a) (stamp_in replies b))

  test_cases : (a b : ℕ) (x y : Request) → IsTrue (session_test a b x y) → (x.session < y.session) ⊎ ((x.session ≡ y.session) × (a < b) × IsTrue (are_begun_in_turn (stamp_in replies a) (stamp_in replies b)))
  test_cases a b x y h =
      elim (or_cases (ltb x.session y.session) _ h) [
        | inl less ↦ inl (ltb-true x.session y.session less)
        | inr same ↦
            let parts = and_parts (eqb x.session y.session && ltb a b) (are_begun_in_turn (stamp_in replies a) (stamp_in replies b)) same in
            let first = and_parts (eqb x.session y.session) (ltb a b) parts.0 in
            inr (eqb-true x.session y.session first.0, ltb-true a b first.1, parts.1)
      ]

  test_so : (a b c : ℕ) (x y z : Request) → IsTrue (session_test a b x y) → IsTrue (session_test b c y z) → IsTrue (session_test a c x z)
  test_so a b c x y z g h =
      elim (test_cases a b x y g) [
        | inl less ↦ elim (test_cases b c y z h) [
          | inl more ↦ or_left _ _ (lt-ltb x.session z.session (omega (arith, less, more)))
          | inr same ↦ or_left _ _ (lt-ltb x.session z.session (omega (arith, less, same.0)))
        ]
        | inr same ↦ elim (test_cases b c y z h) [
          | inl more ↦ or_left _ _ (lt-ltb x.session z.session (omega (arith, same.0, more)))
          | inr too ↦ or_right (ltb x.session z.session) _ (and_from _ _ (and_from _ _ (eq-eqb x.session z.session (same.0 ∙ too.0)) (lt-ltb a c (omega (arith, same.1, too.1)))) (turn_so strict (stamp_in replies a) (stamp_in replies b) (stamp_in replies c) same.2 too.2))
        ]
      ]

  options_so : (a b c : ℕ) (o p q : Option Request) → IsTrue (are_both (session_test a b) o p) → IsTrue (are_both (session_test b c) p q) → IsTrue (are_both (session_test a c) o q)
  options_so a b c None p q g h = cc
  options_so a b c (Some x) None q g h = cc
  options_so a b c (Some x) (Some y) None g h = cc
  options_so a b c (Some x) (Some y) (Some z) g h = test_so a b c x y z g h

  sessions_so : (a b c : ℕ) → IsTrue (session_comes_before script replies a b) → IsTrue (session_comes_before script replies b c) → IsTrue (session_comes_before script replies a c)
  sessions_so a b c g h = options_so a b c (request_at script a) (request_at script b) (request_at script c) g h

  with_requests : (a b : ℕ) (x y : Request) → request_at script a ≡ Some x → request_at script b ≡ Some y → IsTrue (session_comes_before script replies a b) → IsTrue (session_test a b x y)
  with_requests a b x y at_a at_b h = subst (λ o. IsTrue (are_both (session_test a b) (Some x) o)) at_b (subst (λ o. IsTrue (are_both (session_test a b) o (request_at script b))) at_a h)

  -- if the sorted requests, with all that have replies, each come before the next, those of a session begin in turn
  pub sessions_take_turns : (entries sorted : List (ℕ × ℕ)) (places : List ℕ) → ((place : ℕ) (request : Request) → place < length replies → request_at script place ≡ Some request → Contains (map (λ (one : ℕ × ℕ). one.1) entries) place)
      → IsPermutation entries sorted → places ≡ map (λ (one : ℕ × ℕ). one.1) sorted → AreInTurnTo (session_comes_before script replies) places (length places) → DoSessionsTakeTurns script replies
  sessions_take_turns entries sorted places has moved is in_turn a b x y less below at_a at_b same =
      elim (two_of (session_comes_before script replies) sessions_so places in_turn a b (there a x (omega (arith, less, below)) at_a) (there b y below at_b) (λ e. omega (arith, e, less))) [
        | inl first ↦ elim (test_cases a b x y (with_requests a b x y at_a at_b first)) [
          | inl other ↦ absurd (omega (arith, same, other))
          | inr so ↦ so.2
        ]
        | inr second ↦ elim (test_cases b a y x (with_requests b a y x at_b at_a second)) [
          | inl other ↦ absurd (omega (arith, same, other))
          | inr so ↦ absurd (omega (arith, less, so.1))
        ]
      ]
    where
      there : (place : ℕ) (request : Request) → place < length replies → request_at script place ≡ Some request → Contains places place
      there place request within at =
          subst (λ (ps : List ℕ). Contains ps place) (sym is) (Contains-permutation (map (λ (one : ℕ × ℕ). one.1) entries) (map (λ (one : ℕ × ℕ). one.1) sorted) place (IsPermutation-map (λ (one : ℕ × ℕ). one.1) entries sorted moved) (has place request within at))

-- the reply that has the stamp
pub reply_there : (replies : List Reply) (k : ℕ) (stamp : Stamp) → stamp_in replies k ≡ Some stamp → (reply : Reply) × (slice_get replies k ≡ Some reply) × (reply.stamp ≡ Some stamp)
reply_there replies k stamp at = of_option (slice_get replies k) refl at
  where
    of_option : (o : Option Reply) → slice_get replies k ≡ o → option_and_then (λ (reply : Reply). reply.stamp) o ≡ Some stamp → (reply : Reply) × (slice_get replies k ≡ Some reply) × (reply.stamp ≡ Some stamp)
    of_option None is h = cc
    of_option (Some reply) is h = (reply, is, h)

-- The lists that are sorted

module _ {E : Type 0} (f : E → ℕ) where
  -- what was there stays, and what is put in is there
  pub entries_more : (entries new next : List E) (k : ℕ) → next ≡ entries ++ new → (Contains (map f entries) k) ⊎ (map f new ≡ k ∷ []) → Contains (map f next) k
  entries_more entries new next k is (inl before) =
      subst (λ (es : List E). Contains (map f es) k) (sym is) (subst (λ (ks : List ℕ). Contains ks k) (sym (map-append f entries new)) (Contains-append_left (map f entries) (map f new) k before))
  entries_more entries new next k is (inr here) =
      subst (λ (es : List E). Contains (map f es) k) (sym is) (subst (λ (ks : List ℕ). Contains ks k) (sym (map-append f entries new)) (Contains-append_right (map f entries) (map f new) k (subst (λ (ks : List ℕ). Contains ks k) (sym here) (has_head k []))))

-- what the sort sees of a begun request has its place
pub stamp_place : (place : ℕ) (o : Option Stamp) (stamp : Stamp) → o ≡ Some stamp → map (λ (one : ℕ × ℕ × ℕ × ℕ). one.3) (stamp_entry place o) ≡ place ∷ []
stamp_place place None stamp is = absurd (cc)
stamp_place place (Some s) stamp is = refl

-- what the sort of sessions sees of a request has its place, too
pub session_place : (place : ℕ) (o : Option Request) (request : Request) → o ≡ Some request → map (λ (one : ℕ × ℕ). one.1) (session_entry place o) ≡ place ∷ []
session_place place None request is = absurd (cc)
session_place place (Some s) request is = refl
