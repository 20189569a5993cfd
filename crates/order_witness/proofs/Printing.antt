-- The requests taken in turn are the printed order.
-- Used by `take_all`, Leading, Listed, TakenTurns, Taking and Topping.
use Rattle.std.proofs.Common.{◌≡◌, ℕ, suc, ◌<◌, ◌≤◌, Bool, true, false, not, cond, IsTrue, List, [], ◌∷◌, ◌++◌, length, Option, Some, None, eqb, ◌⊎◌, inl, inr, refl, sym, ap, ◌∙◌, subst, arith}
use Rattle.std.specs.Prelude.{nat_eq, slice_get}
use Rattle.std.specs.List.{list_any, filter, cons_option, AllByRecursion}
use Rattle.std.specs.Option.{option_and_then, option_map}
use Rattle.std.proofs.lemmas.Bool.{both_ways, or_cases, or_left, or_right, or_from, cases_Bool, cases_eq, cases_lt, not-true, not_from_false, false_from_ne_true, eqb-true, eq-eqb, ne_eqb}
use Rattle.vector_stamp.specs.declared.clock.Stamp.{Stamp}
use Rattle.vector_stamp.specs.Order.{stamp_before}
use Rattle.vector_stamp.specs.Precedence.{Precedes, ByStamps}
use Rattle.program_defs.specs.declared.script.Script.{Script}
use Rattle.report_rules.specs.declared.report.Report.{Report}
use Rattle.report_rules.specs.declared.report.Reply.{Reply}
use Rattle.weave_data.specs.Facts.{AllHold}
use Rattle.report_rules.specs.RightReport.{replies_clause}
use Rattle.report_rules.specs.PrintedOrder.{IsFree, IsOfLesserHome, IsNext, without_request, TakesAll}
use Rattle.report_rules.specs.Lookups.{is_in, AreBoth, stamp_at, given_pairs, RequestPrecedes}
use Rattle.report_rules.proofs.Precedence.{IsDecided}
use Rattle.order_witness.specs.Preceding.{Test, IsTransitive}
use Rattle.order_witness.specs.Begun.{request_precedes}
use Rattle.order_witness.specs.Choices.{IsBest, requests_begun, is_free, home_in, home_at}
use Rattle.order_witness.proofs.BegunLaws.{AreClosed, trans}
use Rattle.order_witness.proofs.OneHome.{one_home}
use Rattle.order_witness.proofs.Testing.{way, tested}
use Rattle.order_witness.proofs.Replying.{is_numbered}

-- Lists of numbers

module _ (P : ℕ → Type 0) where
  -- what holds of all numbers of a list holds of each one in it
  pub all_at : (xs : List ℕ) (r : ℕ) → AllByRecursion P xs → IsTrue (is_in r xs) → P r
  all_at [] r h there = cc
  all_at (x ∷ xs) r h there = elim (or_cases (nat_eq r x) _ there) [ inl here ↦ subst P (sym (eqb-true r x here)) h.0 | inr later ↦ all_at xs r h.1 later ]

  -- what holds of each number in a list holds of all of it
  pub all_from : (xs : List ℕ) → ((r : ℕ) → IsTrue (is_in r xs) → P r) → AllByRecursion P xs
  all_from [] f = tt
  all_from (x ∷ xs) f = (f x (or_left _ _ (eq-eqb x x refl)), all_from xs (λ r there. f r (or_right (nat_eq r x) _ there)))

-- a number in a list that passes the test makes the test of any true
pub any_in : (test : ℕ → Bool) (xs : List ℕ) (r : ℕ) → IsTrue (is_in r xs) → IsTrue (test r) → IsTrue (list_any test xs)
any_in test [] r there is = cc
any_in test (x ∷ xs) r there is = elim (or_cases (nat_eq r x) _ there) [ inl here ↦ or_left _ _ (ap test (sym (eqb-true r x here)) ∙ is) | inr later ↦ or_right (test x) _ (any_in test xs r later is) ]

any_more : (p q : ℕ → Bool) → ((x : ℕ) → IsTrue (p x) → IsTrue (q x)) → (xs : List ℕ) → IsTrue (list_any p xs) → IsTrue (list_any q xs)
any_more p q f [] h = cc
any_more p q f (x ∷ xs) h = elim (or_cases (p x) _ h) [ inl here ↦ or_left _ _ (f x here) | inr later ↦ or_right (q x) _ (any_more p q f xs later) ]

-- a request of a list that passes a test is among those of the list that pass it
pub kept_in : (test : ℕ → Bool) (xs : List ℕ) (r : ℕ) → IsTrue (is_in r xs) → IsTrue (test r) → IsTrue (is_in r (filter test xs))
kept_in test [] r h g = h
kept_in test (x ∷ xs) r h g =
    elim (or_cases (nat_eq r x) _ h) [
      | inl here ↦ subst (λ b. IsTrue (is_in r (cond b (x ∷ filter test xs) (filter test xs)))) (sym (ap test (sym (eqb-true r x here)) ∙ g)) (or_left _ _ here)
      | inr later ↦ of_test (test x) (kept_in test xs r later g)
    ]
  where
    of_test : (b : Bool) → IsTrue (is_in r (filter test xs)) → IsTrue (is_in r (cond b (x ∷ filter test xs) (filter test xs)))
    of_test true there = or_right (nat_eq r x) _ there
    of_test false there = there

at_most_as_long : (test : ℕ → Bool) (xs : List ℕ) → length (filter test xs) ≤ length xs
at_most_as_long test [] = omega arith
at_most_as_long test (x ∷ xs) = elim (test x) as (λ b. length (cond b (x ∷ filter test xs) (filter test xs)) ≤ suc (length xs)) [ true ↦ omega (arith, at_most_as_long test xs) | false ↦ omega (arith, at_most_as_long test xs) ]

-- without one of them there are fewer
pub shorter : (r : ℕ) (xs : List ℕ) → IsTrue (is_in r xs) → length (without_request r xs) < length xs
shorter r [] there = cc
shorter r (x ∷ xs) there =
    elim (cases_eq x r) [
      | inl same ↦
          subst (λ b. length (cond (not b) (x ∷ without_request r xs) (without_request r xs)) < suc (length xs)) (sym (eq-eqb x r same)) (omega (arith, at_most_as_long (λ other. not (eqb other r)) xs))
      | inr other ↦
          subst (λ b. length (cond (not b) (x ∷ without_request r xs) (without_request r xs)) < suc (length xs)) (sym (ne_eqb x r other))
          (omega (arith, shorter r xs (elim (or_cases (nat_eq r x) _ there) [ inl here ↦ absurd (other (sym (eqb-true r x here))) | inr later ↦ later ])))
    ]

module _ (report : Report) where
  -- the request has a stamp
  abbrev pub IsBegun : ℕ → Type 0
  IsBegun r = (s : Stamp) × (stamp_at report r ≡ Some s)

  -- these requests are taken in turn, and then those remain
  abbrev pub AreTaken : List ℕ → List ℕ → List ℕ → Type 0
  AreTaken start [] remaining = remaining ≡ start
  AreTaken start (r ∷ taken) remaining = IsNext report start r × AreTaken (without_request r start) taken remaining

  -- if requests are taken in turn, and one is the next of those that remain, it is taken and the others remain
  pub taken_more : (start taken remaining : List ℕ) (r : ℕ) → AreTaken start taken remaining → IsNext report remaining r → AreTaken start (taken ++ r ∷ []) (without_request r remaining)
  taken_more start [] remaining r h next = (subst (λ (xs : List ℕ). IsNext report xs r) h next, ap (without_request r) h)
  taken_more start (x ∷ taken) remaining r h next = (h.0, taken_more (without_request x start) taken remaining r h.1 next)

  -- if requests are taken in turn and then none remains, all are taken
  pub all_taken : (start taken remaining : List ℕ) → AreTaken start taken remaining → remaining ≡ [] → TakesAll report start taken
  all_taken start [] remaining h none = sym h ∙ none
  all_taken start (r ∷ taken) remaining h none = (h.0, all_taken (without_request r start) taken remaining h.1 none)

  begun_of : (r : ℕ) (s : Option Stamp) (rest : List ℕ) → ((stamp : Stamp) → s ≡ Some stamp → IsBegun r) → AllByRecursion IsBegun rest → AllByRecursion IsBegun (cons_option (option_map (λ (stamp : Stamp). r) s) rest)
  begun_of r None rest f h = h
  begun_of r (Some stamp) rest f h = (f stamp refl, h)

  begun_each : (replies : List Reply) → ((i : ℕ) (reply : Reply) (s : Stamp) → slice_get replies i ≡ Some reply → reply.stamp ≡ Some s → IsBegun reply.request) → AllByRecursion IsBegun (requests_begun replies)
  begun_each [] f = tt
  begun_each (reply ∷ replies) f = begun_of reply.request reply.stamp (requests_begun replies) (λ s is. f 0 reply s refl is) (begun_each replies (λ i r s at is. f (suc i) r s at is))

module _ (script : Script) (report : Report) (holds : AllHold (replies_clause script report)) where
  -- the begun requests have stamps
  pub all_begun : AllByRecursion (IsBegun report) (requests_begun report.replies)
  all_begun = begun_each report report.replies (λ i reply s at is. (s, ap (stamp_at report) (is_numbered script report holds i reply at) ∙ ap (option_and_then (λ (r : Reply). r.stamp)) at ∙ is))

  module _ (decided : IsDecided) (all_closed : AreClosed) (precedence : Test) (same : (a b : ℕ) → precedence a b ≡ request_precedes report a b) where
    transitive : IsTransitive precedence
    transitive a b c g h = same a c ∙ trans report all_closed a b c (sym (same a b) ∙ g) (sym (same b c) ∙ h)

    -- The best one is the next

    free_fact : (xs : List ℕ) (r : ℕ) → IsTrue (is_free precedence xs r) → IsFree report xs r
    free_fact xs r h = all_from (λ other. ¬ RequestPrecedes report other r) xs (λ other there before. both_ways _ (not-true _ h) (any_in (λ o. precedence o r) xs other there (tested decided script report precedence same other r before)))

    free_test : (xs : List ℕ) (r : ℕ) → IsFree report xs r → IsTrue (is_free precedence xs r)
    free_test xs r h = not_from_false _ (none_before xs h)
      where
        none_before : (ys : List ℕ) → AllByRecursion (λ other. ¬ RequestPrecedes report other r) ys → list_any (λ other. precedence other r) ys ≡ false
        none_before [] g = refl
        none_before (y ∷ ys) g = or_from _ _ (false_from_ne_true _ (λ before. g.0 (way decided script report precedence same y r before))) (none_before ys g.1)

    by_stamps : (a b : ℕ) (s t : Stamp) → stamp_at report a ≡ Some s → stamp_at report b ≡ Some t → IsTrue (stamp_before s t) → RequestPrecedes report a b
    by_stamps a b s t at_a at_b before =
        subst (λ o. AreBoth (Precedes (given_pairs report)) o (stamp_at report b)) (sym at_a) (subst (λ o. AreBoth (Precedes (given_pairs report)) (Some s) o) (sym at_b) (ByStamps s t before))

    -- of two begun requests of one home one precedes the other
    ordered : (a b : ℕ) (s t : Stamp) → (a ≡ b → ⊥) → stamp_at report a ≡ Some s → stamp_at report b ≡ Some t → s.home ≡ t.home → RequestPrecedes report a b ⊎ RequestPrecedes report b a
    ordered a b s t differ at_a at_b home =
        elim (one_home report script holds a b s t at_a at_b differ home) [
          | inl first ↦ inl (by_stamps a b s t at_a at_b first.1)
          | inr second ↦ inr (by_stamps b a t s at_b at_a second.1)
        ]

    lesser : (a b : ℕ) (s t : Stamp) → stamp_at report a ≡ Some s → stamp_at report b ≡ Some t → s.home < t.home → IsOfLesserHome report a b
    lesser a b s t at_a at_b less =
        subst (λ o. AreBoth (λ (x : Stamp) (y : Stamp). x.home < y.home) o (stamp_at report b)) (sym at_a) (subst (λ o. AreBoth (λ (x : Stamp) (y : Stamp). x.home < y.home) (Some s) o) (sym at_b) less)

    -- of begun requests that remain, the best one is the next to be taken
    pub is_next : (remaining : List ℕ) (best : ℕ) → AllByRecursion (IsBegun report) remaining → IsBest report precedence remaining remaining (Some best) → IsNext report remaining best
    is_next remaining best begun h = record {
      remains = h.0;
      free = free_fact remaining best h.1;
      least = all_from _ remaining (λ other there differ free.
          let s = all_at (IsBegun report) remaining best begun h.0 in
          let t = all_at (IsBegun report) remaining other begun there in
          let apart : best ≡ other → ⊥ = λ is. both_ways _ (not-true _ differ) (eq-eqb other best (sym is)) in
          let at_most : home_at report best ≤ home_at report other = all_at (λ r. IsTrue (is_free precedence remaining r) → home_at report best ≤ home_at report r) remaining other h.2 there (free_test remaining other free) in
          let homes : s.0.home ≤ t.0.home = omega (arith, at_most, ap home_in s.1, ap home_in t.1) in
          elim (cases_lt s.0.home t.0.home) [
            | inl less ↦ lesser best other s.0 t.0 s.1 t.1 less
            | inr not_less ↦ absurd (elim (ordered best other s.0 t.0 apart s.1 t.1 (omega (arith, homes, not_less))) [
              | inl before ↦ all_at (λ r. ¬ RequestPrecedes report r other) remaining best free h.0 before
              | inr after ↦ all_at (λ r. ¬ RequestPrecedes report r best) remaining other (free_fact remaining best h.1) there after
            ])
          ]);
    }

    module _ (acyclic : (r : ℕ) → ¬ RequestPrecedes report r r) where
      never_itself : (r : ℕ) → precedence r r ≡ false
      never_itself r = false_from_ne_true _ (λ h. acyclic r (way decided script report precedence same r r h))

      -- Of requests that are there one is free

      record SomeFree (xs : List ℕ) : Type 0 where
        pub m : ℕ
        pub there : IsTrue (is_in m xs)
        pub none : list_any (λ other. precedence other m) xs ≡ false

      some_free : (x : ℕ) (xs : List ℕ) → SomeFree (x ∷ xs)
      some_free x [] = record { m = x; there = or_left _ _ (eq-eqb x x refl); none = or_from _ _ (never_itself x) refl }
      some_free x (y ∷ ys) =
          let rest = some_free y ys in
          elim (cases_Bool (precedence x rest.m)) [
            | inr none ↦ record { m = rest.m; there = or_right (nat_eq rest.m x) _ rest.there; none = or_from _ _ none rest.none }
            | inl before ↦ record {
              m = x;
              there = or_left _ _ (eq-eqb x x refl);
              none = or_from _ _ (never_itself x) (false_from_ne_true _ (λ h. both_ways _ rest.none (any_more (λ other. precedence other x) (λ other. precedence other rest.m) (λ other g. transitive other x rest.m g before) (y ∷ ys) h)));
            }
          ]

      -- if no request of a list is free, the list is empty
      pub none_left : (xs : List ℕ) → AllByRecursion (λ r. is_free precedence xs r ≡ false) xs → xs ≡ []
      none_left [] h = refl
      none_left (x ∷ xs) h =
          let free = some_free x xs in
          absurd (both_ways _ (all_at (λ r. is_free precedence (x ∷ xs) r ≡ false) (x ∷ xs) free.m h free.there) (not_from_false _ free.none))

-- What is taken in turn doesn't precede itself

module _ (report : Report) where
  -- if requests are taken in turn until none remains, none of them precedes itself
  pub taken_itself : (taken start : List ℕ) → TakesAll report start taken → (r : ℕ) → IsTrue (is_in r start) → ¬ RequestPrecedes report r r
  taken_itself [] start h r there before = absurd (let none : is_in r start ≡ false = ap (is_in r) h in both_ways _ none there)
  taken_itself (x ∷ taken) start h r there before =
      elim (cases_eq r x) [
        | inl same ↦ all_at (λ other. ¬ RequestPrecedes report other x) start x h.0.free h.0.remains (subst (λ n. RequestPrecedes report n n) same before)
        | inr other ↦ taken_itself taken (without_request x start) h.1 r (kept_in (λ n. not (eqb n x)) start r there (not_from_false _ (ne_eqb r x other))) before
      ]
