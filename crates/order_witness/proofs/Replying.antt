-- What the clause on replies gives: reply i is of request i, and begun requests have stamps apart.
-- Used by `chain_between`, `first_fault`, `order_of`, Acyclic, InPlace, Leading, OneHome, Printing, TakenTurns,
-- Taking, TurnSteps and Visiting.
use Rattle.std.proofs.Common.{◌≡◌, ℕ, zero, suc, ◌<◌, false, ◌||◌, ◌&&◌, IsTrue, List, [], ◌∷◌, ◌++◌, length, take, Option, Some, None, eqb, ltb, inl, inr, refl, sym, ap, ◌∙◌, subst, arith, append-nil}
use Rattle.std.specs.Prelude.{slice_get}
use Rattle.std.specs.List.{list_all}
use Rattle.std.specs.Option.{option_and_then}
use Rattle.std.proofs.lemmas.Bool.{and_parts, both_ways, cases_order, eqb-true, eq-eqb, le-ltb, or_from, and_left, and_right, not_from_true}
use Rattle.std.proofs.lemmas.Option.{same_Some}
use Rattle.vector_stamp.specs.declared.clock.Stamp.{Stamp}
use Rattle.vector_stamp.specs.Order.{are_apart, own_count, stamp_before}
use Rattle.program_defs.specs.declared.script.Script.{Script}
use Rattle.report_rules.specs.declared.report.Report.{Report}
use Rattle.report_rules.specs.declared.report.Reply.{Reply}
use Rattle.weave_data.specs.Facts.{Facts, AllHold, facts_after}
use Rattle.report_rules.specs.RightReport.{is_reply_in_place, stands_after, are_apart_where_begun, replies_clause}
use Rattle.report_rules.specs.Lookups.{stamp_at}
use Rattle.weave_data.proofs.Lists.{append-step}
use Rattle.order_witness.specs.Begun.{StampsDiffer}
use Rattle.order_witness.proofs.Testing.{passes_at}

-- facts at the front of others
pub hold_front : (facts more : Facts) → AllHold (facts ++ more) → AllHold facts
hold_front [] more h = tt
hold_front (Fact ∷ facts) more h = (h.0, hold_front facts more h.1)

module _ {A : Type 0} (F : List A → A → Type 0) where
  -- the fact at a place
  pub fact_of : (before xs : List A) (i : ℕ) (x : A) → AllHold (facts_after before F xs) → slice_get xs i ≡ Some x → F (before ++ take i xs) x
  fact_of before [] i x h at = cc
  fact_of before (y ∷ xs) zero x h at = subst (F (before ++ [])) (same_Some y x at) (subst (λ b. F b y) (sym (append-nil before)) h.0)
  fact_of before (y ∷ xs) (suc i) x h at = subst (λ b. F b x) (sym (append-step before y (take i xs))) (fact_of (before ++ y ∷ []) xs i x h.1 at)

-- the front of a list, as far as a place in it
get_front : {A : Type 0} (xs : List A) (i j : ℕ) → i < j → slice_get (take j xs) i ≡ slice_get xs i
get_front xs i zero lt = absurd (omega (arith, lt))
get_front [] i (suc j) lt = refl
get_front (x ∷ xs) zero (suc j) lt = refl
get_front (x ∷ xs) (suc i) (suc j) lt = get_front xs i j (omega (arith, lt))

-- the elements before a place are as many as its number, counted from 0
pub length_front : {A : Type 0} (xs : List A) (i : ℕ) (x : A) → slice_get xs i ≡ Some x → length (take i xs) ≡ i
length_front [] i x at = cc
length_front (y ∷ xs) zero x at = refl
length_front (y ∷ xs) (suc i) x at = ap suc (length_front xs i x at)

-- a stamp isn't apart from itself
not_apart : (s : Stamp) → are_apart s s ≡ false
not_apart s =
    let none : (ltb s.clock.epoch s.clock.epoch || (eqb s.clock.epoch s.clock.epoch && ltb (own_count s) (own_count s))) ≡ false = or_from _ _ (le-ltb s.clock.epoch s.clock.epoch (omega arith)) (and_right _ _ (le-ltb (own_count s) (own_count s) (omega arith))) in
    or_from _ _ (or_from _ _ (not_from_true _ (eq-eqb s.home s.home refl)) (and_left _ (stamp_before s s) none)) (and_left _ (stamp_before s s) none)

module _ (script : Script) (report : Report) (holds : AllHold (replies_clause script report)) where
  in_place : (i : ℕ) (reply : Reply) → slice_get report.replies i ≡ Some reply → IsTrue (is_reply_in_place script (take i report.replies) reply)
  in_place i reply at = fact_of (λ before (r : Reply). IsTrue (is_reply_in_place script before r)) [] report.replies i reply (hold_front _ _ holds) at

  -- reply i is of request i
  pub is_numbered : (i : ℕ) (reply : Reply) → slice_get report.replies i ≡ Some reply → reply.request ≡ i
  is_numbered i reply at =
      let first = and_parts _ (list_all (stands_after script reply) (take i report.replies)) (in_place i reply at) in
      let second = and_parts (eqb reply.request (length (take i report.replies)) && ltb reply.request (length script.requests)) _ first.0 in
      eqb-true _ _ (and_parts (eqb reply.request (length (take i report.replies))) _ second.0).0 ∙ length_front report.replies i reply at

  -- of two replies the later one is in order after the earlier one
  pub stands_so : (i j : ℕ) (earlier reply : Reply) → i < j → slice_get report.replies i ≡ Some earlier → slice_get report.replies j ≡ Some reply → IsTrue (stands_after script reply earlier)
  stands_so i j earlier reply lt at_i at_j =
      passes_at (stands_after script reply) (take j report.replies) i earlier (and_parts _ (list_all (stands_after script reply) (take j report.replies)) (in_place j reply at_j)).1 (get_front report.replies i j lt ∙ at_i)

  -- the reply whose stamp it is
  pub reply_of : (r : ℕ) (s : Stamp) → stamp_at report r ≡ Some s → (reply : Reply) × (slice_get report.replies r ≡ Some reply) × (reply.stamp ≡ Some s)
  reply_of r s at = of_option (slice_get report.replies r) refl at
    where
      of_option : (o : Option Reply) → slice_get report.replies r ≡ o → option_and_then (λ (reply : Reply). reply.stamp) o ≡ Some s → (reply : Reply) × (slice_get report.replies r ≡ Some reply) × (reply.stamp ≡ Some s)
      of_option None is h = cc
      of_option (Some reply) is h = (reply, is, h)

  -- of two begun requests the stamps are apart
  pub apart_so : (a b : ℕ) (s t : Stamp) → a < b → stamp_at report a ≡ Some s → stamp_at report b ≡ Some t → IsTrue (are_apart s t)
  apart_so a b s t lt at_a at_b =
      let first = reply_of a s at_a in
      let second = reply_of b t at_b in
      let both : IsTrue (are_apart_where_begun first.0.stamp second.0.stamp) = (and_parts (are_apart_where_begun first.0.stamp second.0.stamp) _ (stands_so a b first.0 second.0 lt first.1 second.1)).0 in
      sym (ap (λ o. are_apart_where_begun o second.0.stamp) first.2 ∙ ap (are_apart_where_begun (Some s)) second.2) ∙ both

  -- so no two begun requests have the same stamp
  pub differ : StampsDiffer report
  differ a b s at_a at_b =
      elim (cases_order a b) [
        | inl same ↦ same
        | inr other ↦ elim other [
          | inl less ↦ absurd (both_ways _ (not_apart s) (apart_so a b s s less at_a at_b))
          | inr more ↦ absurd (both_ways _ (not_apart s) (apart_so b a s s more at_b at_a))
        ]
      ]
