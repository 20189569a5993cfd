-- If replies have their places, stamps are apart and sessions take turns, each reply is in place.
-- Used by `are_at_places`, `are_surely_in_place`, Topping and TurnSteps.
use Rattle.std.proofs.Common.{◌≡◌, ℕ, zero, suc, ◌<◌, Bool, true, not, ◌&&◌, IsTrue, List, [], ◌∷◌, ◌++◌, append-nil, length, take, get_or, Option, Some, None, eqb, ltb, ◌⊎◌, inl, inr, refl, sym, ap, ◌∙◌, subst, arith}
use Rattle.std.specs.Prelude.{slice_get}
use Rattle.std.specs.List.{AllByRecursion}
use Rattle.std.specs.Option.{option_and_then}
use Rattle.std.proofs.lemmas.Bool.{and_parts, and_from, cases_Bool, eqb-true, or_left, or_right, not_from_false}
use Rattle.std.proofs.lemmas.Option.{slice_get_within}
use Rattle.vector_stamp.specs.declared.clock.Stamp.{Stamp}
use Rattle.vector_stamp.specs.Order.{are_apart}
use Rattle.program_defs.specs.declared.script.Script.{Script}
use Rattle.program_defs.specs.declared.script.Request.{Request}
use Rattle.report_rules.specs.declared.report.Reply.{Reply}
use Rattle.report_rules.specs.Lookups.{is_none_or, are_both, request_at, same_session}
use Rattle.report_rules.specs.RightReport.{is_home_of, is_reply_in_place, stands_after, are_apart_where_begun, are_begun_in_turn}
use Rattle.weave_data.specs.Facts.{AllHold, facts_after, facts_in_turn}
use Rattle.weave_data.proofs.Lists.{append-step, list_all-from}
use Rattle.order_witness.specs.Begun.{stamp_in}
use Rattle.order_witness.specs.Rising.{AreStampsApart, DoSessionsTakeTurns, AreAtPlaces, is_at_place}
use Rattle.order_witness.proofs.Numbered.{the_item}
use Rattle.order_witness.proofs.Replying.{length_front}

-- Facts, place by place

module _ {A : Type 0} (F : List A → A → Type 0) where
  facts_from : (before xs : List A) → ((i : ℕ) (x : A) → slice_get xs i ≡ Some x → F (before ++ take i xs) x) → AllHold (facts_after before F xs)
  facts_from before [] each = tt
  facts_from before (x ∷ xs) each =
      (subst (λ b. F b x) (append-nil before) (each 0 x refl), facts_from (before ++ x ∷ []) xs (λ i y at. subst (λ b. F b y) (append-step before x (take i xs)) (each (suc i) y at)))

  -- if the fact about each element and those before it holds, the facts hold in turn
  pub all_in_turn : (xs : List A) → ((i : ℕ) (x : A) → slice_get xs i ≡ Some x → F (take i xs) x) → AllHold (facts_in_turn F xs)
  all_in_turn xs each = facts_from [] xs each

module _ {A : Type 0} (P : A → Type 0) where
  -- what holds of each element before a place holds of the list up to that place
  pub all_front : (i : ℕ) (xs : List A) → ((k : ℕ) (x : A) → k < i → slice_get xs k ≡ Some x → P x) → AllByRecursion P (take i xs)
  all_front zero xs each = tt
  all_front (suc i) [] each = tt
  all_front (suc i) (x ∷ xs) each = (each 0 x (omega arith) refl, all_front i xs (λ k y below at. each (suc k) y (omega (arith, below)) at))

-- if the replies before place i are at their places and the one there is, all up to it are
pub place_more : (script : Script) (replies : List Reply) (i : ℕ) (item : Reply) → item ≡ get_or replies i item → AreAtPlaces script replies i → IsTrue (is_at_place script i item) → (k : ℕ) (reply : Reply) → (k < i) ⊎ (k ≡ i) → slice_get replies k ≡ Some reply → IsTrue (is_at_place script k reply)
place_more script replies i item is so_far here k reply (inl before) at = so_far k reply before at
place_more script replies i item is so_far here k reply (inr same) at =
    let reply_is : reply ≡ item = the_item replies i item reply is (ap (slice_get replies) (sym same) ∙ at) in
    subst (λ n. IsTrue (is_at_place script n reply)) (sym same) (subst (λ (r : Reply). IsTrue (is_at_place script i r)) (sym reply_is) here)

apart_where : (o p : Option Stamp) → ((s t : Stamp) → o ≡ Some s → p ≡ Some t → IsTrue (are_apart s t)) → IsTrue (are_apart_where_begun o p)
apart_where None p each = refl
apart_where (Some s) None each = refl
apart_where (Some s) (Some t) each = each s t refl refl

-- two requests of one session
pub record AreOfOne (o p : Option Request) : Type 0 where
  pub x : Request
  pub y : Request
  pub first : o ≡ Some x
  pub second : p ≡ Some y
  pub session : x.session ≡ y.session

-- if the test says that two requests are of one session, both are there and of one session
pub of_one : (o p : Option Request) → are_both (λ (x : Request) (y : Request). eqb x.session y.session) o p ≡ true → AreOfOne o p
of_one None p h = cc
of_one (Some x) None h = cc
of_one (Some x) (Some y) h = record { x = x; y = y; first = refl; second = refl; session = eqb-true x.session y.session h }

module _ (script : Script) (replies : List Reply) (at_places : AreAtPlaces script replies (length replies)) (apart : AreStampsApart replies) (turns : DoSessionsTakeTurns script replies) where
  abbrev has_number : ℕ → Reply → Bool
  has_number i reply = eqb reply.request i

  abbrev is_within : Reply → Bool
  is_within reply = ltb reply.request (length script.requests)

  abbrev is_home : Reply → Bool
  is_home reply = is_none_or (is_home_of (request_at script reply.request)) reply.stamp

  here : (i : ℕ) (reply : Reply) → slice_get replies i ≡ Some reply → IsTrue (has_number i reply && is_within reply && is_home reply)
  here i reply at = at_places i reply (slice_get_within replies i reply at) at

  number_is : (i : ℕ) (reply : Reply) → slice_get replies i ≡ Some reply → reply.request ≡ i
  number_is i reply at =
      eqb-true reply.request i (and_parts (has_number i reply) (is_within reply) (and_parts (has_number i reply && is_within reply) (is_home reply) (here i reply at)).0).0

  stamp_is : (i : ℕ) (reply : Reply) → slice_get replies i ≡ Some reply → stamp_in replies i ≡ reply.stamp
  stamp_is i reply at = ap (option_and_then (λ (r : Reply). r.stamp)) at

  stands : (k i : ℕ) (earlier reply : Reply) → k < i → slice_get replies k ≡ Some earlier → slice_get replies i ≡ Some reply → IsTrue (stands_after script reply earlier)
  stands k i earlier reply less at_k at_i =
      and_from _ _
      (apart_where earlier.stamp reply.stamp (λ s t is_s is_t. apart k i s t (λ same. omega (arith, same, less)) (stamp_is k earlier at_k ∙ is_s) (stamp_is i reply at_i ∙ is_t)))
      (elim (cases_Bool (same_session script earlier.request reply.request)) [
        | inr other ↦ or_left _ _ (not_from_false (same_session script earlier.request reply.request) other)
        | inl same ↦
            let one : same_session script k i ≡ true = sym (ap (λ n. same_session script n reply.request) (number_is k earlier at_k) ∙ ap (same_session script k) (number_is i reply at_i)) ∙ same in
            let both = of_one (request_at script k) (request_at script i) one in
            let so = turns k i both.x both.y less (slice_get_within replies i reply at_i) both.first both.second both.session in
            or_right (not (same_session script earlier.request reply.request)) _ (subst (λ o. IsTrue (are_begun_in_turn o reply.stamp)) (stamp_is k earlier at_k) (subst (λ o. IsTrue (are_begun_in_turn (stamp_in replies k) o)) (stamp_is i reply at_i) so))
      ])

  -- if replies have their places, stamps are apart and sessions take turns, each reply is in place
  pub replies_hold : AllHold (facts_in_turn (λ before (reply : Reply). IsTrue (is_reply_in_place script before reply)) replies)
  replies_hold =
      all_in_turn (λ before (reply : Reply). IsTrue (is_reply_in_place script before reply)) replies (λ i reply at.
      let parts = and_parts (has_number i reply && is_within reply) (is_home reply) (here i reply at) in
      let numbered = and_parts (has_number i reply) (is_within reply) parts.0 in
      let number : IsTrue (eqb reply.request (length (take i replies))) = subst (λ n. IsTrue (eqb reply.request n)) (sym (length_front replies i reply at)) numbered.0 in
      and_from _ _ (and_from _ _ (and_from _ _ number numbered.1) parts.1)
      (list_all-from (stands_after script reply) (take i replies) (all_front (λ (earlier : Reply). IsTrue (stands_after script reply earlier)) i replies (λ k earlier below at_k. stands k i earlier reply below at_k at))))
