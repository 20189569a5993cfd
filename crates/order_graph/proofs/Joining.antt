-- A frontier joined gatekeeper by gatekeeper has the later one of the two events of each.
-- Used by `join`, `precedes`, Adding and Frontiers.
use Rattle.std.proofs.Common.{◌≡◌, ℕ, zero, suc, ◌+◌, ◌<◌, ◌≤◌, false, List, [], ◌∷◌, length, slice_set, Option, Some, None, ◌⊎◌, inl, inr, refl, sym, ap, subst, ◌∙◌, arith, Contains, IsTrue}
use Rattle.std.specs.List.{zip}
use Rattle.std.proofs.lemmas.Bool.{cases_Bool, cases_lt, cases_eq, or_cases, or_left, or_right, both_ways, cond-true, cond-false}
use Rattle.std.proofs.lemmas.Option.{none-some, same_Some}
use Rattle.std.proofs.lemmas.List.{get_or-map, length-map, length-set, same_lists, get_or-set_same, get_or-set_other, get_or_past, get_or_default}
use Rattle.std.proofs.lemmas.Slice.Zip.{length-zip, get_or-zip}
use Rattle.vector_stamp.specs.declared.clock.Stamp.{Stamp}
use Rattle.vector_stamp.specs.Order.{stamp_before}
use Rattle.vector_stamp.specs.Coherence.{AreCoherent}
use Rattle.order_graph.specs.Frontiers.{at_or_before, later_of, latest_of, joined_frontiers, is_up_to_event, is_up_to_frontier, StampOrderLaws}
use Rattle.order_graph.proofs.Orders.{AreApart, at_from, at-trans, not_at}

-- each event is of its gatekeeper, and one of these stamps
abbrev pub AreOwn : List Stamp → List (Option Stamp) → Type 0
AreOwn stamps frontier = (gate : ℕ) (latest : Stamp) → latest_of frontier gate ≡ Some latest → (latest.home ≡ gate) × Contains stamps latest

-- up to a gatekeeper each event is the later of two, and those after it are the first ones
pub record IsJoinedBelow (gate : ℕ) (old other new : List (Option Stamp)) : Type 0 where
  pub eight : length new ≡ 8
  pub each : (k : ℕ) → k < gate → latest_of new k ≡ later_of (latest_of old k) (latest_of other k)
  pub rest : (k : ℕ) → gate ≤ k → latest_of new k ≡ latest_of old k

-- two frontiers of eight gatekeepers, joined, are of eight
pub length-joined : (xs ys : List (Option Stamp)) → length xs ≡ 8 → length ys ≡ 8 → length (joined_frontiers xs ys) ≡ 8
length-joined xs ys e f = simp (length-map, length-zip, e, f)

-- of each of the eight gatekeepers the joined frontier has the later one of the two events
pub joined_within : (xs ys : List (Option Stamp)) (k : ℕ) → length xs ≡ 8 → length ys ≡ 8 → k < 8 → latest_of (joined_frontiers xs ys) k ≡ later_of (latest_of xs k) (latest_of ys k)
joined_within xs ys k e f below =
    get_or-map (λ (pair : Option Stamp × Option Stamp). later_of pair.0 pair.1) (zip xs ys) k (None, None) None (omega (arith, length-zip xs ys))
    ∙ ap (λ (pair : Option Stamp × Option Stamp). later_of pair.0 pair.1) (get_or-zip xs ys k (None, None) (omega arith) (omega arith))

-- the same of any number, also past the eighth gatekeeper
pub joined_at : (xs ys : List (Option Stamp)) (k : ℕ) → length xs ≡ 8 → length ys ≡ 8 → latest_of (joined_frontiers xs ys) k ≡ later_of (latest_of xs k) (latest_of ys k)
joined_at xs ys k e f =
    elim (cases_lt k 8) [
      | inl below ↦ joined_within xs ys k e f below
      | inr past ↦
          rw (get_or_past (joined_frontiers xs ys) k None (let long = length-joined xs ys e f in omega arith), get_or_past xs k None (omega arith), get_or_past ys k None (omega arith)) refl
    ]

-- joined below a gatekeeper, and then with the later event put in at it, a frontier is joined below the next one
pub joined_more : (old other new : List (Option Stamp)) (gate : ℕ) (next : Option Stamp) → gate < 8 → next ≡ later_of (latest_of new gate) (latest_of other gate) → IsJoinedBelow gate old other new → IsJoinedBelow (gate + 1) old other (slice_set new gate next)
joined_more old other new gate next below is so_far =
    record {
      eight = length-set _ _ _ ∙ so_far.eight;
      each = λ k within. elim (cases_eq k gate) [
        | inl here ↦ subst (λ m. latest_of (slice_set new gate next) m ≡ later_of (latest_of old m) (latest_of other m)) (sym here) (get_or-set_same new gate next None (omega (arith, so_far.eight)) ∙ is ∙ ap (λ x. later_of x (latest_of other gate)) (so_far.rest gate (omega arith)))
        | inr there ↦ get_or-set_other new gate k next None there ∙ so_far.each k (omega (arith, there))
      ];
      rest = λ k after. get_or-set_other new gate k next None (λ same. omega (arith, same)) ∙ so_far.rest k (omega arith);
    }

-- a frontier that is joined below all eight gatekeepers is the join of the two
pub joined_all : (old other new : List (Option Stamp)) (gate : ℕ) → length old ≡ 8 → length other ≡ 8 → 8 ≤ gate → IsJoinedBelow gate old other new → new ≡ joined_frontiers old other
joined_all old other new gate e f all so_far =
    same_lists new (joined_frontiers old other) (so_far.eight ∙ sym (length-joined old other e f)) (λ k d within.
    let below : k < 8 = omega (arith, so_far.eight) in
    get_or_default new k d None within ∙ so_far.each k (omega arith) ∙ sym (joined_within old other k e f below) ∙ get_or_default (joined_frontiers old other) k None d (omega (arith, length-joined old other e f)))

-- a stamp that is at or before the latest stamp of a frontier at one gatekeeper is up to the frontier
pub covers_at : (frontier : List (Option Stamp)) (stamp : Stamp) (gate : ℕ) (latest : Stamp) → latest_of frontier gate ≡ Some latest → IsTrue (at_or_before stamp latest) → IsTrue (is_up_to_frontier frontier stamp)
covers_at [] stamp gate latest is h = absurd (none-some latest is)
covers_at (one ∷ others) stamp zero latest is h = or_left (is_up_to_event stamp one) _ (subst (λ o. IsTrue (is_up_to_event stamp o)) (sym is) h)
covers_at (one ∷ others) stamp (suc gate) latest is h = or_right (is_up_to_event stamp one) _ (covers_at others stamp gate latest is h)

-- an event by which a stamp is covered
abbrev pub CoveredBy : List (Option Stamp) → Stamp → Type 0
CoveredBy frontier stamp = (gate : ℕ) × (latest : Stamp) × (latest_of frontier gate ≡ Some latest) × IsTrue (at_or_before stamp latest)

-- what a frontier covers is at or before the event of some gatekeeper in it
pub covered : (frontier : List (Option Stamp)) (stamp : Stamp) → IsTrue (is_up_to_frontier frontier stamp) → CoveredBy frontier stamp
covered [] stamp h = absurd (cc)
covered (None ∷ others) stamp h = let rest = covered others stamp h in (suc rest.0, rest.1, rest.2, rest.3)
covered (Some one ∷ others) stamp h =
    elim (or_cases (at_or_before stamp one) _ h) [
      | inl here ↦ (zero, one, refl, here)
      | inr there ↦ let rest = covered others stamp there in (suc rest.0, rest.1, rest.2, rest.3)
    ]

-- the later of two is one of them
pub later_is : (a b : Option Stamp) (stamp : Stamp) → later_of a b ≡ Some stamp → (a ≡ Some stamp) ⊎ (b ≡ Some stamp)
later_is a None stamp is = inl is
later_is None (Some b) stamp is = inr is
later_is (Some a) (Some b) stamp is =
    elim (cases_Bool (stamp_before a b)) [
      | inl before ↦ inr (sym (cond-true (stamp_before a b) (Some b) (Some a) before) ∙ is)
      | inr not_before ↦ inl (sym (cond-false (stamp_before a b) (Some b) (Some a) not_before) ∙ is)
    ]

-- what the later of two reaches
abbrev pub Reached : Option Stamp → Stamp → Type 0
Reached latest stamp = (other : Stamp) × (latest ≡ Some other) × IsTrue (at_or_before stamp other)

module _ (laws : StampOrderLaws) where
  later_left : (a b : Option Stamp) (stamp latest : Stamp) → a ≡ Some latest → IsTrue (at_or_before stamp latest) → Reached (later_of a b) stamp
  later_left a None stamp latest is h = (latest, is, h)
  later_left None (Some b) stamp latest is h = absurd (none-some latest is)
  later_left (Some a) (Some b) stamp latest is h =
      let here : IsTrue (at_or_before stamp a) = subst (λ x. IsTrue (at_or_before stamp x)) (sym (same_Some a latest is)) h in
      elim (cases_Bool (stamp_before a b)) [
        | inl before ↦ (b, cond-true (stamp_before a b) (Some b) (Some a) before, at-trans laws stamp a b here (at_from laws a b before))
        | inr not_before ↦ (a, cond-false (stamp_before a b) (Some b) (Some a) not_before, here)
      ]

  later_right : (a b : Option Stamp) (stamp latest : Stamp) → ((x y : Stamp) → a ≡ Some x → b ≡ Some y → stamp_before x y ≡ false → IsTrue (at_or_before y x)) → b ≡ Some latest → IsTrue (at_or_before stamp latest) → Reached (later_of a b) stamp
  later_right a None stamp latest turn is h = absurd (none-some latest is)
  later_right None (Some b) stamp latest turn is h = (latest, is, h)
  later_right (Some a) (Some b) stamp latest turn is h =
      let here : IsTrue (at_or_before stamp b) = subst (λ x. IsTrue (at_or_before stamp x)) (sym (same_Some b latest is)) h in
      elim (cases_Bool (stamp_before a b)) [
        | inl before ↦ (b, cond-true (stamp_before a b) (Some b) (Some a) before, here)
        | inr not_before ↦ (a, cond-false (stamp_before a b) (Some b) (Some a) not_before, at-trans laws stamp b a here (turn a b refl refl not_before))
      ]

  -- two frontiers, each event of its gatekeeper and of coherent stamps
  module _ (apart : AreApart) (stamps : List Stamp) (all : AreCoherent stamps) (xs ys : List (Option Stamp)) (eight : length xs ≡ 8) (eight' : length ys ≡ 8) where
    -- an event of the joined frontier is one of the first or of the second
    pub joined_reads : (gate : ℕ) (latest : Stamp) → latest_of (joined_frontiers xs ys) gate ≡ Some latest → (latest_of xs gate ≡ Some latest) ⊎ (latest_of ys gate ≡ Some latest)
    joined_reads gate latest is = later_is (latest_of xs gate) (latest_of ys gate) latest (sym (joined_at xs ys gate eight eight') ∙ is)

    reached_joined : (gate : ℕ) (stamp : Stamp) → Reached (later_of (latest_of xs gate) (latest_of ys gate)) stamp → IsTrue (is_up_to_frontier (joined_frontiers xs ys) stamp)
    reached_joined gate stamp (other, is, h) = covers_at (joined_frontiers xs ys) stamp gate other (joined_at xs ys gate eight eight' ∙ is) h

    -- what the first frontier covers, the joined one covers
    pub covered_left : (stamp : Stamp) → IsTrue (is_up_to_frontier xs stamp) → IsTrue (is_up_to_frontier (joined_frontiers xs ys) stamp)
    covered_left stamp h =
        let by : CoveredBy xs stamp = covered xs stamp h in
        reached_joined by.0 stamp (later_left (latest_of xs by.0) (latest_of ys by.0) stamp by.1 by.2 by.3)

    -- and what the second one covers, if the events of both are of their gatekeepers and among the coherent stamps
    pub covered_right : AreOwn stamps xs → AreOwn stamps ys → (stamp : Stamp) → IsTrue (is_up_to_frontier ys stamp) → IsTrue (is_up_to_frontier (joined_frontiers xs ys) stamp)
    covered_right own own' stamp h =
        let by : CoveredBy ys stamp = covered ys stamp h in
        reached_joined by.0 stamp (later_right (latest_of xs by.0) (latest_of ys by.0) stamp by.1 (λ x y is is' not_before.
        elim (cases_Bool (at_or_before y x)) [
          | inl at ↦ at
          | inr not_yet ↦ absurd (both_ways _ not_before (not_at laws apart stamps all y x (own' by.0 y is').1 (own by.0 x is).1 ((own' by.0 y is').0 ∙ sym (own by.0 x is).0) not_yet))
        ]) by.2 by.3)
