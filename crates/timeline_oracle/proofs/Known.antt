-- Which stamps are known after some pairs were added.
-- Used by `first_refused`, `put_before`, `put_one` and `settle`.
use Rattle.std.proofs.Common.{◌≡◌, ◌≢◌, ℕ, false, List, [], ◌∷◌, ◌++◌, All, ap, take, Contains, IsTrue, ◌⊎◌, inl, inr, sym, subst, ◌∙◌}
use Rattle.std.proofs.lemmas.Bool.{and_from, both_ways, false_from_ne_true, not_from_false}
use Rattle.std.proofs.lemmas.List.Elements.{All-contains, Contains-append_left, Contains-append_right, Contains-append_cases}
use Rattle.vector_stamp.specs.declared.clock.Stamp.{Stamp}
use Rattle.vector_stamp.specs.Order.{id_of, stamp_before, unordered}
use Rattle.vector_stamp.specs.Precedence.{GivenPair, IsClosed, precedes}
use Rattle.vector_stamp.specs.Settling.{additions_from, pairs_of}
use Rattle.order_graph.specs.Building.{ends_of, EndsRead}
use Rattle.weave_data.proofs.Members.{has_read, has_head, has_tail, take_has}

-- the laws on the stamps of pairs
abbrev pub EndsAppend : Type 0
EndsAppend = (pairs others : List GivenPair) → ends_of (pairs ++ others) ≡ ends_of pairs ++ ends_of others

abbrev pub OfEarlier : Type 0
OfEarlier = (pairs : List GivenPair) (earlier : List Stamp) (later a b : Stamp) → Contains (pairs_of (additions_from 0 pairs earlier later) later) (a, b) → Contains earlier a × (b ≡ later)

-- events with other ids than the later one are others
pub others_than : (earlier : List Stamp) (later : Stamp) → All (λ event. id_of event ≢ id_of later) earlier → (event : Stamp) → Contains earlier event → event ≢ later
others_than earlier later others event h same = All-contains (λ x. id_of x ≢ id_of later) earlier event others h (ap id_of same)

-- only stamps that are handed in become known
pub ends_after : EndsAppend → EndsRead → OfEarlier → (pairs : List GivenPair) (earlier : List Stamp) (later stamp : Stamp) → Contains (ends_of (pairs ++ pairs_of (additions_from 0 pairs earlier later) later)) stamp → Contains (ends_of pairs) stamp ⊎ Contains (later ∷ earlier) stamp
ends_after appended read of_earlier pairs earlier later stamp h =
    let new = pairs_of (additions_from 0 pairs earlier later) later in
    elim (Contains-append_cases (ends_of pairs) (ends_of new) stamp (subst (λ (stamps : List Stamp). Contains stamps stamp) (appended pairs new) h)) [
      | inl before ↦ inl before
      | inr there ↦
          let pair = read new stamp there in
          let handed = of_earlier pairs earlier later pair.0.0 pair.0.1 pair.1 in
          inr (elim pair.2 [
            | inl first ↦ has_tail later earlier stamp (subst (λ (x : Stamp). Contains earlier x) first handed.0)
            | inr second ↦ subst (λ (x : Stamp). Contains (later ∷ earlier) x) (sym handed.1 ∙ second) (has_head later earlier)
          ])
    ]

-- if the stamps of joined lists are joined, a stamp of the pairs is one of the pairs with others after them
pub ends_stay : EndsAppend → (pairs others : List GivenPair) (stamp : Stamp) → Contains (ends_of pairs) stamp → Contains (ends_of (pairs ++ others)) stamp
ends_stay appended pairs others stamp h = subst (λ (stamps : List Stamp). Contains stamps stamp) (sym (appended pairs others)) (Contains-append_left (ends_of pairs) (ends_of others) stamp h)

-- one of the earlier events, the later one and all that is known in the middle of a call are among what was handed in and was known
pub among_handed : EndsAppend → EndsRead → OfEarlier → (pairs : List GivenPair) (earlier : List Stamp) (n : ℕ) (event later : Stamp) → Contains earlier event → (stamp : Stamp) → Contains (event ∷ later ∷ ends_of (pairs ++ pairs_of (additions_from 0 pairs (take n earlier) later) later)) stamp → Contains (later ∷ earlier ++ ends_of pairs) stamp
among_handed appended read of_earlier pairs earlier n event later has stamp h =
    let known : List Stamp = ends_of (pairs ++ pairs_of (additions_from 0 pairs (take n earlier) later) later) in
    elim (has_read event (later ∷ known) stamp h) [
      | inl first ↦ handed (has_tail later earlier stamp (subst (λ (x : Stamp). Contains earlier x) first has))
      | inr further ↦ elim (has_read later known stamp further) [
        | inl second ↦ handed (subst (λ (x : Stamp). Contains (later ∷ earlier) x) second (has_head later earlier))
        | inr there ↦ elim (ends_after appended read of_earlier pairs (take n earlier) later stamp there) [
          | inl before ↦ Contains-append_right (later ∷ earlier) (ends_of pairs) stamp before
          | inr new ↦ handed (elim (has_read later (take n earlier) stamp new) [
            | inl same ↦ subst (λ (x : Stamp). Contains (later ∷ earlier) x) same (has_head later earlier)
            | inr part ↦ has_tail later earlier stamp (take_has n earlier stamp part)
          ])
        ]
      ]
    ]
  where
    handed : Contains (later ∷ earlier) stamp → Contains (later ∷ earlier ++ ends_of pairs) stamp
    handed g = Contains-append_left (later ∷ earlier) (ends_of pairs) stamp g

-- the later event, an earlier one and what is known
pub among_asked : (pairs : List GivenPair) (earlier : List Stamp) (event later : Stamp) → Contains earlier event → (stamp : Stamp) → Contains (later ∷ event ∷ ends_of pairs) stamp → Contains (later ∷ earlier ++ ends_of pairs) stamp
among_asked pairs earlier event later has stamp h =
    elim (has_read later (event ∷ ends_of pairs) stamp h) [
      | inl first ↦ Contains-append_left (later ∷ earlier) (ends_of pairs) stamp (subst (λ (x : Stamp). Contains (later ∷ earlier) x) first (has_head later earlier))
      | inr further ↦ elim (has_read event (ends_of pairs) stamp further) [
        | inl second ↦ Contains-append_left (later ∷ earlier) (ends_of pairs) stamp (has_tail later earlier stamp (subst (λ (x : Stamp). Contains earlier x) second has))
        | inr known ↦ Contains-append_right (later ∷ earlier) (ends_of pairs) stamp known
      ]
    ]

-- if neither event precedes the other, their stamps leave them unordered
pub left_open : (pairs : List GivenPair) → IsClosed pairs (precedes pairs) → (a b : Stamp) → precedes pairs a b ≡ false → ¬ IsTrue (precedes pairs b a) → IsTrue (unordered a b)
left_open pairs closed a b not_there not_back =
    and_from _ _ (not_from_false (stamp_before a b) (false_from_ne_true (stamp_before a b) (λ h. both_ways (precedes pairs a b) not_there (closed.has_stamps a b h)))) (not_from_false (stamp_before b a) (false_from_ne_true (stamp_before b a) (λ h. not_back (closed.has_stamps b a h))))
