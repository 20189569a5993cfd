-- The stamps of pairs are both stamps of each pair, and no others.
-- Used by `add`, `ends_are_of_pairs` and Adding.
use Rattle.std.proofs.Common.{◌≡◌, List, [], ◌∷◌, ◌++◌, Contains, ◌⊎◌, inl, inr, refl, ap, subst}
use Rattle.std.proofs.lemmas.List.Elements.{Contains-append_cases}
use Rattle.vector_stamp.specs.declared.clock.Stamp.{Stamp}
use Rattle.vector_stamp.specs.Coherence.{AreCoherent}
use Rattle.vector_stamp.specs.Precedence.{GivenPair, JoinsEvents}
use Rattle.order_graph.specs.Building.{ends_of}
use Rattle.weave_data.proofs.Members.{has_read, has_head, has_tail, has_none}

-- a part of coherent stamps is coherent
abbrev pub PartsAreCoherent : Type 0
PartsAreCoherent = (stamps others : List Stamp) → AreCoherent others → ((stamp : Stamp) → Contains stamps stamp → Contains others stamp) → AreCoherent stamps

-- the stamps of two lists of pairs, one after the other, are those of the first and then those of the second
pub ends-append : (pairs others : List GivenPair) → ends_of (pairs ++ others) ≡ ends_of pairs ++ ends_of others
ends-append [] others = refl
ends-append (pair ∷ pairs) others = ap (λ (stamps : List Stamp). pair.0 ∷ pair.1 ∷ stamps) (ends-append pairs others)

-- both stamps of each pair are among the stamps of the pairs
pub ends_joined : (pairs : List GivenPair) → JoinsEvents (ends_of pairs) pairs
ends_joined [] a b h = absurd (has_none (a, b) h)
ends_joined (pair ∷ pairs) a b h =
    elim (has_read pair pairs (a, b) h) [
      | inl here ↦ subst (λ (p : GivenPair). Contains (pair.0 ∷ pair.1 ∷ ends_of pairs) p.0 × Contains (pair.0 ∷ pair.1 ∷ ends_of pairs) p.1) here (has_head pair.0 (pair.1 ∷ ends_of pairs), has_tail pair.0 (pair.1 ∷ ends_of pairs) pair.1 (has_head pair.1 (ends_of pairs)))
      | inr there ↦
          let rest = ends_joined pairs a b there in
          (two_more pair a rest.0, two_more pair b rest.1)
    ]
  where
    two_more : (pair : GivenPair) (x : Stamp) → Contains (ends_of pairs) x → Contains (pair.0 ∷ pair.1 ∷ ends_of pairs) x
    two_more pair x has = has_tail pair.0 (pair.1 ∷ ends_of pairs) x (has_tail pair.1 (ends_of pairs) x has)

-- a stamp of a pair is one of its two
pub ends_read : (pairs : List GivenPair) (stamp : Stamp) → Contains (ends_of pairs) stamp → (pair : GivenPair) × Contains pairs pair × ((pair.0 ≡ stamp) ⊎ (pair.1 ≡ stamp))
ends_read [] stamp h = absurd (has_none stamp h)
ends_read (pair ∷ pairs) stamp h =
    elim (has_read pair.0 (pair.1 ∷ ends_of pairs) stamp h) [
      | inl earlier ↦ (pair, has_head pair pairs, inl earlier)
      | inr further ↦ elim (has_read pair.1 (ends_of pairs) stamp further) [
        | inl later ↦ (pair, has_head pair pairs, inr later)
        | inr there ↦ let rest = ends_read pairs stamp there in (rest.0, has_tail pair pairs rest.0 rest.1, rest.2)
      ]
    ]

-- two stamps and those of the pairs, if all are among others
pub two_and_ends : PartsAreCoherent → (a b : Stamp) (pairs : List GivenPair) (others : List Stamp) → AreCoherent others → Contains others a → Contains others b → ((stamp : Stamp) → Contains (ends_of pairs) stamp → Contains others stamp) → AreCoherent (a ∷ b ∷ ends_of pairs)
two_and_ends part a b pairs others all in_a in_b among =
    part (a ∷ b ∷ ends_of pairs) others all there
  where
    there : (stamp : Stamp) → Contains (a ∷ b ∷ ends_of pairs) stamp → Contains others stamp
    there stamp h =
        elim (has_read a (b ∷ ends_of pairs) stamp h) [
          | inl first ↦ subst (Contains others) first in_a
          | inr further ↦ elim (has_read b (ends_of pairs) stamp further) [
            | inl second ↦ subst (Contains others) second in_b
            | inr rest ↦ among stamp rest
          ]
        ]

-- if the stamps of pairs are among others, so are those with one more pair, whose two stamps are among the others too
pub ends_among-push : (a b : Stamp) (pairs : List GivenPair) (others : List Stamp) → Contains others a → Contains others b → ((stamp : Stamp) → Contains (ends_of pairs) stamp → Contains others stamp) → (stamp : Stamp) → Contains (ends_of (pairs ++ (a, b) ∷ [])) stamp → Contains others stamp
ends_among-push a b pairs others in_a in_b among stamp h =
    elim (Contains-append_cases (ends_of pairs) (a ∷ b ∷ []) stamp (subst (λ (stamps : List Stamp). Contains stamps stamp) (ends-append pairs ((a, b) ∷ [])) h)) [
      | inl before ↦ among stamp before
      | inr new ↦ elim (has_read a (b ∷ []) stamp new) [
        | inl first ↦ subst (Contains others) first in_a
        | inr further ↦ elim (has_read b [] stamp further) [
          | inl second ↦ subst (Contains others) second in_b
          | inr none ↦ absurd (has_none stamp none)
        ]
      ]
    ]
