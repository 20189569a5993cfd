-- The stamps of pairs, for the judge of the tests: no public contract cites this.
use Rattle.std.proofs.Common.{◌≡◌, List, [], ◌∷◌, ◌++◌, Contains, ◌⊎◌, inl, inr, subst, sym}
use Rattle.std.specs.List.{flat_map}
use Rattle.std.proofs.lemmas.List.Elements.{Contains-append_left, Contains-append_cases}
use Rattle.weave_data.proofs.Members.{has_none, has_read, has_head, has_tail, has_flat}
use Rattle.weave_data.proofs.Ends.{flat_push}
use Rattle.vector_stamp.specs.declared.clock.Stamp.{Stamp}
use Rattle.vector_stamp.specs.Precedence.{GivenPair, JoinsEvents}

-- the two stamps of a pair
abbrev pub ends : GivenPair → List Stamp
ends pair = pair.0 ∷ pair.1 ∷ []

-- each pair joins two of the stamps of the pairs
pub test_ends_joined : (pairs : List GivenPair) → JoinsEvents (flat_map ends pairs) pairs
test_ends_joined pairs a b has = (
  has_flat ends pairs (a, b) a has (has_head a (b ∷ [])),
  has_flat ends pairs (a, b) b has
      (has_tail a (b ∷ []) b (has_head b [])),
)

-- with one more pair no more than its stamps are known
pub ends_more : (pairs now : List GivenPair) (earlier : List Stamp) (event later : Stamp) → earlier ≡ event ∷ []
    → now ≡ pairs ++ (event, later) ∷ [] → (stamp : Stamp) → Contains (flat_map ends now) stamp
    → Contains (flat_map ends pairs) stamp ⊎ Contains (later ∷ earlier) stamp
ends_more pairs now earlier event later alone is stamp has =
    elim (Contains-append_cases (flat_map ends pairs) (event ∷ later ∷ []) stamp
    (subst (λ (xs : List Stamp). Contains xs stamp) (flat_push ends pairs (event, later))
    (subst (λ (ps : List GivenPair). Contains (flat_map ends ps) stamp) is has))) [
      | inl before ↦ inl before
      | inr new ↦ elim (has_read event (later ∷ []) stamp new) [
        | inl same ↦ inr (subst (Contains (later ∷ earlier)) same
            (has_tail later earlier event (subst (λ (xs : List Stamp). Contains xs event) (sym alone)
            (has_head event []))))
        | inr last ↦ elim (has_read later [] stamp last) [
          | inl same ↦ inr (subst (Contains (later ∷ earlier)) same (has_head later earlier))
          | inr none ↦ absurd (has_none stamp none)
        ]
      ]
    ]

-- and none is forgotten
pub ends_stay : (pairs now : List GivenPair) (pair : GivenPair) → now ≡ pairs ++ pair ∷ [] → (stamp : Stamp)
    → Contains (flat_map ends pairs) stamp → Contains (flat_map ends now) stamp
ends_stay pairs now pair is stamp has =
    subst (λ (ps : List GivenPair). Contains (flat_map ends ps) stamp) (sym is)
    (subst (λ (xs : List Stamp). Contains xs stamp) (sym (flat_push ends pairs pair))
    (Contains-append_left (flat_map ends pairs) (ends pair) stamp has))
