-- The pairs of a graph join their ends.
use Rattle.std.proofs.Common.{List, [], ◌∷◌, Contains, inl, inr, subst}
use Rattle.vector_stamp.specs.declared.clock.Stamp.{Stamp}
use Rattle.vector_stamp.specs.Precedence.{GivenPair, JoinsEvents}
use Rattle.order_graph.specs.Building.{ends_of}
use Rattle.weave_data.proofs.Members.{has_none, has_read, has_head, has_tail}

-- the pairs join their ends
pub ends_joined : (pairs : List GivenPair) → JoinsEvents (ends_of pairs) pairs
ends_joined [] a b h = absurd (has_none (a, b) h)
ends_joined (pair ∷ pairs) a b h =
    elim (has_read pair pairs (a, b) h) [
      | inl here ↦ subst (λ (p : GivenPair). Contains (pair.0 ∷ pair.1 ∷ ends_of pairs) p.0
          × Contains (pair.0 ∷ pair.1 ∷ ends_of pairs) p.1) here (
            has_head pair.0 (pair.1 ∷ ends_of pairs),
            has_tail pair.0 (pair.1 ∷ ends_of pairs) pair.1
                (has_head pair.1 (ends_of pairs)),
          )
      | inr there ↦
          let rest = ends_joined pairs a b there in
          (two_more pair a rest.0, two_more pair b rest.1)
    ]
  where
    two_more : (pair : GivenPair) (x : Stamp) → Contains (ends_of pairs) x
        → Contains (pair.0 ∷ pair.1 ∷ ends_of pairs) x
    two_more pair x has = has_tail pair.0 (pair.1 ∷ ends_of pairs) x (has_tail pair.1 (ends_of pairs) x has)
