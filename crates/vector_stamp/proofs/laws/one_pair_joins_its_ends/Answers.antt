use Rattle.std.proofs.Common.{◌≡◌, List, IsTrue, ◌⊎◌, inl, inr}
use Rattle.std.proofs.lemmas.Bool.{or_cases}
use Rattle.vector_stamp.specs.declared.clock.Stamp.{Stamp}
use Rattle.vector_stamp.specs.Order.{same_stamp}
use Rattle.vector_stamp.specs.Precedence.{GivenPair, precedes}
use Rattle.vector_stamp.proofs.Orders.{same_stamp-is}
use Rattle.vector_stamp.proofs.Closure.{leads, precedes_read}
use Rattle.vector_stamp.proofs.laws.one_pair_joins_its_ends.Goals as goal

leads-cases : (pairs : List GivenPair) (a b : Stamp) → IsTrue (leads pairs a b) → (a ≡ b) ⊎ IsTrue (precedes pairs a b)
leads-cases pairs a b h = elim (or_cases (same_stamp a b) _ h) [ inl same ↦ inl (same_stamp-is a b same) | inr before ↦ inr before ]

pub returns : goal.returns
returns c = λ pair pairs a b h.
    elim (precedes_read pair pairs a b h) [
      | inl before ↦ inl before
      | inr via ↦ inr (leads-cases pairs a pair.0 via.0, leads-cases pairs pair.1 b via.1)
    ]
