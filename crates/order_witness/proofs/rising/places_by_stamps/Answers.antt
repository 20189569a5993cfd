use Rattle.std.proofs.Common.{ap, ◌∙◌, ℕ, List, map}
use Rattle.order_witness.proofs.RisingSteps.{places_moved}
use Rattle.order_witness.proofs.rising.places_by_stamps.Goals as goal

pub returns : goal.returns
returns c place stamp at =
    places_moved c.in_ok-begun.begun.items c.sort_unstable.new.self.items c.in_ok-places.places.items c.sort_unstable.ensures.permutation
    (c.in_ok-places.ensures ∙ ap (λ (es : List (ℕ × ℕ × ℕ × ℕ)). map (λ (one : ℕ × ℕ × ℕ × ℕ). one.3) es) c.as_slice.ensures.value) place (c.in_ok-begun.ensures place stamp at)
