use Rattle.std.proofs.Common.{ℕ, List, Contains, sym, subst}
use Rattle.order_witness.proofs.RisingSteps.{stamps_apart}
use Rattle.order_witness.proofs.rising.are_stamps_apart.Goals as goal

pub returns : goal.returns
returns c holds =
    stamps_apart (record { irreflexive = c.stamps_are_ordered.ensures.irreflexive; transitive = c.stamps_are_ordered.ensures.transitive }) c.args.replies.now c.as_slice-places.result.now
    (λ place stamp at. subst (λ (ps : List ℕ). Contains ps place) (sym c.as_slice-places.ensures.value) (c.in_ok-parts.ensures place stamp at)) (c.stamps_rise.ensures holds)
