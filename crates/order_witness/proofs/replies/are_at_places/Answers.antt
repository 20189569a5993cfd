use Rattle.std.proofs.Common.{inl, inr, sym, ◌∙◌, arith}
use Rattle.std.proofs.lemmas.Bool.{cases_lt}
use Rattle.order_witness.proofs.InPlace.{place_more}
use Rattle.order_witness.proofs.replies.are_at_places.Goals as goal

pub loop-place-preserved : goal.loop-place-preserved
loop-place-preserved c k reply below at =
    place_more c.args.script.now c.args.replies.now c.loop-place.place c.index-replies-place.result c.index-replies-place.is c.loop-place.invariant (sym c.is_at_place-holds.ensures ∙ c.if-not-holds.false) k reply
    (elim (cases_lt k c.loop-place.place) [
      | inl before ↦ inl before
      | inr last ↦ inr (omega (arith, below, last))
    ]) at

pub returns : goal.returns
returns c holds k reply below at = c.loop-place.invariant k reply (omega (arith, below, c.loop-place-test.false)) at
