use Rattle.std.proofs.Common.{sym, ◌∙◌, arith}
use Rattle.order_witness.specs.Rising.{request_comes_before}
use Rattle.order_witness.proofs.RisingSteps.{in_turn_more, neighbours_at}
use Rattle.order_witness.proofs.rising.stamps_rise.Goals as goal

pub loop-next-preserved : goal.loop-next-preserved
loop-next-preserved c =
    in_turn_more (request_comes_before c.args.replies.now) c.args.places.now c.loop-next.next c.loop-next.invariant
    (λ k last. neighbours_at (request_comes_before c.args.replies.now) c.args.places.now c.loop-next.next k last (sym c.request_comes_before-in_turn.ensures ∙ c.if-not-in_turn.false))

pub returns : goal.returns
returns c holds k below = c.loop-next.invariant k (omega (arith, below, c.loop-next-test.false))
