use Rattle.std.proofs.Common.{get_or, refl}
use Rattle.order_witness.proofs.Visiting.{none_among, one_among}
use Rattle.order_witness.proofs.replay.mark_all.Goals as goal

pub loop-place-init : goal.loop-place-init
loop-place-init c = none_among c.args.pairs.now c.args.visits.now c.args.marks.now.items

pub loop-place-preserved : goal.loop-place-preserved
loop-place-preserved c =
    one_among c.args.pairs.now c.args.visits.now c.args.marks.now.items c.args.places.now c.loop-place.place-index (get_or c.args.places.now c.loop-place.place-index 0) c.loop-place.marks.items c.mark_one.new.marks.items
    c.loop-place-test.true refl c.mark_one.ensures.size c.mark_one.ensures.others c.mark_one.ensures.marked c.loop-place.invariant
