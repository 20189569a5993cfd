use Rattle.std.proofs.Common.{◌∙◌, arith}
use Rattle.std.proofs.lemmas.Option.{slice_get_within}
use Rattle.order_witness.proofs.Numbered.{the_item, refused_more}
use Rattle.order_witness.proofs.refusal_marks.refusals_by_number.Goals as goal

pub loop-place-preserved : goal.loop-place-preserved
loop-place-preserved c = record {
  size = c.in_ok-put_refusal.ensures.size ∙ c.loop-place.invariant.size;
  so_far =
      refused_more c.args.replies.now c.loop-place.place c.index-replies-place.result c.loop-place.table c.put_refusal.new.table
      (λ reply at. the_item c.args.replies.now c.loop-place.place c.index-replies-place.result reply c.index-replies-place.is at)
      c.in_ok-put_refusal.ensures.size c.in_ok-put_refusal.ensures.after c.loop-place.invariant.so_far;
}

pub returns : goal.returns
returns c = λ n within place reply at refused.
    c.loop-place.invariant.so_far n place reply (omega (arith, within, c.loop-place.invariant.size)) (omega (arith, slice_get_within c.args.replies.now place reply at, c.loop-place-test.false)) at refused
