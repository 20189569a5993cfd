use Rattle.std.proofs.Common.{◌≡◌, ℕ, Some, false, get_or, refl, ◌∙◌, subst, arith}
use Rattle.std.specs.Prelude.{slice_get}
use Rattle.graph_ops.specs.Graphs.{plain_of}
use Rattle.report_rules.specs.declared.report.Reply.{Reply}
use Rattle.order_witness.specs.Refusals.{IsMarkedOn}
use Rattle.order_witness.proofs.Marking.{marked_next, either_next, all_marked}
use Rattle.order_witness.proofs.refusal_marks.mark.Goals as goal

pub loop-place-preserved : goal.loop-place-preserved
loop-place-preserved c =
    let script = c.args.script.now in
    let graph = plain_of c.args.graph.now in
    let replies = c.args.replies.now in
    let start = c.args.marks.now.items in
    let old = c.loop-place.marks.items in
    let new = c.mark_one.new.marks.items in
    let p : ℕ = get_or c.args.places.now c.loop-place.place-index 0 in
    let others = c.in_ok-mark_one.ensures.others in
    let here : (reply : Reply) → slice_get replies p ≡ Some reply → IsMarkedOn script graph c.args.after reply.request reply.state (get_or old p false) (get_or new p false) =
    λ reply at. subst (λ g. IsMarkedOn script (plain_of g) c.args.after reply.request reply.state (get_or old p false) (get_or new p false)) c.loop-place.invariant.graph (c.in_ok-mark_one.ensures.marked reply at) in
    record {
      graph = c.in_ok-mark_one.ensures.unchanged ∙ c.loop-place.invariant.graph;
      size = c.in_ok-mark_one.ensures.size ∙ c.loop-place.invariant.size;
      marked = marked_next script graph c.args.after replies start old new p others here c.loop-place.invariant.either c.args.places.now c.loop-place.place-index c.loop-place-test.true refl c.loop-place.invariant.marked;
      either = either_next script graph c.args.after replies start old new p others here c.loop-place.invariant.either;
    }

pub returns-clause-marked : goal.returns-clause-marked
returns-clause-marked c =
    all_marked c.args.script.now (plain_of c.args.graph.now) c.args.after c.args.replies.now c.args.marks.now.items c.args.places.now c.loop-place.place-index c.loop-place.marks.items (omega (arith, c.loop-place-test.false)) c.requires.places c.loop-place.invariant.marked c.loop-place.invariant.either
