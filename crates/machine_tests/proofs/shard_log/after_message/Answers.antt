use Rattle.std.proofs.Common.{◌≡◌, ◌+◌, ◌∷◌, List, suc, drop, sym, ap, ◌∙◌, arith, drop-cons}
use Rattle.graph_ops.specs.declared.op.Op.{Op}
use Rattle.graph_ops.specs.VertexOps.{state_after_ops}
use Rattle.machine_tests.proofs.LogSteps.{part-of, part-else}
use Rattle.machine_tests.proofs.shard_log.after_message.Goals as goal
use Rattle.machine_tests.proofs.shard_log.after_message.Goals.{then-eq, else-eq}

pub loop-part-preserved : goal.loop-part-preserved
loop-part-preserved g c =
    let parts = c.as_slice-part-items.result.now in
    let i = c.loop-part.part-index in
    let one = c.part-item.result in
    let step : suc i ≡ i + 1 = omega arith in
    let next : drop i parts ≡ one ∷ drop (i + 1) parts = drop-cons parts i one c.loop-part-test.true ∙ (λ k. sym c.part-item.is k ∷ drop (step k) parts) in
    elim c.if-eq.branch [
      | then-eq w ↦
          let after = w.after_ops-state.ensures.state ∙ ap (λ (ops : List Op). state_after_ops ops c.loop-part.state) w.as_slice.ensures in
          rw w.state-is (part-of c.args.vertex c.args.message.now c.loop-part.state one (drop i parts) (drop (i + 1) parts) _ next c.loop-part.invariant w.after_ops-state.result after (sym c.eq.ensures ∙ w.if-eq.true))
      | else-eq w ↦ rw w.state-is (part-else c.args.vertex c.args.message.now c.loop-part.state one (drop i parts) (drop (i + 1) parts) _ next c.loop-part.invariant (sym c.eq.ensures ∙ w.if-eq.false))
    ]
