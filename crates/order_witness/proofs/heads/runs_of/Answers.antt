use Rattle.std.proofs.Common.{Vec, Global, ◌+◌, ℕ, List, ap, sym, subst, ◌∙◌}
use Rattle.order_witness.specs.declared.heads.Run.{Run}
use Rattle.order_witness.specs.Heads as heads
use Rattle.order_witness.proofs.Cutting.{cut_on, cut_here, end_rising, end_reached}
use Rattle.order_witness.proofs.Strict.{IsStrict}
use Rattle.order_witness.proofs.heads.runs_of.Goals as goal
use Rattle.order_witness.proofs.heads.runs_of.Goals.{then-not-rises+in_ok-push, else-not-rises}

pub loop-place-preserved : goal.loop-place-preserved
loop-place-preserved c =
    let strict : IsStrict = record { irreflexive = c.stamps_are_ordered.ensures.irreflexive; transitive = c.stamps_are_ordered.ensures.transitive } in
    let place : ℕ = c.loop-place.place in
    elim c.if-not-rises.branch [
      | then-not-rises+in_ok-push w ↦
          subst (λ n. heads.AreCut c.args.report.now c.args.line.now (place + 1) n c.if-not-rises.runs.items) (sym w.start-is)
          (subst (λ (rs : List Run). heads.AreCut c.args.report.now c.args.line.now (place + 1) place rs) (sym (ap (λ (v : Vec Run Global). v.items) w.runs-is ∙ w.in_ok-push.ensures.items))
          (cut_here strict c.args.report.now c.args.line.now place c.loop-place.start c.loop-place.runs.items c.loop-place.invariant))
      | else-not-rises w ↦
          subst (λ n. heads.AreCut c.args.report.now c.args.line.now (place + 1) n c.if-not-rises.runs.items) (sym w.start-is)
          (subst (λ (rs : List Run). heads.AreCut c.args.report.now c.args.line.now (place + 1) c.loop-place.start rs) (sym (ap (λ (v : Vec Run Global). v.items) w.runs-is))
          (cut_on strict c.args.report.now c.args.line.now place c.loop-place.start c.loop-place.runs.items c.loop-place.invariant (sym c.is_request_before-rises.ensures ∙ w.if-not-rises.false)))
    ]

pub returns-clause-rising : goal.returns-clause-rising
returns-clause-rising c =
    subst (heads.AreRising c.args.report.now c.args.line.now) (sym c.in_ok-push-2.ensures.items)
    (end_rising c.args.report.now c.args.line.now c.loop-place.place c.loop-place.start c.loop-place.runs.items c.loop-place.invariant c.loop-place-test.false)

pub returns-clause-reached : goal.returns-clause-reached
returns-clause-reached c k below =
    subst (λ (rs : List Run). heads.IsReached rs k) (sym c.in_ok-push-2.ensures.items)
    (end_reached c.args.report.now c.args.line.now c.loop-place.place c.loop-place.start c.loop-place.runs.items c.loop-place.invariant k below)
