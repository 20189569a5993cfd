use Rattle.std.proofs.Common.{◌+◌, ℕ, get_or, take, refl, sym, ◌∙◌, subst}
use Rattle.order_witness.specs.Begun.{is_request_before}
use Rattle.order_witness.specs.Choices.{IsBest}
use Rattle.order_witness.proofs.Choosing.{chosen, kept}
use Rattle.order_witness.proofs.heads.best_of.Goals as goal
use Rattle.order_witness.proofs.heads.best_of.Goals.{then-is_choice, else-is_choice}

pub loop-request-preserved : goal.loop-request-preserved
loop-request-preserved c =
    let i : ℕ = c.loop-request.request-index in
    let r : ℕ = get_or c.args.ready.now i 0 in
    elim c.if-is_choice.branch [
      | then-is_choice w ↦
          subst (IsBest c.args.report.now (is_request_before c.args.report.now) c.args.firsts.now (take (i + 1) c.args.ready.now)) (sym w.best-is)
          (chosen c.args.report.now (is_request_before c.args.report.now) c.args.firsts.now c.args.ready.now i r c.loop-request-test.true refl c.loop-request.best c.loop-request.invariant (sym c.is_choice.ensures ∙ w.if-is_choice.true))
      | else-is_choice w ↦
          subst (IsBest c.args.report.now (is_request_before c.args.report.now) c.args.firsts.now (take (i + 1) c.args.ready.now)) (sym w.best-is)
          (kept c.args.report.now (is_request_before c.args.report.now) c.args.firsts.now c.args.ready.now i r c.loop-request-test.true refl c.loop-request.best c.loop-request.invariant (sym c.is_choice.ensures ∙ w.if-is_choice.false))
    ]
