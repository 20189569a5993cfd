use Rattle.std.proofs.Common.{false, refl}
use Rattle.std.proofs.lemmas.List.{get_or-set_other}
use Rattle.std.proofs.lemmas.Result.{IfOk-from_err}
use Rattle.order_witness.proofs.refusal_marks.mark_one.Goals as goal

pub returns-in_err-marks : goal.returns-in_err-marks
returns-in_err-marks c =
    let result = c.from_residual.result in
    let is = c.from_residual.ensures.0 in
    record {
      size = refl;
      unchanged = c.mark_of.ensures.unchanged;
      others = IfOk-from_err result _ is;
      marked = IfOk-from_err result _ is;
    }

pub returns-clause-unchanged : goal.returns-clause-unchanged
returns-clause-unchanged c = c.mark_of.ensures.unchanged

pub returns-clause-others : goal.returns-clause-others
returns-clause-others c = λ k other. get_or-set_other c.args.marks.now.items c.args.place k c.in_ok-marks.field-0 false other
