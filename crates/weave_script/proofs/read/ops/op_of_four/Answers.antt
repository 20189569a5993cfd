use Rattle.std.specs.Prelude.{codes}
use Rattle.std.specs.Str.{bytes_eq}
use Rattle.std.proofs.lemmas.Result.{err_from_is_err_and}
use Rattle.weave_script.proofs.OpWords.{has_passed, first_of_tag, second_of_tag, third_of_tag, fourth_of_tag, op_of_tag}
use Rattle.weave_script.proofs.read.ops.op_of_four.Goals as goal

pub returns-in_err-name_of : goal.returns-in_err-name_of
returns-in_err-name_of c =
    let p = err_from_is_err_and c.from_residual.result c.from_residual.ensures.1 in
    rw (p.1, p.2) (first_of_tag c.args.word.now c.args.v.now c.args.edge.now c.args.key.now c.args.value.now (has_passed c.is.result (bytes_eq c.args.word.now (codes "tag")) c.is.ensures c.if-not-is.false) c.in_err-name_of.field-0.0 c.in_err-name_of.ensures)

pub returns-in_err-name_of-2 : goal.returns-in_err-name_of-2
returns-in_err-name_of-2 c =
    let p = err_from_is_err_and c.from_residual-in_err-name_of-2.result c.from_residual-in_err-name_of-2.ensures.1 in
    rw (p.1, p.2) (second_of_tag c.args.word.now c.args.v.now c.args.edge.now c.args.key.now c.args.value.now (has_passed c.is.result (bytes_eq c.args.word.now (codes "tag")) c.is.ensures c.if-not-is.false) c.in_ok-name_of.field-0 c.in_err-name_of-2.field-0.0 c.in_ok-name_of.ensures c.in_err-name_of-2.ensures)

pub returns-in_err-name_of-3 : goal.returns-in_err-name_of-3
returns-in_err-name_of-3 c =
    let p = err_from_is_err_and c.from_residual-in_err-name_of-3.result c.from_residual-in_err-name_of-3.ensures.1 in
    rw (p.1, p.2) (third_of_tag c.args.word.now c.args.v.now c.args.edge.now c.args.key.now c.args.value.now (has_passed c.is.result (bytes_eq c.args.word.now (codes "tag")) c.is.ensures c.if-not-is.false) c.in_ok-name_of.field-0 c.in_ok-name_of-2.field-0 c.in_err-name_of-3.field-0.0 c.in_ok-name_of.ensures c.in_ok-name_of-2.ensures c.in_err-name_of-3.ensures)

pub returns-in_err-name_of-4 : goal.returns-in_err-name_of-4
returns-in_err-name_of-4 c =
    let p = err_from_is_err_and c.from_residual-in_err-name_of-4.result c.from_residual-in_err-name_of-4.ensures.1 in
    rw (p.1, p.2) (fourth_of_tag c.args.word.now c.args.v.now c.args.edge.now c.args.key.now c.args.value.now (has_passed c.is.result (bytes_eq c.args.word.now (codes "tag")) c.is.ensures c.if-not-is.false) c.in_ok-name_of.field-0 c.in_ok-name_of-2.field-0 c.in_ok-name_of-3.field-0 c.in_err-name_of-4.field-0.0 c.in_ok-name_of.ensures c.in_ok-name_of-2.ensures c.in_ok-name_of-3.ensures c.in_err-name_of-4.ensures)

pub returns : goal.returns
returns c = op_of_tag c.args.word.now c.args.v.now c.args.edge.now c.args.key.now c.args.value.now (has_passed c.is.result (bytes_eq c.args.word.now (codes "tag")) c.is.ensures c.if-not-is.false) c.in_ok-name_of.field-0 c.in_ok-name_of-2.field-0 c.in_ok-name_of-3.field-0 c.in_ok-name_of-4.field-0 c.in_ok-name_of.ensures c.in_ok-name_of-2.ensures c.in_ok-name_of-3.ensures c.in_ok-name_of-4.ensures
