use Rattle.std.proofs.Common.{[], ◌∷◌}
use Rattle.std.proofs.lemmas.Result.{err_from_is_err_and}
use Rattle.weave_data.specs.declared.name.Name.{Name}
use Rattle.graph_ops.specs.declared.op.Op.TheVariants.{Unset, Unlink}
use Rattle.weave_script.proofs.OpWords.{unknown_word, finds_unset, finds_unlink, finds_no_two, first_of_two, second_of_two, op_of_two_names}
use Rattle.weave_script.proofs.read.ops.op_of_two.Goals as goal

pub returns-in_err-name_of : goal.returns-in_err-name_of
returns-in_err-name_of c =
    let p = err_from_is_err_and c.from_residual.result c.from_residual.ensures.1 in
    rw (p.1, p.2) (first_of_two c.args.word.now c.args.v.now c.args.other.now _ (finds_unset c.args.word.now c.args.v.now c.args.other.now c.if-is.ensures) c.in_err-name_of.field-0.0 c.in_err-name_of.ensures)

pub returns-in_err-name_of-2 : goal.returns-in_err-name_of-2
returns-in_err-name_of-2 c =
    let p = err_from_is_err_and c.from_residual-in_err-name_of-2.result c.from_residual-in_err-name_of-2.ensures.1 in
    rw (p.1, p.2) (second_of_two c.args.word.now c.args.v.now c.args.other.now _ (finds_unset c.args.word.now c.args.v.now c.args.other.now c.if-is.ensures) c.in_ok-name_of.field-0 c.in_err-name_of-2.field-0.0 c.in_ok-name_of.ensures c.in_err-name_of-2.ensures)

pub returns-in_ok-name_of-2 : goal.returns-in_ok-name_of-2
returns-in_ok-name_of-2 c = op_of_two_names c.args.word.now c.args.v.now c.args.other.now (λ (a b : Name). Unset a b) (finds_unset c.args.word.now c.args.v.now c.args.other.now c.if-is.ensures) c.in_ok-name_of.field-0 c.in_ok-name_of-2.field-0 c.in_ok-name_of.ensures c.in_ok-name_of-2.ensures

pub returns-in_err-name_of-3 : goal.returns-in_err-name_of-3
returns-in_err-name_of-3 c =
    let p = err_from_is_err_and c.from_residual-in_err-name_of-3.result c.from_residual-in_err-name_of-3.ensures.1 in
    rw (p.1, p.2) (first_of_two c.args.word.now c.args.v.now c.args.other.now _ (finds_unlink c.args.word.now c.args.v.now c.args.other.now c.if-is.ensures c.if-is-2.ensures) c.in_err-name_of-3.field-0.0 c.in_err-name_of-3.ensures)

pub returns-in_err-name_of-4 : goal.returns-in_err-name_of-4
returns-in_err-name_of-4 c =
    let p = err_from_is_err_and c.from_residual-in_err-name_of-4.result c.from_residual-in_err-name_of-4.ensures.1 in
    rw (p.1, p.2) (second_of_two c.args.word.now c.args.v.now c.args.other.now _ (finds_unlink c.args.word.now c.args.v.now c.args.other.now c.if-is.ensures c.if-is-2.ensures) c.in_ok-name_of-3.field-0 c.in_err-name_of-4.field-0.0 c.in_ok-name_of-3.ensures c.in_err-name_of-4.ensures)

pub returns-in_ok-name_of-4 : goal.returns-in_ok-name_of-4
returns-in_ok-name_of-4 c = op_of_two_names c.args.word.now c.args.v.now c.args.other.now (λ (a b : Name). Unlink a b) (finds_unlink c.args.word.now c.args.v.now c.args.other.now c.if-is.ensures c.if-is-2.ensures) c.in_ok-name_of-3.field-0 c.in_ok-name_of-4.field-0 c.in_ok-name_of-3.ensures c.in_ok-name_of-4.ensures

pub returns-else-is-2 : goal.returns-else-is-2
returns-else-is-2 c = unknown_word c.args.word.now (c.args.v.now ∷ c.args.other.now ∷ []) (finds_no_two c.args.word.now c.args.v.now c.args.other.now c.if-is.ensures c.if-is-2.ensures)
