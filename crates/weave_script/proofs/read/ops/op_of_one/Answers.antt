use Rattle.std.proofs.Common.{[], ◌∷◌}
use Rattle.std.proofs.lemmas.Result.{err_from_is_err_and}
use Rattle.weave_data.specs.declared.name.Name.{Name}
use Rattle.graph_ops.specs.declared.op.Op.TheVariants.{Create, Delete, Get}
use Rattle.weave_script.proofs.OpWords.{unknown_word, finds_create, finds_delete, finds_get, finds_no_one, only_field, op_of_name}
use Rattle.weave_script.proofs.read.ops.op_of_one.Goals as goal

pub returns-in_err-name_of : goal.returns-in_err-name_of
returns-in_err-name_of c =
    let p = err_from_is_err_and c.from_residual.result c.from_residual.ensures.1 in
    rw (p.1, p.2) (only_field c.args.word.now c.args.v.now _ (finds_create c.args.word.now c.args.v.now c.if-is.ensures) c.in_err-name_of.field-0.0 c.in_err-name_of.ensures)

pub returns-in_ok-name_of : goal.returns-in_ok-name_of
returns-in_ok-name_of c = op_of_name c.args.word.now c.args.v.now (λ (a : Name). Create a) (finds_create c.args.word.now c.args.v.now c.if-is.ensures) c.in_ok-name_of.field-0 c.in_ok-name_of.ensures

pub returns-in_err-name_of-2 : goal.returns-in_err-name_of-2
returns-in_err-name_of-2 c =
    let p = err_from_is_err_and c.from_residual-in_err-name_of-2.result c.from_residual-in_err-name_of-2.ensures.1 in
    rw (p.1, p.2) (only_field c.args.word.now c.args.v.now _ (finds_delete c.args.word.now c.args.v.now c.if-is.ensures c.if-is-2.ensures) c.in_err-name_of-2.field-0.0 c.in_err-name_of-2.ensures)

pub returns-in_ok-name_of-2 : goal.returns-in_ok-name_of-2
returns-in_ok-name_of-2 c = op_of_name c.args.word.now c.args.v.now (λ (a : Name). Delete a) (finds_delete c.args.word.now c.args.v.now c.if-is.ensures c.if-is-2.ensures) c.in_ok-name_of-2.field-0 c.in_ok-name_of-2.ensures

pub returns-in_err-name_of-3 : goal.returns-in_err-name_of-3
returns-in_err-name_of-3 c =
    let p = err_from_is_err_and c.from_residual-in_err-name_of-3.result c.from_residual-in_err-name_of-3.ensures.1 in
    rw (p.1, p.2) (only_field c.args.word.now c.args.v.now _ (finds_get c.args.word.now c.args.v.now c.if-is.ensures c.if-is-2.ensures c.if-is-3.ensures) c.in_err-name_of-3.field-0.0 c.in_err-name_of-3.ensures)

pub returns-in_ok-name_of-3 : goal.returns-in_ok-name_of-3
returns-in_ok-name_of-3 c = op_of_name c.args.word.now c.args.v.now (λ (a : Name). Get a) (finds_get c.args.word.now c.args.v.now c.if-is.ensures c.if-is-2.ensures c.if-is-3.ensures) c.in_ok-name_of-3.field-0 c.in_ok-name_of-3.ensures

pub returns-else-is-3 : goal.returns-else-is-3
returns-else-is-3 c = unknown_word c.args.word.now (c.args.v.now ∷ []) (finds_no_one c.args.word.now c.args.v.now c.if-is.ensures c.if-is-2.ensures c.if-is-3.ensures)
