use Rattle.std.proofs.Common.{[], ◌∷◌}
use Rattle.std.proofs.lemmas.Result.{err_from_is_err_and}
use Rattle.weave_data.specs.declared.name.Name.{Name}
use Rattle.graph_ops.specs.declared.op.Op.TheVariants.{Set, Link, Untag}
use Rattle.weave_script.proofs.OpWords.{unknown_word, finds_set, finds_link, finds_untag, finds_none, first_of_three, second_of_three, third_of_three, op_of_names}
use Rattle.weave_script.proofs.read.ops.op_of_three.Goals as goal

pub returns-in_err-name_of : goal.returns-in_err-name_of
returns-in_err-name_of c =
    let p = err_from_is_err_and c.from_residual.result c.from_residual.ensures.1 in
    rw (p.1, p.2) (first_of_three c.args.word.now c.args.v.now c.args.other.now c.args.last.now _ (finds_set c.args.word.now c.args.v.now c.args.other.now c.args.last.now c.if-is.ensures) c.in_err-name_of.field-0.0 c.in_err-name_of.ensures)

pub returns-in_err-name_of-2 : goal.returns-in_err-name_of-2
returns-in_err-name_of-2 c =
    let p = err_from_is_err_and c.from_residual-in_err-name_of-2.result c.from_residual-in_err-name_of-2.ensures.1 in
    rw (p.1, p.2) (second_of_three c.args.word.now c.args.v.now c.args.other.now c.args.last.now _ (finds_set c.args.word.now c.args.v.now c.args.other.now c.args.last.now c.if-is.ensures) c.in_ok-name_of.field-0 c.in_err-name_of-2.field-0.0 c.in_ok-name_of.ensures c.in_err-name_of-2.ensures)

pub returns-in_err-name_of-3 : goal.returns-in_err-name_of-3
returns-in_err-name_of-3 c =
    let p = err_from_is_err_and c.from_residual-in_err-name_of-3.result c.from_residual-in_err-name_of-3.ensures.1 in
    rw (p.1, p.2) (third_of_three c.args.word.now c.args.v.now c.args.other.now c.args.last.now _ (finds_set c.args.word.now c.args.v.now c.args.other.now c.args.last.now c.if-is.ensures) c.in_ok-name_of.field-0 c.in_ok-name_of-2.field-0 c.in_err-name_of-3.field-0.0 c.in_ok-name_of.ensures c.in_ok-name_of-2.ensures c.in_err-name_of-3.ensures)

pub returns-in_ok-name_of-3 : goal.returns-in_ok-name_of-3
returns-in_ok-name_of-3 c =
    op_of_names c.args.word.now c.args.v.now c.args.other.now c.args.last.now (λ (a b d : Name). Set a b d) (finds_set c.args.word.now c.args.v.now c.args.other.now c.args.last.now c.if-is.ensures) c.in_ok-name_of.field-0 c.in_ok-name_of-2.field-0 c.in_ok-name_of-3.field-0 c.in_ok-name_of.ensures c.in_ok-name_of-2.ensures c.in_ok-name_of-3.ensures

pub returns-in_err-name_of-4 : goal.returns-in_err-name_of-4
returns-in_err-name_of-4 c =
    let p = err_from_is_err_and c.from_residual-in_err-name_of-4.result c.from_residual-in_err-name_of-4.ensures.1 in
    rw (p.1, p.2) (first_of_three c.args.word.now c.args.v.now c.args.other.now c.args.last.now _ (finds_link c.args.word.now c.args.v.now c.args.other.now c.args.last.now c.if-is.ensures c.if-is-2.ensures) c.in_err-name_of-4.field-0.0 c.in_err-name_of-4.ensures)

pub returns-in_err-name_of-5 : goal.returns-in_err-name_of-5
returns-in_err-name_of-5 c =
    let p = err_from_is_err_and c.from_residual-in_err-name_of-5.result c.from_residual-in_err-name_of-5.ensures.1 in
    rw (p.1, p.2) (second_of_three c.args.word.now c.args.v.now c.args.other.now c.args.last.now _ (finds_link c.args.word.now c.args.v.now c.args.other.now c.args.last.now c.if-is.ensures c.if-is-2.ensures) c.in_ok-name_of-4.field-0 c.in_err-name_of-5.field-0.0 c.in_ok-name_of-4.ensures c.in_err-name_of-5.ensures)

pub returns-in_err-name_of-6 : goal.returns-in_err-name_of-6
returns-in_err-name_of-6 c =
    let p = err_from_is_err_and c.from_residual-in_err-name_of-6.result c.from_residual-in_err-name_of-6.ensures.1 in
    rw (p.1, p.2) (third_of_three c.args.word.now c.args.v.now c.args.other.now c.args.last.now _ (finds_link c.args.word.now c.args.v.now c.args.other.now c.args.last.now c.if-is.ensures c.if-is-2.ensures) c.in_ok-name_of-4.field-0 c.in_ok-name_of-5.field-0 c.in_err-name_of-6.field-0.0 c.in_ok-name_of-4.ensures c.in_ok-name_of-5.ensures c.in_err-name_of-6.ensures)

pub returns-in_ok-name_of-6 : goal.returns-in_ok-name_of-6
returns-in_ok-name_of-6 c =
    op_of_names c.args.word.now c.args.v.now c.args.other.now c.args.last.now (λ (a b d : Name). Link a b d) (finds_link c.args.word.now c.args.v.now c.args.other.now c.args.last.now c.if-is.ensures c.if-is-2.ensures) c.in_ok-name_of-4.field-0 c.in_ok-name_of-5.field-0 c.in_ok-name_of-6.field-0 c.in_ok-name_of-4.ensures c.in_ok-name_of-5.ensures c.in_ok-name_of-6.ensures

pub returns-in_err-name_of-7 : goal.returns-in_err-name_of-7
returns-in_err-name_of-7 c =
    let p = err_from_is_err_and c.from_residual-in_err-name_of-7.result c.from_residual-in_err-name_of-7.ensures.1 in
    rw (p.1, p.2) (first_of_three c.args.word.now c.args.v.now c.args.other.now c.args.last.now _ (finds_untag c.args.word.now c.args.v.now c.args.other.now c.args.last.now c.if-is.ensures c.if-is-2.ensures c.if-is-3.ensures) c.in_err-name_of-7.field-0.0 c.in_err-name_of-7.ensures)

pub returns-in_err-name_of-8 : goal.returns-in_err-name_of-8
returns-in_err-name_of-8 c =
    let p = err_from_is_err_and c.from_residual-in_err-name_of-8.result c.from_residual-in_err-name_of-8.ensures.1 in
    rw (p.1, p.2) (second_of_three c.args.word.now c.args.v.now c.args.other.now c.args.last.now _ (finds_untag c.args.word.now c.args.v.now c.args.other.now c.args.last.now c.if-is.ensures c.if-is-2.ensures c.if-is-3.ensures) c.in_ok-name_of-7.field-0 c.in_err-name_of-8.field-0.0 c.in_ok-name_of-7.ensures c.in_err-name_of-8.ensures)

pub returns-in_err-name_of-9 : goal.returns-in_err-name_of-9
returns-in_err-name_of-9 c =
    let p = err_from_is_err_and c.from_residual-in_err-name_of-9.result c.from_residual-in_err-name_of-9.ensures.1 in
    rw (p.1, p.2) (third_of_three c.args.word.now c.args.v.now c.args.other.now c.args.last.now _ (finds_untag c.args.word.now c.args.v.now c.args.other.now c.args.last.now c.if-is.ensures c.if-is-2.ensures c.if-is-3.ensures) c.in_ok-name_of-7.field-0 c.in_ok-name_of-8.field-0 c.in_err-name_of-9.field-0.0 c.in_ok-name_of-7.ensures c.in_ok-name_of-8.ensures c.in_err-name_of-9.ensures)

pub returns-in_ok-name_of-9 : goal.returns-in_ok-name_of-9
returns-in_ok-name_of-9 c =
    op_of_names c.args.word.now c.args.v.now c.args.other.now c.args.last.now (λ (a b d : Name). Untag a b d) (finds_untag c.args.word.now c.args.v.now c.args.other.now c.args.last.now c.if-is.ensures c.if-is-2.ensures c.if-is-3.ensures) c.in_ok-name_of-7.field-0 c.in_ok-name_of-8.field-0 c.in_ok-name_of-9.field-0 c.in_ok-name_of-7.ensures c.in_ok-name_of-8.ensures c.in_ok-name_of-9.ensures

pub returns-else-is-3 : goal.returns-else-is-3
returns-else-is-3 c = unknown_word c.args.word.now (c.args.v.now ∷ c.args.other.now ∷ c.args.last.now ∷ []) (finds_none c.args.word.now c.args.v.now c.args.other.now c.args.last.now c.if-is.ensures c.if-is-2.ensures c.if-is-3.ensures)
