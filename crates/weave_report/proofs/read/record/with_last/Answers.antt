use Rattle.std.proofs.Common.{sym, ap, ◌∙◌}
use Rattle.std.specs.Prelude.{Ok}
use Rattle.std.proofs.lemmas.Bool.{cond-true}
use Rattle.weave_report.proofs.KeysInOrder.{put_behind}
use Rattle.weave_report.proofs.read.record.with_last.Goals as goal

pub returns : goal.returns
returns g c =
    let last = sym c.goes_last.ensures ∙ c.if-not-goes_last.false in
    cond-true _ _ _ last ∙ ap (λ pairs. Ok pairs) (sym (put_behind c.args.pairs.now c.args.key c.args.value last) ∙ sym c.in_ok-put.ensures.ok)
