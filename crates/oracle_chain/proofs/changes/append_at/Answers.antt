use Rattle.std.proofs.Common.{◌∷◌, ◌++◌, [], sym, ap, ◌∙◌}
use Rattle.weave_data.proofs.Results.{on_err_known}
use Rattle.oracle_chain.specs.Held.{HeldView}
use Rattle.oracle_chain.proofs.Views.{asked-is, same-is}
use Rattle.oracle_chain.proofs.changes.append_at.Goals as goal

pub returns-in_err-append_one-clause-as_before : goal.returns-in_err-append_one-clause-as_before
returns-in_err-append_one-clause-as_before c =
    on_err_known c.from_residual.result _ (same-is c.args.replicas.now c.args.number c.index-replicas-number.result c.append_one.new.replica c.requires.within c.index-replicas-number.is
    (c.append_one.ensures.live ∙ ap (λ (x : HeldView). x.live) (sym c.index-replicas-number.is)) (c.in_err-append_one.ensures.as_before ∙ ap (λ (x : HeldView). x.asks) (sym c.index-replicas-number.is)))

pub returns-clause-appended : goal.returns-clause-appended
returns-clause-appended c =
    asked-is c.args.replicas.now c.args.number c.index-replicas-number.result c.append_one.new.replica c.requires.within c.index-replicas-number.is c.args.ask
    (c.append_one.ensures.live ∙ ap (λ (x : HeldView). x.live) (sym c.index-replicas-number.is)) (c.in_ok-append_one.ensures.appended ∙ ap (λ (x : HeldView). x.asks ++ c.args.ask ∷ []) (sym c.index-replicas-number.is))
