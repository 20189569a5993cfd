use Rattle.std.proofs.Common.{sym, ap, ◌∙◌}
use Rattle.oracle_chain.specs.Held.{HeldView}
use Rattle.oracle_chain.proofs.Views.{stopped-is}
use Rattle.oracle_chain.proofs.changes.stop_at.Goals as goal

pub returns : goal.returns
returns c =
    stopped-is c.args.replicas.now c.args.number c.index-replicas-number.result c.stop.new.self c.requires c.index-replicas-number.is c.stop.ensures.live
    (c.stop.ensures.asks ∙ ap (λ (x : HeldView). x.asks) (sym c.index-replicas-number.is))
