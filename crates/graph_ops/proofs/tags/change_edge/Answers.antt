use Rattle.std.proofs.Common.{Some, is_some, ap, ◌∙◌}
use Rattle.weave_data.specs.Pairs.{has}
use Rattle.weave_data.proofs.Changing.{found_put}
use Rattle.graph_ops.proofs.Retagging.{changed, can_retag, retagged_back, failed}
use Rattle.graph_ops.proofs.tags.change_edge.Goals as goal

pub swap-requires : goal.swap-requires
swap-requires c = ap (has c.args.name) c.swap-edge.ensures.after ∙ ap is_some (found_put c.args.name c.bare.result c.args.held.now.edges)

pub returns-in-Ok : goal.returns-in-Ok
returns-in-Ok c =
    let at = c.swap-edge.ensures in
    let did = c.in-Ok.ensures in (
      changed c.args.name c.args.held.now _ _ _ _ _ at.rising at.before at.after c.swap.ensures.after c.args.change did.0,
      can_retag c.args.name c.args.held.now _ _ _ _ _ at.rising at.before at.after c.swap.ensures.after c.in-Ok.undo did.1.0,
      ap (λ edges. Some (record c.args.held.now { edges = edges })) (retagged_back c.args.name c.args.held.now _ _ _ _ _ at.rising at.before at.after c.swap.ensures.after c.in-Ok.undo did.1.1),
    )

pub returns-in-Err : goal.returns-in-Err
returns-in-Err c =
    let at = c.swap-edge.ensures in
    failed c.args.name c.args.held.now _ _ _ _ _ at.rising at.before at.after c.swap.ensures.after c.args.change c.in-Err.fault c.in-Err.ensures
