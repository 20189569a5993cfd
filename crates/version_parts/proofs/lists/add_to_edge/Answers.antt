use Rattle.std.proofs.Common.{◌≤◌}
use Rattle.std.proofs.lemmas.Result.{on_ok_weaker, on_err_weaker}
use Rattle.version_parts.specs.declared.time.Time.{Time}
use Rattle.version_parts.specs.Placed.{AllInEdge}
use Rattle.version_parts.proofs.KeptLaws.{of_key}
use Rattle.version_parts.proofs.Swapping.{still_there, as_before, edge_item_added}
use Rattle.version_parts.proofs.lists.add_to_edge.Goals as goal

pub add-added-requires : goal.add-added-requires
add-added-requires c = of_key c.args.name (AllInEdge (λ (time : Time). time.update ≤ c.args.item.time.update)) c.args.edges.now c.swap-edge.result c.requires.times c.swap-edge.ensures.before

pub swap-requires : goal.swap-requires
swap-requires c = still_there c.args.name c.args.edges.now c.swap-edge.new.self c.swap-edge.new.self c.new.result c.swap-edge.result c.swap-edge.result c.swap-edge.ensures.after

pub returns-clause-ok : goal.returns-clause-ok
returns-clause-ok c =
    on_ok_weaker c.add-added.result (edge_item_added c.args.name c.args.tag c.args.item c.args.edges.now c.swap-edge.new.self c.swap.new.self c.new.result c.swap-edge.result c.add-added.new.self c.swap-edge.ensures.after c.swap-edge.ensures.before c.swap.ensures.after) c.add-added.ensures.ok

pub returns-clause-err : goal.returns-clause-err
returns-clause-err c =
    on_err_weaker c.add-added.result (as_before c.args.name c.args.edges.now c.swap-edge.new.self c.swap.new.self c.new.result c.swap-edge.result c.add-added.new.self c.swap-edge.ensures.after c.swap-edge.ensures.rising c.swap-edge.ensures.before c.swap.ensures.after) c.add-added.ensures.err
