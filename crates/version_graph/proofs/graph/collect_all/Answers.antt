use Rattle.std.proofs.Common.{refl}
use Rattle.version_graph.proofs.Collecting.{collected-graph, views-stay}
use Rattle.version_graph.proofs.graph.collect_all.Goals as goal

pub returns-clause-chains : goal.returns-clause-chains
returns-clause-chains c = collected-graph c.args.bound.now c.graph.inside.table.entries _ c.args.graph.now _ c.graph.view_is refl c.collect_each.ensures

pub returns-clause-views : goal.returns-clause-views
returns-clause-views c = λ v pairs program below.
    views-stay c.args.bound.now pairs program (λ chain. c.collections_leave_views.ensures.views c.args.bound.now chain pairs program below) _ _
    (collected-graph c.args.bound.now c.graph.inside.table.entries _ c.args.graph.now _ c.graph.view_is refl c.collect_each.ensures v)
