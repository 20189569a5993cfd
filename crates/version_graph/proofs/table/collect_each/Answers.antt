use Rattle.std.proofs.Common.{rules}
use Rattle.std.proofs.lemmas.Map.Made.{map_same_pairs}
use Rattle.version_chain.specs.Collection.{collected_chain}
use Rattle.version_graph.proofs.Collecting.{collected-at}
use Rattle.version_graph.proofs.table.collect_each.Goals as goal

pub returns : goal.returns
returns c =
    let each = map_same_pairs _ (collected_chain c.args.bound.now) _ (λ k v b w f' t. search rules) _ _ c.retain.ensures.filtered in
    collected-at c.args.bound.now (c.collections_leave_views.ensures.count c.args.bound.now) c.args.table.now.entries c.retain.new.self.entries each
