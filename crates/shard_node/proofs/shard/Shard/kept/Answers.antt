use Rattle.std.proofs.Common.{length, Option, sym, ap, ◌∙◌}
use Rattle.std.specs.Prelude.{option_copied}
use Rattle.version_chain.specs.Chains.{ChainView}
use Rattle.version_graph.specs.Graphs.{chain_or_new}
use Rattle.weave_entries.specs.ShardReplay.{kept_of}
use Rattle.shard_node.specs.Shards.{ShardView}
use Rattle.shard_node.proofs.Ready.{kept-is}
use Rattle.shard_node.proofs.shard.Shard.kept.Goals as goal

pub returns : goal.returns
returns c =
    c.kept.ensures.count
    ∙ ap (λ (chain : Option ChainView). length (chain_or_new chain).kept) (sym (ap option_copied c.in-Some.is) ∙ c.chain.ensures)
    ∙ kept-is _ _ _ _ c.self.invariant.0 c.args.v
    ∙ ap (λ (view : ShardView). kept_of c.args.v view.log) c.self.view_is
