use Rattle.std.proofs.Common.{◌≡◌, List, Vec, Global, IfOk, subst}
use Rattle.weave_entries.specs.declared.verdict.Counted.{Counted}
use Rattle.graph_ops.specs.declared.part.Part.{Part}
use Rattle.gatekeeper.specs.Parts.{parts_by_shard}
use Rattle.gatekeeper.proofs.Sharing.{one_of}
use Rattle.gatekeeper.proofs.parts.parts_by_shard.Goals as goal

pub returns-then-counts-eq1 : goal.returns-then-counts-eq1
returns-then-counts-eq1 c =
    subst (λ (all : List Counted). IfOk c.parts_of_one.result (λ (shares : Vec (List Part) Global). shares.items ≡ parts_by_shard c.args.shards c.args.ops.now all))
    (one_of c.args.counts.now c.index-counts-0.result c.if-counts-eq1.true c.index-counts-0.is) c.parts_of_one.ensures
