use Rattle.std.proofs.Common.{◌≡◌, ◌<◌, ◌-◌, ◌^◌, List, [], ◌∷◌, sym, ap, ◌∙◌, arith}
use Rattle.std.proofs.lemmas.List.Elements.{All-push}
use Rattle.weave_data.specs.declared.name.Name.{Name}
use Rattle.graph_ops.specs.declared.op.Op.{Op}
use Rattle.graph_ops.specs.declared.op.Op.TheVariants.{Get}
use Rattle.graph_ops.specs.declared.part.Part.{Part}
use Rattle.graph_ops.specs.VertexOps.{none_refused}
use Rattle.version_chain.specs.Chains.{IsNextUpdate, update_count, newest_state}
use Rattle.version_graph.specs.Graphs.{Chains, chain_of, chain_or_new, AreNextUpdates}
use Rattle.machine_tests.proofs.version_graph_tests.read_one.Goals as goal

-- a part that only reads is the next update of its vertex
one_next : (chains : Chains) (p : Part) (v : Name) → p.vertex ≡ v → p.before ≡ update_count (chain_or_new (chain_of chains v)) → p.before < 2 ^ 64 - 1 → p.ops ≡ Get v ∷ [] → AreNextUpdates chains (p ∷ [])
one_next chains p v vertex before small ops = record {
  apart = λ i j d less below. absurd (omega (arith, less, below));
  next = All-push (λ (x : Part). IsNextUpdate (chain_or_new (chain_of chains x.vertex)) x.before x.ops) [] p (λ k d below. absurd (omega (arith, below))) (record {
    count = before ∙ ap (λ (v : Name). update_count (chain_or_new (chain_of chains v))) (sym vertex);
    small = small;
    passes = ap (λ (ops : List Op). none_refused ops (newest_state (chain_or_new (chain_of chains p.vertex)).kept)) ops;
  });
}

pub apply_parts-requires : goal.apply_parts-requires
apply_parts-requires g c =
    let few : c.count-before.result < 2 ^ 64 - 1 = omega arith in
    let small : c.read.result.before < 2 ^ 64 - 1 = rw c.read.ensures.before few in
    one_next c.args.graph.now c.read.result c.args.v c.read.ensures.vertex (c.read.ensures.before ∙ c.count-before.ensures) small c.read.ensures.ops
