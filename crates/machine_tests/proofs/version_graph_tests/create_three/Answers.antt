use Rattle.std.proofs.Common.{◌≡◌, None, sym, ◌∙◌, rules}
use Rattle.version_graph.specs.Graphs.{chain_of}
use Rattle.machine_tests.proofs.ThreeParts.{three_next}
use Rattle.machine_tests.proofs.version_graph_tests.create_three.Goals as goal

pub apply_parts-requires : goal.apply_parts-requires
apply_parts-requires g c =
    let no_a : chain_of c.args.graph.now c.args.a ≡ None = search rules in
    let no_b : chain_of c.args.graph.now c.args.b ≡ None = search rules in
    let no_c : chain_of c.args.graph.now c.args.c ≡ None = search rules in
    three_next c.args.graph.now c.create.result c.create-2.result c.create-3.result c.args.a c.args.b c.args.c
    (record { vertex = c.create.ensures.vertex; before = c.create.ensures.before; ops = c.create.ensures.ops })
    (record { vertex = c.create-2.ensures.vertex; before = c.create-2.ensures.before; ops = c.create-2.ensures.ops })
    (record { vertex = c.create-3.ensures.vertex; before = c.create-3.ensures.before; ops = c.create-3.ensures.ops })
    (sym c.eq.ensures ∙ c.if-eq.false) (sym c.eq-else-eq.ensures ∙ c.if-eq-2.false) (sym c.eq-else-eq-2.ensures ∙ c.if-eq-3.false)
    no_a no_b no_c
