use Rattle.std.proofs.Common.{◌≡◌, ◌+◌, ◌∷◌, [], refl, ap, subst, drop, length, MatchBool, Bool, arith}
use Rattle.std.proofs.Math.ListN.{drop_of_length-le}
use Rattle.weave_data.specs.Pairs.{at_key}
use Rattle.graph_ops.specs.Graphs.{plain_of}
use Rattle.program_defs.specs.Labels.{AddsEdge, IsUnlisted}
use Rattle.program_defs.specs.Prices.{price_in}
use Rattle.program_defs.proofs.NewNames.{next-edge}
use Rattle.program_defs.proofs.RowSteps.{passing_in, passing-next, row-ends, row-fails, row-steps}
use Rattle.program_defs.proofs.listed.row_of.Goals as goal

pub returns-then-not-branch-clause-none : goal.returns-then-not-branch-clause-none
returns-then-not-branch-clause-none c =
    let edges = c.args.found.now.edges in
    let i = c.loop-name._name-index in
    let one = c.loop-name-item.result in
    let next : drop i edges ≡ one ∷ drop (i + 1) edges = next-edge _ edges i one c.as_slice-name-items.ensures.pairs c.loop-name-test.true c.loop-name-item.is in
    let price = price_in (at_key c.args.key one.1.tags) in
    let fails = subst (λ (b : Bool). MatchBool b (AddsEdge (plain_of c.args.graph.now) c.args.vertices.now one.1.target price c.loop-name.row c.add_edge.new.row) (IsUnlisted (plain_of c.args.graph.now) c.args.vertices.now one.1.target price)) c.if-not-branch.true c.in_ok-add_edge.ensures in
    row-fails (plain_of c.args.graph.now) c.args.vertices.now (passing_in c.args.key edges) _ _ c.loop-name.row one.1.target price (passing-next c.args.key _ _ one.0 one.1 price next refl) fails c.loop-name.invariant

pub loop-name-preserved : goal.loop-name-preserved
loop-name-preserved c =
    let edges = c.args.found.now.edges in
    let i = c.loop-name._name-index in
    let one = c.loop-name-item.result in
    let next : drop i edges ≡ one ∷ drop (i + 1) edges = next-edge _ edges i one c.as_slice-name-items.ensures.pairs c.loop-name-test.true c.loop-name-item.is in
    let price = price_in (at_key c.args.key one.1.tags) in
    let adds = subst (λ (b : Bool). MatchBool b (AddsEdge (plain_of c.args.graph.now) c.args.vertices.now one.1.target price c.loop-name.row c.add_edge.new.row) (IsUnlisted (plain_of c.args.graph.now) c.args.vertices.now one.1.target price)) c.if-not-branch.false c.in_ok-add_edge.ensures in
    row-steps (plain_of c.args.graph.now) c.args.vertices.now (passing_in c.args.key edges) _ _ c.loop-name.row c.add_edge.new.row one.1.target price (passing-next c.args.key _ _ one.0 one.1 price next refl) adds c.loop-name.invariant

pub returns-clause-some : goal.returns-clause-some
returns-clause-some c =
    let edges = c.args.found.now.edges in
    let same = ap length c.as_slice-name-items.ensures.pairs in
    let past = c.loop-name-test.false in
    let none : drop c.loop-name._name-index edges ≡ [] = drop_of_length-le edges (omega (arith, same, past)) in
    row-ends (plain_of c.args.graph.now) c.args.vertices.now (passing_in c.args.key edges) _ c.loop-name.row (ap (passing_in c.args.key) none) c.loop-name.invariant
