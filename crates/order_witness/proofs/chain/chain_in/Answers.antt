use Rattle.std.proofs.Common.{ℕ, List, sym, subst}
use Rattle.order_witness.specs.Preceding.{Test, direct_steps}
use Rattle.order_witness.specs.Spreading.{IsSpreadWhole, IsFirstPlace}
use Rattle.order_witness.proofs.Nearest.{not_found, shortest_chain}
use Rattle.order_witness.proofs.chain.chain_in.Goals as goal

pub returns-in_default : goal.returns-in_default
returns-in_default c h =
    let direct : Test = direct_steps c.args.report.now c.args.befores.now in
    let found : List ℕ = c.as_slice-nodes.result.now in
    let from : List ℕ = c.in_ok-from.from.items in
    let whole = subst (λ (xs : List ℕ). IsSpreadWhole direct c.args.b xs from) (sym c.as_slice-nodes.ensures.value) c.in_ok-from.ensures in
    not_found direct c.args.b whole.0 found from whole.1 c.args.a (subst (IsFirstPlace found c.args.a) c.in_default.is c.first_place.ensures) ((c.requires.steps c.args.a c.args.b).1 h)

pub returns : goal.returns
returns c =
    let direct : Test = direct_steps c.args.report.now c.args.befores.now in
    let found : List ℕ = c.as_slice-nodes.result.now in
    let from : List ℕ = c.as_slice.result.now in
    let whole = subst (λ (xs : List ℕ). IsSpreadWhole direct c.args.b xs from) (sym c.as_slice-nodes.ensures.value)
    (subst (IsSpreadWhole direct c.args.b c.spread.new.found.items) (sym c.as_slice.ensures.value) c.in_ok-from.ensures) in
    let first = subst (IsFirstPlace found c.args.a) c.in-Some.is c.first_place.ensures in
    shortest_chain c.args.report.now c.args.befores.now c.requires.size c.requires.ends c.args.b whole.0 found from whole.1 c.args.a c.in-Some.place c.in_ok-chain.chain.items first.0 first.1 first.2 c.in_ok-chain.ensures
