use Rattle.std.proofs.Common.{◌++◌, ◌∷◌, [], ◌∙◌, ap, sym, List, ℕ, IsTrue, take, inl, inr, subst, arith}
use Rattle.std.proofs.lemmas.Bool.{or_cases}
use Rattle.std.proofs.lemmas.List.{take_all, take_more}
use Rattle.weave_data.specs.Names.{one_name, same_name}
use Rattle.weave_data.specs.declared.name.Name.{Name}
use Rattle.graph_ops.specs.Mentions.{is_among}
use Rattle.run_judge.specs.Vertices.{IsComparedAt}
use Rattle.run_judge.proofs.TableLaws.{among_here, among_more}
use Rattle.run_judge.proofs.vertices.first_unordered.Goals as goal

pub returns-in-Some : goal.returns-in-Some
returns-in-Some c = (
  among_here c.args.names.now c.loop-name.name-index c.name-item.result c.loop-name-test.true c.name-item.is,
  c.in-Some.ensures.0,
  c.in-Some.ensures.1,
)

pub loop-name-preserved : goal.loop-name-preserved
loop-name-preserved c v e there compared =
    let names : List Name = c.args.names.now in
    let i : ℕ = c.loop-name.name-index in
    let name : Name = c.name-item.result in
    let is = take_more names i name c.loop-name-test.true ∙ ap (λ (one : Name). take i names ++ one ∷ []) (sym c.name-item.is) in
    elim (or_cases (is_among (take i names) v) (same_name name v) (sym (among_more (take i names) name v) ∙ subst (λ (ns : List Name). IsTrue (is_among ns v)) is there)) [
      | inl before ↦ c.loop-name.invariant v e before compared
      | inr here ↦ c.in_default.ensures e (subst (λ w. IsComparedAt c.args.vertices.now w c.args.changes e) (sym (one_name name v here)) compared)
    ]

pub returns : goal.returns
returns c v e there compared =
    c.loop-name.invariant v e (subst (λ (ns : List Name). IsTrue (is_among ns v)) (sym (take_all c.loop-name.name-index c.args.names.now (omega (arith, c.loop-name-test.false)))) there) compared
