use Rattle.std.proofs.Common.{◌≡◌, ◌≤◌, sym, ap, subst, ◌∙◌, Some, None, IsTrue, false, ℕ}
use Rattle.std.proofs.lemmas.Option.{same_Some}
use Rattle.graph_ops.specs.Mentions.{is_among}
use Rattle.weave_data.specs.declared.name.Name.{Name}
use Rattle.graph_ops.specs.PlainGraph.{PlainGraph}
use Rattle.program_defs.specs.declared.passing.Passing.{Passing}
use Rattle.program_defs.specs.Ranks.{trace}
use Rattle.program_defs.specs.Visits.{levels_to}
use Rattle.program_defs.specs.LeastWalks.{WalkState, IsRankedTo, mark_in, parents}
use Rattle.program_defs.proofs.Pathing.{target-is, bound-is, walk-answer, no-walk-answer}
use Rattle.program_defs.proofs.path_search.PathSearch.walk.Goals as goal

pub returns-in_default : goal.returns-in_default
returns-in_default c = λ from to bound pass reads h.
    let clash : None ≡ Some to = sym c.in_default.is ∙ c.target.ensures ∙ ap (λ (w : WalkState). w.search.aim.target) c.self.view_is ∙ target-is from to bound pass c.args.self.now reads h in
    absurd (cc)

pub returns-then-not-is_present : goal.returns-then-not-is_present
returns-then-not-is_present c = λ from to bound pass reads h.
    let same : c.in-Some.to ≡ to = same_Some _ _ (sym c.in-Some.is ∙ c.target.ensures ∙ ap (λ (w : WalkState). w.search.aim.target) c.self.view_is ∙ target-is from to bound pass c.args.self.now reads h) in
    let none : is_among c.args.self.now.search.present to ≡ false = subst (λ u. is_among c.args.self.now.search.present u ≡ false) same (sym (c.is_present.ensures ∙ ap (λ (w : WalkState). is_among w.search.present c.in-Some.to) c.self.view_is) ∙ c.if-not-is_present.true) in
    no-walk-answer from to bound pass c.args.self.now reads h none

pub returns-in_default-bound : goal.returns-in_default-bound
returns-in_default-bound c = λ from to bound pass reads h.
    let clash : None ≡ Some bound = sym c.in_default-bound.is ∙ c.bound.ensures ∙ ap (λ (w : WalkState). w.search.aim.bound) c.self.view_is ∙ bound-is from to bound pass c.args.self.now reads h in
    absurd (cc)

pub returns : goal.returns
returns c = λ from to bound pass reads h.
    let same : c.in-Some.to ≡ to = same_Some _ _ (sym c.in-Some.is ∙ c.target.ensures ∙ ap (λ (w : WalkState). w.search.aim.target) c.self.view_is ∙ target-is from to bound pass c.args.self.now reads h) in
    let most : c.in-Some-bound.bound ≡ bound = same_Some _ _ (sym c.in-Some-bound.is ∙ c.bound.ensures ∙ ap (λ (w : WalkState). w.search.aim.bound) c.self.view_is ∙ bound-is from to bound pass c.args.self.now reads h) in
    let there : IsTrue (is_among c.args.self.now.search.present to) = subst (λ u. IsTrue (is_among c.args.self.now.search.present u)) same (sym (c.is_present.ensures ∙ ap (λ (w : WalkState). is_among w.search.present c.in-Some.to) c.self.view_is) ∙ c.if-not-is_present.false) in
    let found : Name → ℕ → Type 0 = λ u most. (graph : PlainGraph) (p : Passing) (d : ℕ) → d ≤ most → IsRankedTo d graph p c.args.self.now.search.aim.from (mark_in c.args.self.now.marks) → IsTrue (is_among (levels_to d graph p c.args.self.now.search.aim.from).level u)
    → c.in_ok-walk_to.field-0 ≡ trace (parents (mark_in c.args.self.now.marks)) d u in
    walk-answer from to bound pass c.args.self.now reads h there c.in_ok-walk_to.field-0 (subst (λ n. found to n) most (subst (λ u. found u c.in-Some-bound.bound) same c.in_ok-walk_to.ensures))
