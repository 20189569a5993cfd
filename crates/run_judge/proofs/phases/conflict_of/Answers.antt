use Rattle.std.proofs.Common.{◌≡◌, ◌∙◌, ℕ, Some, None, sym, ap}
use Rattle.std.proofs.lemmas.Option.{same_Some}
use Rattle.order_witness.specs.Heads.{item}
use Rattle.run_judge.proofs.phases.conflict_of.Goals as goal

none_some : (x : ℕ) → ¬ (None ≡ Some x)
none_some x e = cc

pub returns-in_default : goal.returns-in_default
returns-in_default c = λ other is. absurd (none_some other (sym c.in_default.is ∙ c.newer_of.ensures ∙ is))

pub returns-then-item : goal.returns-then-item
returns-then-item c = λ other is.
    sym c.item.ensures ∙ c.if-item.true ∙ c.item-2.ensures ∙ ap (item c.args.phases.now) (same_Some c.in-Some.newer other (sym c.in-Some.is ∙ c.newer_of.ensures ∙ is))

pub returns-else-item : goal.returns-else-item
returns-else-item c = (sym c.newer_of.ensures ∙ c.in-Some.is, λ same. c.if-item.false (c.item.ensures ∙ same ∙ sym c.item-2.ensures))
