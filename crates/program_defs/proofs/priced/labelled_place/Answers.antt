use Rattle.std.proofs.Common.{◌≡◌, ◌∙◌, sym, subst, None, ℕ}
use Rattle.std.proofs.lemmas.Bool.{both_ways}
use Rattle.program_defs.specs.Labels.{label_in}
use Rattle.program_defs.proofs.Placing.{one-number, place-among}
use Rattle.program_defs.proofs.priced.labelled_place.Goals as goal

pub returns-in_default-clause-none : goal.returns-in_default-clause-none
returns-in_default-clause-none c = λ place e. absurd (both_ways _ c.in_default.ensures.none (place-among c.args.vertices.now c.args.v place e))

pub returns-in_default-label_of-clause-none : goal.returns-in_default-label_of-clause-none
returns-in_default-label_of-clause-none c = λ place e.
    subst (λ (i : ℕ). label_in c.args.labels.now i ≡ None) (one-number c.args.vertices.now c.requires c.in-Some.place place c.args.v c.in-Some.ensures.some e) (sym c.label_of.ensures ∙ c.in_default-label_of.is)
