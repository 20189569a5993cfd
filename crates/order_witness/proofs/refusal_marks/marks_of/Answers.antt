use Rattle.std.proofs.Common.{List, IsTrue, false, refl, sym, ◌∙◌, subst}
use Rattle.std.specs.Prelude.{is_some, not}
use Rattle.std.specs.List.{list_all}
use Rattle.std.proofs.lemmas.Bool.{both_ways}
use Rattle.report_rules.specs.declared.report.Reply.{Reply}
use Rattle.order_witness.specs.Refusals.{refused_after}
use Rattle.order_witness.proofs.Testing.{passes_at}
use Rattle.order_witness.proofs.refusal_marks.marks_of.Goals as goal

pub returns-then-none_is_refused : goal.returns-then-none_is_refused
returns-then-none_is_refused c place at reply get after within =
    let unrefused = passes_at (λ (r : Reply). not (is_some (refused_after r.state))) c.args.report.now.replies place reply
    (subst (λ (rs : List Reply). IsTrue (list_all (λ (r : Reply). not (is_some (refused_after r.state))) rs)) c.as_slice.ensures (sym c.none_is_refused.ensures ∙ c.if-none_is_refused.true)) get in
    absurd (both_ways false refl (subst (λ o. IsTrue (not (is_some o))) after unrefused))
