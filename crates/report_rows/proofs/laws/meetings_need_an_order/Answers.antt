use Rattle.std.proofs.Common.{refl, inl, inr, arith}
use Rattle.report_rules.proofs.Examples.{v}
use Rattle.report_rules.proofs.Precedence.{no_way}
use Rattle.report_rows.proofs.laws.meetings_need_an_order.Goals as goal

pub returns : goal.returns
returns c = record {
  writers = λ ordered. elim (ordered v 0 1 (record {
    different = λ same. absurd (omega (arith, same));
    first_is_listed = refl;
    second_is_listed = refl;
    one_changes = refl;
    first_is_there = refl;
    second_is_there = refl;
  })) [
    | inl first ↦ no_way c.precedence_is_decided.ensures.tested _ _ _ refl first
    | inr second ↦ no_way c.precedence_is_decided.ensures.tested _ _ _ refl second
  ];
  program = λ ordered. elim (ordered v 0 1 (record {
    different = λ same. absurd (omega (arith, same));
    first_is_listed = refl;
    second_is_listed = refl;
    one_changes = refl;
    first_is_there = refl;
    second_is_there = (0, refl);
  })) [
    | inl first ↦ no_way c.precedence_is_decided.ensures.tested _ _ _ refl first
    | inr second ↦ no_way c.precedence_is_decided.ensures.tested _ _ _ refl second
  ];
}
