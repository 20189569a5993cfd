use Rattle.std.proofs.Common.{refl, arith}
use Rattle.report_rules.proofs.Precedence.{way}
use Rattle.report_rows.proofs.laws.phases_are_apart.Goals as goal

pub returns : goal.returns
returns c = record {
  precedence = λ kept. kept.later_never_precedes 0 1 (omega arith) (way c.precedence_is_decided.ensures.tested _ _ _ refl);
  conflict = λ kept. let same = kept.conflicts.1.0 in absurd (omega (arith, same));
  numbers = λ kept. let less = kept.numbers 0 1 2 1 (omega arith) refl refl in absurd (omega (arith, less));
  refused_early = λ kept. let most = (kept.refusals.1.0 0 1 refl).0 (omega arith) in absurd (omega (arith, most));
  refused_late = λ kept. let less = (kept.refusals.0 1 1 refl).1 (omega arith) in absurd (omega (arith, less));
}
