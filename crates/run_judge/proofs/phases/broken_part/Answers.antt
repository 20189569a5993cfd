use Rattle.std.proofs.Common.{◌≡◌, ◌∙◌, ℕ, List, Option, sym, ap, subst}
use Rattle.report_rules.specs.Lookups.{committed_number}
use Rattle.run_judge.specs.Promises.{commits_before_refusal}
use Rattle.run_judge.specs.declared.phase_numbers.Numbered.{Numbered}
use Rattle.run_judge.specs.Numbers.{greatest_at}
use Rattle.run_judge.specs.Phases.{IsBrokenPart, IsConflictFound, IsOneAbove, IsOneNotBelow, newer_of}
use Rattle.run_judge.proofs.PhaseLaws.{broken_so, there}
use Rattle.run_judge.proofs.phases.broken_part.Goals as goal

pub returns : goal.returns
returns c = λ script can reply at same.
    let report = c.args.report.now in
    let ways = c.args.ways.now in
    let known = c.args.known.now in
    let place : ℕ = c.args.place in
    let state = c.args.state.now in
    let commit : c.greatest_at-commit.result ≡ greatest_at known.commits.items place = c.greatest_at-commit.ensures ∙ ap (λ (xs : List (Option Numbered)). greatest_at xs place) c.as_slice-2.ensures.value in
    let refused : c.greatest_at-refused.result ≡ greatest_at known.refusals.items place = c.greatest_at-refused.ensures ∙ ap (λ (xs : List (Option Numbered)). greatest_at xs place) c.as_slice-3.ensures.value in
    subst (IsBrokenPart script report place state) (sym c.first_part.ensures)
    (broken_so script report ways c.requires known can place reply at state same c.later_preceding-precedence.result c.conflict_of-conflict.result c.not_below-number.result c.not_below-earlier_refusal.result c.above-refusal.result
    (c.later_preceding-precedence.ensures script can (there script report ways c.requires known can place reply at state same))
    (subst (λ (xs : List ℕ). IsConflictFound xs place (newer_of state) c.conflict_of-conflict.result) c.as_slice.ensures.value c.conflict_of-conflict.ensures)
    (subst (λ (g : Option Numbered). IsOneNotBelow g (committed_number state) c.not_below-number.result) commit (subst (λ (n : Option ℕ). IsOneNotBelow c.greatest_at-commit.result n c.not_below-number.result) c.commit_number.ensures c.not_below-number.ensures))
    (subst (λ (g : Option Numbered). IsOneNotBelow g (committed_number state) c.not_below-earlier_refusal.result) refused (subst (λ (n : Option ℕ). IsOneNotBelow c.greatest_at-refused.result n c.not_below-earlier_refusal.result) c.commit_number-2.ensures c.not_below-earlier_refusal.ensures))
    (subst (λ (g : Option Numbered). IsOneAbove g (commits_before_refusal state) c.above-refusal.result) commit (subst (λ (n : Option ℕ). IsOneAbove c.greatest_at-commit.result n c.above-refusal.result) c.refusal_number.ensures c.above-refusal.ensures)))
