use Rattle.std.proofs.Common.{ap, subst, sym, ◌∙◌, List, Option, ℕ, length}
use Rattle.std.proofs.lemmas.Bool.{both_ways}
use Rattle.priced_path.specs.Searches.{IsLeftFrom, IsNoneLeft}
use Rattle.program_defs.specs.Labels.{label_in}
use Rattle.priced_path.specs.Tables.{IsSearchOver}
use Rattle.program_defs.proofs.ParentSteps.{written-back}
use Rattle.priced_path.proofs.Going.{take-one, skip-one, end}
use Rattle.priced_path.proofs.least.least_prices.Goals as goal

pub look-requires-clause-going : goal.look-requires-clause-going
look-requires-clause-going c = (
  c.args.start,
  subst (λ (ls : List (Option ℕ)). IsSearchOver c.args.rows.now c.args.start ls c.take.new.self (IsLeftFrom c.in-Some.v 0)) (sym c.as_mut_slice.ensures.value)
      (take-one c.args.rows.now c.args.start c.loop-label.labels.items c.loop-label.opened c.take.new.self c.in-Some.v c.in-Some.label c.in-Some.ensures.some c.loop-label.invariant),
)

pub loop-label-preserved-in-Continue-branch-2 : goal.loop-label-preserved-in-Continue-branch-2
loop-label-preserved-in-Continue-branch-2 c =
    let same = c.look.auto.labels ∙ ap length c.as_mut_slice.ensures.value in
    let back = written-back c.look.new.labels c.loop-label.labels.items c.loop-label.labels.len same (sym c.loop-label.labels.ok.0) in
    let begun = subst (λ (ls : List (Option ℕ)). IsSearchOver c.args.rows.now c.args.start ls c.take.new.self (IsLeftFrom c.in-Some.v 0)) (sym c.as_mut_slice.ensures.value)
    (take-one c.args.rows.now c.args.start c.loop-label.labels.items c.loop-label.opened c.take.new.self c.in-Some.v c.in-Some.label c.in-Some.ensures.some c.loop-label.invariant) in
    subst (λ (ls : List (Option ℕ)). IsSearchOver c.args.rows.now c.args.start ls c.look.new.opened IsNoneLeft) (sym back) (c.in_ok-look.ensures.going c.args.start begun)

pub loop-label-preserved : goal.loop-label-preserved
loop-label-preserved c =
    skip-one c.args.rows.now c.args.start c.loop-label.labels.items c.loop-label.opened c.take.new.self c.in-Some.v c.in-Some.label c.in-Some.ensures.some
    (λ e. both_ways c.has_label.result c.if-has_label.false (c.has_label.ensures.1 (ap (λ (ls : List (Option ℕ)). label_in ls c.in-Some.v) c.as_slice.ensures.value ∙ e)))
    c.loop-label.invariant

pub returns-clause-labels : goal.returns-clause-labels
returns-clause-labels c = end c.args.rows.now c.args.start c.loop-label.labels.items c.loop-label.opened c.in_default.ensures.none c.loop-label.invariant

pub returns-clause-len : goal.returns-clause-len
returns-clause-len c = c.loop-label.invariant.all
