use Rattle.step_rules.specs.LowerLaws.{FurtherLowerLaws}
use Rattle.step_rules.proofs.FewSteps.{few-are-steps}
use Rattle.step_rules.proofs.Stepping.{trace-is-core}
use Rattle.step_rules.proofs.laws.trace_is_a_core.Goals as goal

pub returns : goal.returns
returns c =
    let laws = c.the_crates_below_keep_their_laws.ensures in
    let further : FurtherLowerLaws = record { accounts = c.accounts_keep_their_laws.ensures; programs = c.programs_keep_their_laws.ensures } in
    record {
      core = λ script steps limits are. trace-is-core laws further script limits steps are;
      few = λ script steps limits each few. few-are-steps laws further script limits steps each few;
    }
