use Rattle.step_rules.specs.Answers.{answer_of}
use Rattle.step_rules.specs.Entries.{state_with}
use Rattle.step_rules.specs.LowerLaws.{FurtherLowerLaws}
use Rattle.step_rules.proofs.Starting.{when-refused}
use Rattle.step_rules.proofs.Stepping.{each-step-keeps, notices-go, step-goes, step-keeps}
use Rattle.step_rules.proofs.laws.steps_keep_the_core.Goals as goal

pub returns : goal.returns
returns c =
    let laws = c.the_crates_below_keep_their_laws.ensures in
    let further : FurtherLowerLaws = record { accounts = c.accounts_keep_their_laws.ensures; programs = c.programs_keep_their_laws.ensures } in
    record {
      done = λ script state step limits range small core ok. each-step-keeps laws further script limits state step range small core ok;
      tried = λ script state step limits range small core. step-keeps laws further script limits state step range small core;
      goes_on = step-goes;
      notices = notices-go;
      refused = λ script state step other. when-refused (answer_of script state step) (state_with script state step) state other;
    }
