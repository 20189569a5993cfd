use Rattle.step_rules.specs.Answers.{answer_of}
use Rattle.step_rules.specs.Entries.{state_with}
use Rattle.step_rules.proofs.Starting.{when-done, when-refused}
use Rattle.step_rules.proofs.laws.refused_steps_change_nothing.Goals as goal

pub returns : goal.returns
returns c = record {
  done = λ script state step. when-done (answer_of script state step) (state_with script state step) state;
  refused = λ script state step. when-refused (answer_of script state step) (state_with script state step) state;
}
