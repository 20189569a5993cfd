use Rattle.std.proofs.Common.{sym, subst}
use Rattle.program_defs.specs.declared.script.Script.{Script}
use Rattle.weave_script.specs.Scripts.{IsScript}
use Rattle.weaver_top.specs.declared.command.Command.TheVariants.{Run}
use Rattle.weaver_top.specs.Answers.{AnswersScript}
use Rattle.weaver_top.specs.PhaseByPhase.{IsWholeRun}
use Rattle.weaver_top.proofs.run_command.answer_of_run.Goals as goal

pub answer_of-requires : goal.answer_of-requires
answer_of-requires c =
    let same = sym c.in_ok-run.ensures.script in
    record {
      valid = subst IsScript same c.requires.valid;
      whole = subst (λ (s : Script). IsWholeRun s c.run.new.core.state.account) same c.in_ok-run.ensures.whole;
    }

pub returns : goal.returns
returns c = subst (λ (s : Script). AnswersScript Run s c.in_ok-answer.answer) c.in_ok-run.ensures.script c.in_ok-answer.ensures.right
