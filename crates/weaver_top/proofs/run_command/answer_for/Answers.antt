use Rattle.std.proofs.Common.{IfOk, sym, ap, ◌∙◌, subst}
use Rattle.program_defs.specs.declared.script.Script.{Script}
use Rattle.step_rules.specs.CoreState.{start_state}
use Rattle.weave_script.specs.Scripts.{IsScript}
use Rattle.weaver_top.specs.declared.command.Command.TheVariants.{Run}
use Rattle.weaver_top.specs.Answers.{AnswersScript}
use Rattle.weaver_top.proofs.run_command.answer_for.Goals as goal

pub start-requires : goal.start-requires
start-requires c = c.scripts_are_small.ensures.limits c.args.script c.requires

pub answer_of_run-requires : goal.answer_of_run-requires
answer_of_run-requires c =
    let same = sym c.in_ok-core.ensures.script in
    record {
      valid = subst IsScript same c.requires;
      start = c.in_ok-core.ensures.state ∙ ap start_state same;
    }

pub returns : goal.returns
returns c =
    subst (λ (s : Script). IfOk c.answer_of_run.result (AnswersScript Run s)) c.in_ok-core.ensures.script c.answer_of_run.ensures
