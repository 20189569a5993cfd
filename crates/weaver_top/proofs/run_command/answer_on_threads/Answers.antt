use Rattle.std.proofs.Common.{IfOk, sym, subst}
use Rattle.program_defs.specs.declared.script.Script.{Script}
use Rattle.weave_script.specs.Scripts.{IsScript}
use Rattle.weaver_top.specs.declared.command.Command.TheVariants.{Run}
use Rattle.weaver_top.specs.Answers.{AnswersScript, TellsOfLogs}
use Rattle.weaver_top.specs.PhaseByPhase.{IsWholeRun}
use Rattle.weaver_top.proofs.ByWorkers.{workers-told}
use Rattle.weaver_top.proofs.run_command.answer_on_threads.Goals as goal

pub answer_of-requires : goal.answer_of-requires
answer_of-requires g c =
    let same = sym c.in_ok-core.ensures.script in
    record {
      valid = subst IsScript same c.requires;
      whole = subst (λ (s : Script). IsWholeRun s c.in_ok-core.core.state.account) same c.in_ok-core.ensures.whole;
    }

pub returns-clause-right : goal.returns-clause-right
returns-clause-right g c = subst (λ (s : Script). IfOk c.answer_of.result (AnswersScript Run s)) c.in_ok-core.ensures.script c.answer_of.ensures.right

pub returns-clause-workers : goal.returns-clause-workers
returns-clause-workers g c =
    workers-told c.answer_of.result c.args.script c.in_ok-core.core.state.account
    (subst (λ (s : Script). IfOk c.answer_of.result (TellsOfLogs s c.in_ok-core.core.state.account)) c.in_ok-core.ensures.script c.answer_of.ensures.of_logs)
    c.in_ok-core.ensures.workers
