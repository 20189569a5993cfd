use Rattle.weaver_top.proofs.Verdicts.{numbered}
use Rattle.weaver_top.proofs.load_command.judged_summary.Goals as goal

pub judge_report-requires : goal.judge_report-requires
judge_report-requires c = numbered c.args.script.now (c.scripts_are_small.ensures.operations c.args.script.now c.requires.valid)
