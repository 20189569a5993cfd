use Rattle.explain_words.proofs.JudgeLaws.{anyway, breaks}
use Rattle.explain_words.proofs.Numbered.{numbered}
use Rattle.explain_words.proofs.verdict.judged.Goals as goal

pub judge_report-requires : goal.judge_report-requires
judge_report-requires c = numbered c.args.script.now (c.scripts_are_small.ensures.operations c.args.script.now c.requires)

pub returns-clause-no : goal.returns-clause-no
returns-clause-no c = breaks c.args.script.now c.args.report.now _ c.judge_report.ensures.no

pub returns-clause-numbered : goal.returns-clause-numbered
returns-clause-numbered c = anyway _ (numbered c.args.script.now (c.scripts_are_small.ensures.operations c.args.script.now c.requires))
