use Rattle.std.proofs.Common.{refl}
use Rattle.weaver_top.proofs.Verdicts.{numbered, right, wrong}
use Rattle.weaver_top.proofs.check_command.verdict_for.Goals as goal

pub judge_report-requires : goal.judge_report-requires
judge_report-requires c = numbered c.args.script.now (c.scripts_are_small.ensures.operations c.args.script.now c.requires)

pub returns-in_ok-yes-in-Yes : goal.returns-in_ok-yes-in-Yes
returns-in_ok-yes-in-Yes c input is_short is_text = record { tells = right input _ c.args.script.now c.args.report.now is_short is_text (c.in_ok-judge_report.ensures.yes.0 c.in-Yes.is) c.in_ok-yes-in-Yes.ensures; ends = refl }

pub returns-in_ok-no-in-No : goal.returns-in_ok-no-in-No
returns-in_ok-no-in-No c input is_short is_text = record { tells = wrong input _ c.args.script.now c.args.report.now c.in-No.clause c.in-No.place is_short is_text ((c.in_ok-judge_report.ensures.no c.in-No.clause c.in-No.place).0 c.in-No.is) c.in_ok-no-in-No.ensures; ends = refl }
