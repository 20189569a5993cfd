use Rattle.std.proofs.Common.{◌≡◌, Err, refl, ap, ◌∙◌}
use Rattle.program_defs.specs.declared.script.Script.{Script}
use Rattle.report_rules.specs.declared.report.Report.{Report}
use Rattle.weave_script.specs.CheckReading.{check_text}
use Rattle.weave_script.specs.ReadText.{Fault}
use Rattle.weaver_top.specs.declared.command.Command.TheVariants.{Check}
use Rattle.weaver_top.specs.Refusals.{refusal_line}
use Rattle.weaver_top.proofs.RefusalAnswers.{of_the_answer, of_the_fault}
use Rattle.weaver_top.proofs.Refusals.{faulty}
use Rattle.weaver_top.proofs.check_command.verdict_on.Goals as goal

pub returns-in-Err-Refused : goal.returns-in-Err-Refused
returns-in-Err-Refused c =
    let fault : Fault = record { line = c.in-Err-Refused.line; cause = c.in-Err-Refused.cause } in
    let first : check_text c.args.input.now ≡ Err fault = of_the_fault (Script × Report) c.in-Err-Refused.field-0 fault.line fault.cause (λ line cause. check_text c.args.input.now ≡ Err (record { line = line; cause = cause })) c.in-Err-Refused.field-0-is c.in-Err-Refused.ensures.refused in
    of_the_answer _ _ _ c.refusal.ensures.status c.refusal.ensures.text
    (λ answer status text. faulty Check c.args.input.now answer fault refl
    (λ both. c.checks_are_read.ensures.refused c.args.input.now fault both.0 both.1 c.requires first)
    first status (text ∙ ap (refusal_line c.in-Err-Refused.line) c.text.ensures))
