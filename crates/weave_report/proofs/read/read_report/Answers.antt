use Rattle.std.proofs.Common.{subst, ap, ◌∙◌}
use Rattle.program_defs.specs.declared.script.Script.{Script}
use Rattle.weave_report.specs.ReadAnswers.{Answers}
use Rattle.weave_report.specs.FirstRefusal.{IsFirstRefusal}
use Rattle.weave_report.specs.Reading.{report_in, report_start}
use Rattle.weave_text.specs.Cutting.{lines_of}
use Rattle.weave_report.proofs.ReadAnswersLaws.{text_of_read, read_of_text, no_text_of_refused, told_of_refused, read_of_given}
use Rattle.weave_report.proofs.read.read_report.Goals as goal

pub returns-clause-exact : goal.returns-clause-exact
returns-clause-exact c =
    subst (λ (script : Script). Answers c.read_named.result (report_in script c.args.first_line c.args.bytes.now)) c.in-Ok.ensures.script c.read_named.ensures

pub returns-clause-read : goal.returns-clause-read
returns-clause-read c =
    text_of_read c.args.script.now c.args.bytes.now (report_in c.args.script.now c.args.first_line c.args.bytes.now) c.read_named.result
    (λ report e. c.read_texts_are_texts.ensures.read c.args.script.now c.args.first_line c.args.bytes.now report c.requires.told_by_name c.in-Ok.ensures.typed e) (returns-clause-exact c)

pub returns-clause-complete : goal.returns-clause-complete
returns-clause-complete c =
    read_of_text c.args.script.now c.args.bytes.now (report_in c.args.script.now c.args.first_line c.args.bytes.now) c.read_named.result
    (λ report text. c.read_texts_are_texts.ensures.complete c.args.script.now c.args.first_line c.args.bytes.now report c.requires.told_by_name c.in-Ok.ensures.typed text) (returns-clause-exact c)

pub returns-clause-refused : goal.returns-clause-refused
returns-clause-refused c =
    no_text_of_refused c.args.script.now c.args.bytes.now (report_in c.args.script.now c.args.first_line c.args.bytes.now) c.read_named.result
    (λ report text. c.read_texts_are_texts.ensures.complete c.args.script.now c.args.first_line c.args.bytes.now report c.requires.told_by_name c.in-Ok.ensures.typed text) (returns-clause-exact c)

pub returns-clause-first : goal.returns-clause-first
returns-clause-first c =
    told_of_refused (report_in c.args.script.now c.args.first_line c.args.bytes.now) (IsFirstRefusal c.args.script.now c.args.first_line report_start (lines_of c.args.bytes.now)) c.read_named.result
    (λ refusal e. c.refusals_are_first.ensures.text c.args.script.now c.args.first_line c.args.bytes.now refusal e) (returns-clause-exact c)

pub returns-clause-printed : goal.returns-clause-printed
returns-clause-printed c report of typed same =
    read_of_given (report_in c.args.script.now c.args.first_line c.args.bytes.now) report c.read_named.result
    (ap (report_in c.args.script.now c.args.first_line) same ∙ c.printed_reports_come_back.ensures c.args.script.now report c.args.first_line c.requires.told_by_name c.in-Ok.ensures.typed of typed) (returns-clause-exact c)
