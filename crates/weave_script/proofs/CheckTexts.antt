-- A script and the report that follows it, read together.
-- Used by `read_check`, `report_texts_follow_script_texts` and CheckLaws.
use Rattle.std.proofs.Common.{◌≡◌, ℕ, ◌<◌, ◌≤◌, ◌^◌, List, [], ◌∷◌, ◌++◌, length, Ok, Err, ap, subst, ◌∙◌, arith}
use Rattle.std.specs.Prelude.{Result}
use Rattle.std.specs.List.{AllByRecursion}
use Rattle.program_defs.specs.declared.script.Request.{Request}
use Rattle.program_defs.specs.declared.script.Script.{Script}
use Rattle.weave_report.specs.declared.fault.ReportCause.{ReportCause}
use Rattle.weave_report.specs.declared.fault.ReportFault.{ReportFault}
use Rattle.weave_report.specs.declared.fault.ReportFault.TheVariants.{Refused}
use Rattle.report_rules.specs.declared.report.Report.{Report}
use Rattle.weave_report.specs.ReadAnswers.{Answers}
use Rattle.program_defs.specs.Works.{ops_of}
use Rattle.weave_report.specs.Reading.{Refusal, after_lines, report_start, report_in}
use Rattle.weave_report.specs.TextOf.{IsReportTextOf, HasDistinctNames}
use Rattle.weave_text.specs.Cutting.{lines_of}
use Rattle.weave_text.specs.Lines.{Bytes}
use Rattle.weave_script.specs.CheckText.{IsHead, IsCheckTextOf}
use Rattle.weave_script.specs.CheckReading.{with_script_read, check_text}
use Rattle.weave_data.specs.Steps.{◌>>=◌}
use Rattle.weave_script.specs.ReadText.{Fault, Head, head_of_text}
use Rattle.weave_script.specs.ScriptLines.{IsTextOf}
use Rattle.weave_script.specs.Scripts.{IsScript}

few_each : (requests : List Request) → AllByRecursion (λ (request : Request). length (ops_of request.work) ≤ 64) requests → AllByRecursion (λ (request : Request). length (ops_of request.work) < 2 ^ 32) requests
few_each [] each = tt
few_each (request ∷ requests) each = (let few = each.0 in omega (arith, few), few_each requests each.1)

-- a valid script has requests of distinct names
pub told_by_name : (script : Script) → IsScript script → length script.requests ≤ 10000 → AllByRecursion (λ (request : Request). length (ops_of request.work) ≤ 64) script.requests → HasDistinctNames script
told_by_name script is few each = record { distinct = is.distinct; few_requests = omega (arith, few); few_ops = few_each script.requests each }

abbrev head_with : Script → ℕ → Bytes → Head
head_with script line left = record { script = script; line = line; left = lines_of left }

abbrev read_head : Script → ℕ → Bytes → Result Head Fault
read_head script line left = Ok (head_with script line left)

-- what is read after a head
pub behind_head : (bytes left : Bytes) (script : Script) (line : ℕ) (read : Result Report Refusal) → head_of_text bytes ≡ read_head script line left → report_in script line left ≡ read → check_text bytes ≡ with_script_read script read
unfolding report_in
behind_head bytes left script line read head is = ap (λ h. h >>= λ (head : Head). with_script_read head.script (after_lines head.script head.line report_start head.left)) head ∙ ap (with_script_read script) is

-- the lines are those of both
pub both_texts : (bytes left : Bytes) (script : Script) (told : Report) → IsHead bytes script (lines_of left) → IsReportTextOf script left told → IsCheckTextOf bytes script told
both_texts bytes left script told head text = record {
  front = head.front;
  back = lines_of left;
  cut = head.cut;
  of_script = head.of_script;
  script_is = head.script_is;
  of_report = text.of_script;
  typed = text.typed;
  report_is = text.lines;
}

-- a report that is refused at a line
pub refused_at : (fault : ReportFault) (line : ℕ) (cause : ReportCause) (read : Result Report Refusal) → fault ≡ Refused line cause → Answers (Err fault) read → read ≡ Err (line, cause)
refused_at fault line cause read is answers = subst (λ (f : ReportFault). Answers (Err f) read) is answers

-- a text of a script that ends with a line feed, and then one of a report
pub in_turn : (front text : Bytes) (script : Script) (told : Report) → lines_of (front ++ 10 ∷ text) ≡ lines_of (front ++ 10 ∷ []) ++ lines_of text
    → IsTextOf (front ++ 10 ∷ []) script → IsReportTextOf script text told → IsCheckTextOf (front ++ 10 ∷ text) script told
unfolding IsTextOf
in_turn front text script told cut head back = both_texts (front ++ 10 ∷ text) text script told (record { front = lines_of (front ++ 10 ∷ []); cut = cut; of_script = head.0; script_is = head.1 }) back
