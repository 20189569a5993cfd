-- Scripts that are refused, and reports that are drawn. Used by `script_words` and `drawn`.
use Rattle.std.proofs.Common.{◌≡◌, ℕ, List, ◌++◌, Result, Ok, Err, IfOk, refl, sym, subst}
use Rattle.std.specs.declared.alloc.AllocError.{AllocError}
use Rattle.explain_top.specs.Explained.{ExplainsPicture, ExplainsScript}
use Rattle.explain_top.specs.declared.answering.Answer.{Answer}
use Rattle.program_defs.specs.declared.script.Script.{Script}
use Rattle.weave_script.specs.Answers.{IfScriptRefused}
use Rattle.weave_script.specs.CauseTexts.{cause_text}
use Rattle.weave_script.specs.Limits.{IsShort}
use Rattle.weave_script.specs.ReadText.{Fault, read_text}
use Rattle.weave_script.specs.ScriptLines.{IsTextOf}
use Rattle.weave_script.specs.declared.fault.Cause.{Cause}
use Rattle.weave_script.specs.declared.fault.ScriptFault.{ScriptFault}
use Rattle.weave_script.specs.declared.fault.ScriptFault.TheVariants as faults
use Rattle.weaver_top.specs.declared.status.Status.{Status}
use Rattle.weaver_top.specs.declared.status.Status.TheVariants.{Done, Refused}
use Rattle.weaver_top.specs.Refusals.{check_input, refusal_line}

-- what is promised of a refusal holds of its line and cause
pub of_the_fault : (A : Type 0) (why : ScriptFault) (line : ℕ) (cause : Cause) (P : ℕ → Cause → Type 0) → why ≡ faults.Refused line cause → IfScriptRefused {A = A} (Err why) P → P line cause
of_the_fault A why line cause P is holds = let Q : ScriptFault → Type 0 = λ why. IfScriptRefused {A = A} (Err why) P in subst Q is holds

-- a script that is refused, with its line and more
pub script_refused : (input more : List ℕ) (fault : Fault) (result : Result Answer AllocError) → read_text input ≡ Err fault → ((script : Script) → IsShort input → ¬ IsTextOf input script) → IfOk result (λ answer. answer.status ≡ Refused) → IfOk result (λ answer. answer.text.items ≡ refusal_line fault.line (cause_text fault.cause) ++ more) → IfOk result (λ answer. ExplainsScript answer.status input answer.text.items)
script_refused input more fault (Ok answer) first none status text =
    let P : Status → Type 0 = λ ended. ExplainsScript ended input answer.text.items in
    subst P (sym status) (record {
      line = refusal_line fault.line (cause_text fault.cause);
      more = more;
      is_line = record {
        not_taken = λ taken. none taken.value taken.input_is_short taken.input_is_its_text;
        fault = fault;
        is_first = first;
        line = refl;
      };
      begins = text;
    })
script_refused input more fault (Err error) first none status text = tt

-- a report that is drawn, with the script before it
pub report_drawn : (input : List ℕ) (both : check_input.Value) (result : Result Answer AllocError) → IsShort input → check_input.IsText input both → IfOk result (λ answer. answer.status ≡ Done) → IfOk result (λ answer. ExplainsPicture answer.status input answer.text.items)
report_drawn input both (Ok answer) short is status =
    let P : Status → Type 0 = λ ended. ExplainsPicture ended input answer.text.items in
    subst P (sym status) (record { input_is_short = short; value = both; input_is_its_text = is })
report_drawn input both (Err error) short is status = tt
