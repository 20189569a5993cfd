-- What workers did of a run is said of its report.
-- Used by `answer_on_threads` and `report_on_threads`.
use Rattle.std.proofs.Common.{◌≡◌, ℕ, ◌+◌, List, length, Result, Ok, Err, IfOk, sym, subst}
use Rattle.program_defs.specs.declared.script.Script.{Script}
use Rattle.weave_account.specs.declared.account.Account.{Account}
use Rattle.weave_script.specs.ScriptLines.{IsTextOf}
use Rattle.weaver_top.specs.declared.answer.Answer.{Answer}
use Rattle.weaver_top.specs.declared.status.Status.TheVariants.{Done}
use Rattle.weaver_top.specs.Answers.{TellsOfLogs}
use Rattle.weaver_top.specs.ByWorkers.{AreRunByWorkers, TellsByWorkers}

-- the report of logs that workers left says so
pub workers-told : {E : Type 0} (result : Result Answer E) (script : Script) (logs : Account) → IfOk result (TellsOfLogs script logs) → AreRunByWorkers script (length script.phases + 1) logs
    → IfOk result (λ answer. (input : List ℕ) → IsTextOf input script → TellsByWorkers input answer.text.items)
workers-told (Ok answer) script logs of run = λ input is_text.
    let told = of input is_text in
    record {
      by_logs = told.0;
      by_workers = subst (λ (run : Script × Account). AreRunByWorkers run.0 (length (run.0).phases + 1) run.1) (λ i. (sym told.1 i, sym told.2 i)) run;
    }
workers-told (Err error) script logs of run = tt

-- for the input, if that is a text of the script
pub for-input : {E : Type 0} (result : Result Answer E) (script : Script) (input : List ℕ) → IsTextOf input script
    → IfOk result (λ answer. (input : List ℕ) → IsTextOf input script → TellsByWorkers input answer.text.items)
    → IfOk result (λ answer. answer.status ≡ Done → TellsByWorkers input answer.text.items)
for-input (Ok answer) script input is_text all = λ is. all input is_text
for-input (Err error) script input is_text all = tt
