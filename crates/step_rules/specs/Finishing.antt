-- Which replies were done in a list of steps, and which programs a report says are finished.
use Rattle.std.specs.Prelude.{◌≡◌, ◌↔◌, ℕ, Bool, true, false, List, Contains, IsTrue, Some}
use Rattle.std.specs.List.{zip}
use Rattle.program_defs.specs.declared.script.Request.{Request}
use Rattle.program_defs.specs.declared.script.Script.{Script}
use Rattle.program_defs.specs.declared.script.Step.{Step}
use Rattle.program_defs.specs.declared.script.Step.TheVariants as step
use Rattle.program_defs.specs.Works.{is_look}
use Rattle.report_rules.specs.Lookups.{is_some_and, reply_at, request_at}
use Rattle.report_rules.specs.declared.report.Reply.{Reply}
use Rattle.report_rules.specs.declared.report.ReplyState.{ReplyState}
use Rattle.report_rules.specs.declared.report.ReplyState.TheVariants.{Finished}
use Rattle.report_rules.specs.declared.report.Report.{Report}
use Rattle.report_rules.specs.declared.report.StepAnswer.{StepAnswer}
use Rattle.report_rules.specs.declared.report.StepAnswer.TheVariants.{Ok}

-- a `reply` of the request was done: among the steps, each with its answer, there is a `reply` of it that answered `Ok`
abbrev pub IsReplyDone : List Step → List StepAnswer → ℕ → Type 0
IsReplyDone steps answers r = Contains (zip steps answers) (step.Reply r, Ok)

-- the state is that of a finished program
abbrev pub is_finished : ReplyState → Bool
is_finished (Finished answer) = true
is_finished _ = false

-- the report says that the request is a finished program
abbrev pub is_finished_in : Report → ℕ → Bool
is_finished_in report r = is_some_and (λ (reply : Reply). is_finished reply.state) (reply_at report r)

-- in the report each program of the script is finished exactly if a `reply` of it was done
abbrev pub RepliesFinishPrograms : Script → List Step → Report → Type 0
RepliesFinishPrograms script steps report =
    (r : ℕ) (request : Request) → request_at script r ≡ Some request → IsTrue (is_look request.work)
    → IsTrue (is_finished_in report r) ↔ IsReplyDone steps report.answers r
