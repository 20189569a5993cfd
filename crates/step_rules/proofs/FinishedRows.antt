-- Two worked lists of steps: in the first a program is finished by its `reply`; in the second it is not, since its
-- `reply` was refused.
-- Used by nothing: worked examples.
use Rattle.std.specs.Prelude.{◌≡◌, ◌&&◌, ◌==◌, Bool, true, false, List, refl}
use Rattle.std.specs.List.{list_any, zip}
use Rattle.std.proofs.lemmas.Bool.{both_ways, ltb-true}
use Rattle.weave_data.proofs.Members.{any_from}
use Rattle.program_defs.specs.declared.script.Step.{Step}
use Rattle.program_defs.specs.declared.script.Step.TheVariants.{Reply}
use Rattle.report_rules.specs.declared.report.StepAnswer.{StepAnswer}
use Rattle.report_rules.specs.declared.report.StepAnswer.TheVariants.{Ok}
use Rattle.weave_account.specs.Account.{is_ended}
use Rattle.step_rules.specs.Finishing.{IsReplyDone, is_finished_in}
use Rattle.step_rules.specs.Trace.{TraceState, is_ok, trace_of}
use Rattle.step_rules.proofs.Computed.{report_of}
use Rattle.step_rules.proofs.Rows.{script_session_keeps_its_order, steps_session_keeps_its_order, script_collection_with_a_silent_gatekeeper, steps_collection_with_a_silent_gatekeeper}

-- the last step replies to the program
abbrev finished : TraceState
finished = trace_of script_session_keeps_its_order steps_session_keeps_its_order

its_reply_is_done : IsReplyDone steps_session_keeps_its_order finished.answers 1
its_reply_is_done = (16, ltb-true 16 17 refl, refl)

finished_in_the_logs : is_ended finished.state.account 1 ≡ true
finished_in_the_logs = refl

finished_in_the_report : is_finished_in (report_of script_session_keeps_its_order finished) 1 ≡ true
finished_in_the_report = refl

-- the transaction before it has its reply too, and is no finished program
the_transaction_is_not : is_finished_in (report_of script_session_keeps_its_order finished) 0 ≡ false
the_transaction_is_not = refl

-- the program waits for a silent gatekeeper, and its `reply` answers `Idle`
abbrev running : TraceState
running = trace_of script_collection_with_a_silent_gatekeeper steps_collection_with_a_silent_gatekeeper

-- the step is a `reply` of request 1 that was done
abbrev is_reply_done : Step × StepAnswer → Bool
is_reply_done (Reply r, answer) = (r == 1) && is_ok answer
is_reply_done _ = false

abbrev steps_and_answers : List (Step × StepAnswer)
steps_and_answers = zip steps_collection_with_a_silent_gatekeeper running.answers

no_reply_is_done : ¬ IsReplyDone steps_collection_with_a_silent_gatekeeper running.answers 1
no_reply_is_done done = both_ways (list_any is_reply_done steps_and_answers) refl (any_from is_reply_done steps_and_answers (Reply 1, Ok) done refl)

running_in_the_logs : is_ended running.state.account 1 ≡ false
running_in_the_logs = refl

running_in_the_report : is_finished_in (report_of script_collection_with_a_silent_gatekeeper running) 1 ≡ false
running_in_the_report = refl
