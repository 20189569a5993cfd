-- A generated script after its steps and with every request answered. No public contract cites this.
use Rattle.std.specs.Prelude.{length}
use Rattle.program_defs.specs.declared.script.Script.{Script}
use Rattle.step_rules.specs.CoreState.{CoreState}
use Rattle.step_rules.specs.Trace.{trace_of}
use Rattle.weave_account.specs.declared.account.Account.{Account}
use Rattle.weave_account.specs.GoesOn.{GoesOn}
use Rattle.weave_drive.specs.Driving.{AreReplied}
use Rattle.weave_drive.specs.Staying.{ReportStays}
use Rattle.weave_script.specs.Scripts.{steps_of}

-- the logs that the script's own steps leave, from the empty logs
abbrev pub account_of_own_steps : Script → Account
account_of_own_steps script = (trace_of script (steps_of script.steps)).state.account

-- the logs go on from those of the script's own steps, whose report stays, and each request has its reply
pub record IsLoaded (script : Script) (state : CoreState) : Type 0 where
  pub goes_on : GoesOn (account_of_own_steps script) state.account
  pub stays : ReportStays script (account_of_own_steps script) state.account
  pub replied : AreReplied script (length script.requests) state.account
