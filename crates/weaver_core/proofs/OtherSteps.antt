-- What is kept after a step that is of no request.
-- Used by `other_step`.
use Rattle.std.proofs.Common.{List, [], sym, ap, subst}
use Rattle.std.specs.Prelude.{slice_index_or}
use Rattle.program_defs.specs.Limits.{IsWithinLimits}
use Rattle.program_defs.specs.declared.script.Script.{Script}
use Rattle.program_defs.specs.declared.script.Step.{Step}
use Rattle.report_rules.specs.declared.report.StepAnswer.{StepAnswer}
use Rattle.weave_entries.specs.SessionReplay.{has_reply_in, session_stamp_of}
use Rattle.weave_account.specs.declared.account.Account.{Account}
use Rattle.weave_account.specs.GoesOn.{GoesOn}
use Rattle.weave_account.specs.IsAccount.{IsAccount}
use Rattle.step_rules.specs.CoreState.{CoreState}
use Rattle.step_rules.specs.IsCore.{IsStepOf}
use Rattle.step_rules.specs.Trace.{state_after}
use Rattle.weaver_core.specs.Sessions.{SessionValues}
use Rattle.weaver_core.specs.Cores.{AreOf, MachinesDo, MachinesView}
use Rattle.weaver_core.specs.Splitting.{AreAllByLog}
use Rattle.weaver_core.specs.Staying.{CoreLaws, StayLaws}
use Rattle.weaver_core.specs.Walks.{IsOtherStep}
use Rattle.weaver_core.proofs.ProgramsStay.{SameLogs, step-same}
use Rattle.weaver_core.proofs.ValuesStay.{all-stay}

-- what is kept stays
same-logs-stay : (laws : StayLaws) (script : Script) (account next : Account) → IsWithinLimits script → IsAccount script account → IsAccount script next → GoesOn account next → SameLogs account next
    → (values : List SessionValues) → AreAllByLog script account values → AreAllByLog script next values
same-logs-stay laws script account next limits is is-next goes same values are =
    all-stay laws script account next limits is is-next goes
    (λ t. ap (λ sessions. slice_index_or sessions t []) same.sessions_are)
    (λ r request at. record {
      stamps = ap (λ sessions. session_stamp_of r (slice_index_or sessions request.session [])) same.sessions_are;
      replies = ap (λ sessions. has_reply_in r (slice_index_or sessions request.session [])) same.sessions_are;
      visits = same.visits_are r;
    }) values are

-- values that are those of the logs are so, too, after a step that is of no request
pub other-stay : (laws : StayLaws) (core : CoreLaws) (script : Script) (old new : MachinesView) (step : Step) → AreOf script old → IsStepOf script step → IsOtherStep step → (answer : StepAnswer) → MachinesDo script step old new answer
    → (values : List SessionValues) → AreAllByLog script old.state.account values → AreAllByLog script new.state.account values
other-stay laws core script old new step are there other answer did values kept =
    subst (λ (state : CoreState). AreAllByLog script state.account values) (sym did.state_is)
    (same-logs-stay laws script old.state.account (state_after script old.state step).account are.limits are.core.account (core.tried script old.state step are.limits there did.small are.core).account
    (core.goes_on script old.state step are.limits there are.core) (step-same script old.state are.core.account.shards.as_many step there other) values kept)
