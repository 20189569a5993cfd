-- A visit of the program that was taken out of its session.
-- Used by `visit_with`.
use Rattle.std.proofs.Common.{◌≡◌, ℕ, ◌<◌, true, false, [], Option, None, Some, refl, sym, ap, subst, ◌∙◌}
use Rattle.std.specs.Option.{ForSome, option_map}
use Rattle.std.proofs.lemmas.Option.{none-some, same_Some}
use Rattle.vector_stamp.specs.declared.clock.Stamp.{Stamp}
use Rattle.program_defs.specs.Works.{is_look}
use Rattle.program_defs.specs.declared.script.Request.{Request}
use Rattle.program_defs.specs.declared.script.Script.{Script}
use Rattle.program_defs.specs.declared.script.Step.TheVariants.{Visit}
use Rattle.program_defs.specs.declared.script.Work.{Work}
use Rattle.program_defs.specs.declared.script.Work.TheVariants.{Change, Look}
use Rattle.report_rules.specs.Lookups.{request_at}
use Rattle.report_rules.specs.declared.report.StepAnswer.{StepAnswer}
use Rattle.report_rules.specs.declared.report.StepAnswer.TheVariants.{Idle}
use Rattle.weave_account.specs.declared.account.Account.{Account}
use Rattle.weave_account.specs.Account.{session_log}
use Rattle.weave_account.specs.Sessions.{requests_of_session}
use Rattle.step_rules.specs.Answers.{answer_of}
use Rattle.step_rules.specs.CoreState.{CoreState}
use Rattle.step_rules.specs.Trace.{is_ok}
use Rattle.weaver_core.specs.Sessions.{is_open_in, values_at, with_running}
use Rattle.weaver_core.specs.Cores.{AreOf, MachinesDo, MachinesView}
use Rattle.weaver_core.specs.Splitting.{AreAllByLog, waiting_in}
use Rattle.weaver_core.specs.Staying.{CoreLaws, StayLaws}
use Rattle.weaver_core.specs.Walks.{IsRunningIn}
use Rattle.weaver_core.specs.declared.walks.Running.{Running}
use Rattle.weaver_core.proofs.AfterSteps.{rested, visit-values}
use Rattle.weaver_core.proofs.Idle.{no-program-idle}
use Rattle.weaver_core.proofs.OpenRuns.{open-runs, runs-open}
use Rattle.weaver_core.proofs.SameMachines.{running-back}
use Rattle.weaver_core.proofs.StepStays.{same-stays}
use Rattle.weaver_core.proofs.StepValues.{program-visited}
use Rattle.weaver_core.proofs.Turns.{place-of}
use Rattle.weaver_core.proofs.ValuesStay.{all-same}
use Rattle.weaver_core.proofs.Waiting.{open-waits, session-laws}
use Rattle.step_rules.proofs.StepGoesOn.{goes-same}

abbrev pub stamp-in : Option Running → Option Stamp
stamp-in running = option_map (λ (one : Running). one.stamp) running

module _ (stay : StayLaws) (core : CoreLaws) (script : Script) (machines : MachinesView) (are : AreOf script machines) (all : AreAllByLog script machines.state.account machines.values) (r : ℕ) (request : Request) (at : request_at script r ≡ Some request)
    (waits : is_open_in r (session_log machines.state.account request.session) ≡ true) where
  abbrev account : Account
  account = machines.state.account

  abbrev s : ℕ
  s = request.session

  within : s < 64
  within = are.limits.sessions r request at

  waiting : (stamp : Stamp) × (waiting_in (session_log account s) ≡ Some (r, stamp))
  waiting =
      let place = place-of (requests_of_session script s) r (stay.among script r request at) in
      open-waits (session-laws stay) s (requests_of_session script s) (session_log account s) (are.core.account.sessions.logs s) (stay.rise script s) place.0 r place.1 waits

  -- what is running in the session is this request
  its-number : (one : Running) → (values_at machines.values s).running ≡ Some one → one.request ≡ r
  its-number one here =
      let two = runs-open stay script account are.limits are.core.account machines.values all s within one here in
      ap (λ (x : ℕ × Stamp). x.0) (same_Some (one.request, one.stamp) (r, waiting.0) (sym two.1 ∙ waiting.1))

  looks-here : (one : Running) → (values_at machines.values s).running ≡ Some one → is_look request.work ≡ true
  looks-here one here =
      let two = runs-open stay script account are.limits are.core.account machines.values all s within one here in
      let same = same_Some two.0.request request (sym two.0.request_is ∙ ap (request_at script) (its-number one here) ∙ at) in
      ap (λ (k : Request). is_look k.work) (sym same) ∙ two.0.looks

  -- the program that the session's values have as running is the one of this request, as the logs say
  pub runs-here : (one : Running) → (values_at machines.values s).running ≡ Some one → IsRunningIn script account r one
  runs-here one here = by request.work refl (looks-here one here)
    where
      by : (work : Work) → request.work ≡ work → is_look work ≡ true → IsRunningIn script account r one
      by (Change ops) e looks = absurd (let f : false ≡ true = looks in cc)
      by (Look program) e looks =
          let kept = open-runs stay script account are.limits are.core.account machines.values all r request at within program e waits in
          subst (IsRunningIn script account r) (same_Some kept.running one (sym kept.running_is ∙ here)) kept.runs

  -- if nothing is running in its session, `visit` answers `idle`
  pub idle-here : (values_at machines.values s).running ≡ None → answer_of script machines.state (Visit r) ≡ Idle
  idle-here none = by request.work refl
    where
      by : (work : Work) → request.work ≡ work → answer_of script machines.state (Visit r) ≡ Idle
      by (Change ops) e = no-program-idle stay script machines are r request at (ap is_look e)
      by (Look program) e =
          let kept = open-runs stay script account are.limits are.core.account machines.values all r request at within program e waits in
          absurd (none-some kept.running (sym none ∙ kept.running_is))

  -- What is left

  module _ (new : MachinesView) where
    -- nothing was running
    none-left : (values_at machines.values s).running ≡ None → new.state ≡ machines.state → AreAllByLog script new.state.account (with_running machines.values s None)
    none-left none same =
        subst (AreAllByLog script new.state.account) (sym (ap (with_running machines.values s) (sym none) ∙ running-back machines.values s))
        (all-same script account new.state.account (ap (λ (state : CoreState). state.account) same) machines.values all)

    -- a program is running on
    one-left : (was one : Running) → (values_at machines.values s).running ≡ Some was → one.stamp ≡ was.stamp → IsRunningIn script new.state.account r one → new.state ≡ machines.state → AreAllByLog script new.state.account (with_running machines.values s (Some one))
    one-left was one was-is stamp-is runs same =
        let account-is = ap (λ (state : CoreState). state.account) same in
        subst (λ (logs : Account). AreAllByLog script logs (with_running machines.values s (Some one))) (sym account-is)
        (program-visited stay script account account are.limits are.core.account are.core.account (goes-same account) r request at machines.values all (λ q k here other. same-stays account q k) (λ t other. refl) refl waits
        was one was-is (its-number was was-is) stamp-is (subst (λ (logs : Account). IsRunningIn script logs r one) account-is runs))

    -- if the state is as before, the values with the program back in its session are those of the logs
    pub left-refused : (was is : Option Running) → (values_at machines.values s).running ≡ was → stamp-in is ≡ stamp-in was → ForSome is (IsRunningIn script new.state.account r) → new.state ≡ machines.state → AreAllByLog script new.state.account (with_running machines.values s is)
    left-refused None None was-is stamps runs same = none-left was-is same
    left-refused (Some was) (Some one) was-is stamps runs same = one-left was one was-is (same_Some one.stamp was.stamp stamps) (runs one refl) same
    left-refused None (Some one) was-is stamps runs same = absurd (none-some one.stamp (sym stamps))
    left-refused (Some was) None was-is stamps runs same = absurd (none-some was.stamp stamps)

    -- the same if the machines did `visit`, whatever they answered
    pub left-done : (was is : Option Running) → (values_at machines.values s).running ≡ was → stamp-in is ≡ stamp-in was → ForSome is (IsRunningIn script new.state.account r) → (a : StepAnswer) → MachinesDo script (Visit r) machines new a → AreAllByLog script new.state.account (with_running machines.values s is)
    left-done None None was-is stamps runs a did = none-left was-is (rested script machines new (Visit r) a did (ap is_ok (did.answer_is ∙ idle-here was-is)))
    left-done (Some was) (Some one) was-is stamps runs a did =
        visit-values stay core script machines new are r request at machines.values all a did waits was one was-is (its-number was was-is) (same_Some one.stamp was.stamp stamps) (runs one refl)
    left-done None (Some one) was-is stamps runs a did = absurd (none-some one.stamp (sym stamps))
    left-done (Some was) None was-is stamps runs a did = absurd (none-some was.stamp stamps)
