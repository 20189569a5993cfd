use Rattle.std.proofs.Common.{◌≡◌, Option, Some, refl, sym, ap, subst, ◌∙◌}
use Rattle.vector_stamp.specs.declared.clock.Stamp.{Stamp}
use Rattle.program_defs.specs.Works.{is_look}
use Rattle.program_defs.specs.declared.script.Step.TheVariants.{Begin}
use Rattle.weave_account.specs.declared.account.Account.{Account}
use Rattle.weave_account.specs.IsAccount.{IsAccount}
use Rattle.step_rules.specs.CoreState.{CoreState}
use Rattle.step_rules.specs.Entries.{stamp_to_begin}
use Rattle.step_rules.specs.Requests.{last_begun}
use Rattle.weaver_core.specs.Sessions.{with_running}
use Rattle.weaver_core.specs.Cores.{MachinesView}
use Rattle.weaver_core.specs.Splitting.{AreAllByLog}
use Rattle.weaver_core.specs.Walks.{IsRunningIn, begun_with}
use Rattle.weaver_core.specs.declared.walks.Running.{Running}
use Rattle.weaver_core.proofs.AfterSteps.{not-begun-values, program-values}
use Rattle.weaver_core.proofs.BegunProgram.{begun-account, last-is, ok-is, running-begun}
use Rattle.weaver_core.proofs.SameMachines.{did-after}
use Rattle.weaver_core.proofs.VisitAfter.{account-after}
use Rattle.weaver_core.proofs.Waiting.{session-laws}
use Rattle.weaver_core.proofs.stepping.begin_program.Goals as goal

pub returns-clause-done : goal.returns-clause-done
returns-clause-done c =
    did-after c.args.script.now (Begin c.args.request) c.args.machines.now c.begin.new.self c.put.new.self c.in_ok-answer.answer
    (record { frame = ap (λ (m : MachinesView). m.frame) c.put.ensures; state = ap (λ (m : MachinesView). m.state) c.put.ensures }) c.in_ok-answer.ensures.done

pub returns-clause-programs : goal.returns-clause-programs
returns-clause-programs c =
    let script = c.args.script.now in
    let r = c.args.request in
    let old = c.args.machines.now in
    let new = c.begin.new.self in
    let are = c.requires.are in
    let look = c.requires.look in
    let request = look.request in
    let answer = c.in_ok-answer.answer in
    let did = c.in_ok-answer.ensures.done in
    let walk = c.in_ok-walk.walk in
    let stay = c.what_stays.ensures.stay in
    let core = c.what_stays.ensures.core in
    let done = sym c.is_done.ensures ∙ c.if-not-is_done.false in
    let ok = sym did.answer_is ∙ ok-is answer done in
    let is = ap (λ (state : CoreState). state.account) did.state_is ∙ begun-account script old.state r request look.request_is ok in
    let after = account-after core script old new (Begin r) are c.requires.there answer did in
    let is-next = subst (IsAccount script) is after.0 in
    let stamp = stamp_to_begin old.state.account request in
    let running : Running = record { request = r; stamp = stamp; walk = walk } in
    let s-is = c.session_of-session.ensures request look.request_is in
    let last : c.last-stamp.result ≡ Some stamp = c.last-stamp.ensures ∙ ap (last_begun new.state.account) s-is ∙ ap (λ (all : Account). last_begun all request.session) is
    ∙ last-is stay (session-laws stay) stay.rise stay.among script old are r c.args.program.now look ok is-next in
    let begun-is : c.begun_with.result ≡ Some running = c.begun_with.ensures ∙ ap (λ (o : Option Stamp). begun_with r o walk) last in
    let runs = subst (λ (all : Account). IsRunningIn script all r running) (sym is) (running-begun stay (session-laws stay) stay.rise stay.among script old are r c.args.program.now look ok is-next walk c.in_ok-walk.ensures.program c.in_ok-walk.ensures.reads) in
    let values = program-values stay core script old new are r request look.request_is old.values c.requires.programs answer did (ap is_look look.work_is) done running refl runs in
    let path : with_running old.values request.session (Some running) ≡ with_running new.values c.session_of-session.result c.begun_with.result = λ i. with_running (sym c.in_ok-answer.ensures.values i) (sym s-is i) (sym begun-is i) in
    subst (λ (m : MachinesView). AreAllByLog script m.state.account m.values) (sym c.put.ensures) (subst (AreAllByLog script new.state.account) path values)

-- a begin that was not done
pub returns-then-not-is_done-clause-programs : goal.returns-then-not-is_done-clause-programs
returns-then-not-is_done-clause-programs c =
    let script = c.args.script.now in
    let r = c.args.request in
    let old = c.args.machines.now in
    let new = c.begin.new.self in
    let are = c.requires.are in
    let look = c.requires.look in
    let answer = c.in_ok-answer.answer in
    let did = c.in_ok-answer.ensures.done in
    let stay = c.what_stays.ensures.stay in
    let core = c.what_stays.ensures.core in
    let fails = sym c.is_done.ensures ∙ c.if-not-is_done.true in
    subst (AreAllByLog script new.state.account) (sym c.in_ok-answer.ensures.values)
    (not-begun-values stay core script old new are r look.request look.request_is old.values c.requires.programs answer did fails)
