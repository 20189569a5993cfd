use Rattle.std.proofs.Common.{◌≡◌, ◌<◌, List, length, None, Some, sym, ap, subst, ◌∙◌, arith}
use Rattle.weave_data.proofs.Results.{on_err_map}
use Rattle.program_defs.specs.declared.script.Step.TheVariants.{Visit}
use Rattle.report_rules.specs.declared.report.StepAnswer.{StepAnswer}
use Rattle.step_rules.specs.Answers.{answer_of}
use Rattle.step_rules.specs.CoreState.{CoreState}
use Rattle.step_rules.specs.IsCore.{IsCore}
use Rattle.weaver_core.specs.Walks.{IsRunningIn}
use Rattle.weaver_core.specs.Sessions.{SessionValues, values_at, with_running}
use Rattle.weaver_core.specs.Cores.{AreSameMachines, MachinesDo, MachinesView}
use Rattle.weaver_core.specs.Splitting.{AreAllByLog}
use Rattle.weaver_core.proofs.Idle.{closed-done}
use Rattle.weaver_core.proofs.Resting.{some-one}
use Rattle.weaver_core.proofs.Results.{either_way, if_ok_map}
use Rattle.weaver_core.proofs.SameMachines.{are-of-same, did-after, did-before, running-twice}
use Rattle.weaver_core.proofs.VisitWith.{idle-here, left-done, left-refused, runs-here}
use Rattle.weaver_core.proofs.stepping.visit_with.Goals as goal

-- a request that doesn't wait for its reply is not visited
pub returns-then-not-is_open-clause-done : goal.returns-then-not-is_open-clause-done
returns-then-not-is_open-clause-done c =
    let script = c.args.script.now in
    let r = c.args.request in
    let one = some-one script r c.requires.there in
    closed-done c.what_stays.ensures.stay script c.args.machines.now c.requires.are r one.0 one.1 (sym (c.is_open.ensures one.0 one.1) ∙ c.if-not-is_open.true)

-- the machines without the program that was taken out are those of the script
pub visit_taken-answer-requires-clause-are : goal.visit_taken-answer-requires-clause-are
visit_taken-answer-requires-clause-are c = are-of-same c.args.script.now c.args.machines.now c.take-running.new.self
    (record { frame = ap (λ (m : MachinesView). m.frame) c.take-running.ensures.left; state = ap (λ (m : MachinesView). m.state) c.take-running.ensures.left }) c.requires.are

pub visit_taken-answer-requires-clause-runs : goal.visit_taken-answer-requires-clause-runs
visit_taken-answer-requires-clause-runs c running here =
    let script = c.args.script.now in
    let r = c.args.request in
    let m = c.args.machines.now in
    let one = some-one script r c.requires.there in
    let waits = sym (c.is_open.ensures one.0 one.1) ∙ c.if-not-is_open.false in
    let s-is = c.session_of-session.ensures one.0 one.1 in
    let was : (values_at m.values one.0.session).running ≡ Some running = ap (λ n. (values_at m.values n).running) (sym s-is) ∙ sym c.take-running.ensures.taken ∙ here in
    subst (λ (state : CoreState). IsRunningIn script state.account r running) (sym (ap (λ (v : MachinesView). v.state) c.take-running.ensures.left))
    (runs-here c.what_stays.ensures.stay c.what_stays.ensures.core script m c.requires.are c.requires.programs r one.0 one.1 waits running was)

pub visit_taken-answer-requires-clause-idle : goal.visit_taken-answer-requires-clause-idle
visit_taken-answer-requires-clause-idle c none =
    let script = c.args.script.now in
    let r = c.args.request in
    let m = c.args.machines.now in
    let one = some-one script r c.requires.there in
    let waits = sym (c.is_open.ensures one.0 one.1) ∙ c.if-not-is_open.false in
    let s-is = c.session_of-session.ensures one.0 one.1 in
    ap (λ (state : CoreState). answer_of script state (Visit r)) (ap (λ (v : MachinesView). v.state) c.take-running.ensures.left)
    ∙ idle-here c.what_stays.ensures.stay c.what_stays.ensures.core script m c.requires.are c.requires.programs r one.0 one.1 waits (ap (λ n. (values_at m.values n).running) (sym s-is) ∙ sym c.take-running.ensures.taken ∙ none)

same-but : (m with-it : MachinesView) (values : List SessionValues) → with-it ≡ record m { values = values } → AreSameMachines m with-it
same-but m with-it values is = record { frame = ap (λ (v : MachinesView). v.frame) is; state = ap (λ (v : MachinesView). v.state) is }

pub returns-clause-done : goal.returns-clause-done
returns-clause-done c =
    let script = c.args.script.now in
    let r = c.args.request in
    let m = c.args.machines.now in
    let taken = c.take-running.new.self in
    let visited = c.visit_taken-answer.new.machines in
    if_ok_map c.visit_taken-answer.result (MachinesDo script (Visit r) taken visited) _
    (λ (a : StepAnswer) did. did-after script (Visit r) m visited c.put.new.self a (same-but visited c.put.new.self _ c.put.ensures)
    (did-before script (Visit r) m taken visited a (same-but m taken _ c.take-running.ensures.left) did))
    c.visit_taken-answer.ensures.done

pub returns-clause-refused : goal.returns-clause-refused
returns-clause-refused c =
    let m = c.args.machines.now in
    let taken = c.take-running.new.self in
    let visited = c.visit_taken-answer.new.machines in
    on_err_map c.visit_taken-answer.result (visited ≡ taken) _
    (λ is. record {
      frame = ap (λ (v : MachinesView). v.frame) c.put.ensures ∙ ap (λ (v : MachinesView). v.frame) is ∙ ap (λ (v : MachinesView). v.frame) c.take-running.ensures.left;
      state = ap (λ (v : MachinesView). v.state) c.put.ensures ∙ ap (λ (v : MachinesView). v.state) is ∙ ap (λ (v : MachinesView). v.state) c.take-running.ensures.left;
    })
    c.visit_taken-answer.ensures.refused

pub returns-clause-programs : goal.returns-clause-programs
returns-clause-programs c =
    let script = c.args.script.now in
    let r = c.args.request in
    let m = c.args.machines.now in
    let taken = c.take-running.new.self in
    let visited = c.visit_taken-answer.new.machines in
    let s = c.session_of-session.result in
    let was = c.take-running.result in
    let is = c.visit_taken-answer.new.running in
    let are = c.requires.are in
    let all = c.requires.programs in
    let stay = c.what_stays.ensures.stay in
    let core = c.what_stays.ensures.core in
    let one = some-one script r c.requires.there in
    let waits = sym (c.is_open.ensures one.0 one.1) ∙ c.if-not-is_open.false in
    let s-is = c.session_of-session.ensures one.0 one.1 in
    let was-is = ap (λ n. (values_at m.values n).running) (sym s-is) ∙ sym c.take-running.ensures.taken in
    let stamps = c.visit_taken-answer.ensures.same in
    let runs = c.visit_taken-answer.ensures.runs in
    let within : s < length m.values = let below = are.limits.sessions r one.0 one.1 in let many = all.many in omega (arith, s-is, below, many) in
    let values : with_running visited.values s is ≡ with_running m.values one.0.session is =
    ap (λ (v : List SessionValues). with_running v s is) (c.visit_taken-answer.ensures.values ∙ ap (λ (v : MachinesView). v.values) c.take-running.ensures.left)
    ∙ running-twice m.values s None is within ∙ ap (λ n. with_running m.values n is) s-is in
    let left = either_way c.visit_taken-answer.result (MachinesDo script (Visit r) taken visited) (visited ≡ taken) (AreAllByLog script visited.state.account (with_running m.values one.0.session is))
    (λ (a : StepAnswer) did. left-done stay core script m are all r one.0 one.1 waits visited was is was-is stamps runs a (did-before script (Visit r) m taken visited a (same-but m taken _ c.take-running.ensures.left) did))
    (λ same. left-refused stay core script m are all r one.0 one.1 waits visited was is was-is stamps runs (ap (λ (v : MachinesView). v.state) same ∙ ap (λ (v : MachinesView). v.state) c.take-running.ensures.left))
    c.visit_taken-answer.ensures.done c.visit_taken-answer.ensures.refused in
    subst (λ (v : MachinesView). AreAllByLog script v.state.account v.values) (sym c.put.ensures) (subst (AreAllByLog script visited.state.account) (sym values) left)

-- the session is still there
pub put-requires : goal.put-requires
put-requires c =
    let script = c.args.script.now in
    let r = c.args.request in
    let m = c.args.machines.now in
    let taken = c.take-running.new.self in
    let visited = c.visit_taken-answer.new.machines in
    let are = c.requires.are in
    let core = c.what_stays.ensures.core in
    let one = some-one script r c.requires.there in
    let s-is = c.session_of-session.ensures one.0 one.1 in
    let below = are.limits.sessions r one.0 one.1 in
    let all : length visited.state.account.sessions ≡ 64 =
    either_way c.visit_taken-answer.result (MachinesDo script (Visit r) taken visited) (visited ≡ taken) (length visited.state.account.sessions ≡ 64)
    (λ (a : StepAnswer) did.
    let whole = did-before script (Visit r) m taken visited a (same-but m taken _ c.take-running.ensures.left) did in
    (subst (IsCore script) (sym whole.state_is) (core.tried script m.state (Visit r) are.limits c.requires.there whole.small are.core)).sessions)
    (λ same. ap (λ (v : MachinesView). length v.state.account.sessions) (same ∙ c.take-running.ensures.left) ∙ are.core.sessions)
    c.visit_taken-answer.ensures.done c.visit_taken-answer.ensures.refused in
    omega (arith, s-is, below, all)
