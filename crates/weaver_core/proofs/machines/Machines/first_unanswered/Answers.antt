use Rattle.std.proofs.Common.{◌≡◌, ℕ, ◌<◌, ◌≤◌, IsTrue, List, length, Some, false, sym, subst}
use Rattle.program_defs.specs.declared.script.Request.{Request}
use Rattle.report_rules.specs.Lookups.{request_at}
use Rattle.step_rules.specs.Requests.{has_reply}
use Rattle.weaver_core.specs.Sessions.{IsFirstUnanswered}
use Rattle.weaver_core.specs.Cores.{AreOf, MachinesView}
use Rattle.weaver_core.proofs.FirstUnanswered.{none-replied, replied-before}
use Rattle.weaver_core.proofs.CitedLaws.{RequestLaws}
use Rattle.weaver_core.proofs.Turns.{SessionLaws}
use Rattle.weaver_core.proofs.machines.Machines.first_unanswered.Goals as goal

-- In each answer: the laws, and what the sessions say.

pub returns-clause-replied : goal.returns-clause-replied
returns-clause-replied c =
    let m = c.self.inside in
    let script = c.args.script.now in
    let first = c.first_unanswered.result in
    let are = subst (λ (v : MachinesView). AreOf script v) (sym c.self.view_is) c.requires.are in
    let sessions : SessionLaws = record { begun_first = c.sessions_go_in_turn.ensures.begun; replied_first = c.sessions_go_in_turn.ensures.replied; begun_tested = c.begun_and_replied_are_decided.ensures.begun; replied_tested = c.begun_and_replied_are_decided.ensures.replied } in
    let laws : RequestLaws = record { rise = c.requests_of_a_session_rise.ensures.rise; among = c.requests_of_a_session_rise.ensures.among } in
    let is = subst (λ (all : List Request). IsFirstUnanswered m.clients (length all) first) c.as_slice-requests.ensures c.first_unanswered.ensures in
    subst (λ (v : MachinesView). (r : ℕ) (request : Request) → r < first → request_at script r ≡ Some request → IsTrue (has_reply v.state.account r request)) c.self.view_is
    (replied-before script m.gates m.store m.oracle m.shards m.clients m.notices.items are sessions laws first is)

pub returns-clause-unanswered : goal.returns-clause-unanswered
returns-clause-unanswered c =
    let m = c.self.inside in
    let script = c.args.script.now in
    let first = c.first_unanswered.result in
    let are = subst (λ (v : MachinesView). AreOf script v) (sym c.self.view_is) c.requires.are in
    let sessions : SessionLaws = record { begun_first = c.sessions_go_in_turn.ensures.begun; replied_first = c.sessions_go_in_turn.ensures.replied; begun_tested = c.begun_and_replied_are_decided.ensures.begun; replied_tested = c.begun_and_replied_are_decided.ensures.replied } in
    let laws : RequestLaws = record { rise = c.requests_of_a_session_rise.ensures.rise; among = c.requests_of_a_session_rise.ensures.among } in
    let is = subst (λ (all : List Request). IsFirstUnanswered m.clients (length all) first) c.as_slice-requests.ensures c.first_unanswered.ensures in
    subst (λ (v : MachinesView). (request : Request) → request_at script first ≡ Some request → has_reply v.state.account first request ≡ false) c.self.view_is
    (none-replied script m.gates m.store m.oracle m.shards m.clients m.notices.items are sessions laws first is)

pub returns-clause-within : goal.returns-clause-within
returns-clause-within c = subst (λ (all : List Request). c.first_unanswered.result ≤ length all) c.as_slice-requests.ensures c.first_unanswered.ensures.within
