use Rattle.std.proofs.Common.{◌≡◌, ℕ, ◌<◌, ◌≤◌, IsTrue, length, Some, false, subst}
use Rattle.program_defs.specs.declared.script.Request.{Request}
use Rattle.report_rules.specs.Lookups.{request_at}
use Rattle.step_rules.specs.Requests.{has_reply}
use Rattle.weaver_core.specs.Cores.{CoreView}
use Rattle.weaver_core.proofs.script_core.Core.first_unanswered.Goals as goal

pub first_unanswered-requires : goal.first_unanswered-requires
first_unanswered-requires c = record { are = c.self.invariant.0 }

pub returns-clause-replied : goal.returns-clause-replied
returns-clause-replied c =
    let first = c.first_unanswered.result in
    subst (λ (v : CoreView). (r : ℕ) (request : Request) → r < first → request_at v.script r ≡ Some request → IsTrue (has_reply v.state.account r request)) c.self.view_is c.first_unanswered.ensures.replied

pub returns-clause-unanswered : goal.returns-clause-unanswered
returns-clause-unanswered c =
    let first = c.first_unanswered.result in
    subst (λ (v : CoreView). (request : Request) → request_at v.script first ≡ Some request → has_reply v.state.account first request ≡ false) c.self.view_is c.first_unanswered.ensures.unanswered

pub returns-clause-within : goal.returns-clause-within
returns-clause-within c = subst (λ (v : CoreView). c.first_unanswered.result ≤ length v.script.requests) c.self.view_is c.first_unanswered.ensures.within
