use Rattle.std.proofs.Common.{[], ap, ◌∙◌}
use Rattle.step_rules.specs.Requests.{last_begun}
use Rattle.weave_account.proofs.InSession.{last-any}
use Rattle.weaver_core.specs.Cores.{MachinesView}
use Rattle.weaver_core.specs.Sessions.{session_log_at, requests_at}
use Rattle.weaver_core.proofs.machines.Machines.last.Goals as goal

pub returns : goal.returns
returns c =
    let clients = c.self.inside.clients in
    c.last.ensures ∙ last-any (requests_at clients c.args.session) [] (session_log_at clients c.args.session) ∙ ap (λ (v : MachinesView). last_begun v.state.account c.args.session) c.self.view_is
