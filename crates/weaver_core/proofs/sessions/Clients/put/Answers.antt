use Rattle.std.proofs.Common.{◌<◌, length, refl, sym, ap, subst, ◌∙◌}
use Rattle.weaver_core.specs.Sessions.{ClientTable, log_of_client, with_running}
use Rattle.weaver_core.proofs.AtClients.{numbered-same, running-set}
use Rattle.weaver_core.proofs.Tables.{read-at, within-image}
use Rattle.weaver_core.proofs.sessions.Clients.put.Goals as goal

pub invariant_of-self : goal.invariant_of-self
invariant_of-self c =
    let clients = c.self.inside.clients.items in
    let s = c.args.session in
    let before = c.index_mut-client.result.now in
    let within = within-image log_of_client clients s (subst (λ (v : ClientTable). s < length v.logs) (sym c.self.view_is) c.requires) in
    let at = read-at clients s before within c.index_mut-client.ensures.value in
    numbered-same clients s before (record before { running = c.args.running }) within at c.self.invariant refl refl

pub returns : goal.returns
returns c =
    let clients = c.self.inside.clients.items in
    let s = c.args.session in
    let before = c.index_mut-client.result.now in
    let within = within-image log_of_client clients s (subst (λ (v : ClientTable). s < length v.logs) (sym c.self.view_is) c.requires) in
    let at = read-at clients s before within c.index_mut-client.ensures.value in
    running-set clients s before (record before { running = c.args.running }) within at c.args.running refl
    ∙ ap (λ (v : ClientTable). record v { values = with_running v.values s c.args.running }) c.self.view_is
