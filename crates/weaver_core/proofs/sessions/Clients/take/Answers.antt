use Rattle.std.proofs.Common.{◌<◌, length, Option, None, refl, sym, ap, subst, ◌∙◌}
use Rattle.weaver_core.specs.Sessions.{ClientTable, SessionValues, log_of_client, no_values, values_at, values_of, with_running}
use Rattle.weaver_core.specs.declared.walks.Running.{Running}
use Rattle.weaver_core.proofs.AtClients.{numbered-same, running-set}
use Rattle.weaver_core.proofs.Tables.{image-at, read-at, within-image}
use Rattle.weaver_core.proofs.sessions.Clients.take.Goals as goal

pub invariant_of-self : goal.invariant_of-self
invariant_of-self c =
    let clients = c.self.inside.clients.items in
    let s = c.args.session in
    let before = c.index_mut-client.result.now in
    let within = within-image log_of_client clients s (subst (λ (v : ClientTable). s < length v.logs) (sym c.self.view_is) c.requires) in
    let at = read-at clients s before within c.index_mut-client.ensures.value in
    numbered-same clients s before (record before { running = c.take.new.self }) within at c.self.invariant refl refl

pub returns-clause-taken : goal.returns-clause-taken
returns-clause-taken c =
    let clients = c.self.inside.clients.items in
    let s = c.args.session in
    let before = c.index_mut-client.result.now in
    let within = within-image log_of_client clients s (subst (λ (v : ClientTable). s < length v.logs) (sym c.self.view_is) c.requires) in
    let at = read-at clients s before within c.index_mut-client.ensures.value in
    c.take.ensures.value ∙ sym (ap (λ (v : SessionValues). v.running) (image-at values_of clients s before at no_values)) ∙ ap (λ (v : ClientTable). (values_at v.values s).running) c.self.view_is

pub returns-clause-left : goal.returns-clause-left
returns-clause-left c =
    let clients = c.self.inside.clients.items in
    let s = c.args.session in
    let before = c.index_mut-client.result.now in
    let within = within-image log_of_client clients s (subst (λ (v : ClientTable). s < length v.logs) (sym c.self.view_is) c.requires) in
    let at = read-at clients s before within c.index_mut-client.ensures.value in
    running-set clients s before (record before { running = c.take.new.self }) within at None (ap (λ (o : Option Running). record before { running = o }) c.take.ensures.after)
    ∙ ap (λ (v : ClientTable). record v { values = with_running v.values s None }) c.self.view_is
