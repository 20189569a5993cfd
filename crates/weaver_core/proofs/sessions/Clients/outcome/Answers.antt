use Rattle.std.proofs.Common.{◌≡◌, ◌<◌, length, get_or, sym, ap, subst, ◌∙◌}
use Rattle.std.specs.Prelude.{IfOk}
use Rattle.weaver_core.specs.Sessions.{ClientTable, SessionValues, log_of_client, no_values, values_at, values_of}
use Rattle.weaver_core.specs.Finishing.{IsOutcomeOf}
use Rattle.weaver_core.proofs.Tables.{image-at, read-at, within-image}
use Rattle.weaver_core.proofs.sessions.Clients.outcome.Goals as goal

pub returns : goal.returns
returns c =
    let clients = c.self.inside.clients.items in
    let s = c.args.session in
    let client = c.index.result.now in
    let within = within-image log_of_client clients s (subst (λ (v : ClientTable). s < length v.logs) (sym c.self.view_is) c.requires) in
    let value : client ≡ get_or clients s client = c.index.ensures in
    let at = read-at clients s client within value in
    let values = sym (image-at values_of clients s client at no_values) ∙ ap (λ (v : ClientTable). values_at v.values s) c.self.view_is in
    subst (λ (one : SessionValues). IfOk c.outcome_of.result (IsOutcomeOf one.running)) values c.outcome_of.ensures
