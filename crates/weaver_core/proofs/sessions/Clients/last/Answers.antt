use Rattle.std.proofs.Common.{◌≡◌, ◌<◌, [], length, get_or, sym, ap, subst, ◌∙◌}
use Rattle.weave_entries.specs.SessionReplay.{SessionState, session_of}
use Rattle.weaver_core.specs.Sessions.{ClientTable, log_of_client, requests_in, session_at}
use Rattle.weaver_core.proofs.Tables.{image-at, read-at, within-image}
use Rattle.weaver_core.proofs.sessions.Clients.last.Goals as goal

pub returns : goal.returns
returns c =
    let clients = c.self.inside.clients.items in
    let s = c.args.session in
    let client = c.index.result.now in
    let within = within-image log_of_client clients s (subst (λ (v : ClientTable). s < length v.logs) (sym c.self.view_is) c.requires) in
    let value : client ≡ get_or clients s client = c.index.ensures in
    let at = read-at clients s client within value in
    let requests = image-at requests_in clients s client at [] in
    let log = image-at log_of_client clients s client at [] in
    c.last.ensures ∙ ap (λ (state : SessionState). state.last) (c.self.invariant s client at).state ∙ sym (λ i. (session_of (requests i) (log i)).last) ∙ ap (λ (v : ClientTable). (session_at v s).last) c.self.view_is
