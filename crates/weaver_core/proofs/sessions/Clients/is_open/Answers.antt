use Rattle.std.proofs.Common.{◌≡◌, ◌<◌, [], length, get_or, sym, ap, subst, ◌∙◌}
use Rattle.std.specs.Prelude.{Contains}
use Rattle.weave_entries.specs.SessionReplay.{RepliesToLast, session_of}
use Rattle.weaver_core.specs.Sessions.{ClientTable, is_open_at, is_open_in, log_of_client, requests_at, requests_in, session_at}
use Rattle.weaver_core.proofs.Tables.{image-at, read-at, within-image}
use Rattle.weaver_core.proofs.sessions.Clients.is_open.Goals as goal

pub is_open-requires-clause-client : goal.is_open-requires-clause-client
is_open-requires-clause-client c =
    let clients = c.self.inside.clients.items in
    let s = c.args.session in
    let client = c.index.result.now in
    let within = within-image log_of_client clients s (subst (λ (v : ClientTable). s < length v.logs) (sym c.self.view_is) c.requires.there) in
    let value : client ≡ get_or clients s client = c.index.ensures in
    (s, c.self.invariant s client (read-at clients s client within value))

pub is_open-requires-clause-among : goal.is_open-requires-clause-among
is_open-requires-clause-among c =
    let clients = c.self.inside.clients.items in
    let s = c.args.session in
    let client = c.index.result.now in
    let within = within-image log_of_client clients s (subst (λ (v : ClientTable). s < length v.logs) (sym c.self.view_is) c.requires.there) in
    let value : client ≡ get_or clients s client = c.index.ensures in
    let at = read-at clients s client within value in
    let requests = sym (ap (λ (v : ClientTable). requests_at v s) c.self.view_is) ∙ image-at requests_in clients s client at [] in
    subst (λ rs. Contains rs c.args.request) requests c.requires.among

pub returns-clause-open : goal.returns-clause-open
returns-clause-open c =
    let clients = c.self.inside.clients.items in
    let s = c.args.session in
    let client = c.index.result.now in
    let within = within-image log_of_client clients s (subst (λ (v : ClientTable). s < length v.logs) (sym c.self.view_is) c.requires.there) in
    let value : client ≡ get_or clients s client = c.index.ensures in
    let at = read-at clients s client within value in
    let log = image-at log_of_client clients s client at [] in
    c.is_open.ensures.open ∙ sym (ap (is_open_in c.args.request) log) ∙ ap (λ (v : ClientTable). is_open_at v s c.args.request) c.self.view_is

pub returns-clause-last : goal.returns-clause-last
returns-clause-last c waiting =
    let clients = c.self.inside.clients.items in
    let s = c.args.session in
    let client = c.index.result.now in
    let within = within-image log_of_client clients s (subst (λ (v : ClientTable). s < length v.logs) (sym c.self.view_is) c.requires.there) in
    let value : client ≡ get_or clients s client = c.index.ensures in
    let at = read-at clients s client within value in
    let requests = image-at requests_in clients s client at [] in
    let log = image-at log_of_client clients s client at [] in
    let session = sym (λ i. session_of (requests i) (log i)) ∙ ap (λ (v : ClientTable). session_at v s) c.self.view_is in
    subst (λ state. RepliesToLast state c.args.request) session (c.is_open.ensures.last waiting)
