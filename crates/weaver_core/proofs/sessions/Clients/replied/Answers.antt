use Rattle.std.proofs.Common.{◌<◌, ◌≤◌, ℕ, [], length, sym, ap, subst, ◌∙◌}
use Rattle.std.specs.Prelude.{slice_index_or, slice_set}
use Rattle.weave_entries.specs.SessionReplay.{FitsSession, SessionState, session_of}
use Rattle.weave_entries.specs.declared.session_log.SessionDeed.TheVariants.{Replied}
use Rattle.weaver_core.specs.Sessions.{AddsToSession, ClientTable, log_of_client, requests_in, session_at, spare_of, values_with_reply, with_reply_at}
use Rattle.weaver_core.proofs.AtClients.{adds-at, still-numbered, table_of, values-set}
use Rattle.weaver_core.proofs.Tables.{image-at, read-at, within-image}
use Rattle.weaver_core.proofs.sessions.Clients.replied.Goals as goal

pub replied-requires-clause-client : goal.replied-requires-clause-client
replied-requires-clause-client c =
    let clients = c.self.inside.clients.items in
    let s = c.args.session in
    let before = c.index_mut-client.result.now in
    let within = within-image log_of_client clients s (subst (λ (v : ClientTable). s < length v.logs) (sym c.self.view_is) c.requires.there) in
    let at = read-at clients s before within c.index_mut-client.ensures.value in
    c.self.invariant s before at

pub replied-requires-clause-room : goal.replied-requires-clause-room
replied-requires-clause-room c =
    let clients = c.self.inside.clients.items in
    let s = c.args.session in
    let before = c.index_mut-client.result.now in
    let within = within-image log_of_client clients s (subst (λ (v : ClientTable). s < length v.logs) (sym c.self.view_is) c.requires.there) in
    let at = read-at clients s before within c.index_mut-client.ensures.value in
    let spare = sym (ap (λ (v : ClientTable). slice_index_or v.spares s 0) c.self.view_is) ∙ image-at spare_of clients s before at 0 in
    subst (λ (n : ℕ). 1 ≤ n) spare c.requires.room

pub replied-requires-clause-turn : goal.replied-requires-clause-turn
replied-requires-clause-turn c =
    let clients = c.self.inside.clients.items in
    let s = c.args.session in
    let before = c.index_mut-client.result.now in
    let within = within-image log_of_client clients s (subst (λ (v : ClientTable). s < length v.logs) (sym c.self.view_is) c.requires.there) in
    let at = read-at clients s before within c.index_mut-client.ensures.value in
    let requests = image-at requests_in clients s before at [] in
    let log = image-at log_of_client clients s before at [] in
    let session = sym (ap (λ (v : ClientTable). session_at v s) c.self.view_is) ∙ (λ i. session_of (requests i) (log i)) in
    subst (λ (state : SessionState). FitsSession state (Replied c.args.reply.request)) session c.requires.turn

pub invariant_of-self : goal.invariant_of-self
invariant_of-self c =
    let clients = c.self.inside.clients.items in
    let s = c.args.session in
    let before = c.index_mut-client.result.now in
    let within = within-image log_of_client clients s (subst (λ (v : ClientTable). s < length v.logs) (sym c.self.view_is) c.requires.there) in
    let at = read-at clients s before within c.index_mut-client.ensures.value in
    still-numbered clients s before c.replied.new.self within at c.self.invariant c.replied.ensures.replied.client

pub returns-clause-replied : goal.returns-clause-replied
returns-clause-replied c =
    let clients = c.self.inside.clients.items in
    let s = c.args.session in
    let before = c.index_mut-client.result.now in
    let within = within-image log_of_client clients s (subst (λ (v : ClientTable). s < length v.logs) (sym c.self.view_is) c.requires.there) in
    let at = read-at clients s before within c.index_mut-client.ensures.value in
    subst (λ (v : ClientTable). AddsToSession v (table_of (slice_set clients s c.replied.new.self)) s (Replied c.args.reply.request)) c.self.view_is (adds-at clients s before c.replied.new.self within at (Replied c.args.reply.request) c.replied.ensures.replied)

pub returns-clause-values : goal.returns-clause-values
returns-clause-values c =
    let clients = c.self.inside.clients.items in
    let s = c.args.session in
    let before = c.index_mut-client.result.now in
    let within = within-image log_of_client clients s (subst (λ (v : ClientTable). s < length v.logs) (sym c.self.view_is) c.requires.there) in
    let at = read-at clients s before within c.index_mut-client.ensures.value in
    values-set clients s before c.replied.new.self within at (λ values. values_with_reply values c.args.reply) c.replied.ensures.values ∙ ap (λ (v : ClientTable). with_reply_at v.values s c.args.reply) c.self.view_is
