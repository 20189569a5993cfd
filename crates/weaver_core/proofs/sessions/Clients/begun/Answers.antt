use Rattle.std.proofs.Common.{◌<◌, ◌≤◌, ℕ, [], length, sym, ap, subst, ◌∙◌}
use Rattle.std.specs.Prelude.{slice_index_or, slice_set}
use Rattle.weave_entries.specs.SessionReplay.{FitsSession, SessionState, session_of}
use Rattle.weave_entries.specs.declared.session_log.SessionDeed.TheVariants.{Begun}
use Rattle.weaver_core.specs.Sessions.{AddsToSession, ClientTable, log_of_client, requests_in, session_at, spare_of}
use Rattle.weaver_core.proofs.AtClients.{adds-at, still-numbered, table_of, values-rest}
use Rattle.weaver_core.proofs.Tables.{image-at, read-at, within-image}
use Rattle.weaver_core.proofs.sessions.Clients.begun.Goals as goal

pub begun-requires-clause-client : goal.begun-requires-clause-client
begun-requires-clause-client c =
    let clients = c.self.inside.clients.items in
    let s = c.args.session in
    let before = c.index_mut-client.result.now in
    let within = within-image log_of_client clients s (subst (λ (v : ClientTable). s < length v.logs) (sym c.self.view_is) c.requires.there) in
    let at = read-at clients s before within c.index_mut-client.ensures.value in
    c.self.invariant s before at

pub begun-requires-clause-room : goal.begun-requires-clause-room
begun-requires-clause-room c =
    let clients = c.self.inside.clients.items in
    let s = c.args.session in
    let before = c.index_mut-client.result.now in
    let within = within-image log_of_client clients s (subst (λ (v : ClientTable). s < length v.logs) (sym c.self.view_is) c.requires.there) in
    let at = read-at clients s before within c.index_mut-client.ensures.value in
    let spare = sym (ap (λ (v : ClientTable). slice_index_or v.spares s 0) c.self.view_is) ∙ image-at spare_of clients s before at 0 in
    subst (λ (n : ℕ). 1 ≤ n) spare c.requires.room

pub begun-requires-clause-turn : goal.begun-requires-clause-turn
begun-requires-clause-turn c =
    let clients = c.self.inside.clients.items in
    let s = c.args.session in
    let before = c.index_mut-client.result.now in
    let within = within-image log_of_client clients s (subst (λ (v : ClientTable). s < length v.logs) (sym c.self.view_is) c.requires.there) in
    let at = read-at clients s before within c.index_mut-client.ensures.value in
    let requests = image-at requests_in clients s before at [] in
    let log = image-at log_of_client clients s before at [] in
    let session = sym (ap (λ (v : ClientTable). session_at v s) c.self.view_is) ∙ (λ i. session_of (requests i) (log i)) in
    subst (λ (state : SessionState). FitsSession state (Begun c.args.request c.args.stamp)) session c.requires.turn

pub invariant_of-self : goal.invariant_of-self
invariant_of-self c =
    let clients = c.self.inside.clients.items in
    let s = c.args.session in
    let before = c.index_mut-client.result.now in
    let within = within-image log_of_client clients s (subst (λ (v : ClientTable). s < length v.logs) (sym c.self.view_is) c.requires.there) in
    let at = read-at clients s before within c.index_mut-client.ensures.value in
    still-numbered clients s before c.begun.new.self within at c.self.invariant c.begun.ensures.begun.client

pub returns-clause-begun : goal.returns-clause-begun
returns-clause-begun c =
    let clients = c.self.inside.clients.items in
    let s = c.args.session in
    let before = c.index_mut-client.result.now in
    let within = within-image log_of_client clients s (subst (λ (v : ClientTable). s < length v.logs) (sym c.self.view_is) c.requires.there) in
    let at = read-at clients s before within c.index_mut-client.ensures.value in
    subst (λ (v : ClientTable). AddsToSession v (table_of (slice_set clients s c.begun.new.self)) s (Begun c.args.request c.args.stamp)) c.self.view_is (adds-at clients s before c.begun.new.self within at (Begun c.args.request c.args.stamp) c.begun.ensures.begun)

pub returns-clause-values : goal.returns-clause-values
returns-clause-values c =
    let clients = c.self.inside.clients.items in
    let s = c.args.session in
    let before = c.index_mut-client.result.now in
    let within = within-image log_of_client clients s (subst (λ (v : ClientTable). s < length v.logs) (sym c.self.view_is) c.requires.there) in
    let at = read-at clients s before within c.index_mut-client.ensures.value in
    values-rest clients s before c.begun.new.self within at c.begun.ensures.values ∙ ap (λ (v : ClientTable). v.values) c.self.view_is
