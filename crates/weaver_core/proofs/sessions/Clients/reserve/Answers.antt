use Rattle.std.proofs.Common.{◌<◌, ◌≤◌, ℕ, length, sym, subst}
use Rattle.std.specs.Prelude.{slice_set}
use Rattle.weave_data.proofs.Lists.{get_set_here}
use Rattle.weave_data.proofs.Results.{on_ok_map}
use Rattle.weaver_core.specs.Sessions.{AreSameClients, ClientTable, log_of_client, spare_of}
use Rattle.weaver_core.proofs.AtClients.{clients-rest, numbered-same, table_of}
use Rattle.weaver_core.proofs.Tables.{image-at, read-at, within-image}
use Rattle.weaver_core.proofs.sessions.Clients.reserve.Goals as goal

pub invariant_of-self : goal.invariant_of-self
invariant_of-self c =
    let clients = c.self.inside.clients.items in
    let s = c.args.session in
    let before = c.index_mut-client.result.now in
    let within = within-image log_of_client clients s (subst (λ (v : ClientTable). s < length v.logs) (sym c.self.view_is) c.requires) in
    let at = read-at clients s before within c.index_mut-client.ensures.value in
    numbered-same clients s before c.reserve.new.self within at c.self.invariant c.reserve.ensures.same.session c.reserve.ensures.same.log

pub returns-clause-same : goal.returns-clause-same
returns-clause-same c =
    let clients = c.self.inside.clients.items in
    let s = c.args.session in
    let before = c.index_mut-client.result.now in
    let within = within-image log_of_client clients s (subst (λ (v : ClientTable). s < length v.logs) (sym c.self.view_is) c.requires) in
    let at = read-at clients s before within c.index_mut-client.ensures.value in
    subst (λ (v : ClientTable). AreSameClients v (table_of (slice_set clients s c.reserve.new.self))) c.self.view_is (clients-rest clients s before c.reserve.new.self within at c.reserve.ensures.same)

pub returns-clause-room : goal.returns-clause-room
returns-clause-room c =
    let clients = c.self.inside.clients.items in
    let s = c.args.session in
    let after = c.reserve.new.self in
    let within = within-image log_of_client clients s (subst (λ (v : ClientTable). s < length v.logs) (sym c.self.view_is) c.requires) in
    on_ok_map c.reserve.result _ _ (λ room. subst (λ (n : ℕ). 1 ≤ n) (sym (image-at spare_of (slice_set clients s after) s after (get_set_here clients s after within) 0)) room) c.reserve.ensures.room
