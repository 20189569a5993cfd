use Rattle.std.proofs.Common.{sym, ap, subst, ◌∙◌}
use Rattle.weaver_core.specs.Sessions.{AreNumbered, ClientTable, IsFirstUnanswered, least_unanswered}
use Rattle.weaver_core.proofs.AtClients.{table_of}
use Rattle.weaver_core.proofs.Unanswered.{first-of}
use Rattle.weaver_core.proofs.sessions.Clients.first_unanswered.Goals as goal

pub first_unanswered_of-requires : goal.first_unanswered_of-requires
first_unanswered_of-requires c = subst AreNumbered (sym c.as_slice.ensures.value) c.self.invariant

pub returns : goal.returns
returns c =
    let clients = c.self.inside.clients.items in
    let most = c.args.requests in
    let is = c.first_unanswered_of.ensures ∙ ap (least_unanswered most) c.as_slice.ensures.value in
    subst (λ (v : ClientTable). IsFirstUnanswered v most c.first_unanswered_of.result) c.self.view_is
    (subst (IsFirstUnanswered (table_of clients) most) (sym is) (first-of clients most))
