use Rattle.std.proofs.Common.{sym, ap, subst, ◌∙◌}
use Rattle.weave_entries.specs.SessionReplay.{SessionState}
use Rattle.weaver_core.specs.Sessions.{IsInTurn, begun_by_last}
use Rattle.weaver_core.proofs.Turns.{SessionLaws, begun-by-last, place-of, stands-early, stands-next, stands-twice}
use Rattle.weaver_core.proofs.client.Client.standing.Goals as goal

-- In each answer: the laws, the place of the request, and what the last entry says of it. `c.has_begun.ensures` is of the log as a slice.

pub returns-then-has_begun-clause-standing : goal.returns-then-has_begun-clause-standing
returns-then-has_begun-clause-standing c =
    let laws : SessionLaws = record { begun_first = c.sessions_go_in_turn.ensures.begun; replied_first = c.sessions_go_in_turn.ensures.replied; begun_tested = c.begun_and_replied_are_decided.ensures.begun; replied_tested = c.begun_and_replied_are_decided.ensures.replied } in
    let session = c.args.self.now.session in
    let log = c.args.self.now.log.items in
    let is = c.requires.client.1 in
    let r = c.args.request in
    let place = place-of session.requests r c.requires.among in
    let has = begun-by-last laws c.requires.client.0 session.requests log is.right is.rising place.0 r place.1 ∙ ap (begun_by_last r) (sym c.as_slice.ensures.value) ∙ sym c.has_begun.ensures ∙ c.if-has_begun.true in
    (stands-twice laws c.requires.client.0 session.requests log is.right is.rising place.0 r place.1 has)

pub returns-then-is_next-clause-standing : goal.returns-then-is_next-clause-standing
returns-then-is_next-clause-standing c =
    let laws : SessionLaws = record { begun_first = c.sessions_go_in_turn.ensures.begun; replied_first = c.sessions_go_in_turn.ensures.replied; begun_tested = c.begun_and_replied_are_decided.ensures.begun; replied_tested = c.begun_and_replied_are_decided.ensures.replied } in
    let session = c.args.self.now.session in
    let log = c.args.self.now.log.items in
    let is = c.requires.client.1 in
    let r = c.args.request in
    let place = place-of session.requests r c.requires.among in
    let new = begun-by-last laws c.requires.client.0 session.requests log is.right is.rising place.0 r place.1 ∙ ap (begun_by_last r) (sym c.as_slice.ensures.value) ∙ sym c.has_begun.ensures ∙ c.if-has_begun.false in
    let turn = subst (λ (s : SessionState). IsInTurn s r) is.state (c.is_next.ensures.yes c.if-is_next.true) in
    (stands-next laws c.requires.client.0 session.requests log is.right is.rising place.0 r place.1 new turn)

pub returns-then-is_next-clause-next : goal.returns-then-is_next-clause-next
returns-then-is_next-clause-next c _ =
    let turn = subst (λ (s : SessionState). IsInTurn s c.args.request) c.requires.client.1.state (c.is_next.ensures.yes c.if-is_next.true) in
    turn

pub returns-clause-standing : goal.returns-clause-standing
returns-clause-standing c =
    let laws : SessionLaws = record { begun_first = c.sessions_go_in_turn.ensures.begun; replied_first = c.sessions_go_in_turn.ensures.replied; begun_tested = c.begun_and_replied_are_decided.ensures.begun; replied_tested = c.begun_and_replied_are_decided.ensures.replied } in
    let session = c.args.self.now.session in
    let log = c.args.self.now.log.items in
    let is = c.requires.client.1 in
    let r = c.args.request in
    let place = place-of session.requests r c.requires.among in
    let new = begun-by-last laws c.requires.client.0 session.requests log is.right is.rising place.0 r place.1 ∙ ap (begun_by_last r) (sym c.as_slice.ensures.value) ∙ sym c.has_begun.ensures ∙ c.if-has_begun.false in
    (stands-early laws c.requires.client.0 session.requests log is.right is.rising place.0 r place.1 new (λ turn. c.is_next.ensures.no c.if-is_next.false (subst (λ (s : SessionState). IsInTurn s r) (sym is.state) turn)))
