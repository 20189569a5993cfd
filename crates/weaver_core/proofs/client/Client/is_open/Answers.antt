use Rattle.std.proofs.Common.{sym, ap, ◌∙◌}
use Rattle.weaver_core.specs.Sessions.{open_by_last}
use Rattle.weaver_core.proofs.Turns.{SessionLaws, open-by-last, open-is-last, place-of}
use Rattle.weaver_core.proofs.client.Client.is_open.Goals as goal

pub returns-clause-open : goal.returns-clause-open
returns-clause-open c =
    let laws : SessionLaws = record { begun_first = c.sessions_go_in_turn.ensures.begun; replied_first = c.sessions_go_in_turn.ensures.replied; begun_tested = c.begun_and_replied_are_decided.ensures.begun; replied_tested = c.begun_and_replied_are_decided.ensures.replied } in
    let session = c.args.self.now.session in
    let log = c.args.self.now.log.items in
    let is = c.requires.client.1 in
    let r = c.args.request in
    let place = place-of session.requests r c.requires.among in
    c.is_open.ensures ∙ ap (open_by_last r) c.as_slice.ensures.value ∙ sym (open-by-last laws c.requires.client.0 session.requests log is.right is.rising place.0 r place.1)

pub returns-clause-last : goal.returns-clause-last
returns-clause-last c yes-open =
    let laws : SessionLaws = record { begun_first = c.sessions_go_in_turn.ensures.begun; replied_first = c.sessions_go_in_turn.ensures.replied; begun_tested = c.begun_and_replied_are_decided.ensures.begun; replied_tested = c.begun_and_replied_are_decided.ensures.replied } in
    let session = c.args.self.now.session in
    let log = c.args.self.now.log.items in
    let is = c.requires.client.1 in
    let r = c.args.request in
    let place = place-of session.requests r c.requires.among in
    let waiting = open-by-last laws c.requires.client.0 session.requests log is.right is.rising place.0 r place.1 ∙ ap (open_by_last r) (sym c.as_slice.ensures.value) ∙ sym c.is_open.ensures ∙ yes-open in
    (open-is-last laws c.requires.client.0 session.requests log is.right is.rising place.0 r place.1 waiting)
