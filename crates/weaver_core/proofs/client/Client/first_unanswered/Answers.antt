use Rattle.std.proofs.Common.{sym, ap, ◌∙◌}
use Rattle.weave_entries.specs.SessionReplay.{SessionState, next_request}
use Rattle.weaver_core.specs.Sessions.{last_request}
use Rattle.weaver_core.proofs.Unanswered.{unanswered-last, unanswered-next}
use Rattle.weaver_core.proofs.client.Client.first_unanswered.Goals as goal

pub returns-in-Ok : goal.returns-in-Ok
returns-in-Ok c =
    let session = c.args.self.now.session in
    let log = c.args.self.now.log.items in
    let state = c.requires.1.state in
    c.in-Ok.ensures.next ∙ ap next_request state ∙ unanswered-next session.requests log (sym (ap (λ (s : SessionState). s.waits) state) ∙ c.in-Ok.ensures.replied)

pub returns-in-Err : goal.returns-in-Err
returns-in-Err c =
    let session = c.args.self.now.session in
    let log = c.args.self.now.log.items in
    let is = c.requires.1 in
    c.last_request.ensures ∙ ap last_request c.as_slice.ensures.value
    ∙ unanswered-last c.requires.0 session.requests log is.right (sym (ap (λ (s : SessionState). s.waits) is.state) ∙ c.in-Err.ensures.early)
