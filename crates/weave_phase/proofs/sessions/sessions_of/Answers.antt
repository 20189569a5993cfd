use Rattle.std.proofs.Common.{◌≡◌, ◌++◌, ◌∷◌, [], ap, sym, ◌∙◌, arith}
use Rattle.std.specs.List.{filter, range_with_len}
use Rattle.weave_phase.specs.Sessions.{has_request}
use Rattle.weave_phase.proofs.Numbered.{passes-not, passes-too}
use Rattle.weave_phase.proofs.sessions.sessions_of.Goals as goal
use Rattle.weave_phase.proofs.sessions.sessions_of.Goals.{then-is_of_session+in_ok-push, else-is_of_session}

pub loop-session-preserved : goal.loop-session-preserved
loop-session-preserved c =
    let test = has_request c.args.script.now c.args.from c.args.upto in
    let session = c.loop-session.session in
    elim c.if-is_of_session.branch [
      | then-is_of_session+in_ok-push w ↦
          (λ i. (w.sessions-is i).items)
          ∙ w.in_ok-push.ensures.items
          ∙ ap (λ xs. xs ++ session ∷ []) c.loop-session.invariant
          ∙ sym (passes-too test session (sym c.is_of_session.ensures ∙ w.if-is_of_session.true))
      | else-is_of_session w ↦
          (λ i. (w.sessions-is i).items)
          ∙ c.loop-session.invariant
          ∙ sym (passes-not test session (sym c.is_of_session.ensures ∙ w.if-is_of_session.false))
    ]

pub returns : goal.returns
returns c =
    let end : c.loop-session.session ≡ 64 = omega (arith, c.loop-session.auto.session-end, c.loop-session-test.false) in
    c.loop-session.invariant
    ∙ ap (λ n. filter (has_request c.args.script.now c.args.from c.args.upto) (range_with_len 0 n)) end
