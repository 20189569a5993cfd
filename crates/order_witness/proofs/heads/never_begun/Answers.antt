use Rattle.std.proofs.Common.{ℕ, ◌++◌, ◌∷◌, [], Bool, not, List, map, take, sym, ap, ◌∙◌}
use Rattle.std.specs.Prelude.{is_some}
use Rattle.std.proofs.lemmas.List.{take_more, map-append}
use Rattle.std.proofs.lemmas.Result.{IfOk-from_err}
use Rattle.report_rules.specs.declared.report.Reply.{Reply}
use Rattle.order_witness.proofs.heads.never_begun.Goals as goal

abbrev is_never_begun : Reply → Bool
is_never_begun reply = not (is_some reply.stamp)

pub returns-in_err-push : goal.returns-in_err-push
returns-in_err-push c = IfOk-from_err c.from_residual.result _ c.from_residual.ensures.0

pub loop-reply-preserved : goal.loop-reply-preserved
loop-reply-preserved c =
    let replies = c.args.replies.now in
    let i : ℕ = c.loop-reply.reply-index in
    let reply : Reply = c.reply-item.result in
    c.in_ok-push.ensures.items ∙ ap (λ (done : List Bool). done ++ not c.is_some.result ∷ []) c.loop-reply.invariant
    ∙ ap (λ is. map is_never_begun (take i replies) ++ not is ∷ []) c.is_some.ensures
    ∙ sym (ap (map is_never_begun) (take_more replies i reply c.loop-reply-test.true ∙ ap (λ (one : Reply). take i replies ++ one ∷ []) (sym c.reply-item.is)) ∙ map-append is_never_begun (take i replies) (reply ∷ []))
