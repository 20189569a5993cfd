use Rattle.std.proofs.Common.{ℕ, ◌++◌, ◌∷◌, [], List, Option, map, take, sym, ap, ◌∙◌}
use Rattle.std.proofs.lemmas.List.{take_more, map-append}
use Rattle.report_rules.specs.declared.report.Reply.{Reply}
use Rattle.report_rules.specs.Lookups.{committed_number}
use Rattle.run_judge.proofs.phases.commit_numbers.Goals as goal

abbrev number_of : Reply → Option ℕ
number_of reply = committed_number reply.state

pub loop-reply-preserved : goal.loop-reply-preserved
loop-reply-preserved c =
    let replies = c.args.replies.now in
    let i : ℕ = c.loop-reply.reply-index in
    let reply : Reply = c.reply-item.result in
    c.in_ok-push.ensures.items ∙ ap (λ (done : List (Option ℕ)). done ++ c.commit_number.result ∷ []) c.loop-reply.invariant
    ∙ ap (λ (is : Option ℕ). map number_of (take i replies) ++ is ∷ []) c.commit_number.ensures
    ∙ sym (ap (map number_of) (take_more replies i reply c.loop-reply-test.true ∙ ap (λ (one : Reply). take i replies ++ one ∷ []) (sym c.reply-item.is)) ∙ map-append number_of (take i replies) (reply ∷ []))
