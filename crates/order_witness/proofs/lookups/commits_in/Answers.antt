use Rattle.std.proofs.Common.{◌≡◌, ℕ, ◌+◌, cond, length, take, sym, ap, ◌∙◌, arith}
use Rattle.std.specs.Prelude.{is_some}
use Rattle.report_rules.specs.declared.report.Reply.{Reply}
use Rattle.report_rules.specs.Lookups.{committed_number}
use Rattle.order_witness.specs.Begun.{numbers_in}
use Rattle.order_witness.proofs.Counts.{counted_more}
use Rattle.order_witness.proofs.lookups.commits_in.Goals as goal
use Rattle.order_witness.proofs.lookups.commits_in.Goals.{then-is_some, else-is_some}

pub loop-reply-preserved : goal.loop-reply-preserved
loop-reply-preserved c =
    let i : ℕ = c.loop-reply.reply-index in
    let test : c.is_some.result ≡ is_some (committed_number c.reply-item.result.state) = c.is_some.ensures ∙ ap is_some c.number_of.ensures in
    let more : length (numbers_in (take (i + 1) c.args.replies.now)) ≡ length (numbers_in (take i c.args.replies.now)) + cond c.is_some.result 1 0 =
    counted_more (λ (reply : Reply). committed_number reply.state) c.args.replies.now i c.reply-item.result c.loop-reply-test.true c.reply-item.is ∙ ap (λ b. length (numbers_in (take i c.args.replies.now)) + cond b 1 0) (sym test) in
    elim c.if-is_some.branch [
      | then-is_some w ↦
          let here : length (numbers_in (take (i + 1) c.args.replies.now)) ≡ length (numbers_in (take i c.args.replies.now)) + 1 = more ∙ ap (λ b. length (numbers_in (take i c.args.replies.now)) + cond b 1 0) w.if-is_some.true in
          record { counted = omega (arith, here, w.count-is); within = omega (arith, w.count-is) }
      | else-is_some w ↦
          let here : length (numbers_in (take (i + 1) c.args.replies.now)) ≡ length (numbers_in (take i c.args.replies.now)) + 0 = more ∙ ap (λ b. length (numbers_in (take i c.args.replies.now)) + cond b 1 0) w.if-is_some.false in
          record { counted = omega (arith, here, w.count-is); within = omega (arith, w.count-is) }
    ]
