use Rattle.std.proofs.Common.{◌++◌, ◌∷◌, [], ℕ, List, sym, ap, ◌∙◌, arith}
use Rattle.std.proofs.lemmas.List.{take_all}
use Rattle.report_rules.specs.declared.report.Reply.{Reply}
use Rattle.order_witness.specs.Refusals.{numbered_in}
use Rattle.order_witness.proofs.Numbered.{numbered_more}
use Rattle.order_witness.proofs.refusal_marks.commits_by_number.Goals as goal

pub loop-reply-preserved : goal.loop-reply-preserved
loop-reply-preserved c = record {
  size = c.in_ok-put_commit.ensures.size ∙ c.loop-reply.invariant.size;
  so_far = λ n below.
      c.in_ok-put_commit.ensures.after n (omega (arith, below, c.loop-reply.invariant.size))
      ∙ ap (λ (rs : List ℕ). rs ++ numbered_in n (c.reply-item.result ∷ [])) (c.loop-reply.invariant.so_far n below)
      ∙ sym (numbered_more n c.args.replies.now c.loop-reply.reply-index c.reply-item.result c.loop-reply-test.true c.reply-item.is);
}

pub returns : goal.returns
returns c = λ n within.
    c.loop-reply.invariant.so_far n (omega (arith, within))
    ∙ ap (λ (rs : List Reply). numbered_in n rs) (take_all c.loop-reply.reply-index c.args.replies.now (omega (arith, c.loop-reply-test.false)))
