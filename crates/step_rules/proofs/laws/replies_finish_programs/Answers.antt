use Rattle.step_rules.proofs.DoneReplies.{replied-exactly}
use Rattle.step_rules.proofs.ReportedReplies.{finished-by-reply, reported-by-reply}
use Rattle.step_rules.proofs.laws.replies_finish_programs.Goals as goal

pub returns : goal.returns
returns c =
    let laws = c.the_crates_below_keep_their_laws.ensures in
    let ends = c.finished_exactly_if_replied.ensures in
    record {
      replied = λ script steps limits. replied-exactly laws script limits steps;
      finished = λ script steps limits are. finished-by-reply laws ends script steps limits (c.trace_is_a_core.ensures.core script steps limits are).account;
      reported = λ script steps report limits is of answers. reported-by-reply laws ends script steps limits is report of answers;
    }
