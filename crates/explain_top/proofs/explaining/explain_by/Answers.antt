-- An answer was delivered, or there is none.
use Rattle.std.proofs.Common.{Err, ap, refl}
use Rattle.explain_top.proofs.Delivered.{delivered, unanswered}
use Rattle.explain_top.proofs.Streams.{answered_streams, no_read, unread_streams}
use Rattle.explain_top.proofs.explaining.explain_by.Goals as goal

pub returns-in-Ok-clause-ends : goal.returns-in-Ok-clause-ends
returns-in-Ok-clause-ends g c = delivered c.args.command c.in-Ok.answer.status _ _ _ _ c.in-Ok.answer.text.items _ _ c.in-Ok.ensures.ends c.in-Ok.ensures.explains c.write_answer.ensures.delivered

pub returns-in-Ok-clause-leaves : goal.returns-in-Ok-clause-leaves
returns-in-Ok-clause-leaves g c = answered_streams c.in-Ok.answer.status _ _ _ _ _ c.in-Ok.answer.text.items c.in-Ok.ensures.end c.in-Ok.ensures.whole c.prepared.ensures.rest c.write_answer.ensures.delivered c.write_answer.ensures.without_stall (no_read c.args.command c.in-Ok.answer.status c.in-Ok.ensures.ends)

pub returns-in-Err-clause-ends : goal.returns-in-Err-clause-ends
returns-in-Err-clause-ends g c = unanswered c.args.command c.in-Err.status _ _ _ _ c.in-Err.ensures.unread

pub returns-in-Err-clause-leaves : goal.returns-in-Err-clause-leaves
returns-in-Err-clause-leaves g c = unread_streams c.in-Err.status _ _ _ refl c.in-Err.ensures.unread (λ is. c.in-Err.ensures.read_in_time (ap Err is)) c.prepared.ensures.rest
