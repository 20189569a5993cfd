use Rattle.weaver_core.specs.Reporting.{AreRequestsReplies}
use Rattle.weaver_core.proofs.replies.replies_of.Given as goal

abbrev pub invariant-loop-request : goal.invariant-loop-request
invariant-loop-request l = AreRequestsReplies l.store l.clients.values l.stamps l.requests l.request l.replies
