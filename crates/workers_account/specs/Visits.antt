-- What the programs of a session have read since a phase began, and the replies that it has got.
use Rattle.std.specs.Prelude.{◌≡◌, ◌⊎◌, ℕ, List, ◌++◌, Contains, Some}
use Rattle.vector_stamp.specs.declared.clock.Stamp.{Stamp}
use Rattle.program_defs.specs.declared.program.Answer.{Answer}
use Rattle.program_defs.specs.declared.program.Program.{Program}
use Rattle.program_defs.specs.declared.script.Request.{Request}
use Rattle.program_defs.specs.declared.script.Script.{Script}
use Rattle.program_defs.specs.declared.script.Work.TheVariants.{Change}
use Rattle.program_defs.specs.PlainAnswer.{IsPlainAnswer}
use Rattle.program_defs.specs.Visits.{graph_read}
use Rattle.report_rules.specs.declared.report.Reply.{Reply}
use Rattle.report_rules.specs.declared.report.ReplyState.TheVariants.{Finished}
use Rattle.report_rules.specs.Lookups.{request_at}
use Rattle.weave_entries.specs.declared.session_log.SessionEntry.{SessionEntry}
use Rattle.weave_entries.specs.SessionReplay.{begins_in, replied_in}
use Rattle.weave_entries.specs.StoreReplay.{Judgement, judgements_of}
use Rattle.weave_account.specs.Programs.{ReadsInTurn}
use Rattle.weave_account.specs.Report.{state_by_verdict}
use Rattle.weaver_core.specs.Sessions.{log_of_client}
use Rattle.weaver_core.specs.Walks.{IsLookAt}
use Rattle.weaver_locks.specs.declared.hand.Hand.{Hand}
use Rattle.weaver_locks.specs.Hands.{made_by}
use Rattle.weaver_hands.specs.Programs.{own_reads}
use Rattle.weaver_workers.specs.ClientWork.{Stand}

-- Each program that the session began since then has read, by the hand's visits, the first of its vertices in turn, and
-- all of them if it has its reply.
abbrev pub ReadInTurn : Script → Stand → Stand → Type 0
ReadInTurn script from at = (gained : List SessionEntry) → log_of_client at.client ≡ log_of_client from.client ++ gained
    → (r : ℕ) (stamp : Stamp) → Contains (begins_in gained) (r, stamp)
    → (program : Program) → IsLookAt script r program
    → ReadsInTurn (own_reads at.hand r) program (Contains (replied_in (log_of_client at.client)) r)

-- the reply is of a transaction, by a judgement of the hand
pub record IsReplyByJudgement (script : Script) (hand : Hand) (reply : Reply) : Type 0 where
  pub judged : Judgement
  pub there : Contains (judgements_of (made_by hand).store) judged
  pub request_is : judged.request ≡ reply.request
  pub asked : Request
  pub asked_is : request_at script reply.request ≡ Some asked
  pub work_is : asked.work ≡ Change judged.ops
  pub stamp_is : reply.stamp ≡ Some judged.stamp
  pub state_is : reply.state ≡ state_by_verdict judged.verdict

-- the reply is of a program that has its reply in the log, by what the hand's visits have read
pub record IsReplyByReads (script : Script) (at : Stand) (reply : Reply) : Type 0 where
  pub program : Program
  pub look : IsLookAt script reply.request program
  pub replied : Contains (replied_in (log_of_client at.client)) reply.request
  pub answer : Answer
  pub state_is : reply.state ≡ Finished answer
  pub plain : IsPlainAnswer (graph_read (own_reads at.hand reply.request)) program answer

-- each reply since then has the stamp with which the session's log began its request, and is one of these
pub record IsReplyByHand (script : Script) (at : Stand) (reply : Reply) : Type 0 where
  pub stamp : Stamp
  pub stamp_is : reply.stamp ≡ Some stamp
  pub begun : Contains (begins_in (log_of_client at.client)) (reply.request, stamp)
  pub state : IsReplyByJudgement script at.hand reply ⊎ IsReplyByReads script at reply

abbrev pub AreRepliesByHand : Script → Stand → Stand → Type 0
AreRepliesByHand script from at = (gained : List Reply)
    → at.client.replies.items ≡ from.client.replies.items ++ gained
    → (reply : Reply) → Contains gained reply → IsReplyByHand script at reply
