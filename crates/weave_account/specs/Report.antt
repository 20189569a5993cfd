-- The report of an account: replies of transactions by the store's log, those of programs by what they read, the
-- oracle's pairs, and the printed order.
use Rattle.std.specs.Prelude.{◌≡◌, ℕ, false, map, length, IsTrue, Option, None, Some, IsSomeAnd}
use Rattle.std.specs.List.{AllByRecursion, range_with_len}
use Rattle.vector_stamp.specs.declared.clock.Stamp.{Stamp}
use Rattle.program_defs.specs.declared.program.Program.{Program}
use Rattle.program_defs.specs.declared.script.Request.{Request}
use Rattle.program_defs.specs.declared.script.Script.{Script}
use Rattle.program_defs.specs.declared.script.Work.{Work}
use Rattle.program_defs.specs.declared.script.Work.TheVariants.{Change, Look}
use Rattle.program_defs.specs.PlainAnswer.{IsPlainAnswer}
use Rattle.program_defs.specs.Visits.{graph_read}
use Rattle.weave_entries.specs.declared.verdict.Verdict.{Verdict}
use Rattle.weave_entries.specs.declared.verdict.Verdict.TheVariants as verdict
use Rattle.weave_entries.specs.StoreReplay.{Judgement, judgement_of}
use Rattle.report_rules.specs.declared.report.Reply.{Reply}
use Rattle.report_rules.specs.declared.report.ReplyState.{ReplyState}
use Rattle.report_rules.specs.declared.report.ReplyState.TheVariants.{Unbegun, Begun as Running, Committed, Conflict, Refused, Finished}
use Rattle.report_rules.specs.declared.report.Report.{Report}
use Rattle.report_rules.specs.PrintedOrder.{IsPrintedOrder}
use Rattle.report_rules.specs.Lookups.{request_at}
use Rattle.weave_account.specs.declared.account.Account.{Account}
use Rattle.weave_account.specs.Account.{stamp_of, pairs_in, reads_of, is_ended}
use Rattle.weave_account.specs.Pairs.{ArePairsOf}

-- Replies

-- the state of a reply by a verdict
abbrev pub state_by_verdict : Verdict → ReplyState
state_by_verdict (verdict.Committed number answers counts) = Committed number answers
state_by_verdict (verdict.Conflict v newer) = Conflict v newer
state_by_verdict (verdict.Refused op reason at) = Refused op reason at

-- the state of a transaction that was begun: by its verdict, if it has one
abbrev pub state_of_tx : Option Judgement → ReplyState
state_of_tx None = Running
state_of_tx (Some judged) = state_by_verdict judged.verdict

-- the state of a program that was begun: if it is finished, its plain answer over the states that it read
abbrev pub IsStateOfProgram : Account → ℕ → Program → ReplyState → Type 0
IsStateOfProgram account r program (Finished answer) =
    IsTrue (is_ended account r) × IsPlainAnswer (graph_read (reads_of account r)) program answer
IsStateOfProgram account r program state = (is_ended account r ≡ false) × (state ≡ Running)

-- the state of a request with this stamp and this work
abbrev pub IsStateOf : Account → ℕ → Option Stamp → Work → ReplyState → Type 0
IsStateOf account r None work state = state ≡ Unbegun
IsStateOf account r (Some stamp) (Change ops) state = state ≡ state_of_tx (judgement_of r account.store)
IsStateOf account r (Some stamp) (Look program) state = IsStateOfProgram account r program state

-- a reply has the stamp and the state that its request has in the account
pub record IsReplyInAccount (script : Script) (account : Account) (reply : Reply) : Type 0 where
  pub stamp_is : reply.stamp ≡ stamp_of account reply.request
  pub state_is : IsSomeAnd (request_at script reply.request)
      (λ (request : Request). IsStateOf account reply.request reply.stamp request.work reply.state)

-- The report

-- all but the order: one reply for each request, and the oracle's pairs
pub record MatchesAccount (script : Script) (account : Account) (report : Report) : Type 0 where
  pub requests : map (λ (reply : Reply). reply.request) report.replies ≡ range_with_len 0 (length script.requests)
  pub replies : AllByRecursion (IsReplyInAccount script account) report.replies
  pub pairs : ArePairsOf account report.pairs (pairs_in account)

-- the report is the account's: replies and pairs are, and the order is the printed order
pub record IsReportOfAccount (script : Script) (account : Account) (report : Report) : Type 0 where
  pub matches : MatchesAccount script account report
  pub order : IsPrintedOrder report report.order
