-- Values of the types of reports, some that a text can give and some that no text gives, for a script of one gatekeeper
-- with a transaction and a program.
-- Used by nothing: worked examples.
use Rattle.std.proofs.Common.{ℕ, true, [], ◌∷◌, refl, Option, Some, None}
use Rattle.std.specs.Prelude.{codes}
use Rattle.vector_stamp.specs.declared.clock.Stamp.{Stamp}
use Rattle.graph_ops.specs.declared.op.Op.TheVariants.{Create, Get}
use Rattle.graph_ops.specs.declared.op.Reason.TheVariants.{Full}
use Rattle.program_defs.specs.declared.program.Program.TheVariants.{Show}
use Rattle.program_defs.specs.declared.program.Answer.TheVariants.{Reached, Found}
use Rattle.program_defs.specs.declared.script.Script.{Script}
use Rattle.report_rules.specs.declared.report.Report.{Report}
use Rattle.report_rules.specs.declared.report.ReplyState.{ReplyState}
use Rattle.report_rules.specs.declared.report.ReplyState.TheVariants.{Unbegun, Begun, Committed, Conflict, Refused, Finished}
use Rattle.report_rules.specs.ReportOf.{IsReportOf}
use Rattle.report_rules.proofs.Examples.{stamp, transaction, look, script_of, settled, report_of, t1, v}

abbrev script : Script
script = script_of 1 (transaction t1 0 0 (Create v ∷ Get v ∷ []) ∷ look (codes "p") 1 0 (Show v) ∷ [])

-- a report of one reply
abbrev told : ℕ → Option Stamp → ReplyState → Report
told r stamp state = report_of (record { request = r; stamp = stamp; state = state } ∷ []) [] []

abbrev s : Option Stamp
s = Some (stamp 0 (1 ∷ []))

-- What a text can give, right or wrong: numbers have no limit, and what it says need not be so

-- a text can say that the transaction is commit number 0, and read the vertex that it creates as absent
pub committed : IsReportOf script (told 0 s (Committed 0 (record { op = 2; state = None } ∷ [])))
committed = record { replies = ((refl, refl), tt); pairs = tt; order = tt }

-- a text can say that operation 0 is refused, after 99 commits that aren't there
pub refused_at_none : IsReportOf script (told 0 s (Refused 0 Full 99))
refused_at_none = record { replies = ((refl, tt), tt); pairs = tt; order = tt }

-- a text can say that the program is running
pub running : IsReportOf script (told 1 s Begun)
running = record { replies = ((refl, tt), tt); pairs = tt; order = tt }

-- a text can say that the transaction is aborted by a conflict with the program
pub conflict_with_a_program : IsReportOf script (told 0 s (Conflict v 1))
conflict_with_a_program = record { replies = ((refl, refl), tt); pairs = tt; order = tt }

-- a text can have no reply, a pair of a request with itself, and a request that is listed twice
pub nothing_told : IsReportOf script (report_of [] (settled v 1 1 ∷ []) (1 ∷ 1 ∷ []))
nothing_told = record { replies = tt; pairs = (refl, tt); order = (refl, (refl, tt)) }

-- What no text gives

-- no text says of a transaction without a stamp that it is committed
pub committed_without_stamp : ¬ IsReportOf script (told 0 None (Committed 1 (record { op = 2; state = None } ∷ [])))
committed_without_stamp h = h.replies.0.1

-- nor of one with a stamp that it is unbegun
pub unbegun_with_stamp : ¬ IsReportOf script (told 0 s Unbegun)
unbegun_with_stamp h = h.replies.0.1

-- nor of a program without a stamp that it is running
pub begun_without_stamp : ¬ IsReportOf script (told 1 None Begun)
begun_without_stamp h = h.replies.0.1

-- nor of a program that it is committed
pub committed_program : ¬ IsReportOf script (told 1 s (Committed 1 []))
committed_program h = h.replies.0.1

-- nor of a transaction that it is done, with the answer of a program
pub finished_transaction : ¬ IsReportOf script (told 0 s (Finished (Reached true)))
finished_transaction h = h.replies.0.1

-- no text gives a program that shows a vertex a list of vertices as its answer
pub answer_of_another_form : ¬ IsReportOf script (told 1 s (Finished (Found [])))
answer_of_another_form h = let form = h.replies.0.1 in cc

-- no text says that the transaction is committed with an answer for operation 1, which is no `get`
pub got_of_another_operation : ¬ IsReportOf script (told 0 s (Committed 1 (record { op = 1; state = None } ∷ [])))
got_of_another_operation h = let numbers = h.replies.0.1 in cc

-- no text says that the transaction is committed without saying what its `get` read
pub get_without_answer : ¬ IsReportOf script (told 0 s (Committed 1 []))
get_without_answer h = let numbers = h.replies.0.1 in cc

-- no text gives a stamp that counts an event of a second gatekeeper, where the script has one
pub count_past_gatekeepers : ¬ IsReportOf script (told 0 (Some (stamp 0 (1 ∷ 1 ∷ []))) Begun)
count_past_gatekeepers h = let counts = h.replies.0.0 in cc

-- nor one whose home is that second gatekeeper
pub home_of_no_gatekeeper : ¬ IsReportOf script (told 0 (Some (stamp 1 (1 ∷ []))) Begun)
home_of_no_gatekeeper h = let home = h.replies.0.0 in cc

-- no text has a reply of a request that the script doesn't have
pub reply_of_no_request : ¬ IsReportOf script (told 2 None Unbegun)
reply_of_no_request h = h.replies.0.1

-- no report of the script has a conflict with a request that isn't there
pub conflict_with_no_request : ¬ IsReportOf script (told 0 s (Conflict v 2))
conflict_with_no_request h = let newer = h.replies.0.1 in cc

-- no report of the script has a pair with a request that isn't there
pub pair_of_no_request : ¬ IsReportOf script (report_of [] (settled v 0 2 ∷ []) [])
pair_of_no_request h = let pair = h.pairs.0 in cc

-- no report of the script lists a request that isn't there
pub no_request_listed : ¬ IsReportOf script (report_of [] [] (2 ∷ []))
no_request_listed h = let listed = h.order.0 in cc
