-- Worked scripts and reports, each wrong in one thing.
use Rattle.std.specs.Prelude.{codes, [], ◌∷◌, Some}
use Rattle.vector_stamp.specs.declared.clock.Stamp.{Stamp}
use Rattle.graph_ops.specs.declared.op.Op.TheVariants.{Create, Set}
use Rattle.graph_ops.specs.declared.op.Reason.TheVariants.{Missing}
use Rattle.program_defs.specs.declared.program.Program.TheVariants.{Show}
use Rattle.program_defs.specs.declared.program.Answer.TheVariants.{Shown}
use Rattle.program_defs.specs.declared.script.Script.{Script}
use Rattle.report_rules.specs.declared.report.Report.{Report}
use Rattle.report_rules.specs.declared.report.ReplyState.TheVariants.{Committed, Conflict, Refused, Finished}
use Rattle.report_rules.proofs.Examples.{stamp, transaction, look, script_of, reply, settled, report_of, empty_record, t1, t2, v, w, k, x}

-- the stamp of the first request, and that of the second one, which are unordered
abbrev pub first_stamp : Stamp
first_stamp = stamp 0 (1 ∷ 0 ∷ [])

abbrev pub second_stamp : Stamp
second_stamp = stamp 1 (0 ∷ 1 ∷ [])

-- the first transaction creates a vertex; in the second phase the other one sets a property of it
abbrev pub two_phases : Script
two_phases =
    record (script_of 2 (transaction t1 0 0 (Create v ∷ []) ∷ transaction t2 1 1 (Set v k x ∷ []) ∷ []))
    { phases = 1 ∷ [] }

-- the same with two vertices, so that nothing has to order the two
abbrev pub apart_in_phases : Script
apart_in_phases =
    record (script_of 2 (transaction t1 0 0 (Create v ∷ []) ∷ transaction t2 1 1 (Create w ∷ []) ∷ []))
    { phases = 1 ∷ [] }

-- a transaction creates a vertex, and a program shows it
abbrev pub show_and_create : Script
show_and_create = script_of 2 (transaction t1 0 0 (Create v ∷ []) ∷ look (codes "p") 1 1 (Show v) ∷ [])

-- both commit at one vertex, and no pair orders them
abbrev pub unordered_writers : Report
unordered_writers =
    report_of (reply 0 first_stamp (Committed 1 []) ∷ reply 1 second_stamp (Committed 2 []) ∷ []) [] (0 ∷ 1 ∷ [])

-- the program shows the vertex, and no pair orders it with the commit
abbrev pub shown_unordered : Report
shown_unordered =
    report_of
    (reply 0 first_stamp (Committed 1 []) ∷ reply 1 second_stamp (Finished (Shown (Some empty_record))) ∷ []) []
    (0 ∷ 1 ∷ [])

-- a pair puts the request of the later phase first
abbrev pub later_phase_first : Report
later_phase_first =
    report_of (reply 0 first_stamp (Committed 1 []) ∷ reply 1 second_stamp (Committed 2 []) ∷ []) (settled v 1 0 ∷ [])
    (1 ∷ 0 ∷ [])

-- the request of the later phase is aborted by a conflict with that of the earlier one
abbrev pub conflict_across_phases : Report
conflict_across_phases =
    report_of (reply 0 first_stamp (Committed 1 []) ∷ reply 1 second_stamp (Conflict v 0) ∷ []) [] (0 ∷ [])

-- the request of the later phase has the lower commit number
abbrev pub numbers_turned_round : Report
numbers_turned_round =
    report_of (reply 0 first_stamp (Committed 2 []) ∷ reply 1 second_stamp (Committed 1 []) ∷ []) [] (0 ∷ 1 ∷ [])

-- the request of the later phase is refused before the commit of the earlier one
abbrev pub refused_before_an_earlier_phase : Report
refused_before_an_earlier_phase =
    report_of (reply 0 first_stamp (Committed 1 []) ∷ reply 1 second_stamp (Refused 1 Missing 0) ∷ []) [] (0 ∷ [])

-- the request of the earlier phase is refused after the commit of the later one
abbrev pub refused_after_a_later_phase : Report
refused_after_a_later_phase =
    report_of (reply 0 first_stamp (Refused 1 Missing 1) ∷ reply 1 second_stamp (Committed 1 []) ∷ []) [] (1 ∷ [])
