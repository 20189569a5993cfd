-- The summary that `load` writes: how the requests of a report ended.
use Rattle.std.specs.Prelude.{ℕ, Bool, true, false, List, ◌++◌, length, count_by, codes}
use Rattle.std.specs.Fmt.{decimal}
use Rattle.report_rules.specs.declared.report.Reply.{Reply}
use Rattle.report_rules.specs.declared.report.ReplyState.{ReplyState}
use Rattle.report_rules.specs.declared.report.ReplyState.TheVariants.{Committed, Conflict, Refused}
use Rattle.report_rules.specs.declared.report.Report.{Report}
use Rattle.step_rules.specs.Finishing.{is_finished}

-- How a request ended

-- the state is that of a committed transaction
abbrev pub is_commit : ReplyState → Bool
is_commit (Committed number answers) = true
is_commit _ = false

-- the state is that of a transaction in conflict with a newer one
abbrev pub is_conflict : ReplyState → Bool
is_conflict (Conflict vertex newer) = true
is_conflict _ = false

-- the state is that of a refused transaction
abbrev pub is_refusal : ReplyState → Bool
is_refusal (Refused op reason at) = true
is_refusal _ = false

-- The counts of a report

-- how many replies have a state that passes
abbrev pub count_replies : (ReplyState → Bool) → Report → ℕ
count_replies test report = count_by (λ (reply : Reply). test reply.state) report.replies

-- how many transactions are committed
abbrev pub committed_count : Report → ℕ
committed_count report = count_replies is_commit report

-- how many are in conflict
abbrev pub conflict_count : Report → ℕ
conflict_count report = count_replies is_conflict report

-- how many are refused
abbrev pub refused_count : Report → ℕ
refused_count report = count_replies is_refusal report

-- how many programs are finished
abbrev pub program_count : Report → ℕ
program_count report = count_replies is_finished report

-- The text

-- a line of a word and a number
abbrev pub count_line : List ℕ → ℕ → List ℕ
count_line word count = word ++ codes " " ++ decimal count ++ codes "\n"

-- the summary of a report for a script of this seed, with this many requests and steps: eight lines
unfoldable pub summary_text : ℕ → ℕ → ℕ → Report → List ℕ
summary_text seed size steps report =
    codes "load " ++ decimal seed ++ codes " " ++ decimal size ++ codes "\n"
    ++ count_line (codes "steps") steps
    ++ count_line (codes "committed") (committed_count report)
    ++ count_line (codes "conflict") (conflict_count report)
    ++ count_line (codes "refused") (refused_count report)
    ++ count_line (codes "programs") (program_count report)
    ++ count_line (codes "settled") (length report.pairs)
    ++ codes "check yes\n"
