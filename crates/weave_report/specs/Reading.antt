-- A report read from the lines of a text, one after another.
use Rattle.std.specs.Prelude.{ℕ, ◌+◌, ◌&&◌, nat_lt, List, [], ◌∷◌, ◌++◌, length, Option, Some, None, Result, Ok, Err, slice_get, codes, if◌then◌else◌}
use Rattle.std.specs.Str.{bytes_eq}
use Rattle.weave_text.specs.Cutting.{is_empty, is_skipped, lines_of, words_of}
use Rattle.weave_text.specs.Lines.{Bytes, Word, Line}
use Rattle.graph_ops.specs.declared.tx.Got.{Got}
use Rattle.program_defs.specs.declared.script.Script.{Script}
use Rattle.weave_report.specs.declared.fault.ReportCause.{ReportCause}
use Rattle.weave_report.specs.declared.fault.ReportCause.TheVariants as cause
use Rattle.weave_report.specs.declared.read.parts.Commit.{Commit}
use Rattle.weave_report.specs.declared.read.parts.Place.{Place}
use Rattle.weave_report.specs.declared.read.parts.Place.TheVariants.{Start, Replies, Gots, Pairs, Answers, Ended}
use Rattle.weave_report.specs.declared.read.parts.Reading.{Reading}
use Rattle.weave_report.specs.declared.read.parts.ReplyLine.{ReplyLine}
use Rattle.weave_report.specs.declared.read.parts.ReplyLine.TheVariants.{Whole, Committed}
use Rattle.report_rules.specs.declared.report.Pair.{Pair}
use Rattle.report_rules.specs.declared.report.Reply.{Reply}
use Rattle.report_rules.specs.declared.report.ReplyState.TheVariants as told
use Rattle.report_rules.specs.declared.report.Report.{Report}
use Rattle.report_rules.specs.declared.report.StepAnswer.{StepAnswer}
use Rattle.weave_data.specs.Steps.{◌>>=◌}
use Rattle.weave_report.specs.ReadingFields.{ReadResult, name_in, read_names, this_number_in}
use Rattle.weave_report.specs.ReadingStates.{is_step_form, step_answer_in}
use Rattle.weave_report.specs.ReadingReplies.{any_named, named_from, got_in, program_in, transaction_in}

-- One line, by its place

-- the reading goes on with this report, at this place
abbrev pub reading : Report → Place → Reading
reading report place = record { report = report; place = place }

-- a report with one more reply
abbrev pub with_reply_read : Report → Reply → Report
with_reply_read report reply = record report { replies = report.replies ++ reply ∷ [] }

-- with one more pair
abbrev pub with_pair : Report → Pair → Report
with_pair report pair = record report { pairs = report.pairs ++ pair ∷ [] }

-- with its order
abbrev pub with_order : Report → List ℕ → Report
with_order report order = record report { order = order }

-- with one more answer of a step
abbrev pub with_answer : Report → StepAnswer → Report
with_answer report answer = record report { answers = report.answers ++ answer ∷ [] }

-- the reply of a commit whose `get`s read this
abbrev pub commit_reply : Commit → List Got → Reply
commit_reply commit answers =
    record { request = commit.request; stamp = Some commit.stamp; state = told.Committed commit.number answers }

-- after a commit and these answers: the next `get`'s is still to come, or it has them all
abbrev pub behind_commit : Report → Commit → List Got → Reading
behind_commit report commit answers =
    if nat_lt (length answers) (length commit.gets) then reading report (Gots commit answers)
    else reading (with_reply_read report (commit_reply commit answers)) Replies

-- the first line
abbrev pub after_first : Report → Line → ReadResult Reading
after_first report (word ∷ version ∷ []) =
    if bytes_eq word (codes "report") && bytes_eq version (codes "1") then Ok (reading report Replies)
    else Err cause.Line
after_first report _ = Err cause.Line

-- after a reply's line
abbrev pub behind_reply : Report → ReplyLine → Reading
behind_reply report (Whole reply) = reading (with_reply_read report reply) Replies
behind_reply report (Committed commit) = behind_commit report commit []

-- a pair, by the words after `settled`
abbrev pub pair_in : Script → List Word → ReadResult Pair
pair_in script (vertex ∷ earlier ∷ later ∷ []) =
    name_in vertex >>= λ vertex. name_in earlier >>= λ earlier. name_in later >>= λ later.
    any_named script earlier >>= λ earlier. any_named script later >>= λ later.
    Ok (record { vertex = vertex; earlier = earlier; later = later })
pair_in script _ = Err cause.Line

-- the order, by the words after `order`
abbrev pub order_in : Script → List Word → ReadResult (List ℕ)
order_in script words = read_names words >>= λ names. named_from script [] names

-- after a line that has a pair, or the order after the pairs
abbrev pub after_pairs : Script → Report → Line → ReadResult Reading
after_pairs script report [] = Err cause.Line
after_pairs script report (word ∷ words) =
    if bytes_eq word (codes "settled")
    then (pair_in script words >>= λ pair. Ok (reading (with_pair report pair) Pairs))
    else (if bytes_eq word (codes "order")
    then (order_in script words >>= λ order. Ok (reading (with_order report order) Answers))
    else Err cause.Line)

-- after a line that has a reply, or what follows the replies
abbrev pub after_replies : Script → Report → Line → ReadResult Reading
after_replies script report [] = Err cause.Line
after_replies script report (word ∷ words) =
    if bytes_eq word (codes "tx") then (transaction_in script words >>= λ line. Ok (behind_reply report line))
    else (if bytes_eq word (codes "prog") then (program_in script words >>= λ line. Ok (behind_reply report line))
    else after_pairs script report (word ∷ words))

-- the number of the next `get`
abbrev pub next_get : Commit → List Got → Option ℕ
next_get commit answers = slice_get commit.gets (length answers)

-- after a line that has the answer of a `get`
abbrev pub after_got : Option ℕ → Report → Commit → List Got → Line → ReadResult Reading
after_got None report commit answers line = Err cause.Line
after_got (Some op) report commit answers line =
    got_in op line >>= λ got. Ok (behind_commit report commit (answers ++ got ∷ []))

-- a step's answer, by the words after `did`, if the step has this number
abbrev pub did_in : ℕ → List Word → ReadResult StepAnswer
did_in number [] = Err cause.Line
did_in number (word ∷ answer) =
    if is_step_form answer then (this_number_in number word >>= λ number. step_answer_in answer) else Err cause.Line

-- after a line that has a step's answer, or the end
abbrev pub after_answers : Report → Line → ReadResult Reading
after_answers report [] = Err cause.Line
after_answers report (word ∷ words) =
    if bytes_eq word (codes "did")
    then (did_in (length report.answers + 1) words >>= λ answer. Ok (reading (with_answer report answer) Answers))
    else (if bytes_eq word (codes "end") && is_empty words then Ok (reading report Ended) else Err cause.Line)

-- after a line at its place
abbrev pub after_report_line_at : Script → Place → Report → Line → ReadResult Reading
after_report_line_at script Start report line = after_first report line
after_report_line_at script Replies report line = after_replies script report line
after_report_line_at script (Gots commit answers) report line =
    after_got (next_get commit answers) report commit answers line
after_report_line_at script Pairs report line = after_pairs script report line
after_report_line_at script Answers report line = after_answers report line
after_report_line_at script Ended report line = Err cause.Line

-- after one more line
abbrev pub after_report_line : Script → Reading → Line → ReadResult Reading
after_report_line script before line = after_report_line_at script before.place before.report line

-- All lines

-- a line that can't be accepted, by its number, and why
abbrev pub Refusal : Type 0
Refusal = ℕ × ReportCause

-- after the last line, which has the number before this one
abbrev pub whole_report : ℕ → Place → Report → Result Report Refusal
whole_report number Ended report = Ok report
whole_report number _ report = Err (number, cause.End)

-- after a line, which may be skipped
abbrev pub after_any_line : Script → Reading → Bytes → ReadResult Reading
after_any_line script before line =
    if is_skipped line then Ok before else after_report_line script before (words_of line)

-- the lines after a line of this number, if it was read
abbrev pub behind_line : ℕ → ReadResult Reading → (Reading → Result Report Refusal) → Result Report Refusal
behind_line number (Ok next) rest = rest next
behind_line number (Err why) rest = Err (number, why)

-- the lines that are left, of which the first has this number
abbrev pub after_lines : Script → ℕ → Reading → List Bytes → Result Report Refusal
after_lines script number before [] = whole_report number before.place before.report
after_lines script number before (line ∷ lines) =
    behind_line number (after_any_line script before line) (λ next. after_lines script (number + 1) next lines)

-- before the first line
abbrev pub report_start : Reading
report_start = record { report = record { replies = []; pairs = []; order = []; answers = [] }; place = Start }

-- the report that a text is read as, whose first line has this number, or the first line that can't be accepted
unfoldable pub report_in : Script → ℕ → Bytes → Result Report Refusal
report_in script first_line bytes = after_lines script first_line report_start (lines_of bytes)
