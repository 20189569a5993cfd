-- Texts of reports that are read, and texts that are refused at their first bad line, computed.
-- Used by nothing: worked examples.
use Rattle.std.proofs.Common.{◌≡◌, ℕ, [], ◌∷◌, ◌++◌, Some, None, refl}
use Rattle.std.specs.Prelude.{codes, Ok, Err}
use Rattle.vector_stamp.specs.declared.clock.Stamp.{Stamp}
use Rattle.weave_text.specs.Lines.{Bytes}
use Rattle.weave_text.specs.Numbers.{number_of_word}
use Rattle.graph_ops.specs.declared.op.Op.TheVariants.{Create, Get}
use Rattle.program_defs.specs.declared.program.Program.TheVariants.{Show, Reach, Around, Path}
use Rattle.program_defs.specs.declared.program.Answer.TheVariants.{Found, Walk}
use Rattle.program_defs.specs.declared.script.Script.{Script}
use Rattle.program_defs.specs.declared.script.Work.TheVariants.{Change, Look}
use Rattle.weave_report.specs.declared.fault.ReportCause.{ReportCause}
use Rattle.weave_report.specs.declared.fault.ReportCause.TheVariants as cause
use Rattle.report_rules.specs.declared.report.ReplyState.TheVariants.{Unbegun, Begun, Committed, Conflict, Finished}
use Rattle.report_rules.specs.declared.report.StepAnswer.TheVariants as step
use Rattle.weave_report.specs.Reading.{report_in}
use Rattle.report_rules.proofs.Examples.{reply}
use Rattle.report_rules.specs.declared.report.Report.{Report}
use Rattle.weave_report.proofs.WorkedTexts.{request, v}

-- two gatekeepers, a transaction with a `get`, one without, and a program of each form
abbrev script : Script
script = record {
  gates = 2;
  shards = 1;
  requests =
      request (codes "t") (Change (Create v ∷ Get v ∷ []))
      ∷ request (codes "u") (Change (Create v ∷ []))
      ∷ request (codes "p") (Look (Show v))
      ∷ request (codes "q") (Look (Reach v v None))
      ∷ request (codes "r") (Look (Around v 1 None))
      ∷ request (codes "s") (Look (Path v v 1 None)) ∷ [];
  phases = [];
  steps = None;
}

abbrev stamp : ℕ → ℕ → ℕ → ℕ → Stamp
stamp epoch home a b = record { home = home; clock = record { epoch = epoch; counts = a ∷ b ∷ 0 ∷ 0 ∷ 0 ∷ 0 ∷ 0 ∷ 0 ∷ [] } }

-- a report with a line of each form, comments and blank lines
abbrev all_lines : Bytes
all_lines = codes "#c\nreport 1\ntx t 0:0:1,0 committed 18446744073709551615\ngot 2 record color=red f1>bob,since=y2016\ntx u 7:1:0,1 conflict v t"
    ++ codes "\nprog p unbegun\n\nprog q 0:1:0,2 running\nprog r 0:1:0,3 done found v w\nprog s 0:1:0,4 done none\nsettled v t q\norder t r\ndid 1 ok\ndid 2 again 0 1\nend\n#"

-- what it says
abbrev all_said : Report
all_said = record {
  replies =
      reply 0 (stamp 0 0 1 0) (Committed 18446744073709551615 (record { op = 2; state = Some (record { props = (codes "color", codes "red") ∷ []; edges = (codes "f1", record { target = codes "bob"; tags = (codes "since", codes "y2016") ∷ [] }) ∷ [] }) } ∷ []))
      ∷ reply 1 (stamp 7 1 0 1) (Conflict v 0)
      ∷ record { request = 2; stamp = None; state = Unbegun }
      ∷ reply 3 (stamp 0 1 0 2) Begun
      ∷ reply 4 (stamp 0 1 0 3) (Finished (Found (v ∷ codes "w" ∷ [])))
      ∷ reply 5 (stamp 0 1 0 4) (Finished (Walk None)) ∷ [];
  pairs = record { vertex = v; earlier = 0; later = 3 } ∷ [];
  order = 0 ∷ 4 ∷ [];
  answers = step.Ok ∷ step.Again 0 1 ∷ [];
}

all_forms : report_in script 1 all_lines ≡ Ok all_said
unfolding report_in number_of_word
all_forms = refl

-- the second line, after `report 1`, is refused for this
abbrev IsRefusedFor : Bytes → ReportCause → Type 0
IsRefusedFor line why = report_in script 1 (codes "report 1\n" ++ line) ≡ Err (2, why)

stamp_with_too_many : IsRefusedFor (codes "tx t 0:0:1,0,0 begun") cause.Stamp
unfolding report_in number_of_word
stamp_with_too_many = refl

stamp_with_too_few : IsRefusedFor (codes "tx t 0:0:1 begun") cause.Stamp
unfolding report_in number_of_word
stamp_with_too_few = refl

home_of_no_gatekeeper : IsRefusedFor (codes "tx t 0:2:1,0 begun") cause.Stamp
unfolding report_in number_of_word
home_of_no_gatekeeper = refl

unbegun_begun : IsRefusedFor (codes "tx t unbegun begun") cause.Stamp
unfolding report_in number_of_word
unbegun_begun = refl

transaction_as_program : IsRefusedFor (codes "prog t 0:0:1,0 done") cause.Request
unfolding report_in number_of_word
transaction_as_program = refl

no_request : IsRefusedFor (codes "prog t9 0:0:1,0 done maybe no") cause.Request
unfolding report_in number_of_word
no_request = refl

answer_of_another_form : IsRefusedFor (codes "prog q 0:0:1,0,9 done none") cause.Line
unfolding report_in number_of_word
answer_of_another_form = refl

word_before_fields : IsRefusedFor (codes "tx T 0:0:1,0 refused x exists in 0") cause.Line
unfolding report_in number_of_word
word_before_fields = refl

reason_in_its_turn : IsRefusedFor (codes "tx t 0:0:1,0 refused 1 late at x") cause.Line
unfolding report_in number_of_word
reason_in_its_turn = refl

number_before_reason : IsRefusedFor (codes "tx t 0:0:1,0 refused 4294967296 late at 0") cause.Number
unfolding report_in number_of_word
number_before_reason = refl

missing_end : report_in script 5 (codes "report 1\norder\n") ≡ Err (7, cause.End)
unfolding report_in number_of_word
missing_end = refl

keys_repeated : report_in script 1 (codes "report 1\ntx t 0:0:1,0 committed 1\ngot 2 record a=b a=c\n") ≡ Err (3, cause.Line)
unfolding report_in number_of_word
keys_repeated = refl

property_behind_edge : report_in script 1 (codes "report 1\ntx t 0:0:1,0 committed 1\ngot 2 record a>b a=c\n") ≡ Err (3, cause.Line)
unfolding report_in number_of_word
property_behind_edge = refl

got_of_another : report_in script 1 (codes "report 1\ntx t 0:0:1,0 committed 1\ngot 1 absent\n") ≡ Err (3, cause.Number)
unfolding report_in number_of_word
got_of_another = refl

did_form_first : report_in script 1 (codes "report 1\norder\ndid x foo\n") ≡ Err (3, cause.Line)
unfolding report_in number_of_word
did_form_first = refl

did_counts_up : report_in script 1 (codes "report 1\norder\ndid 2 ok\n") ≡ Err (3, cause.Number)
unfolding report_in number_of_word
did_counts_up = refl

-- a word that is no name is refused before a name of no request
pub names_before_requests : report_in script 1 (codes "report 1\norder t9 T\n") ≡ Err (2, cause.Name)
unfolding report_in number_of_word
names_before_requests = refl
