-- Texts of reports, computed.
-- Used by WorkedReadings.
use Rattle.std.proofs.Common.{◌≡◌, ℕ, List, [], ◌∷◌, Some, None, refl}
use Rattle.std.specs.Prelude.{codes}
use Rattle.std.specs.Fmt.{digits}
use Rattle.graph_ops.specs.declared.op.Op.TheVariants.{Create, Set, Get}
use Rattle.graph_ops.specs.declared.op.Reason.TheVariants.{Missing}
use Rattle.program_defs.specs.declared.script.Script.{Script}
use Rattle.program_defs.specs.declared.script.Request.{Request}
use Rattle.program_defs.specs.declared.script.Work.{Work}
use Rattle.program_defs.specs.declared.script.Work.TheVariants.{Change, Look}
use Rattle.program_defs.specs.declared.program.Program.TheVariants.{Show}
use Rattle.program_defs.specs.declared.program.Answer.TheVariants.{Shown}
use Rattle.report_rules.specs.declared.report.Report.{Report}
use Rattle.report_rules.specs.declared.report.Reply.{Reply}
use Rattle.report_rules.specs.declared.report.ReplyState.{ReplyState}
use Rattle.report_rules.specs.declared.report.ReplyState.TheVariants.{Unbegun, Begun, Committed, Conflict, Refused, Finished}
use Rattle.report_rules.specs.declared.report.StepAnswer.TheVariants as step
use Rattle.weave_text.specs.Lines.{Bytes}
use Rattle.weave_report.specs.ReportText.{report_text}

-- a request of the session 0 at the gatekeeper 0
abbrev pub request : Bytes → Work → Request
request name work = record { name = name; session = 0; gate = 0; work = work }

abbrev script : ℕ → List Request → Script
script gates requests = record { gates = gates; shards = 1; requests = requests; phases = []; steps = None }

-- a reply with a stamp of this home and these counts of the first three gatekeepers
abbrev reply : ℕ → ℕ → ℕ → ℕ → ℕ → ReplyState → Reply
reply r home a b c state = record {
  request = r;
  stamp = Some (record { home = home; clock = record { epoch = 0; counts = a ∷ b ∷ c ∷ 0 ∷ 0 ∷ 0 ∷ 0 ∷ 0 ∷ [] } });
  state = state;
}

-- the vertex of most examples
abbrev pub v : Bytes
v = codes "v"

-- nothing to report
empty_text : report_text (script 1 []) (record { replies = []; pairs = []; order = []; answers = [] }) ≡ codes "report 1\norder\nend\n"
empty_text = refl

-- a vertex is created, given a property and read
abbrev first_script : Script
first_script = script 1 (
    request (codes "t1") (Change (Create v ∷ Set v (codes "color") (codes "red") ∷ []))
    ∷ request (codes "t2") (Change (Get v ∷ [])) ∷ [])

abbrev first_report : Report
first_report = record {
  replies =
      reply 0 0 1 0 0 (Committed 1 [])
      ∷ reply 1 0 2 0 0 (Committed 2 (record { op = 1; state = Some (record { props = (codes "color", codes "red") ∷ []; edges = [] }) } ∷ []))
      ∷ [];
  pairs = [];
  order = 0 ∷ 1 ∷ [];
  answers = [];
}

first_text : report_text first_script first_report ≡ codes "report 1\ntx t1 0:0:1 committed 1\ntx t2 0:0:2 committed 2\ngot 1 record color=red\norder t1 t2\nend\n"
unfolding digits
first_text = refl

-- a conflict through a pair and a notice
abbrev conflict_script : Script
conflict_script = script 3 (
    request (codes "x") (Change (Create (codes "w") ∷ []))
    ∷ request (codes "y") (Change (Get (codes "w") ∷ Create v ∷ []))
    ∷ request (codes "z") (Change (Get v ∷ [])) ∷ [])

abbrev conflict_report : Report
conflict_report = record {
  replies =
      reply 0 0 1 0 1 (Committed 1 [])
      ∷ reply 1 1 0 1 0 (Committed 2 (record { op = 1; state = Some (record { props = []; edges = [] }) } ∷ []))
      ∷ reply 2 2 0 0 1 (Conflict v 1)
      ∷ [];
  pairs = record { vertex = codes "w"; earlier = 0; later = 1 } ∷ [];
  order = 0 ∷ 1 ∷ [];
  answers = [];
}

conflict_text : report_text conflict_script conflict_report ≡ codes "report 1\ntx x 0:0:1,0,1 committed 1\ntx y 0:1:0,1,0 committed 2\ngot 1 record\ntx z 0:2:0,0,1 conflict v y\nsettled w x y\norder x y\nend\n"
unfolding digits
conflict_text = refl

-- a refusal, programs in each state, an edge with a tag, and answers of steps
abbrev programs_script : Script
programs_script = script 2 (
    request (codes "t") (Change (Set v (codes "k") (codes "x") ∷ []))
    ∷ request (codes "p") (Look (Show v))
    ∷ request (codes "q") (Look (Show v))
    ∷ request (codes "s") (Look (Show v)) ∷ [])

abbrev programs_report : Report
programs_report = record {
  replies =
      reply 0 1 0 1 0 (Refused 1 Missing 0)
      ∷ reply 1 0 1 0 0 (Finished (Shown (Some (record {
        props = (codes "color", codes "red") ∷ [];
        edges = (codes "f1", record { target = codes "bob"; tags = (codes "since", codes "y2016") ∷ [] }) ∷ [];
      }))))
      ∷ reply 2 0 2 0 0 Begun
      ∷ record { request = 3; stamp = None; state = Unbegun }
      ∷ [];
  pairs = [];
  order = 1 ∷ [];
  answers = step.Ok ∷ step.Again 0 1 ∷ step.Waits v ∷ [];
}

programs_text : report_text programs_script programs_report ≡ codes "report 1\ntx t 0:1:0,1 refused 1 missing at 0\nprog p 0:0:1,0 done record color=red f1>bob,since=y2016\nprog q 0:0:2,0 running\nprog s unbegun\norder p\ndid 1 ok\ndid 2 again 0 1\ndid 3 waits v\nend\n"
unfolding digits
programs_text = refl
