-- What the judge of meetings answers.
use Rattle.std.specs.Prelude.{◌≡◌, ℕ, ◌-◌, IsTrue, Option, Some, None, slice_get, take}
use Rattle.weave_data.specs.declared.name.Name.{Name}
use Rattle.weave_data.specs.Facts.{AllHold, BreaksFirstAt}
use Rattle.graph_ops.specs.PlainGraph.{PlainGraph}
use Rattle.program_defs.specs.declared.script.Script.{Script}
use Rattle.program_defs.specs.declared.script.Request.{Request}
use Rattle.program_defs.specs.Works.{is_change}
use Rattle.report_rules.specs.declared.report.Report.{Report}
use Rattle.report_rules.specs.Lookups.{RequestPrecedes, is_in, request_at}
use Rattle.report_rules.specs.Meetings.{MeetAt}
use Rattle.report_rules.specs.Replay.{graph_after_work}
use Rattle.run_judge.specs.declared.judge.Meeting.{Meeting}
use Rattle.run_judge.specs.declared.vertices.Unordered.{Unordered}
use Rattle.run_judge.specs.declared.vertices.Vertices.{Vertices}
use Rattle.run_judge.specs.Promises.{meetings_clause}
use Rattle.run_judge.specs.Vertices.{IsComparison, IsNotedAt, IsOn}

-- two requests meet at the vertex, and neither precedes the other
pub record MeetUnordered (script : Script) (report : Report) (v : Name) (a b : ℕ) : Type 0 where
  pub meet : MeetAt script report v a b
  pub not_first : ¬ RequestPrecedes report a b
  pub not_second : ¬ RequestPrecedes report b a

-- None if of two requests that meet one always precedes the other; else the first place in the order that breaks this,
-- and one that is listed before it, which its request meets at this vertex without precedence
abbrev pub IsFirstMeeting : Script → Report → Option Meeting → Type 0
IsFirstMeeting script report None = AllHold (meetings_clause script report)
IsFirstMeeting script report (Some meeting) =
    BreaksFirstAt (meetings_clause script report) meeting.place
    × ((r : ℕ) × (slice_get report.order (meeting.place - 1) ≡ Some r)
    × IsTrue (is_in meeting.earlier (take (meeting.place - 1) report.order))
    × MeetUnordered script report meeting.vertex meeting.earlier r)

-- A request is compared with those that are kept of its vertices, noted there, and replayed. No public contract cites
-- this.
pub record MeetsWork (report : Report) (request : Request) (r : ℕ) (graph after : PlainGraph)
    (old new : Vertices) (found : Option Unordered) : Type 0 where
  pub compared : IsComparison report graph old request.work r found
  pub noted : (v : Name) → IsNotedAt old new v (IsOn graph v request.work) (is_change request.work) r
  pub graph_is : after ≡ graph_after_work graph request.work

-- a request that the script doesn't have meets none. No public contract cites this.
abbrev pub MeetsIf : Report → Option Request → ℕ → PlainGraph → PlainGraph → Vertices → Vertices → Option Unordered
    → Type 0
MeetsIf report None r graph after old new found = (found ≡ None) × (after ≡ graph) × (new ≡ old)
MeetsIf report (Some request) r graph after old new found = MeetsWork report request r graph after old new found

-- this of a request of the script. No public contract cites this.
abbrev pub MeetsRequest : Script → Report → ℕ → PlainGraph → PlainGraph → Vertices → Vertices → Option Unordered
    → Type 0
MeetsRequest script report r graph after old new found =
    MeetsIf report (request_at script r) r graph after old new found
