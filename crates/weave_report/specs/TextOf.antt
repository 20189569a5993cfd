-- What it is to be a text of a report for a script.
use Rattle.std.specs.Prelude.{ℕ, ◌≡◌, ◌<◌, ◌^◌, IsTrue, List, [], length, map, Option, Some, None, ⊤}
use Rattle.std.specs.List.{AllByRecursion, IsDistinct}
use Rattle.weave_data.specs.Names.{is_name, same_name}
use Rattle.weave_data.specs.Pairs.{IsRising}
use Rattle.weave_data.specs.declared.name.Name.{Name}
use Rattle.weave_text.specs.Cutting.{kept_lines, lines_of}
use Rattle.weave_text.specs.Lines.{Bytes}
use Rattle.graph_ops.specs.Operations.{State}
use Rattle.graph_ops.specs.declared.record.Edge.{Edge}
use Rattle.graph_ops.specs.declared.record.Record.{Record}
use Rattle.graph_ops.specs.declared.tx.Got.{Got}
use Rattle.program_defs.specs.declared.program.Answer.{Answer}
use Rattle.program_defs.specs.declared.program.Answer.TheVariants.{Shown, Reached, Found, Walk, Priced}
use Rattle.program_defs.specs.declared.program.Bound.{Bound}
use Rattle.program_defs.specs.declared.script.Script.{Script}
use Rattle.program_defs.specs.declared.script.Request.{Request}
use Rattle.report_rules.specs.declared.report.Pair.{Pair}
use Rattle.report_rules.specs.declared.report.Reply.{Reply}
use Rattle.report_rules.specs.declared.report.ReplyState.{ReplyState}
use Rattle.report_rules.specs.declared.report.ReplyState.TheVariants.{Unbegun, Begun, Committed, Conflict, Refused, Finished}
use Rattle.report_rules.specs.declared.report.Report.{Report}
use Rattle.report_rules.specs.declared.report.StepAnswer.{StepAnswer}
use Rattle.report_rules.specs.declared.report.StepAnswer.TheVariants as step
use Rattle.program_defs.specs.Works.{ops_of}
use Rattle.report_rules.specs.ReportOf.{IsReportOf}
use Rattle.weave_report.specs.ReportText.{report_lines}

-- What the types of the program say of its values, besides what their definitions say: names are names, keys rise, and
-- numbers are within their ranges

-- the bytes are a name
abbrev pub IsName : Name → Type 0
IsName bytes = IsTrue (is_name bytes)

-- keys rise and are names, and this is true of each value
pub record IsTypedMap {X : Type 0} (IsTyped : X → Type 0) (pairs : List (Name × X)) : Type 0 where
  pub rising : IsRising pairs
  pub each : AllByRecursion (λ (pair : Name × X). IsName pair.0 × IsTyped pair.1) pairs

-- its target is a name, and so are its tags' keys and values
pub record IsTypedEdge (edge : Edge) : Type 0 where
  pub target : IsName edge.target
  pub tags : IsTypedMap IsName edge.tags

-- keys and values of properties are names, and edges are as types say
pub record IsTypedRecord (held : Record) : Type 0 where
  pub props : IsTypedMap IsName held.props
  pub edges : IsTypedMap IsTypedEdge held.edges

-- a record, if there is one, is as types say
abbrev pub IsTypedState : State → Type 0
IsTypedState None = ⊤
IsTypedState (Some held) = IsTypedRecord held

-- the names of a walk, if there is one, are names
abbrev pub IsTypedWalk : Option (List Name) → Type 0
IsTypedWalk None = ⊤
IsTypedWalk (Some vertices) = AllByRecursion IsName vertices

-- the vertex's name is one, and its price has 128 bits
pub record IsTypedBound (bound : Bound) : Type 0 where
  pub vertex : IsName bound.vertex
  pub price : bound.price < 2 ^ 128

-- names are names, and prices have 128 bits
pub record IsTypedPriced (walk : Option (List Name)) (total : ℕ) (bounds : List Bound) : Type 0 where
  pub vertices : IsTypedWalk walk
  pub price : total < 2 ^ 128
  pub each : AllByRecursion IsTypedBound bounds

-- the states and names in a program's answer are valid
abbrev pub IsTypedAnswer : Answer → Type 0
IsTypedAnswer (Shown state) = IsTypedState state
IsTypedAnswer (Reached reached) = ⊤
IsTypedAnswer (Found vertices) = AllByRecursion IsName vertices
IsTypedAnswer (Walk walk) = IsTypedWalk walk
IsTypedAnswer (Priced walk total bounds) = IsTypedPriced walk total bounds

-- what a `get` read is valid, and the operation's number has 32 bits
pub record IsTypedGot (got : Got) : Type 0 where
  pub op : got.op < 2 ^ 32
  pub state : IsTypedState got.state

-- what a commit's `get`s read. No public contract cites this.
abbrev pub gots_of : ReplyState → List Got
gots_of (Committed number answers) = answers
gots_of _ = []

-- every field of a reply's state is valid
abbrev pub IsTypedReplyState : ReplyState → Type 0
IsTypedReplyState Unbegun = ⊤
IsTypedReplyState Begun = ⊤
IsTypedReplyState (Committed number answers) = (number < 2 ^ 64) × AllByRecursion IsTypedGot answers
IsTypedReplyState (Conflict vertex newer) = IsName vertex
IsTypedReplyState (Refused op reason at) = (op < 2 ^ 32) × (at < 2 ^ 64)
IsTypedReplyState (Finished answer) = IsTypedAnswer answer

-- every field of a step's answer is valid
abbrev pub IsTypedStepAnswer : StepAnswer → Type 0
IsTypedStepAnswer (step.Waits vertex) = IsName vertex
IsTypedStepAnswer (step.Again shard gate) = (shard < 2 ^ 32) × (gate < 2 ^ 32)
IsTypedStepAnswer _ = ⊤

-- every field of a report is valid
pub record IsTypedReport (report : Report) : Type 0 where
  pub replies : AllByRecursion (λ (reply : Reply). IsTypedReplyState reply.state) report.replies
  pub pairs : AllByRecursion (λ (pair : Pair). IsName pair.vertex) report.pairs
  pub answers : AllByRecursion IsTypedStepAnswer report.answers
  pub few_answers : length report.answers < 2 ^ 64

-- the requests' names
abbrev pub request_names : List Request → List Name
request_names requests = map (λ (request : Request). request.name) requests

-- a script whose requests are known by their names: no two have the same name, and there are fewer than 2^32 of them
-- and of the operations of each
pub record HasDistinctNames (script : Script) : Type 0 where
  pub distinct : IsDistinct same_name (request_names script.requests)
  pub few_requests : length script.requests < 2 ^ 32
  pub few_ops : AllByRecursion (λ (request : Request). length (ops_of request.work) < 2 ^ 32) script.requests

-- what the types say of a script
pub record IsTypedScript (script : Script) : Type 0 where
  pub gates : script.gates < 2 ^ 32
  pub names : AllByRecursion IsName (request_names script.requests)

-- the lines of the text that aren't skipped are those of the report, which is one that some text can give
pub record IsReportTextOf (script : Script) (bytes : Bytes) (report : Report) : Type 0 where
  pub lines : kept_lines (lines_of bytes) ≡ report_lines script report
  pub of_script : IsReportOf script report
  pub typed : IsTypedReport report
