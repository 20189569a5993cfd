-- The outcome of a request when it is replayed. No public contract cites this.
use Rattle.std.specs.Prelude.{◌≡◌, ℕ, Bool, List, Ok, Err, MatchBool}
use Rattle.graph_ops.specs.PlainGraph.{PlainGraph, TxOutcome}
use Rattle.graph_ops.specs.declared.tx.Got.{Got}
use Rattle.program_defs.specs.declared.script.Script.{Script}
use Rattle.program_defs.specs.declared.script.Request.{Request}
use Rattle.report_rules.specs.declared.report.Report.{Report}
use Rattle.report_rules.specs.declared.report.Reply.{Reply}
use Rattle.report_rules.specs.Lookups.{AreBoth, request_at, reply_at}
use Rattle.report_rules.specs.Replay.{MatchesReply}

-- on this graph the outcome of a request is what its reply says
abbrev pub MatchesItsReply : PlainGraph → Script → Report → ℕ → Type 0
MatchesItsReply graph script report r =
    AreBoth (λ (request : Request) (reply : Reply). MatchesReply graph request.work reply.state)
    (request_at script r) (reply_at report r)

-- a transaction passed, and its `get`s read these states
abbrev pub GivesAnswers : TxOutcome → List Got → Type 0
GivesAnswers (Ok passed) answers = passed.gots ≡ answers
GivesAnswers (Err stopped) answers = ⊥

-- a test says whether a replay had the outcome that was said, and if so, the graph is as it should be
abbrev pub TellsOf : Type 0 → PlainGraph → PlainGraph → Bool → Type 0
TellsOf Said now after holds = MatchBool holds (Said × (now ≡ after)) (¬ Said)
