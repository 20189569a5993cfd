-- Requests replayed on a plain graph: the listed ones in their order, and the commits in that of their numbers.
use Rattle.std.specs.Prelude.{ℕ, zero, suc, ◌==◌, ◌≡◌, List, [], ◌∷◌, map, Option, Some, None, Ok, Err, if◌then◌else◌}
use Rattle.std.specs.List.{filter}
use Rattle.std.specs.Option.{option_and_then}
use Rattle.graph_ops.specs.PlainGraph.{PlainGraph, TxOutcome, empty_graph, transaction, graph_left}
use Rattle.graph_ops.specs.declared.op.Reason.{Reason}
use Rattle.program_defs.specs.declared.program.Program.{Program}
use Rattle.program_defs.specs.declared.script.Script.{Script}
use Rattle.program_defs.specs.declared.script.Request.{Request}
use Rattle.program_defs.specs.declared.script.Work.{Work}
use Rattle.program_defs.specs.declared.script.Work.TheVariants.{Change, Look}
use Rattle.program_defs.specs.PlainAnswer.{IsPlainAnswer}
use Rattle.report_rules.specs.declared.report.Report.{Report}
use Rattle.report_rules.specs.declared.report.Reply.{Reply}
use Rattle.report_rules.specs.declared.report.ReplyState.{ReplyState}
use Rattle.report_rules.specs.declared.report.ReplyState.TheVariants.{Committed, Finished}
use Rattle.weave_data.specs.Facts.{Facts}
use Rattle.report_rules.specs.Lookups.{is_some_and, AreBoth, request_at, reply_at, committed_number}

-- One request

-- a transaction passed, and its `get`s read what the reply says
abbrev pub OutcomeMatchesReply : TxOutcome → ReplyState → Type 0
OutcomeMatchesReply (Ok passed) (Committed number answers) = passed.gots ≡ answers
OutcomeMatchesReply _ _ = ⊥

-- on this graph a program answers what the reply says
abbrev pub AnswerMatchesReply : PlainGraph → Program → ReplyState → Type 0
AnswerMatchesReply graph program (Finished answer) = IsPlainAnswer graph program answer
AnswerMatchesReply graph program _ = ⊥

-- on this graph the work results in what the reply says
abbrev pub MatchesReply : PlainGraph → Work → ReplyState → Type 0
MatchesReply graph (Change ops) state = OutcomeMatchesReply (transaction ops graph) state
MatchesReply graph (Look program) state = AnswerMatchesReply graph program state

-- the graph after work; a program changes nothing
abbrev pub graph_after_work : PlainGraph → Work → PlainGraph
graph_after_work graph (Change ops) = graph_left graph (transaction ops graph)
graph_after_work graph (Look program) = graph

-- the graph after a request
abbrev pub graph_after : PlainGraph → Option Request → PlainGraph
graph_after graph None = graph
graph_after graph (Some request) = graph_after_work graph request.work

-- The order

-- listed requests, each on the graph that those before it leave, result in what their replies say
abbrev pub replay_from : PlainGraph → Script → Report → List ℕ → Facts
replay_from graph script report [] = []
replay_from graph script report (r ∷ order) =
    AreBoth (λ (request : Request) (reply : Reply). MatchesReply graph request.work reply.state) (request_at script r)
    (reply_at report r)
    ∷ replay_from (graph_after graph (request_at script r)) script report order

-- the graph that the requests listed before this one leave
abbrev pub graph_before : ℕ → PlainGraph → Script → List ℕ → PlainGraph
graph_before r graph script [] = graph
graph_before r graph script (listed ∷ order) =
    if listed == r then graph else graph_before r (graph_after graph (request_at script listed)) script order

-- the graph at a request's place in the order
abbrev pub graph_at_place : Script → Report → ℕ → PlainGraph
graph_at_place script report r = graph_before r empty_graph script report.order

-- The commits

-- the requests with this commit number
abbrev pub requests_numbered : ℕ → Report → List ℕ
requests_numbered number report =
    map (λ (reply : Reply). reply.request)
    (filter (λ (reply : Reply). is_some_and (λ n. n == number) (committed_number reply.state)) report.replies)

-- the element of a list that has exactly one
abbrev pub the_only : List ℕ → Option ℕ
the_only (r ∷ []) = Some r
the_only _ = None

-- the graph after a transaction that passes
abbrev pub graph_if_passed : TxOutcome → Option PlainGraph
graph_if_passed (Ok passed) = Some passed.graph
graph_if_passed (Err stopped) = None

-- the graph after work that is a transaction that passes
abbrev pub graph_if_work_passed : Work → PlainGraph → Option PlainGraph
graph_if_work_passed (Change ops) graph = graph_if_passed (transaction ops graph)
graph_if_work_passed (Look program) graph = None

-- the graph after one commit more, if it is there once and passes
abbrev pub graph_after_commit : Option Request → Option PlainGraph → Option PlainGraph
graph_after_commit None graph = None
graph_after_commit (Some request) graph = option_and_then (graph_if_work_passed request.work) graph

-- the graph after commits 1 to m in the order of their numbers, if each of them is there once and passes
abbrev pub graph_of_commits : Script → Report → ℕ → Option PlainGraph
graph_of_commits script report zero = Some empty_graph
graph_of_commits script report (suc m) =
    graph_after_commit (option_and_then (request_at script) (the_only (requests_numbered (suc m) report)))
    (graph_of_commits script report m)

-- on this graph the operations before this one pass, and it is refused for this reason
abbrev pub IsWorkRefused : PlainGraph → Work → ℕ → Reason → Type 0
IsWorkRefused graph (Change ops) op reason = transaction ops graph ≡ Err (record { op = op; reason = reason })
IsWorkRefused graph (Look program) op reason = ⊥

-- the same after commits 1 to `at`
abbrev pub IsRefusedAfter : Script → Report → ℕ → ℕ → ℕ → Reason → Type 0
IsRefusedAfter script report at r op reason =
    AreBoth (λ graph (request : Request). IsWorkRefused graph request.work op reason)
    (graph_of_commits script report at) (request_at script r)
