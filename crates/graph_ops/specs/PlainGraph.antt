-- The plain graph: no stamps, no shards, no versions. A transaction runs its operations in order, and is refused at the
-- first that is refused.
use Rattle.std.specs.Prelude.{ℕ, ◌+◌, Bool, false, not, ◌&&◌, is_some, List, [], ◌∷◌, ◌++◌, Option, Some, None, Result, Ok, Err, if◌then◌else◌}
use Rattle.weave_data.specs.Names.{same_name}
use Rattle.weave_data.specs.declared.name.Name.{Name}
use Rattle.graph_ops.specs.Operations.{State, Outcome, needed_by, outcome_of_op, refused_if, vertex_of}
use Rattle.graph_ops.specs.declared.op.Op.{Op}
use Rattle.graph_ops.specs.declared.op.Reason.{Reason}
use Rattle.graph_ops.specs.declared.op.Reason.TheVariants.{NoTarget}
use Rattle.graph_ops.specs.declared.op.Answered.{Answered}
use Rattle.graph_ops.specs.declared.op.Answered.TheVariants as answered
use Rattle.graph_ops.specs.declared.tx.Got.{Got}

-- a state for each name; if it is None, the vertex is absent
abbrev pub PlainGraph : Type 0
PlainGraph = Name → State

-- no vertex is there
abbrev pub empty_graph : PlainGraph
empty_graph = λ v. None

-- the graph with this state of the vertex
abbrev pub with_state : Name → State → PlainGraph → PlainGraph
with_state v state graph = λ w. if same_name v w then state else graph w

-- what an outcome at a vertex results in for the graph: the graph with the vertex's new state and the answer, or the
-- reason
abbrev pub in_graph : Name → Outcome → PlainGraph → Result (PlainGraph × Answered) Reason
in_graph v (Ok (now, answer)) graph = Ok (with_state v now graph, answer)
in_graph v (Err reason) graph = Err reason

-- a vertex that is needed is absent
abbrev pub is_absent_in : PlainGraph → Option Name → Bool
is_absent_in graph None = false
is_absent_in graph (Some needed) = not (is_some (graph needed))

-- the vertex that the operation needs besides its own is absent, and its own isn't
abbrev pub lacks_target : Op → PlainGraph → Bool
lacks_target op graph = is_absent_in graph (needed_by op) && is_some (graph (vertex_of op))

-- the operation on its vertex, in a graph: `NoTarget` comes after `Missing`, and before any other reason
abbrev pub outcome_in : Op → PlainGraph → Outcome
outcome_in op graph = refused_if (lacks_target op graph) NoTarget (outcome_of_op op (graph (vertex_of op)))

-- an operation on a graph changes its vertex's state and no other
abbrev pub on_graph : Op → PlainGraph → Result (PlainGraph × Answered) Reason
on_graph op graph = in_graph (vertex_of op) (outcome_in op graph) graph

-- what an operation does on its vertex's state alone. No public contract cites this.
abbrev pub on_own_vertex : Op → PlainGraph → Result (PlainGraph × Answered) Reason
on_own_vertex op graph = in_graph (vertex_of op) (outcome_of_op op (graph (vertex_of op))) graph

-- a transaction that passes: the graph after it, and the states that its `get`s read
pub record PassedTx : Type 0 where
  pub graph : PlainGraph
  pub gots : List Got

-- a transaction that is refused: its first refused operation, and the reason
pub record StoppedTx : Type 0 where
  pub op : ℕ
  pub reason : Reason

-- what a transaction results in
abbrev pub TxOutcome : Type 0
TxOutcome = Result PassedTx StoppedTx

-- what an answer adds to those of a transaction
abbrev pub gots_of_answer : ℕ → Answered → List Got
gots_of_answer number answered.Done = []
gots_of_answer number (answered.Got state) = record { op = number; state = state } ∷ []

-- an outcome with these answers before its own
abbrev pub with_gots_before : List Got → TxOutcome → TxOutcome
with_gots_before gots (Ok passed) = Ok (record passed { gots = gots ++ passed.gots })
with_gots_before gots (Err stopped) = Err stopped

-- the outcome of operation `number`; if it isn't refused, then the rest, on the graph that it leaves
abbrev pub outcome_then : ℕ → Result (PlainGraph × Answered) Reason → (PlainGraph → TxOutcome) → TxOutcome
outcome_then number (Ok (graph, answer)) rest = with_gots_before (gots_of_answer number answer) (rest graph)
outcome_then number (Err reason) rest = Err (record { op = number; reason = reason })

-- operations in order, numbered from `number`, each on the graph that the one before leaves
abbrev pub run : ℕ → List Op → PlainGraph → TxOutcome
run number [] graph = Ok (record { graph = graph; gots = [] })
run number (op ∷ ops) graph = outcome_then number (on_graph op graph) (λ next. run (number + 1) ops next)

-- a transaction's operations are numbered from 1
abbrev pub transaction : List Op → PlainGraph → TxOutcome
transaction ops graph = run 1 ops graph

-- the graph that a transaction leaves: a refused one changes nothing
abbrev pub graph_left : PlainGraph → TxOutcome → PlainGraph
graph_left graph (Ok passed) = passed.graph
graph_left graph (Err stopped) = graph
