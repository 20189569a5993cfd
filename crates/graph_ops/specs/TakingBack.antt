-- How operations are taken back, each by what it noted, the last one first.
use Rattle.std.specs.Prelude.{◌≡◌, List, [], ◌∷◌, Option, Some, None, option_map, Result, Ok, Err, IfSome}
use Rattle.weave_data.specs.Changes.{undone_pairs, Fits}
use Rattle.weave_data.specs.Pairs.{at_key, put}
use Rattle.weave_data.specs.declared.name.Name.{Name}
use Rattle.weave_data.specs.declared.change.Undo.{Undo}
use Rattle.graph_ops.specs.Operations.{State, Outcome}
use Rattle.graph_ops.specs.PlainGraph.{PlainGraph, with_state}
use Rattle.graph_ops.specs.declared.record.Edge.{Edge}
use Rattle.graph_ops.specs.declared.record.Record.{Record}
use Rattle.graph_ops.specs.declared.back.Back.{Back}
use Rattle.graph_ops.specs.declared.back.Back.TheVariants.{Nothing, Absent, Present, Props, Edges, Tags}
use Rattle.graph_ops.specs.declared.back.Change.{Change}
use Rattle.graph_ops.specs.declared.op.OpFault.{OpFault}
use Rattle.graph_ops.specs.declared.op.OpFault.TheVariants.{Refused, Memory}
use Rattle.graph_ops.specs.declared.journal.Step.{Step}

-- the edges with this one of a name, if there is one
abbrev pub with_edge : Name → Option Edge → List (Name × Edge) → List (Name × Edge)
with_edge name None edges = edges
with_edge name (Some edge) edges = put name edge edges

-- the edges with a change of one's tags taken back
abbrev pub edges_retagged : Name → Undo Name → List (Name × Edge) → List (Name × Edge)
edges_retagged name undo edges =
    with_edge name (option_map {T = Edge} (λ edge. record edge { tags = undone_pairs undo edge.tags })
    (at_key name edges))
    edges

-- it can be taken back without memory
abbrev pub CanRetag : Name → Undo Name → List (Name × Edge) → Type 0
CanRetag name undo edges = IfSome (at_key name edges) (λ edge. Fits undo edge.tags)

-- a vertex's state with an operation taken back
abbrev pub taken_back : Back → State → State
taken_back Nothing state = state
taken_back Absent state = None
taken_back (Present was) state = Some was
taken_back (Props undo) state =
    option_map {T = Record} (λ now. record now { props = undone_pairs undo now.props }) state
taken_back (Edges undo) state =
    option_map {T = Record} (λ now. record now { edges = undone_pairs undo now.edges }) state
taken_back (Tags name undo) state =
    option_map {T = Record} (λ now. record now { edges = edges_retagged name undo now.edges }) state

-- it can be taken back without memory
abbrev pub CanTakeBack : Back → State → Type 0
CanTakeBack Nothing state = Unit {0}
CanTakeBack Absent state = Unit {0}
CanTakeBack (Present was) state = Unit {0}
CanTakeBack (Props undo) state = IfSome state (λ now. Fits undo now.props)
CanTakeBack (Edges undo) state = IfSome state (λ now. Fits undo now.edges)
CanTakeBack (Tags name undo) state = IfSome state (λ now. CanRetag name undo now.edges)

-- a call resulted in this outcome on a state, and noted how it is taken back; after either fault the state is as before
-- No public contract cites this.
abbrev pub HasOutcome : Outcome → State → State → Result Change OpFault → Type 0
HasOutcome outcome old new (Ok change) = (outcome ≡ Ok (new, change.answered)) × CanTakeBack change.back new
    × (taken_back change.back new ≡ old)
HasOutcome outcome old new (Err (Refused reason)) = (outcome ≡ Err reason) × (new ≡ old)
HasOutcome outcome old new (Err Memory) = new ≡ old

-- a graph with a step taken back
abbrev pub step_back : Step → PlainGraph → PlainGraph
step_back step graph = with_state step.v (taken_back step.back (graph step.v)) graph

-- a graph with steps taken back, the last one first
abbrev pub graph_rewound : List Step → PlainGraph → PlainGraph
graph_rewound [] graph = graph
graph_rewound (step ∷ steps) graph = step_back step (graph_rewound steps graph)

-- they can be taken back without memory
abbrev pub CanRewind : List Step → PlainGraph → Type 0
CanRewind [] graph = Unit {0}
CanRewind (step ∷ steps) graph = CanRewind steps graph × CanTakeBack step.back (graph_rewound steps graph step.v)
