-- The table of operations: what each does to the state of its vertex, a case a row, reasons in the order of the row;
-- and how each is written. A record has at most 64 properties and 1,000 edges, an edge 8 tags.
use Rattle.std.specs.Prelude.{ℕ, Bool, true, false, not, cond, List, [], ◌∷◌, find, codes, Option, Some, None, is_some, Result, Ok, Err}
use Rattle.std.specs.Str.{bytes_eq}
use Rattle.weave_data.specs.Pairs.{at_key, has, put, without_key, is_full}
use Rattle.weave_data.specs.declared.name.Name.{Name}
use Rattle.weave_data.specs.Limits.{most_edges, most_props, most_tags}
use Rattle.graph_ops.specs.declared.record.Edge.{Edge}
use Rattle.graph_ops.specs.declared.record.Record.{Record}
use Rattle.graph_ops.specs.declared.op.Op.{Op}
use Rattle.graph_ops.specs.declared.op.Op.TheVariants.{Create, Delete, Set, Unset, Link, Join, Unlink, Tag, Untag, Get}
use Rattle.graph_ops.specs.declared.op.Reason.{Reason}
use Rattle.graph_ops.specs.declared.op.Reason.TheVariants.{Exists, Missing, NoKey, EdgeExists, NoEdge, Full}
use Rattle.graph_ops.specs.declared.op.Answered.{Answered}
use Rattle.graph_ops.specs.declared.op.Answered.TheVariants.{Done, Got}
use Rattle.graph_ops.specs.declared.op.OpFault.{OpFault}
use Rattle.graph_ops.specs.declared.op.OpFault.TheVariants.{Refused, Memory}

-- a vertex's state: its record, or None if it is absent
abbrev pub State : Type 0
State = Option Record

-- what an operation results in: the state after it and its answer, or the reason of its refusal
abbrev pub Outcome : Type 0
Outcome = Result (State × Answered) Reason

-- the vertex has this record now, and there is nothing to answer
abbrev pub done_with : Record → Outcome
done_with now = Ok (Some now, Done)

-- refused for the reason if the test holds; otherwise the rest
abbrev pub refused_if : Bool → Reason → Outcome → Outcome
refused_if test reason rest = cond test (Err reason) rest

-- `Missing` if there is no vertex; otherwise the rest, for its record
abbrev pub on_vertex : State → (Record → Outcome) → Outcome
on_vertex None rest = Err Missing
on_vertex (Some was) rest = rest was

-- `NoEdge` if there is no such edge; otherwise the rest, for that edge
abbrev pub on_edge : Option Edge → (Edge → Outcome) → Outcome
on_edge None rest = Err NoEdge
on_edge (Some edge) rest = rest edge

-- the operation on its vertex; for a join the target isn't looked at
abbrev pub outcome_of_op : Op → State → Outcome
outcome_of_op (Create v) state = refused_if (is_some state) Exists (done_with (record { props = []; edges = [] }))
outcome_of_op (Delete v) state = on_vertex state (λ was. Ok (None, Done))
outcome_of_op (Set v key value) state = on_vertex state (λ was.
    refused_if (is_full most_props key was.props) Full (done_with (record was { props = put key value was.props })))
outcome_of_op (Unset v key) state = on_vertex state (λ was.
    refused_if (not (has key was.props)) NoKey (done_with (record was { props = without_key key was.props })))
outcome_of_op (Link v name target) state = on_vertex state (λ was.
    refused_if (has name was.edges) EdgeExists (
    refused_if (is_full most_edges name was.edges) Full
    (done_with (record was { edges = put name (record { target = target; tags = [] }) was.edges }))))
outcome_of_op (Join v name target) state = on_vertex state (λ was.
    refused_if (has name was.edges) EdgeExists (
    refused_if (is_full most_edges name was.edges) Full
    (done_with (record was { edges = put name (record { target = target; tags = [] }) was.edges }))))
outcome_of_op (Unlink v name) state = on_vertex state (λ was.
    refused_if (not (has name was.edges)) NoEdge (done_with (record was { edges = without_key name was.edges })))
outcome_of_op (Tag v name key value) state = on_vertex state (λ was. on_edge (at_key name was.edges) (λ edge.
    refused_if (is_full most_tags key edge.tags) Full (done_with
    (record was { edges = put name (record edge { tags = put key value edge.tags }) was.edges }))))
outcome_of_op (Untag v name key) state = on_vertex state (λ was. on_edge (at_key name was.edges) (λ edge.
    refused_if (not (has key edge.tags)) NoKey
    (done_with (record was { edges = put name (record edge { tags = without_key key edge.tags }) was.edges }))))
outcome_of_op (Get v) state = Ok (state, Got state)

-- the vertex that an operation is on
abbrev pub vertex_of : Op → Name
vertex_of (Create v) = v
vertex_of (Delete v) = v
vertex_of (Set v key value) = v
vertex_of (Unset v key) = v
vertex_of (Link v name target) = v
vertex_of (Join v name target) = v
vertex_of (Unlink v name) = v
vertex_of (Tag v name key value) = v
vertex_of (Untag v name key) = v
vertex_of (Get v) = v

-- the vertex that has to be there for it, besides its own: the target of a join
abbrev pub needed_by : Op → Option Name
needed_by (Join v name target) = Some target
needed_by _ = None

-- How operations are written, and what is told of them

-- an operation's word
abbrev pub op_word : Op → List ℕ
op_word (Create v) = codes "create"
op_word (Delete v) = codes "delete"
op_word (Set v key value) = codes "set"
op_word (Unset v key) = codes "unset"
op_word (Link v name target) = codes "link"
op_word (Join v name target) = codes "link"
op_word (Unlink v name) = codes "unlink"
op_word (Tag v name key value) = codes "tag"
op_word (Untag v name key) = codes "untag"
op_word (Get v) = codes "get"

-- the names that it takes, in their order
abbrev pub op_fields : Op → List Name
op_fields (Create v) = v ∷ []
op_fields (Delete v) = v ∷ []
op_fields (Set v key value) = v ∷ key ∷ value ∷ []
op_fields (Unset v key) = v ∷ key ∷ []
op_fields (Link v name target) = v ∷ name ∷ target ∷ []
op_fields (Join v name target) = v ∷ name ∷ target ∷ []
op_fields (Unlink v name) = v ∷ name ∷ []
op_fields (Tag v name key value) = v ∷ name ∷ key ∷ value ∷ []
op_fields (Untag v name key) = v ∷ name ∷ key ∷ []
op_fields (Get v) = v ∷ []

-- the operation of version 1 of a script that has the same line: a link for a join
abbrev pub version_1_op : Op → Op
version_1_op (Join v name target) = Link v name target
version_1_op op = op

-- the operations of version 1 that take these names
abbrev pub ops_with : List Name → List Op
ops_with (v ∷ []) = Create v ∷ Delete v ∷ Get v ∷ []
ops_with (v ∷ other ∷ []) = Unset v other ∷ Unlink v other ∷ []
ops_with (v ∷ other ∷ last ∷ []) = Set v other last ∷ Link v other last ∷ Untag v other last ∷ []
ops_with (v ∷ name ∷ key ∷ value ∷ []) = Tag v name key value ∷ []
ops_with _ = []

-- the one of them that has this word
abbrev pub op_with : List ℕ → List Name → Option Op
op_with word fields = find (λ op. bytes_eq word (op_word op)) (ops_with fields)

-- the operation reads its vertex's state, and changes nothing
abbrev pub is_get : Op → Bool
is_get (Get v) = true
is_get _ = false

-- the vertex to which it makes an edge
abbrev pub target_of : Op → Option Name
target_of (Link v name target) = Some target
target_of (Join v name target) = Some target
target_of _ = None

-- if the call was refused, not for being out of memory, the reason has P
abbrev pub IfRefused : {A : Type 0} → Result A OpFault → (Reason → Type 0) → Type 0
IfRefused (Ok answer) P = Unit {0}
IfRefused (Err (Refused reason)) P = P reason
IfRefused (Err Memory) P = Unit {0}
