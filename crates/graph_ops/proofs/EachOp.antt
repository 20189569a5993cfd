-- What is shown operation by operation, a case for each: how it is written and found again, what it answers, and what
-- it leaves of a state's edges.
-- Used by crates drive_rules, weave_account, weave_script and weaver_core.
use Rattle.std.proofs.Common.{◌≡◌, ℕ, Bool, true, false, not, ◌&&◌, List, [], ◌∷◌, refl, sym}
use Rattle.std.proofs.Common.{Option, Some, None, Ok, Err, IfSome}
use Rattle.std.specs.Prelude.{IsTrue, is_some}
use Rattle.std.specs.List.{AllByRecursion}
use Rattle.std.specs.Str.{bytes_eq}
use Rattle.std.proofs.lemmas.Slice.Eq.{bytes_eq-Decides}
use Rattle.weave_data.proofs.Lists.{all-find}
use Rattle.weave_data.specs.Names.{is_name}
use Rattle.weave_data.specs.Pairs.{at_key, has, put, without_key, is_full}
use Rattle.weave_data.specs.declared.name.Name.{Name}
use Rattle.graph_ops.specs.Operations.{State, Outcome, outcome_of_op, done_with, needed_by, on_edge, on_vertex, refused_if, vertex_of}
use Rattle.graph_ops.specs.Operations.{op_word, op_fields, ops_with, op_with, version_1_op, is_get, target_of}
use Rattle.graph_ops.specs.PlainGraph.{PlainGraph, is_absent_in, outcome_in}
use Rattle.graph_ops.specs.VertexOps.{state_left}
use Rattle.graph_ops.specs.declared.record.Edge.{Edge}
use Rattle.graph_ops.specs.declared.record.Record.{Record}
use Rattle.graph_ops.specs.declared.op.Op.{Op}
use Rattle.graph_ops.specs.declared.op.Op.TheVariants.{Create, Delete, Set, Unset, Link, Join, Unlink, Tag, Untag, Get}
use Rattle.graph_ops.specs.declared.op.Reason.{Reason}
use Rattle.graph_ops.specs.declared.op.Reason.TheVariants.{Exists, Missing, NoKey, EdgeExists, NoEdge, Full, NoTarget}
use Rattle.graph_ops.specs.declared.op.Answered.TheVariants.{Done, Got}

-- How it is written

-- each word of an operation has the form of a name
pub word-is-name : (op : Op) → IsTrue (is_name (op_word op))
word-is-name (Create v) = refl
word-is-name (Delete v) = refl
word-is-name (Set v key value) = refl
word-is-name (Unset v key) = refl
word-is-name (Link v name target) = refl
word-is-name (Join v name target) = refl
word-is-name (Unlink v name) = refl
word-is-name (Tag v name key value) = refl
word-is-name (Untag v name key) = refl
word-is-name (Get v) = refl

-- the first field of an operation is its vertex
pub vertex-first : (op : Op) → (rest : List Name) × (op_fields op ≡ vertex_of op ∷ rest)
vertex-first (Create v) = ([], refl)
vertex-first (Delete v) = ([], refl)
vertex-first (Set v key value) = (key ∷ value ∷ [], refl)
vertex-first (Unset v key) = (key ∷ [], refl)
vertex-first (Link v name target) = (name ∷ target ∷ [], refl)
vertex-first (Join v name target) = (name ∷ target ∷ [], refl)
vertex-first (Unlink v name) = (name ∷ [], refl)
vertex-first (Tag v name key value) = (name ∷ key ∷ value ∷ [], refl)
vertex-first (Untag v name key) = (name ∷ key ∷ [], refl)
vertex-first (Get v) = ([], refl)

fields-are : (fields : List Name) → AllByRecursion (λ op. op_fields op ≡ fields) (ops_with fields)
fields-are [] = tt
fields-are (v ∷ []) = (refl, (refl, (refl, tt)))
fields-are (v ∷ other ∷ []) = (refl, (refl, tt))
fields-are (v ∷ other ∷ last ∷ []) = (refl, (refl, (refl, tt)))
fields-are (v ∷ name ∷ key ∷ value ∷ []) = (refl, tt)
fields-are (v ∷ name ∷ key ∷ value ∷ more ∷ rest) = tt

versions-are : (fields : List Name) → AllByRecursion (λ op. version_1_op op ≡ op) (ops_with fields)
versions-are [] = tt
versions-are (v ∷ []) = (refl, (refl, (refl, tt)))
versions-are (v ∷ other ∷ []) = (refl, (refl, tt))
versions-are (v ∷ other ∷ last ∷ []) = (refl, (refl, (refl, tt)))
versions-are (v ∷ name ∷ key ∷ value ∷ []) = (refl, tt)
versions-are (v ∷ name ∷ key ∷ value ∷ more ∷ rest) = tt

-- the operation that is found is one of version 1
pub found-version_1 : (word : List ℕ) (fields : List Name) (op : Op) → op_with word fields ≡ Some op → version_1_op op ≡ op
found-version_1 word fields op e =
    let has_word : Op → Bool = λ op. bytes_eq word (op_word op) in
    (all-find (λ op. version_1_op op ≡ op) has_word (ops_with fields) op (versions-are fields) e).0

-- the operation that is found has the word and takes the names
pub found-op : (word : List ℕ) (fields : List Name) (op : Op) → op_with word fields ≡ Some op
    → (word ≡ op_word op) × (fields ≡ op_fields op)
found-op word fields op e =
    let has_word : Op → Bool = λ op. bytes_eq word (op_word op) in
    let found = all-find (λ op. op_fields op ≡ fields) has_word (ops_with fields) op (fields-are fields) e in
    ((bytes_eq-Decides word (op_word op)).0 found.1, sym found.0)

-- an operation is found by its word and its names, as version 1 means them
pub finds-op : (op : Op) → op_with (op_word op) (op_fields op) ≡ Some (version_1_op op)
finds-op (Create v) = refl
finds-op (Delete v) = refl
finds-op (Set v key value) = refl
finds-op (Unset v key) = refl
finds-op (Link v name target) = refl
finds-op (Join v name target) = refl
finds-op (Unlink v name) = refl
finds-op (Tag v name key value) = refl
finds-op (Untag v name key) = refl
finds-op (Get v) = refl

-- What it answers

-- it is refused, or answers that the change was made
pub data IsQuiet : Outcome → Type 0 where
  Refuses : (reason : Reason) → IsQuiet (Err reason)
  Changes : (state : State) → IsQuiet (Ok (state, Done))

-- a `get` answers the state and leaves it, and of other operations the outcome is quiet
abbrev pub AnswersAs : Bool → State → Outcome → Type 0
AnswersAs true state outcome = outcome ≡ Ok (state, Got state)
AnswersAs false state outcome = IsQuiet outcome

quiet-if : (test : Bool) (reason : Reason) (rest : Outcome) → IsQuiet rest → IsQuiet (refused_if test reason rest)
quiet-if true reason rest h = Refuses reason
quiet-if false reason rest h = h

quiet-vertex : (state : State) (rest : Record → Outcome) → ((was : Record) → IsQuiet (rest was))
    → IsQuiet (on_vertex state rest)
quiet-vertex None rest h = Refuses Missing
quiet-vertex (Some was) rest h = h was

quiet-edge : (edge : Option Edge) (rest : Edge → Outcome) → ((edge : Edge) → IsQuiet (rest edge))
    → IsQuiet (on_edge edge rest)
quiet-edge None rest h = Refuses NoEdge
quiet-edge (Some edge) rest h = h edge

ruleset quiet = (quiet-if, quiet-vertex, quiet-edge, Changes)

-- a `Get` leaves the state and answers with it, and any other operation is refused or answers just `Done`
pub answers-as : (op : Op) (state : State) → AnswersAs (is_get op) state (outcome_of_op op state)
answers-as (Create v) state = search quiet
answers-as (Delete v) state = search quiet
answers-as (Set v key value) state = search quiet
answers-as (Unset v key) state = search quiet
answers-as (Link v name target) state = search quiet
answers-as (Join v name target) state = search quiet
answers-as (Unlink v name) state = search quiet
answers-as (Tag v name key value) state = search quiet
answers-as (Untag v name key) state = search quiet
answers-as (Get v) state = refl

-- and so in a graph
pub answers-in : (op : Op) (graph : PlainGraph) → AnswersAs (is_get op) (graph (vertex_of op)) (outcome_in op graph)
answers-in op graph = at (needed_by op) (is_get op) (only-reads op) (answers-as op (graph (vertex_of op)))
  where
    only-reads : (op : Op) → is_get op ≡ true → needed_by op ≡ None
    only-reads (Get v) e = refl
    only-reads (Create v) e = absurd (cc)
    only-reads (Delete v) e = absurd (cc)
    only-reads (Set v key value) e = absurd (cc)
    only-reads (Unset v key) e = absurd (cc)
    only-reads (Link v name target) e = absurd (cc)
    only-reads (Join v name target) e = absurd (cc)
    only-reads (Unlink v name) e = absurd (cc)
    only-reads (Tag v name key value) e = absurd (cc)
    only-reads (Untag v name key) e = absurd (cc)

    at : (needed : Option Name) (get : Bool) → (get ≡ true → needed ≡ None)
        → AnswersAs get (graph (vertex_of op)) (outcome_of_op op (graph (vertex_of op)))
        → AnswersAs get (graph (vertex_of op)) (refused_if (is_absent_in graph needed && is_some (graph (vertex_of op)))
        NoTarget (outcome_of_op op (graph (vertex_of op))))
    at None true only h = h
    at None false only h = h
    at (Some v) true only h = absurd (let e : Some v ≡ None = only refl in cc)
    at (Some v) false only h = quiet-if (not (is_some (graph v)) && is_some (graph (vertex_of op))) NoTarget _ h

-- What it leaves of a state's edges

-- changes of edges keep what is good, if edges are made only to vertices that may be led to
pub record EdgesKeep (Good : List (Name × Edge) → Type 0) (MayLead : Name → Type 0) : Type 0 where
  pub none : Good []
  pub link : (name target : Name) (edges : List (Name × Edge)) → Good edges → MayLead target
      → has name edges ≡ false → is_full 1000 name edges ≡ false
      → Good (put name (record { target = target; tags = [] }) edges)
  pub unlink : (name : Name) (edges : List (Name × Edge)) → Good edges → Good (without_key name edges)
  pub retag : (name : Name) (edge : Edge) (tags : List (Name × Name)) (edges : List (Name × Edge)) → Good edges
      → at_key name edges ≡ Some edge → Good (put name (record edge { tags = tags }) edges)

-- the edges of a vertex in this state are good
abbrev pub HasGood : (List (Name × Edge) → Type 0) → State → Type 0
HasGood Good state = IfSome state (λ (now : Record). Good now.edges)

module _ (Good : List (Name × Edge) → Type 0) (MayLead : Name → Type 0) (keep : EdgesKeep Good MayLead) where
  unless-refused : (test : Bool) (reason : Reason) (state : State) (rest : Outcome) → HasGood Good state
      → (test ≡ false → HasGood Good (state_left state rest))
      → HasGood Good (state_left state (refused_if test reason rest))
  unless-refused true reason state rest before after = before
  unless-refused false reason state rest before after = after refl

  of-vertex : (state : State) (rest : Record → Outcome) → HasGood Good state
      → ((was : Record) → Good was.edges → HasGood Good (state_left (Some was) (rest was)))
      → HasGood Good (state_left state (on_vertex state rest))
  of-vertex None rest good next = tt
  of-vertex (Some was) rest good next = next was good

  -- what a change of an edge's tags results in
  abbrev tagging : Name → Record → (Edge → Bool) → Reason → (Edge → List (Name × Name)) → Option Edge → Outcome
  tagging name was test reason tags found =
      on_edge found (λ (edge : Edge).
      refused_if (test edge) reason (done_with (record was { edges = put name (record edge { tags = tags edge }) was.edges })))

  retagged : (name : Name) (test : Edge → Bool) (reason : Reason) (tags : Edge → List (Name × Name)) (was : Record)
      → Good was.edges → HasGood Good (state_left (Some was) (tagging name was test reason tags (at_key name was.edges)))
  retagged name test reason tags was good = at (at_key name was.edges) refl
    where
      at : (o : Option Edge) → at_key name was.edges ≡ o
          → HasGood Good (state_left (Some was) (tagging name was test reason tags o))
      at None e = good
      at (Some edge) e =
          unless-refused (test edge) reason (Some was) _ good (λ _. keep.retag name edge (tags edge) was.edges good e)

  -- an operation keeps them good
  pub edges-kept : (op : Op) (state : State) → HasGood Good state → IfSome (target_of op) MayLead
      → HasGood Good (state_left state (outcome_of_op op state))
  edges-kept (Create v) state good may = unless-refused (is_some state) Exists state _ good (λ _. keep.none)
  edges-kept (Delete v) state good may = of-vertex state _ good (λ was was-good. tt)
  edges-kept (Set v key value) state good may = of-vertex state _ good (λ was was-good.
      unless-refused (is_full 64 key was.props) Full (Some was) _ was-good (λ _. was-good))
  edges-kept (Unset v key) state good may = of-vertex state _ good (λ was was-good.
      unless-refused (not (has key was.props)) NoKey (Some was) _ was-good (λ _. was-good))
  edges-kept (Link v name target) state good may = of-vertex state _ good (λ was was-good.
      unless-refused (has name was.edges) EdgeExists (Some was) _ was-good (λ new.
      unless-refused (is_full 1000 name was.edges) Full (Some was) _ was-good (λ room.
      keep.link name target was.edges was-good may new room)))
  edges-kept (Join v name target) state good may = of-vertex state _ good (λ was was-good.
      unless-refused (has name was.edges) EdgeExists (Some was) _ was-good (λ new.
      unless-refused (is_full 1000 name was.edges) Full (Some was) _ was-good (λ room.
      keep.link name target was.edges was-good may new room)))
  edges-kept (Unlink v name) state good may = of-vertex state _ good (λ was was-good.
      unless-refused (not (has name was.edges)) NoEdge (Some was) _ was-good (λ _.
      keep.unlink name was.edges was-good))
  edges-kept (Tag v name key value) state good may =
      of-vertex state _ good
      (retagged name (λ (edge : Edge). is_full 8 key edge.tags) Full (λ (edge : Edge). put key value edge.tags))
  edges-kept (Untag v name key) state good may =
      of-vertex state _ good
      (retagged name (λ (edge : Edge). not (has key edge.tags)) NoKey (λ (edge : Edge). without_key key edge.tags))
  edges-kept (Get v) state good may = good
