-- A program visits its start and targets of links that were read, and no other vertex.
-- Used by ReadsLeft.
use Rattle.std.proofs.Common.{◌≡◌, ℕ, zero, suc, Bool, true, false, not, cond, List, [], ◌∷◌, map, fold, Contains, Option, Some, None, ◌⊎◌, inl, inr, subst, arith}
use Rattle.std.specs.Prelude.{IfSome, option_to_list}
use Rattle.std.specs.List.{All, filter}
use Rattle.std.specs.Map.{values_of, lookup}
use Rattle.std.specs.BTreeSet.{insert_key}
use Rattle.std.specs.Ordering.{match_ordering}
use Rattle.std.specs.declared.cmp.Ordering.{Ordering}
use Rattle.std.specs.declared.cmp.Ordering.TheVariants.{Less, Equal, Greater}
use Rattle.std.proofs.lemmas.List.Elements.{All-nil, Contains-append_cases}
use Rattle.std.proofs.lemmas.Map.Views.{All-values-insert_entry, All-map-remove_entry}
use Rattle.weave_data.specs.Names.{same_name, name_cmp}
use Rattle.weave_data.specs.Pairs.{put}
use Rattle.std.specs.BTreeMap.{is_at}
use Rattle.weave_data.proofs.Members.{filter_has, has_head, has_none, has_read, has_tail, map_has, only}
use Rattle.weave_data.specs.declared.name.Name.{Name}
use Rattle.graph_ops.specs.Mentions.{is_among}
use Rattle.graph_ops.specs.Operations.{State, outcome_of_op, target_of}
use Rattle.graph_ops.specs.PlainGraph.{PlainGraph}
use Rattle.graph_ops.specs.VertexOps.{state_after_ops, state_left}
use Rattle.graph_ops.specs.declared.record.Edge.{Edge}
use Rattle.graph_ops.specs.declared.op.Op.{Op}
use Rattle.graph_ops.proofs.EachOp.{EdgesKeep, HasGood, edges-kept}
use Rattle.program_defs.specs.declared.passing.Passing.{Passing}
use Rattle.program_defs.specs.declared.passing.Passing.TheVariants.{Priced}
use Rattle.program_defs.specs.declared.program.Program.{Program}
use Rattle.program_defs.specs.declared.program.Program.TheVariants.{Show, Reach, Around, Path, Price}
use Rattle.program_defs.specs.Walks.{passing_of, targets, passes_edge}
use Rattle.program_defs.specs.Visits.{targets_of_all, not_among, as_set, levels_to, names_through, through_level, up_to, visits_to}
use Rattle.weave_entries.specs.ShardReplay.{Update, state_of_updates}

-- the target that an operation brings
abbrev pub target_by : Op → List Name
target_by op = option_to_list (target_of op)

-- the vertex where a program starts
abbrev pub start_of : Program → Name
start_of (Show v) = v
start_of (Reach from to pass) = from
start_of (Around from bound pass) = from
start_of (Path from to bound pass) = from
start_of (Price from to key) = from

-- Sets of names, and the names up to one

insert-only : (xs : List Name) (v w : Name) → Contains (insert_key name_cmp xs v) w → (v ≡ w) ⊎ Contains xs w
insert-only [] v w h = inl (only v w h)
insert-only (x ∷ xs) v w h = place (name_cmp v x) (insert-only xs v w) h
  where
    place : (o : Ordering) → (Contains (insert_key name_cmp xs v) w → (v ≡ w) ⊎ Contains xs w)
        → Contains (match_ordering o (v ∷ x ∷ xs) (x ∷ xs) (x ∷ insert_key name_cmp xs v)) w → (v ≡ w) ⊎ Contains (x ∷ xs) w
    place Less rest h = has_read v (x ∷ xs) w h
    place Equal rest h = inr h
    place Greater rest h = elim (has_read x (insert_key name_cmp xs v) w h) [
      | inl here ↦ inr (subst (λ k. Contains (x ∷ xs) k) here (has_head x xs))
      | inr more ↦ elim (rest more) [ inl same ↦ inl same | inr there ↦ inr (has_tail x xs w there) ]
    ]

set-only : (vs : List Name) (w : Name) → Contains (as_set vs) w → Contains vs w
set-only [] w h = h
set-only (v ∷ vs) w h = elim (insert-only (as_set vs) v w h) [
  | inl same ↦ subst (λ k. Contains (v ∷ vs) k) same (has_head v vs)
  | inr more ↦ has_tail v vs w (set-only vs w more)
]

up_to-only : (target : Name) (vs : List Name) (w : Name) → Contains (up_to target vs) w → Contains vs w
up_to-only target [] w h = h
up_to-only target (v ∷ vs) w h = at (same_name target v) (up_to-only target vs w) h
  where
    at : (b : Bool) → (Contains (up_to target vs) w → Contains vs w) → Contains (cond b (v ∷ []) (v ∷ up_to target vs)) w → Contains (v ∷ vs) w
    at true rest h = subst (λ k. Contains (v ∷ vs) k) (only v w h) (has_head v vs)
    at false rest h = elim (has_read v (up_to target vs) w h) [
      | inl same ↦ subst (λ k. Contains (v ∷ vs) k) same (has_head v vs)
      | inr more ↦ has_tail v vs w (rest more)
    ]

module _ (names : List Name) where
  -- it is one of the names
  abbrev pub In : Name → Type 0
  In w = Contains names w

  -- each edge leads to one of the names
  abbrev pub Leads : List (Name × Edge) → Type 0
  Leads edges = All (λ (edge : Edge). In edge.target) (values_of edges)

  -- this holds of a vertex in this state
  abbrev pub LeadsIn : State → Type 0
  LeadsIn state = HasGood Leads state

  -- Operations keep it

  at-edge : (test : Name → Bool) (edges : List (Name × Edge)) (edge : Edge) → Leads edges → lookup test edges ≡ Some edge → In edge.target
  at-edge test [] edge leads e = cc
  at-edge test ((k, x) ∷ edges) edge leads e = at (test k) (at-edge test edges edge (λ k d less. leads (suc k) d (omega (arith, less)))) e
    where
      at : (b : Bool) → (lookup test edges ≡ Some edge → In edge.target) → cond b (Some x) (lookup test edges) ≡ Some edge → In edge.target
      at true more e = let same : x ≡ edge = cc in subst (λ (y : Edge). In y.target) same (leads 0 x (omega arith))
      at false more e = more e

  with-edge : (name : Name) (edge : Edge) (edges : List (Name × Edge)) → Leads edges → In edge.target → Leads (put name edge edges)
  with-edge name edge edges leads target = All-values-insert_entry name_cmp name edge (λ (x : Edge). In x.target) edges leads target

  leads-kept : EdgesKeep Leads In
  leads-kept = record {
    none = All-nil _;
    link = λ name target edges leads here new spare. with-edge name (record { target = target; tags = [] }) edges leads here;
    unlink = λ name edges leads. All-map-remove_entry (is_at (name_cmp name)) (λ (e : Name × Edge). e.1) (λ (x : Edge). In x.target) edges leads;
    retag = λ name edge tags edges leads is. with-edge name (record edge { tags = tags }) edges leads (at-edge (is_at (name_cmp name)) edges edge leads is);
  }

  applied-leads : (op : Op) (state : State) → LeadsIn state → ((w : Name) → Contains (target_by op) w → In w) → LeadsIn (state_left state (outcome_of_op op state))
  applied-leads op state before target = edges-kept Leads In leads-kept op state before (at (target_of op) target)
    where
      at : (o : Option Name) → ((w : Name) → Contains (option_to_list o) w → In w) → IfSome o In
      at None among = tt
      at (Some target) among = among target (has_head target [])

  ops-lead : (ops : List Op) (state : State) → LeadsIn state → ((op : Op) → Contains ops op → (w : Name) → Contains (target_by op) w → In w) → LeadsIn (state_after_ops ops state)
  ops-lead [] state before targets = before
  ops-lead (op ∷ ops) state before targets = ops-lead ops (state_left state (outcome_of_op op state)) (applied-leads op state before (targets op (has_head op ops))) (λ o h. targets o (has_tail op ops o h))

  updates-from : (updates : List Update) (state : State) → LeadsIn state → ((update : Update) → Contains updates update → (op : Op) → Contains update.ops op → (w : Name) → Contains (target_by op) w → In w)
      → LeadsIn (fold (λ state (update : Update). state_after_ops update.ops state) state updates)
  updates-from [] state before targets = before
  updates-from (update ∷ updates) state before targets =
      updates-from updates (state_after_ops update.ops state) (ops-lead update.ops state before (targets update (has_head update updates))) (λ u h. targets u (has_tail update updates u h))

  -- a state after updates whose links lead to the names
  pub updates-lead : (updates : List Update) → ((update : Update) → Contains updates update → (op : Op) → Contains update.ops op → (w : Name) → Contains (target_by op) w → In w) → LeadsIn (state_of_updates updates)
  updates-lead updates targets = updates-from updates None tt targets

  -- Visits

  passing-in : (pass : Passing) (edges : List Edge) (w : Name) → All (λ (edge : Edge). In edge.target) edges → Contains (map (λ (edge : Edge). edge.target) (filter (passes_edge pass) edges)) w → In w
  passing-in pass edges w leads h =
      let from = map_has (λ (edge : Edge). edge.target) (filter (passes_edge pass) edges) w h in
      let there = (filter_has (passes_edge pass) edges from.0 from.1).0 in
      subst In from.2 (subst (λ (edge : Edge). In edge.target) there.2 (leads there.0 from.0 there.1))

  target-in : (pass : Passing) (state : State) (w : Name) → LeadsIn state → Contains (targets pass state) w → In w
  target-in pass None w leads h = absurd (has_none w h)
  target-in pass (Some now) w leads h = passing-in pass (values_of now.edges) w leads h

  module _ (graph : PlainGraph) (leads : (v : Name) → LeadsIn (graph v)) where
    all-targets-in : (pass : Passing) (vs : List Name) (w : Name) → Contains (targets_of_all graph pass vs) w → In w
    all-targets-in pass [] w h = absurd (has_none w h)
    all-targets-in pass (v ∷ vs) w h = elim (Contains-append_cases (targets pass (graph v)) (targets_of_all graph pass vs) w h) [
      | inl here ↦ target-in pass (graph v) w (leads v) here
      | inr more ↦ all-targets-in pass vs w more
    ]

    through-in : (pass : Passing) (start : Name) → In start → (n : ℕ) (w : Name) → Contains (through_level n graph pass start) w → In w
    through-in pass start here zero w h = subst In (only start w h) here
    through-in pass start here (suc n) w h =
        let levels = levels_to n graph pass start in
        elim (Contains-append_cases (names_through levels) (as_set (not_among (names_through levels) (targets_of_all graph pass levels.level))) w h) [
          | inl before ↦ through-in pass start here n w before
          | inr new ↦ all-targets-in pass levels.level w (filter_has (λ v. not (is_among (names_through levels) v)) (targets_of_all graph pass levels.level) w (set-only _ w new)).0
        ]

    -- each vertex that a program visits is its start, or one to which an edge leads
    pub visits-in : (program : Program) → In (start_of program) → (n : ℕ) (w : Name) → Contains (visits_to n graph program) w → In w
    visits-in (Show v) here n w h = subst In (only v w h) here
    visits-in (Reach from to pass) here n w h = through-in (passing_of pass) from here n w (up_to-only to (through_level n graph (passing_of pass) from) w h)
    visits-in (Around from bound pass) here n w h = through-in (passing_of pass) from here bound w h
    visits-in (Path from to bound pass) here n w h =
        through-in (passing_of pass) from here bound w (up_to-only to (through_level bound graph (passing_of pass) from) w h)
    visits-in (Price from to key) here n w h = through-in (Priced key) from here n w h
