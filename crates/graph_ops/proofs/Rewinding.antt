-- The journal of a transaction, a step at a time.
-- Used by `apply`, `note`, `rewind` and `undo`.
use Rattle.std.proofs.Common.{◌≡◌, List, [], ◌∷◌, ◌++◌, IsSome, cond, refl, sym, ap, ◌∙◌, subst}
use Rattle.std.specs.FinMap as map
use Rattle.weave_data.specs.Names.{same_name}
use Rattle.weave_data.specs.Pairs.{at_key}
use Rattle.weave_data.specs.declared.name.Name.{Name}
use Rattle.graph_ops.specs.Operations.{State}
use Rattle.graph_ops.specs.PlainGraph.{PlainGraph}
use Rattle.graph_ops.specs.Graphs.{Vertices}
use Rattle.graph_ops.specs.Slots.{states_of, Covers, vertices_held}
use Rattle.graph_ops.specs.TakingBack.{taken_back, CanTakeBack, step_back, graph_rewound, CanRewind}
use Rattle.graph_ops.specs.Journals.{HavePlaces, CanRewindIn, Keeps}
use Rattle.graph_ops.specs.Pendings.{rewound_map}
use Rattle.graph_ops.specs.declared.journal.Step.{Step}
use Rattle.graph_ops.proofs.States.{get_with, get_held, one_map, same_name-sym}

-- to go back through steps is to take back the last step first, and then to go back through the others
pub rewound_last : (steps : List Step) (step : Step) (graph : PlainGraph) → graph_rewound (steps ++ step ∷ []) graph ≡ graph_rewound steps (step_back step graph)
rewound_last [] step graph = refl
rewound_last (first ∷ steps) step graph = ap (step_back first) (rewound_last steps step graph)

-- if a step can be taken back without memory, and then those before it, all of them can
pub can_rewind_last : (steps : List Step) (step : Step) (graph : PlainGraph) → CanRewind steps (step_back step graph) → CanTakeBack step.back (graph step.v) → CanRewind (steps ++ step ∷ []) graph
can_rewind_last [] step graph can last = (tt, last)
can_rewind_last (first ∷ steps) step graph can last = (
  can_rewind_last steps step graph can.0 last,
  subst (λ (before : PlainGraph). CanTakeBack first.back (before first.v)) (sym (rewound_last steps step graph)) can.1,
)

-- if all steps can be taken back without memory, the last one can
pub last_can : (steps : List Step) (step : Step) (graph : PlainGraph) → CanRewind (steps ++ step ∷ []) graph → CanTakeBack step.back (graph step.v)
last_can [] step graph can = can.1
last_can (first ∷ steps) step graph can = last_can steps step graph can.0

-- if steps can be taken back, those before the last can be after the last was
pub others_can : (steps : List Step) (step : Step) (graph : PlainGraph) → CanRewind (steps ++ step ∷ []) graph → CanRewind steps (step_back step graph)
others_can [] step graph can = tt
others_can (first ∷ steps) step graph can = (others_can steps step graph can.0, subst (λ (before : PlainGraph). CanTakeBack first.back (before first.v)) (rewound_last steps step graph) can.1)

-- places

-- if the vertex of each step has a place in a table, it has one in each table that covers this one
pub places_stay : (steps : List Step) (slots before : List (Name × State)) → Covers slots before → HavePlaces steps before → HavePlaces steps slots
places_stay [] slots before covers places = tt
places_stay (step ∷ steps) slots before covers places = (covers step.v places.0, places_stay steps slots before covers places.1)

-- if the vertices of some steps have places, and so has that of one more step, those of all have
pub places_last : (steps : List Step) (step : Step) (slots : List (Name × State)) → HavePlaces steps slots → IsSome (at_key step.v slots) → HavePlaces (steps ++ step ∷ []) slots
places_last [] step slots places last = (last, tt)
places_last (first ∷ steps) step slots places last = (places.0, places_last steps step slots places.1 last)

-- if the vertices of all steps have places, that of the last one has
pub last_place : (steps : List Step) (step : Step) (slots : List (Name × State)) → HavePlaces (steps ++ step ∷ []) slots → IsSome (at_key step.v slots)
last_place [] step slots places = places.0
last_place (first ∷ steps) step slots places = last_place steps step slots places.1

-- and those of the steps before it have
pub other_places : (steps : List Step) (step : Step) (slots : List (Name × State)) → HavePlaces (steps ++ step ∷ []) slots → HavePlaces steps slots
other_places [] step slots places = tt
other_places (first ∷ steps) step slots places = (places.0, other_places steps step slots places.1)

-- the same states, and no place lost

-- steps that can be taken back in a table still can, if it has the same states and has lost no place
pub still_can : (steps : List Step) (slots before : List (Name × State)) → CanRewindIn steps before → Covers slots before → states_of slots ≡ states_of before → CanRewindIn steps slots
still_can steps slots before can covers same = (subst (CanRewind steps) (sym same) can.0, places_stay steps slots before covers can.1)

-- one more step

-- with a step noted that takes the new change back, all can be taken back, if no place is lost and its vertex has one
pub noted_can : (steps : List Step) (step : Step) (slots before : List (Name × State)) → CanRewindIn steps before → Covers slots before → IsSome (at_key step.v before) → Keeps step slots before → CanRewindIn (steps ++ step ∷ []) slots
noted_can steps step slots before can covers place keeps = (
  can_rewind_last steps step (states_of slots) (subst (CanRewind steps) (sym keeps.1) can.0) keeps.0,
  places_last steps step slots (places_stay steps slots before covers can.1) (covers step.v place),
)

-- and the states now, with all steps taken back, are those from before with the others taken back
pub noted_same : (steps : List Step) (step : Step) (slots before : List (Name × State)) → Keeps step slots before → graph_rewound (steps ++ step ∷ []) (states_of slots) ≡ graph_rewound steps (states_of before)
noted_same steps step slots before keeps = rewound_last steps step (states_of slots) ∙ ap (graph_rewound steps) keeps.1

-- the finite map with steps taken back

-- if a finite map has the states of a graph, the two have the same states with the same steps taken back
pub get_rewound : (steps : List Step) (vertices : Vertices) (graph : PlainGraph) → ((q : Name) → map.get vertices q ≡ graph q) → (q : Name) → map.get (rewound_map steps vertices) q ≡ graph_rewound steps graph q
get_rewound [] vertices graph same q = same q
get_rewound (step ∷ steps) vertices graph same q =
    let rest = get_rewound steps vertices graph same in
    get_with step.v _ (rewound_map steps vertices) q
    ∙ ap (λ b. cond b (taken_back step.back (map.get (rewound_map steps vertices) step.v)) (map.get (rewound_map steps vertices) q)) (same_name-sym q step.v)
    ∙ ap (λ s. cond (same_name step.v q) (taken_back step.back s) (map.get (rewound_map steps vertices) q)) (rest step.v)
    ∙ ap (λ s. cond (same_name step.v q) (taken_back step.back (graph_rewound steps graph step.v)) s) (rest q)

-- a finite map with the states of a table whose steps are taken back is the table's map with them taken back
pub rewound_is : (steps : List Step) (slots : List (Name × State)) (vertices : Vertices) → ((q : Name) → map.get vertices q ≡ graph_rewound steps (states_of slots) q) → rewound_map steps (vertices_held slots) ≡ vertices
rewound_is steps slots vertices same = one_map _ _ (λ q. get_rewound steps (vertices_held slots) (states_of slots) (get_held slots) q ∙ sym (same q))
