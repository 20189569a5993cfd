-- The steps of a transaction, noted for a table of states. No public contract cites this.
use Rattle.std.specs.Prelude.{◌≡◌, List, IsSome}
use Rattle.std.specs.List.{AllByRecursion}
use Rattle.weave_data.specs.Pairs.{at_key}
use Rattle.weave_data.specs.declared.name.Name.{Name}
use Rattle.graph_ops.specs.Operations.{State}
use Rattle.graph_ops.specs.Slots.{states_of}
use Rattle.graph_ops.specs.TakingBack.{step_back, CanTakeBack, CanRewind}
use Rattle.graph_ops.specs.declared.journal.Step.{Step}

-- the vertex of each step has a place
abbrev pub HavePlaces : List Step → List (Name × State) → Type 0
HavePlaces steps slots = AllByRecursion (λ (step : Step). IsSome (at_key step.v slots)) steps

-- the steps can be taken back in this table without memory
abbrev pub CanRewindIn : List Step → List (Name × State) → Type 0
CanRewindIn steps slots = CanRewind steps (states_of slots) × HavePlaces steps slots

-- the step takes the change from `before` to `now` back. No public contract cites this.
abbrev pub Keeps : Step → List (Name × State) → List (Name × State) → Type 0
Keeps step now before = CanTakeBack step.back (states_of now step.v)
    × (step_back step (states_of now) ≡ states_of before)
