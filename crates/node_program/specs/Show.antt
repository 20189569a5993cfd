-- The program `show`, before and after its read.
use Rattle.std.specs.Prelude.{◌≡◌, List, [], ◌∷◌, Option, Some, None}
use Rattle.weave_data.specs.declared.name.Name.{Name}
use Rattle.graph_ops.specs.Operations.{State}

-- what was read of its vertex: nothing, or its state
abbrev pub HasShown : Name → Option State → List (Name × State) → Type 0
HasShown v None reads = reads ≡ []
HasShown v (Some state) reads = reads ≡ (v, state) ∷ []

-- its vertex, until that is read
abbrev pub next_shown : Name → Option State → Option Name
next_shown v None = Some v
next_shown v (Some state) = None
