-- What a program answers on a plain graph.
use Rattle.std.specs.Prelude.{Bool, true, false, ◌≡◌, IsTrue, ◌↔◌, List, Some, None}
use Rattle.weave_data.specs.declared.name.Name.{Name}
use Rattle.graph_ops.specs.Mentions.{is_among}
use Rattle.graph_ops.specs.PlainGraph.{PlainGraph}
use Rattle.program_defs.specs.declared.program.Program.{Program}
use Rattle.program_defs.specs.declared.program.Program.TheVariants.{Show, Reach, Around, Path, Price}
use Rattle.program_defs.specs.declared.program.Answer.{Answer}
use Rattle.program_defs.specs.declared.program.Answer.TheVariants.{Shown, Reached, Found, Walk, Priced}
use Rattle.program_defs.specs.PricedAnswer.{IsPricedAnswer}
use Rattle.program_defs.specs.Rising.{is_rising}
use Rattle.program_defs.specs.Walks.{passing_of, is_walk, is_walk_within, IsLeastWalk}

-- the program asks for a walk of least price
abbrev pub is_price : Program → Bool
is_price (Price from to key) = true
is_price _ = false

-- the plain answer: to `show` the state; to `reach` whether there is a walk; to `around` the ends of walks within the
-- bound, in byte order; to `path` the least walk within the bound, or none if there is none; to `price` the priced
-- answer
abbrev pub IsPlainAnswer : PlainGraph → Program → Answer → Type 0
IsPlainAnswer graph (Show v) (Shown state) = state ≡ graph v
IsPlainAnswer graph (Reach from to pass) (Reached reached) =
    IsTrue reached ↔ ((walk : List Name) × IsTrue (is_walk graph (passing_of pass) from to walk))
IsPlainAnswer graph (Around from bound pass) (Found vertices) =
    IsTrue (is_rising vertices)
    × ((v : Name) → IsTrue (is_among vertices v) ↔ ((walk : List Name)
    × IsTrue (is_walk_within bound graph (passing_of pass) from v walk)))
IsPlainAnswer graph (Path from to bound pass) (Walk (Some walk)) =
    IsLeastWalk bound graph (passing_of pass) from to walk
IsPlainAnswer graph (Path from to bound pass) (Walk None) = (walk : List Name)
    → ¬ IsTrue (is_walk_within bound graph (passing_of pass) from to walk)
IsPlainAnswer graph (Price from to key) (Priced walk total bounds) =
    IsPricedAnswer graph from to key walk total bounds
IsPlainAnswer graph _ _ = ⊥
