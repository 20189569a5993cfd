-- The list of visits of a program: level by level, in byte order within a level. Levels are sets; there is no frontier.
use Rattle.std.specs.Prelude.{ℕ, zero, suc, not, IsTrue, ◌≡◌, List, [], ◌∷◌, ◌++◌, length, map, take, ◌↔◌, Option, None, Some, if◌then◌else◌}
use Rattle.std.specs.BTreeSet.{insert_key}
use Rattle.std.specs.List.{filter, find}
use Rattle.std.specs.Map.{keys_of}
use Rattle.weave_data.specs.Names.{name_cmp, same_name}
use Rattle.weave_data.specs.declared.name.Name.{Name}
use Rattle.graph_ops.specs.Mentions.{is_among}
use Rattle.graph_ops.specs.Operations.{State}
use Rattle.graph_ops.specs.PlainGraph.{PlainGraph}
use Rattle.program_defs.specs.declared.passing.Passing.{Passing}
use Rattle.program_defs.specs.declared.passing.Passing.TheVariants.{Priced}
use Rattle.program_defs.specs.declared.program.Program.{Program}
use Rattle.program_defs.specs.declared.program.Program.TheVariants.{Show, Reach, Around, Path, Price}
use Rattle.program_defs.specs.Walks.{passing_of, targets}

-- the set of these names: each once, in byte order
abbrev pub as_set : List Name → List Name
as_set [] = []
as_set (v ∷ rest) = insert_key name_cmp (as_set rest) v

-- the targets of the passing edges of these vertices, as far as they are there
abbrev pub targets_of_all : PlainGraph → Passing → List Name → List Name
targets_of_all graph pass [] = []
targets_of_all graph pass (v ∷ rest) = targets pass (graph v) ++ targets_of_all graph pass rest

-- the names that are not among the others
abbrev pub not_among : List Name → List Name → List Name
not_among others names = filter (λ v. not (is_among others v)) names

-- a level, and the levels before it, in turn
pub record Levels : Type 0 where
  pub before : List Name
  pub level : List Name

-- the levels up to this one, in turn
abbrev pub names_through : Levels → List Name
names_through levels = levels.before ++ levels.level

-- level n + 1 is the set of the targets of level n's passing edges that are in no earlier level
abbrev pub next_level : PlainGraph → Passing → Levels → Levels
next_level graph pass levels =
    record {
      before = names_through levels;
      level = as_set
          (not_among (names_through levels) (targets_of_all graph pass levels.level));
    }

-- level 0 is the start
abbrev pub levels_to : ℕ → PlainGraph → Passing → Name → Levels
levels_to zero graph pass start = record { before = []; level = start ∷ [] }
levels_to (suc n) graph pass start = next_level graph pass (levels_to n graph pass start)

-- levels 0 to n in turn, each in byte order
abbrev pub through_level : ℕ → PlainGraph → Passing → Name → List Name
through_level n graph pass start = names_through (levels_to n graph pass start)

-- the names up to the target, and with it; all of them if it isn't among them
abbrev pub up_to : Name → List Name → List Name
up_to target [] = []
up_to target (v ∷ rest) = if same_name target v then v ∷ [] else v ∷ up_to target rest

-- The list of visits. `show` visits its vertex alone; the others go level by level. `reach` and `path` end with the
-- target, `around` and `path` with the level of their bound.
-- `reach` and `price` have no bound and are gone through to level n: if a level is empty, so are later ones, and the
-- list is complete.
abbrev pub visits_to : ℕ → PlainGraph → Program → List Name
visits_to n graph (Show v) = v ∷ []
visits_to n graph (Reach from to pass) = up_to to (through_level n graph (passing_of pass) from)
visits_to n graph (Around from bound pass) = through_level bound graph (passing_of pass) from
visits_to n graph (Path from to bound pass) = up_to to (through_level bound graph (passing_of pass) from)
visits_to n graph (Price from to key) = through_level n graph (Priced key) from

-- the program visits the vertex
abbrev pub IsVisited : PlainGraph → Program → Name → Type 0
IsVisited graph program v = (n : ℕ) × IsTrue (is_among (visits_to n graph program) v)

-- the complete list of visits: long enough to have every visited vertex
pub record IsListOfVisits (graph : PlainGraph) (program : Program) (visits : List Name) : Type 0 where
  pub last_level : ℕ
  pub in_turn : visits ≡ visits_to last_level graph program
  pub whole : (v : Name) → IsVisited graph program v → IsTrue (is_among visits v)

-- the graph that has the states read, and is absent elsewhere
abbrev pub graph_read : List (Name × State) → PlainGraph
graph_read [] v = None
graph_read (read ∷ reads) v = if same_name read.0 v then read.1 else graph_read reads v

-- the first vertex not yet read in the list of visits of what was read. Each level after the start is reached from one
-- of a vertex that was read, so there are no more of them than reads.
abbrev pub next_visit : List (Name × State) → Program → Option Name
next_visit reads program =
    find (λ v. not (is_among (keys_of reads) v)) (visits_to (length reads) (graph_read reads) program)

-- the states that a graph has at these vertices
abbrev pub states_at : PlainGraph → List Name → List (Name × State)
states_at graph vertices = map (λ v. (v, graph v)) vertices

-- the first of these names
abbrev pub first_of : List Name → Option Name
first_of [] = None
first_of (v ∷ rest) = Some v

-- those read are the first that many of the list of visits over the states read, in whatever order
abbrev pub AreFirstVisits : List (Name × State) → Program → Type 0
AreFirstVisits reads program = (v : Name) → IsTrue (is_among (keys_of reads) v)
    ↔ IsTrue (is_among (take (length reads) (visits_to (length reads) (graph_read reads) program)) v)
