-- A search level by level, as far as it has read.
use Rattle.std.specs.Prelude.{ℕ, zero, suc, ◌+◌, ◌≡◌, ◌||◌, ◌&&◌, Bool, true, false, not, IsTrue, IsSome, ⊤, List, [], ◌∷◌, ◌++◌, length, Option, Some, None, is_some, is_none, if◌then◌else◌}
use Rattle.std.specs.List.{list_any}
use Rattle.std.specs.Map.{keys_of}
use Rattle.weave_data.specs.Names.{same_name}
use Rattle.weave_data.specs.declared.name.Name.{Name}
use Rattle.graph_ops.specs.Mentions.{is_among}
use Rattle.graph_ops.specs.Operations.{State}
use Rattle.program_defs.specs.declared.program.Program.{Program}
use Rattle.program_defs.specs.declared.program.Program.TheVariants.{Show, Reach, Around, Path, Price}
use Rattle.program_defs.specs.declared.passing.Passing.TheVariants.{Priced}
use Rattle.program_defs.specs.declared.aim.Aim.{Aim}
use Rattle.program_defs.specs.Walks.{passing_of, is_value, targets}
use Rattle.program_defs.specs.Visits.{as_set, targets_of_all, Levels, levels_to, through_level, visits_to, graph_read, first_of}

-- what a program searches for; `show` doesn't search
abbrev pub aim_of : Program → Option Aim
aim_of (Show v) = None
aim_of (Reach from to pass) = Some (record { from = from; target = Some to; bound = None; pass = passing_of pass })
aim_of (Around from bound pass) =
    Some (record { from = from; target = None; bound = Some bound; pass = passing_of pass })
aim_of (Path from to bound pass) =
    Some (record { from = from; target = Some to; bound = Some bound; pass = passing_of pass })
aim_of (Price from to key) = Some (record { from = from; target = None; bound = None; pass = Priced key })

-- what contracts see of a search: its aim, how many levels may follow this one, what is left of this level, the new
-- targets found in it, all names reached, the vertices that are there, whether it is over, and for how many more names
-- there is room
pub record SearchState : Type 0 where
  pub aim : Aim
  pub left : Option ℕ
  pub rest : List Name
  pub found : List Name
  pub reached : List Name
  pub present : List Name
  pub over : Bool
  pub room : ℕ

-- the vertex to be read next
abbrev pub next_of : SearchState → Option Name
next_of search = if search.over then None else first_of search.rest

-- whether a table of names has a name
abbrev pub has_name : List Name → Name → Bool
has_name names v = list_any (same_name v) names

-- these names, each where it is met first, without those that are known before
abbrev pub new_names : (Name → Bool) → List Name → List Name
new_names known [] = []
new_names known (v ∷ rest) = (if known v then [] else v ∷ []) ++ new_names (λ w. same_name v w || known w) rest

-- no name comes twice
abbrev pub IsOnce : List Name → Type 0
IsOnce [] = ⊤
IsOnce (v ∷ rest) = (is_among rest v ≡ false) × IsOnce rest

-- that many levels may follow level n, within the bound
abbrev pub IsLeft : Option ℕ → ℕ → Option ℕ → Type 0
IsLeft None n None = ⊤
IsLeft (Some bound) n (Some left) = left + n ≡ bound
IsLeft bound n left = ⊥

-- the levels to n, in what was read
abbrev pub levels_read : List (Name × State) → Aim → ℕ → Levels
levels_read reads aim n = levels_to n (graph_read reads) aim.pass aim.from

-- the target is not among these
abbrev pub IsTargetNotIn : Option Name → List Name → Type 0
IsTargetNotIn None vertices = ⊤
IsTargetNotIn (Some target) vertices = is_among vertices target ≡ false

-- the search is within level n, of which these were read
pub record IsWithinLevel (search : SearchState) (reads : List (Name × State)) (n : ℕ) (done : List Name) : Type 0 where
  pub left : IsLeft search.aim.bound n search.left
  pub level : (levels_read reads search.aim n).level ≡ done ++ search.rest
  pub read : (v : Name) → is_among (keys_of reads) v ≡ is_among ((levels_read reads search.aim n).before ++ done) v
  pub reached : (v : Name) → has_name search.reached v
      ≡ is_among (through_level n (graph_read reads) search.aim.pass search.aim.from) v || is_among search.found v
  pub found : (v : Name) → is_among search.found v
      ≡ is_among (targets_of_all (graph_read reads) search.aim.pass done) v && not
      (is_among (through_level n (graph_read reads) search.aim.pass search.aim.from) v)
  pub found_once : IsOnce search.found

-- it goes on: there is more of the level, and the target wasn't read
pub record IsGoing (search : SearchState) (reads : List (Name × State)) (n : ℕ) (done : List Name) : Type 0 where
  pub within : IsWithinLevel search reads n done
  pub more : IsSome (first_of search.rest)
  pub free : IsTargetNotIn search.aim.target ((levels_read reads search.aim n).before ++ done)

-- each vertex in the list of visits was read
abbrev pub AllRead : List (Name × State) → Program → Type 0
AllRead reads program = (v : Name) → IsTrue (is_among (visits_to (length reads) (graph_read reads) program) v)
    → IsTrue (is_among (keys_of reads) v)

-- the vertices that are there, each once; each that was read was visited
pub record HasFound (search : SearchState) (program : Program) (reads : List (Name × State)) : Type 0 where
  pub present : (v : Name) → is_among search.present v ≡ is_some (graph_read reads v)
  pub once : IsOnce search.present
  pub visited : (v : Name) → IsTrue (is_among (keys_of reads) v)
      → IsTrue (is_among (visits_to (length reads) (graph_read reads) program) v)

-- the search is that of the program after these reads, the newest first
pub record HasSearched (program : Program) (search : SearchState) (reads : List (Name × State)) : Type 0 where
  pub aim : aim_of program ≡ Some search.aim
  pub found : HasFound search program reads
  pub going : search.over ≡ false → (n : ℕ) × (done : List Name) × IsGoing search reads n done
  pub ended : search.over ≡ true → AllRead reads program

-- the number of edges of a vertex in this state
abbrev pub edges_of : State → ℕ
edges_of None = 0
edges_of (Some now) = length now.edges

-- without regard to the room and to the order in the table, the search is the same
pub record SameReached (old new : SearchState) : Type 0 where
  pub aim : new.aim ≡ old.aim
  pub left : new.left ≡ old.left
  pub rest : new.rest ≡ old.rest
  pub found : new.found ≡ old.found
  pub reached : (v : Name) → has_name new.reached v ≡ has_name old.reached v
  pub present : new.present ≡ old.present
  pub over : new.over ≡ old.over

-- the state of the next vertex adds to what was reached and found
pub record AddsState (v : Name) (state : State) (old new : SearchState) : Type 0 where
  pub aim : new.aim ≡ old.aim
  pub left : new.left ≡ old.left
  pub over : new.over ≡ old.over
  pub rest : old.rest ≡ v ∷ new.rest
  pub found : new.found ≡ old.found ++ new_names (has_name old.reached) (targets old.aim.pass state)
  pub reached : (w : Name) → has_name new.reached w ≡ is_among (targets old.aim.pass state) w || has_name old.reached w
  pub present : new.present ≡ old.present ++ (if is_some state then v ∷ [] else [])

-- the search after the last vertex of a level, if that many levels may follow: the names found are the next level
abbrev pub onto_next_level : Option ℕ → SearchState → SearchState
onto_next_level left search =
    record search {
      left = left;
      rest = as_set search.found;
      found = [];
      over = is_none
          (first_of (as_set search.found));
    }

abbrev pub turned_search : Option ℕ → SearchState → SearchState
turned_search (Some zero) search = record search { over = true }
turned_search (Some (suc left)) search = onto_next_level (Some left) search
turned_search None search = onto_next_level None search

-- the search after what was read of this vertex was added: it ends with the target, and goes on to the next level after
-- the last vertex of this one
abbrev pub gone_on : Name → SearchState → SearchState
gone_on v search =
    if is_value search.aim.target v then record search { over = true } else
    (if is_none (first_of search.rest) then turned_search search.left search else search)

-- the search after the read of the next vertex in this state
pub record SeesVertex (v : Name) (state : State) (old new : SearchState) : Type 0 where
  pub added : SearchState
  pub adds : AddsState v state old added
  pub onward : IsOnce added.found → new ≡ record (gone_on v added) { room = new.room }
