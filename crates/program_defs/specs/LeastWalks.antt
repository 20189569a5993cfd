-- A search for the least walk, as far as it has read.
use Rattle.std.specs.Prelude.{ℕ, ◌+◌, ◌<◌, ◌≡◌, ◌⊎◌, false, IsTrue, ⊤, List, [], ◌∷◌, length, map, Option, Some, None, is_some, if◌then◌else◌}
use Rattle.std.specs.List.Sorted.{IsPermutation}
use Rattle.std.specs.Map.{lookup}
use Rattle.weave_data.specs.Names.{same_name}
use Rattle.weave_data.specs.declared.name.Name.{Name}
use Rattle.graph_ops.specs.Mentions.{is_among}
use Rattle.graph_ops.specs.Operations.{State}
use Rattle.graph_ops.specs.PlainGraph.{PlainGraph}
use Rattle.program_defs.specs.declared.path_search.Hop.{Hop}
use Rattle.program_defs.specs.declared.path_search.Mark.{Mark}
use Rattle.program_defs.specs.declared.passing.Passing.{Passing}
use Rattle.program_defs.specs.declared.program.Program.{Program}
use Rattle.program_defs.specs.Ranks.{ComesNoLater, IsRankedAt}
use Rattle.program_defs.specs.Searching.{SearchState, IsGoing, HasSearched, SameReached}
use Rattle.program_defs.specs.Visits.{through_level, graph_read}
use Rattle.program_defs.specs.Walks.{targets}

-- what contracts see of a search for the least walk: the search, the marks of the levels up to this one, the passing
-- edges of what was read of this level, and for how many more names there is room
pub record WalkState : Type 0 where
  pub search : SearchState
  pub marks : List (Name × Mark)
  pub hops : List Hop
  pub room : ℕ

-- a list has a hop
abbrev pub IsIn : List Hop → Hop → Type 0
IsIn [] hop = ⊥
IsIn (first ∷ rest) hop = (first ≡ hop) ⊎ IsIn rest hop

-- the first hop comes no later than the second. No public contract cites this.
abbrev pub IsNoLater : Hop → Hop → Type 0
IsNoLater a b = ComesNoLater a.rank b.rank a.target b.target

-- each hop comes no later than those after it. No public contract cites this.
abbrev pub HopsRise : List Hop → Type 0
HopsRise [] = ⊤
HopsRise (hop ∷ rest) = ((other : Hop) → IsIn rest other → IsNoLater hop other) × HopsRise rest

-- the marks in a table
abbrev pub mark_in : List (Name × Mark) → Name → Option Mark
mark_in marks v = lookup (same_name v) marks

abbrev pub parent_or : Name → Option Mark → Name
parent_or v None = v
parent_or v (Some mark) = mark.parent

abbrev pub rank_or : Option Mark → ℕ
rank_or None = 0
rank_or (Some mark) = mark.rank

-- the parent and the rank of each vertex that is marked
abbrev pub parents : (Name → Option Mark) → Name → Name
parents marks v = parent_or v (marks v)

abbrev pub ranks : (Name → Option Mark) → Name → ℕ
ranks marks v = rank_or (marks v)

-- the marks with one more. No public contract cites this.
abbrev pub with_mark : Name → Mark → (Name → Option Mark) → Name → Option Mark
with_mark v mark marks w = if same_name v w then Some mark else marks w

-- the marks after these hops in turn, if there were that many marks before: each new target is marked once.
-- No public contract cites this.
abbrev pub marks_after : (Name → Option Mark) → ℕ → List Hop → Name → Option Mark
marks_after marks count [] v = marks v
marks_after marks count (hop ∷ rest) v =
    if is_some (marks hop.target) then marks_after marks count rest v else marks_after
    (with_mark hop.target (record { parent = hop.parent; rank = count }) marks) (count + 1) rest v

-- the hops from a vertex of this rank to these targets. No public contract cites this.
abbrev pub hops_from : Name → ℕ → List Name → List Hop
hops_from v rank names = map (λ name. record { rank = rank; target = name; parent = v }) names

-- the hops are the passing edges of these vertices, with the ranks of these
pub record HasHops (marks : Name
    → Option Mark) (graph : PlainGraph) (pass : Passing) (done : List Name) (hops : List Hop) : Type 0 where
  pub parent : (hop : Hop) → IsIn hops hop → IsTrue (is_among done hop.parent)
  pub edge : (hop : Hop) → IsIn hops hop → IsTrue (is_among (targets pass (graph hop.parent)) hop.target)
  pub rank : (hop : Hop) → IsIn hops hop → hop.rank ≡ ranks marks hop.parent
  pub all : (u v : Name) → IsTrue (is_among done u) → IsTrue (is_among (targets pass (graph u)) v)
      → IsIn hops (record { rank = ranks marks u; target = v; parent = u })

-- the levels 1 to n are ranked
abbrev pub IsRankedTo : ℕ → PlainGraph → Passing → Name → (Name → Option Mark) → Type 0
IsRankedTo n graph pass from marks = (k : ℕ) → k < n → IsRankedAt k graph pass from (parents marks) (ranks marks)

-- the vertices of the levels 0 to n are marked, and ranked in each level
pub record HasMarked (marks : Name
    → Option Mark) (graph : PlainGraph) (pass : Passing) (from : Name) (n : ℕ) : Type 0 where
  pub marked : (v : Name) → is_some (marks v) ≡ is_among (through_level n graph pass from) v
  pub ranked : IsRankedTo n graph pass from marks

-- the search for the least walk is that of the program after these reads, the newest first
pub record HasWalked (program : Program) (walk : WalkState) (reads : List (Name × State)) : Type 0 where
  pub searched : HasSearched program walk.search reads
  pub level : ℕ
  pub done : List Name
  pub marked : HasMarked (mark_in walk.marks) (graph_read reads) walk.search.aim.pass walk.search.aim.from level
  pub inside : (v : Name) → IsTrue (is_among walk.search.present v)
      → IsTrue (is_among (through_level level (graph_read reads) walk.search.aim.pass walk.search.aim.from) v)
  pub going : walk.search.over ≡ false → IsGoing walk.search reads level done
  pub hops : walk.search.over ≡ false
      → HasHops (mark_in walk.marks) (graph_read reads) walk.search.aim.pass done walk.hops

-- without regard to the room and to the order in the tables, the search is the same
pub record SameWalked (old new : WalkState) : Type 0 where
  pub search : SameReached old.search new.search
  pub marks : (v : Name) → mark_in new.marks v ≡ mark_in old.marks v
  pub hops : new.hops ≡ old.hops

-- the hops were taken in their order, each new target was marked, and no hop is left. No public contract cites this.
pub record IsMarkedBy (old new : List (Name × Mark)) (before after : List Hop) : Type 0 where
  pub sorted : List Hop
  pub moved : IsPermutation before sorted
  pub rising : HopsRise sorted
  pub marks : (v : Name) → mark_in new v ≡ marks_after (mark_in old) (length old) sorted v
  pub taken : after ≡ []
