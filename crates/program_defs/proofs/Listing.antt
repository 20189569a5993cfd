-- A graph with finitely many vertices has a list of visits for each program.
-- Used by `finite_graphs_have_visits`.
use Rattle.std.proofs.Common.{◌≡◌, Bool, true, false, cond, List, [], ◌∷◌, length, refl, sym, ◌∙◌, Some}
use Rattle.std.specs.FinMap as map
use Rattle.std.specs.Prelude.{if◌then◌else◌}
use Rattle.weave_data.specs.Names.{name_cmp, same_name}
use Rattle.weave_data.specs.declared.name.Name.{Name}
use Rattle.graph_ops.specs.Graphs.{Vertices, plain_of}
use Rattle.graph_ops.specs.Operations.{State}
use Rattle.graph_ops.specs.declared.record.Record.{Record}
use Rattle.graph_ops.proofs.States.{same_name-sym}
use Rattle.program_defs.specs.declared.program.Program.{Program}
use Rattle.program_defs.specs.Visits.{IsListOfVisits, graph_read, visits_to}
use Rattle.program_defs.proofs.NextVisit.{visits-of-reads}
use Rattle.program_defs.proofs.VisitsAgree.{list-same}

-- each vertex that is there, with its state
abbrev reads-of : List (Name × Record) → List (Name × State)
reads-of [] = []
reads-of (entry ∷ entries) = (entry.0, Some entry.1) ∷ reads-of entries

-- the graph that has these states is that of the map
state-there : (entries : List (Name × Record)) (v : Name) → graph_read (reads-of entries) v ≡ map.find name_cmp v entries
state-there [] v = refl
state-there (entry ∷ entries) v = at (same_name entry.0 v) (same_name v entry.0) (same_name-sym entry.0 v) (state-there entries v)
  where
    at : (a b : Bool) → a ≡ b → graph_read (reads-of entries) v ≡ map.find name_cmp v entries → (if a then Some entry.1 else graph_read (reads-of entries) v) ≡ cond b (Some entry.1) (map.find name_cmp v entries)
    at true true same rest = refl
    at true false same rest = cc
    at false true same rest = cc
    at false false same rest = rest

-- each program has a complete list of visits on a graph with finitely many vertices
pub has-list : (graph : Vertices) (program : Program) → (visits : List Name) × IsListOfVisits (plain_of graph) program visits
has-list graph program =
    let reads : List (Name × State) = reads-of (map.entries graph) in
    let visits : List Name = visits_to (length reads) (graph_read reads) program in (
      visits,
      list-same (graph_read reads) (plain_of graph) program visits (λ v visited. state-there (map.entries graph) v ∙ sym (map.get-entries graph v)) (visits-of-reads reads program),
    )
