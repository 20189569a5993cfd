-- What each program read: the vertices of its list of visits, in turn.
use Rattle.std.specs.Prelude.{◌≡◌, ◌≢◌, ◌↔◌, ℕ, List, length, take, AllPairs, IsTrue, None, Some}
use Rattle.std.specs.Map.{keys_of}
use Rattle.weave_data.specs.declared.name.Name.{Name}
use Rattle.graph_ops.specs.Mentions.{is_among}
use Rattle.graph_ops.specs.Operations.{State}
use Rattle.program_defs.specs.declared.program.Program.{Program}
use Rattle.program_defs.specs.declared.script.Request.{Request}
use Rattle.program_defs.specs.declared.script.Script.{Script}
use Rattle.program_defs.specs.declared.script.Work.TheVariants.{Look}
use Rattle.program_defs.specs.Visits.{visits_to, graph_read, next_visit}
use Rattle.report_rules.specs.Lookups.{request_at}
use Rattle.weave_account.specs.declared.account.Account.{Account}
use Rattle.weave_account.specs.Account.{reads_of, is_ended}

-- the list of visits of a program over the states that were read: with that many reads it is whole
abbrev pub visits_over : List (Name × State) → Program → List Name
visits_over reads program = visits_to (length reads) (graph_read reads) program

-- each vertex is read once; those read are the first that many of the list of visits over the states read, in
-- whatever order, and all of it if the program is finished
pub record ReadsInTurn (reads : List (Name × State)) (program : Program) (finished : Type 0) : Type 0 where
  pub once : AllPairs (λ (a b : Name × State). a.0 ≢ b.0) reads
  pub first_ones : (v : Name)
      → IsTrue (is_among (keys_of reads) v) ↔ IsTrue (is_among (take (length reads) (visits_over reads program)) v)
  pub whole : finished → next_visit reads program ≡ None

-- Programs: each reads its vertices in turn
abbrev pub ProgramsClause : Script → Account → Type 0
ProgramsClause script account =
    (r : ℕ) (request : Request) (program : Program) → request_at script r ≡ Some request → request.work ≡ Look program
    → ReadsInTurn (reads_of account r) program (IsTrue (is_ended account r))
