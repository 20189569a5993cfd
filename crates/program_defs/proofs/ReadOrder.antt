-- The order of the reads doesn't matter.
-- Used by `order_of_reads_is_free` and Feeding.
use Rattle.std.proofs.Common.{◌≡◌, not, List, length, subst}
use Rattle.std.specs.List.{find}
use Rattle.weave_data.specs.declared.name.Name.{Name}
use Rattle.graph_ops.specs.Operations.{State}
use Rattle.program_defs.specs.declared.program.Program.{Program}
use Rattle.program_defs.specs.declared.program.Answer.{Answer}
use Rattle.program_defs.specs.Agreement.{AreSameReads}
use Rattle.program_defs.specs.PlainAnswer.{IsPlainAnswer}
use Rattle.program_defs.specs.Visits.{visits_to, graph_read, next_visit, IsListOfVisits}
use Rattle.program_defs.proofs.NextVisit.{visits-of-reads}
use Rattle.program_defs.proofs.OneList.{one_list}

-- reads of the same vertices with the same states, in whatever order, have the same next visit
pub next-in-any-order : (a b : List (Name × State)) (program : Program) → AreSameReads a b → next_visit a program ≡ next_visit b program
next-in-any-order a b program same =
    let graph : graph_read a ≡ graph_read b = λ i v. same.states v i in
    let visits : visits_to (length a) (graph_read a) program ≡ visits_to (length b) (graph_read b) program =
    one_list (graph_read b) program (visits_to (length a) (graph_read a) program) (visits_to (length b) (graph_read b) program)
    (subst (λ g. IsListOfVisits g program (visits_to (length a) (graph_read a) program)) graph (visits-of-reads a program)) (visits-of-reads b program) in
    λ i. find (λ v. not (same.vertices v i)) (visits i)

-- and a plain answer on what the ones read is one on what the others read
pub answer-in-any-order : (a b : List (Name × State)) (program : Program) (answer : Answer) → AreSameReads a b → IsPlainAnswer (graph_read a) program answer → IsPlainAnswer (graph_read b) program answer
answer-in-any-order a b program answer same is = subst (λ g. IsPlainAnswer g program answer) (λ i v. same.states v i) is
