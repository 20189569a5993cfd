-- Pairs whose later request is a program. No public contract cites it.
-- Marks say whether the program visits the pair's vertex at its place.
use Rattle.std.specs.Prelude.{◌≡◌, ℕ, Bool, true, false, ◌&&◌, List, ⊤, ◌<◌, Contains, Option, Some, length, slice_get, slice_index_or}
use Rattle.weave_data.specs.declared.name.Name.{Name}
use Rattle.vector_stamp.specs.Order.{unordered}
use Rattle.graph_ops.specs.PlainGraph.{PlainGraph}
use Rattle.program_defs.specs.declared.script.Script.{Script}
use Rattle.program_defs.specs.declared.script.Request.{Request}
use Rattle.program_defs.specs.declared.script.Work.{Work}
use Rattle.program_defs.specs.declared.script.Work.TheVariants.{Change, Look}
use Rattle.program_defs.specs.Visits.{IsVisited}
use Rattle.report_rules.specs.declared.report.Report.{Report}
use Rattle.report_rules.specs.declared.report.Reply.{Reply}
use Rattle.report_rules.specs.declared.report.Pair.{Pair}
use Rattle.report_rules.specs.declared.report.ReplyState.{ReplyState}
use Rattle.report_rules.specs.declared.report.ReplyState.TheVariants.{Finished}
use Rattle.report_rules.specs.Lookups.{are_both, request_at, reply_at, stamp_at}
use Rattle.report_rules.specs.Replay.{graph_at_place}
use Rattle.report_rules.specs.RightReport.{is_committed_and_names}
use Rattle.order_witness.specs.Refusals.{Marks}

-- of a program that is finished, the mark says whether it visits the vertex on this graph
abbrev pub MarksVisit : PlainGraph → Name → Work → ReplyState → Bool → Type 0
MarksVisit graph v (Look program) (Finished answer) mark = Marks mark (IsVisited graph program v)
MarksVisit graph v _ _ mark = ⊤

-- the mark of a pair says this of its later request, at that one's place
abbrev pub IsMarkedPair : Script → Report → Pair → Bool → Type 0
IsMarkedPair script report pair mark =
    (request : Request) (reply : Reply) → request_at script pair.later ≡ Some request
    → reply_at report pair.later ≡ Some reply
    → MarksVisit (graph_at_place script report pair.later) pair.vertex request.work reply.state mark

-- each pair is marked
abbrev pub AreVisitsMarked : Script → Report → List Bool → Type 0
AreVisitsMarked script report marks =
    (place : ℕ) (pair : Pair) → slice_get report.pairs place ≡ Some pair
    → IsMarkedPair script report pair (slice_index_or marks place false)

-- the marks at other places than these stay
abbrev pub AreOtherMarksKept : List ℕ → List Bool → List Bool → Type 0
AreOtherMarksKept places old new =
    (k : ℕ) → ¬ Contains places k → slice_index_or new k false ≡ slice_index_or old k false

-- by its mark, the work may be the later end of a pair at the vertex
abbrev pub may_be_later : Script → Report → Name → ℕ → Bool → Work → ReplyState → Bool
may_be_later script report v r mark (Change ops) state = is_committed_and_names script report v r
may_be_later script report v r mark (Look program) (Finished answer) = mark
may_be_later script report v r mark (Look program) _ = true

-- by its mark, a pair is in place
abbrev pub is_pair_in_place : Script → Report → Pair → Bool → Bool
is_pair_in_place script report pair mark =
    are_both unordered (stamp_at report pair.earlier) (stamp_at report pair.later)
    && is_committed_and_names script report pair.vertex pair.earlier
    && are_both (λ (request : Request) (reply : Reply).
    may_be_later script report pair.vertex pair.later mark request.work reply.state)
    (request_at script pair.later) (reply_at report pair.later)

-- the pairs at these places are marked like this by work on this graph
abbrev pub AreMarkedBy : List Pair → PlainGraph → Work → ReplyState → List ℕ → List Bool → Type 0
AreMarkedBy pairs graph work state places marks =
    (place : ℕ) (pair : Pair) → Contains places place → slice_get pairs place ≡ Some pair → place < length marks
    → MarksVisit graph pair.vertex work state (slice_index_or marks place false)

-- the same by a request, if it and its reply are there
abbrev pub AreMarkedAt : List Pair → PlainGraph → Option Request → Option Reply → List ℕ → List Bool → Type 0
AreMarkedAt pairs graph (Some request) (Some reply) places marks =
    AreMarkedBy pairs graph request.work reply.state places marks
AreMarkedAt pairs graph _ _ places marks = ⊤
