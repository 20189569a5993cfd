-- When a report is right for a script: eight clauses, each a list of facts by place. They are judged in their order.
use Rattle.std.specs.Prelude.{ℕ, Bool, ◌&&◌, ◌||◌, not, nat_lt, nat_le, ◌==◌, IsTrue, List, [], ◌∷◌, ◌++◌, length, Option, ⊤, if◌then◌else◌}
use Rattle.std.specs.List.{list_any, list_all, AllByRecursion}
use Rattle.vector_stamp.specs.declared.clock.Stamp.{Stamp}
use Rattle.vector_stamp.specs.Order.{are_apart, stamp_before, unordered}
use Rattle.graph_ops.specs.PlainGraph.{PlainGraph, empty_graph}
use Rattle.program_defs.specs.declared.program.Program.{Program}
use Rattle.program_defs.specs.declared.script.Script.{Script}
use Rattle.program_defs.specs.declared.script.Request.{Request}
use Rattle.program_defs.specs.declared.script.Work.{Work}
use Rattle.program_defs.specs.declared.script.Work.TheVariants.{Change, Look}
use Rattle.program_defs.specs.Visits.{IsVisited}
use Rattle.weave_data.specs.declared.name.Name.{Name}
use Rattle.report_rules.specs.declared.report.Report.{Report}
use Rattle.report_rules.specs.declared.report.Reply.{Reply}
use Rattle.report_rules.specs.declared.report.Pair.{Pair}
use Rattle.report_rules.specs.declared.report.ReplyState.{ReplyState}
use Rattle.report_rules.specs.declared.report.ReplyState.TheVariants.{Conflict, Refused, Finished}
use Rattle.report_rules.specs.declared.report.Clause.{Clause}
use Rattle.report_rules.specs.declared.report.Clause.TheVariants.{I, Ii, Iii, Iv, V, Vi, Vii, Viii}
use Rattle.weave_data.specs.Facts.{Facts, AllHold, BreaksFirstAt, facts_in_turn, facts_of_each}
use Rattle.report_rules.specs.Lookups.{is_in, is_some_and, is_none_or, are_both, AreBoth, request_at, reply_at, stamp_at, same_session, request_names_vertex, committed_number, commits, is_committed, is_committed_or_finished, may_be_listed, RequestPrecedes}
use Rattle.report_rules.specs.Replay.{replay_from, graph_at_place, IsRefusedAfter}

-- Replies. Place: the reply line; one more than the last if lines are missing.

-- the stamp's home is the request's gatekeeper
abbrev pub is_home_of : Option Request → Stamp → Bool
is_home_of request stamp = is_some_and (λ (r : Request). stamp.home == r.gate) request

-- if both requests are begun, their stamps are apart: of one home they have different ids, and are ordered as their
-- epochs, then their own counts
abbrev pub are_apart_where_begun : Option Stamp → Option Stamp → Bool
are_apart_where_begun a b = is_none_or (λ x. is_none_or (are_apart x) b) a

-- if the later request is begun, the earlier one is too, with a stamp before it
abbrev pub are_begun_in_turn : Option Stamp → Option Stamp → Bool
are_begun_in_turn earlier later = is_none_or (λ y. is_some_and (λ x. stamp_before x y) earlier) later

-- Of two replies: their stamps are apart, and in one session the requests begin in turn. Every earlier request of a
-- session is compared; since the order of stamps is transitive, that breaks at the same line as comparing the one
-- before.
abbrev pub stands_after : Script → Reply → Reply → Bool
stands_after script reply earlier =
    are_apart_where_begun earlier.stamp reply.stamp
    && (not (same_session script earlier.request reply.request) || are_begun_in_turn earlier.stamp reply.stamp)

-- reply i is of request i, which exists; its stamp is of that one's gatekeeper; it is in order after each earlier reply
abbrev pub is_reply_in_place : Script → List Reply → Reply → Bool
is_reply_in_place script before reply =
    (reply.request == length before)
    && nat_lt reply.request (length script.requests)
    && is_none_or (is_home_of (request_at script reply.request)) reply.stamp
    && list_all (stands_after script reply) before

-- and no reply is missing
abbrev pub replies_clause : Script → Report → Facts
replies_clause script report =
    facts_in_turn (λ before reply. IsTrue (is_reply_in_place script before reply)) report.replies
    ++ IsTrue (nat_le (length script.requests) (length report.replies)) ∷ []

-- Listing. Place: that in the order; one more than its length if a request is missing.

-- the order lists each committed transaction and each finished program
abbrev pub all_are_listed : Report → Bool
all_are_listed report =
    list_all (λ (reply : Reply). not (is_committed_or_finished reply.state) || is_in reply.request report.order)
    report.replies

-- each once, and nothing else
abbrev pub listing_clause : Report → Facts
listing_clause report =
    facts_in_turn (λ before r. IsTrue (not (is_in r before) && may_be_listed report r)) report.order
    ++ IsTrue (all_are_listed report) ∷ []

-- Order. Place: that in the order.

-- a listed request precedes neither itself nor one listed before it, and the listed requests of its session before it
-- are earlier ones
abbrev pub IsListedInOrder : Script → Report → List ℕ → ℕ → Type 0
IsListedInOrder script report before r =
    AllByRecursion (λ earlier. ¬ RequestPrecedes report r earlier) (r ∷ before)
    × IsTrue (list_all (λ earlier. not (same_session script earlier r) || nat_lt earlier r) before)

-- this for each place in the order
abbrev pub order_clause : Script → Report → Facts
order_clause script report = facts_in_turn (IsListedInOrder script report) report.order

-- Replay. Place: that in the order.

-- replaying the order on the empty graph refuses no transaction, and gives exactly the printed answers
abbrev pub replay_clause : Script → Report → Facts
replay_clause script report = replay_from empty_graph script report report.order

-- Pairs. Place: the pair.

-- a committed transaction that names the vertex
abbrev pub is_committed_and_names : Script → Report → Name → ℕ → Bool
is_committed_and_names script report v r = is_committed report r && request_names_vertex script r v

-- a program that is finished visits the vertex on this graph
abbrev pub VisitsWhereFinished : PlainGraph → Program → Name → ReplyState → Type 0
VisitsWhereFinished graph program v (Finished answer) = IsVisited graph program v
VisitsWhereFinished graph program v _ = ⊤

-- the work may be the later end of a pair at the vertex: it is a committed transaction that names it, or a program
-- that, if it is finished, visits it at its place
abbrev pub MayBeLaterAt : Script → Report → Name → ℕ → Work → ReplyState → Type 0
MayBeLaterAt script report v r (Change ops) state = IsTrue (is_committed_and_names script report v r)
MayBeLaterAt script report v r (Look program) state =
    VisitsWhereFinished (graph_at_place script report r) program v state

-- Both requests of a pair are begun, and their stamps are unordered; the earlier one is a committed transaction that
-- names the vertex; the later one is such a transaction, or a begun program that, if it is finished, visits the vertex
-- at its place.
-- A request put before itself passes here, since no stamp is before itself; it precedes itself, and the order can't
-- list it.
abbrev pub IsPairInPlace : Script → Report → Pair → Type 0
IsPairInPlace script report pair =
    IsTrue (are_both unordered (stamp_at report pair.earlier) (stamp_at report pair.later))
    × IsTrue (is_committed_and_names script report pair.vertex pair.earlier)
    × AreBoth
    (λ (request : Request) (reply : Reply). MayBeLaterAt script report pair.vertex pair.later request.work reply.state)
    (request_at script pair.later) (reply_at report pair.later)

-- this for each pair
abbrev pub pairs_clause : Script → Report → Facts
pairs_clause script report = facts_of_each (IsPairInPlace script report) report.pairs

-- Conflicts. Place: the reply line.

-- the newer request of a conflict is a committed transaction of another session, both name the vertex, and the aborted
-- one precedes it
abbrev pub IsConflictInPlace : Script → Report → ℕ → ReplyState → Type 0
IsConflictInPlace script report r (Conflict v newer) =
    IsTrue (is_committed_and_names script report v newer && not (same_session script r newer)
    && request_names_vertex script r v)
    × RequestPrecedes report r newer
IsConflictInPlace script report r _ = ⊤

-- this for each reply
abbrev pub conflicts_clause : Script → Report → Facts
conflicts_clause script report =
    facts_of_each (λ (reply : Reply). IsConflictInPlace script report reply.request reply.state) report.replies

-- Refusals. Place: the reply line.

-- the commit number of another reply, if it has one, is at most `at` if its request is earlier than r, and above `at`
-- if it is later
abbrev pub keeps_number : ℕ → ℕ → Reply → Bool
keeps_number at r other =
    if nat_lt other.request r then is_none_or (λ number. nat_le number at) (committed_number other.state)
    else is_none_or (λ number. nat_lt at number) (committed_number other.state)

-- `at` is at most the number of commits, and is in order among the commit numbers of the session of r
abbrev pub stands_among_commits : Script → Report → ℕ → ℕ → Bool
stands_among_commits script report r at =
    nat_le at (commits report)
    && list_all (λ (other : Reply). not (same_session script other.request r) || keeps_number at r other) report.replies

-- `at` is in order; on the graph after `at` commits the operations before `op` pass, and `op` is refused for `reason`
abbrev pub IsRefusalInPlace : Script → Report → ℕ → ReplyState → Type 0
IsRefusalInPlace script report r (Refused op reason at) =
    IsTrue (stands_among_commits script report r at) × IsRefusedAfter script report at r op reason
IsRefusalInPlace script report r _ = ⊤

-- this for each reply
abbrev pub refusals_clause : Script → Report → Facts
refusals_clause script report =
    facts_of_each (λ (reply : Reply). IsRefusalInPlace script report reply.request reply.state) report.replies

-- Numbers. Place: the reply line.

-- a commit number is from 1 to the number of commits, and no earlier reply has it
abbrev pub is_number_in_place : ℕ → List Reply → Option ℕ → Bool
is_number_in_place count before =
    is_none_or (λ number.
    nat_lt 0 number && nat_le number count
    && not (list_any (λ (earlier : Reply). is_some_and (λ n. n == number) (committed_number earlier.state)) before))

-- this for each reply
abbrev pub numbers_clause : Report → Facts
numbers_clause report =
    facts_in_turn
    (λ before (reply : Reply). IsTrue (is_number_in_place (commits report) before (committed_number reply.state)))
    report.replies

-- The whole

-- what each clause says, place by place
abbrev pub facts_of : Script → Report → Clause → Facts
facts_of script report I = replies_clause script report
facts_of script report Ii = listing_clause report
facts_of script report Iii = order_clause script report
facts_of script report Iv = replay_clause script report
facts_of script report V = pairs_clause script report
facts_of script report Vi = conflicts_clause script report
facts_of script report Vii = refusals_clause script report
facts_of script report Viii = numbers_clause report

-- each of these clauses holds
abbrev pub EachHolds : Script → Report → List Clause → Type 0
EachHolds script report [] = ⊤
EachHolds script report (clause ∷ clauses) = AllHold (facts_of script report clause) × EachHolds script report clauses

-- The report is right for the script: every clause holds. That it is a report of the script at all, as one with a stamp
-- at each committed request, is `IsReportOf`.
abbrev pub IsRightReport : Script → Report → Type 0
IsRightReport script report = EachHolds script report (I ∷ Ii ∷ Iii ∷ Iv ∷ V ∷ Vi ∷ Vii ∷ Viii ∷ [])

-- the clauses that are judged before one
abbrev pub clauses_before : Clause → List Clause
clauses_before I = []
clauses_before Ii = I ∷ []
clauses_before Iii = I ∷ Ii ∷ []
clauses_before Iv = I ∷ Ii ∷ Iii ∷ []
clauses_before V = I ∷ Ii ∷ Iii ∷ Iv ∷ []
clauses_before Vi = I ∷ Ii ∷ Iii ∷ Iv ∷ V ∷ []
clauses_before Vii = I ∷ Ii ∷ Iii ∷ Iv ∷ V ∷ Vi ∷ []
clauses_before Viii = I ∷ Ii ∷ Iii ∷ Iv ∷ V ∷ Vi ∷ Vii ∷ []

-- this is the first clause that breaks, and the first place where it does
abbrev pub BreaksFirst : Script → Report → Clause → ℕ → Type 0
BreaksFirst script report clause place =
    EachHolds script report (clauses_before clause) × BreaksFirstAt (facts_of script report clause) place
