-- What the code tests, and what the clauses say.
-- Used by `commit`, `first_fault`, `first_out_of_place`, `is_refused`, `replay`, Acyclic, Leading, Printing, Replying,
-- TakenTurns, Taking, Visiting and Ways.
use Rattle.std.proofs.Common.{◌≡◌, ℕ, zero, suc, ◌<◌, Bool, true, false, get_or, length, ap, arith, not, ◌&&◌, IsTrue, List, [], ◌∷◌, Option, Some, None, refl, sym, ◌∙◌, subst}
use Rattle.std.specs.Prelude.{slice_get}
use Rattle.std.specs.List.{list_all}
use Rattle.std.proofs.lemmas.Bool.{and_parts, and_from}
use Rattle.vector_stamp.specs.declared.clock.Stamp.{Stamp}
use Rattle.vector_stamp.specs.Order.{stamp_before, unordered}
use Rattle.vector_stamp.specs.Precedence.{GivenPair, Precedes, precedes}
use Rattle.weave_data.specs.declared.name.Name.{Name}
use Rattle.program_defs.specs.declared.script.Script.{Script}
use Rattle.program_defs.specs.declared.script.Request.{Request}
use Rattle.program_defs.specs.declared.script.Work.{Work}
use Rattle.program_defs.specs.declared.script.Work.TheVariants.{Change, Look}
use Rattle.report_rules.specs.declared.report.Report.{Report}
use Rattle.report_rules.specs.declared.report.Reply.{Reply}
use Rattle.report_rules.specs.declared.report.Pair.{Pair}
use Rattle.report_rules.specs.declared.report.ReplyState.{ReplyState}
use Rattle.report_rules.specs.declared.report.ReplyState.TheVariants.{Unbegun, Begun, Committed, Conflict, Refused, Finished}
use Rattle.program_defs.specs.Visits.{IsVisited}
use Rattle.report_rules.specs.Replay.{graph_at_place}
use Rattle.report_rules.specs.Lookups.{are_both, AreBoth, request_at, reply_at, stamp_at, same_session, request_names_vertex, given_pairs, RequestPrecedes}
use Rattle.report_rules.specs.RightReport.{IsConflictInPlace, conflicts_clause, IsPairInPlace, MayBeLaterAt, is_committed_and_names}
use Rattle.report_rules.proofs.Precedence.{IsDecided}
use Rattle.weave_data.specs.Facts.{AllHold, facts_of_each}
use Rattle.order_witness.specs.Preceding.{Test}
use Rattle.order_witness.specs.Begun.{request_precedes, is_request_before, is_conflict_in_place}
use Rattle.order_witness.specs.Judgement.{has_numbered_operations, is_numbered_work}
use Rattle.order_witness.specs.Refusals.{Marks}
use Rattle.order_witness.specs.Visited.{IsMarkedPair, MarksVisit, is_pair_in_place, may_be_later}

-- Precedence

-- if both stamps are there and the test of precedence holds of them, the first precedes the second
pub way_of : IsDecided → (pairs : List GivenPair) (a b : Option Stamp) → IsTrue (are_both (precedes pairs) a b) → AreBoth (Precedes pairs) a b
way_of decided pairs None b h = cc
way_of decided pairs (Some x) None h = cc
way_of decided pairs (Some x) (Some y) h = (decided pairs x y).1 h

-- and if the first precedes the second, the test holds
pub test_of : IsDecided → (pairs : List GivenPair) (a b : Option Stamp) → AreBoth (Precedes pairs) a b → IsTrue (are_both (precedes pairs) a b)
test_of decided pairs None b h = absurd h
test_of decided pairs (Some x) None h = absurd h
test_of decided pairs (Some x) (Some y) h = (decided pairs x y).0 h

-- Lists

module _ {A : Type 0} (test : A → Bool) where
  -- of a list that passes throughout, the element at each place passes
  pub passes_at : (xs : List A) (n : ℕ) (x : A) → IsTrue (list_all test xs) → slice_get xs n ≡ Some x → IsTrue (test x)
  passes_at [] n x h at = cc
  passes_at (y ∷ xs) zero x h at = subst (λ z. IsTrue (test z)) (one_value y x at) (and_parts (test y) (list_all test xs) h).0
    where
      one_value : (y x : A) → Some y ≡ Some x → y ≡ x
      one_value y x e = cc
  passes_at (y ∷ xs) (suc n) x h at = passes_at xs n x (and_parts (test y) (list_all test xs) h).1 at

module _ (decided : IsDecided) (script : Script) (report : Report) (precedence : Test) (same : (a b : ℕ) → precedence a b ≡ request_precedes report a b) where
  -- what passes the test of precedence precedes
  pub way : (a b : ℕ) → IsTrue (precedence a b) → RequestPrecedes report a b
  way a b h = way_of decided (given_pairs report) (stamp_at report a) (stamp_at report b) (sym (same a b) ∙ h)

  -- and what precedes passes the test
  pub tested : (a b : ℕ) → RequestPrecedes report a b → IsTrue (precedence a b)
  tested a b h = same a b ∙ test_of decided (given_pairs report) (stamp_at report a) (stamp_at report b) h

  -- Conflicts

  -- a reply that passes the test of conflicts is in place by the clause on them
  pub conflict_fact : (r : ℕ) (state : ReplyState) → IsTrue (is_conflict_in_place script report precedence r state) → IsConflictInPlace script report r state
  conflict_fact r Unbegun h = tt
  conflict_fact r Begun h = tt
  conflict_fact r (Committed number answers) h = tt
  conflict_fact r (Conflict v newer) h =
      let parts = and_parts (is_committed_and_names script report v newer && not (same_session script r newer) && request_names_vertex script r v) (precedence r newer) h in
      (parts.0, way r newer parts.1)
  conflict_fact r (Refused op reason at) h = tt
  conflict_fact r (Finished answer) h = tt

  -- and one that is in place passes the test
  pub conflict_test : (r : ℕ) (state : ReplyState) → IsConflictInPlace script report r state → IsTrue (is_conflict_in_place script report precedence r state)
  conflict_test r Unbegun h = refl
  conflict_test r Begun h = refl
  conflict_test r (Committed number answers) h = refl
  conflict_test r (Conflict v newer) h = and_from _ _ h.0 (tested r newer h.1)
  conflict_test r (Refused op reason at) h = refl
  conflict_test r (Finished answer) h = refl

-- Conflicts in place by the stamps alone

-- a larger precedence keeps each conflict in place
conflict_more : (script : Script) (report : Report) (less more : Test) → ((a b : ℕ) → IsTrue (less a b) → IsTrue (more a b)) → (r : ℕ) (state : ReplyState) → IsTrue (is_conflict_in_place script report less r state) → IsTrue (is_conflict_in_place script report more r state)
conflict_more script report less more has r Unbegun h = refl
conflict_more script report less more has r Begun h = refl
conflict_more script report less more has r (Committed number answers) h = refl
conflict_more script report less more has r (Conflict v newer) h =
    let parts = and_parts (is_committed_and_names script report v newer && not (same_session script r newer) && request_names_vertex script r v) (less r newer) h in
    and_from _ _ parts.0 (has r newer parts.1)
conflict_more script report less more has r (Refused op reason at) h = refl
conflict_more script report less more has r (Finished answer) h = refl

stamps_precede : ((pairs : List GivenPair) (a b : Stamp) → IsTrue (stamp_before a b) → IsTrue (precedes pairs a b)) → (pairs : List GivenPair) (a b : Option Stamp) → IsTrue (are_both stamp_before a b) → IsTrue (are_both (precedes pairs) a b)
stamps_precede has pairs None b h = cc
stamps_precede has pairs (Some x) None h = cc
stamps_precede has pairs (Some x) (Some y) h = has pairs x y h

module _ (has : (pairs : List GivenPair) (a b : Stamp) → IsTrue (stamp_before a b) → IsTrue (precedes pairs a b)) (decided : IsDecided) (script : Script) (report : Report) where
  all_facts : (replies : List Reply) → IsTrue (list_all (λ (reply : Reply). is_conflict_in_place script report (is_request_before report) reply.request reply.state) replies) → AllHold (facts_of_each (λ (reply : Reply). IsConflictInPlace script report reply.request reply.state) replies)
  all_facts [] h = tt
  all_facts (reply ∷ replies) h =
      let parts = and_parts (is_conflict_in_place script report (is_request_before report) reply.request reply.state) (list_all (λ (other : Reply). is_conflict_in_place script report (is_request_before report) other.request other.state) replies) h in
      let more = conflict_more script report (is_request_before report) (request_precedes report) (λ a b. stamps_precede has (given_pairs report) (stamp_at report a) (stamp_at report b)) reply.request reply.state parts.0 in
      (conflict_fact decided script report (request_precedes report) (λ a b. refl) reply.request reply.state more, all_facts replies parts.1)

  -- if each conflict is in place already by the order of stamps alone, the clause on conflicts holds
  pub conflicts_hold : IsTrue (list_all (λ (reply : Reply). is_conflict_in_place script report (is_request_before report) reply.request reply.state) report.replies) → AllHold (conflicts_clause script report)
  conflicts_hold h = all_facts report.replies h

-- Pairs

-- a mark that holds, and a fact that its mark has to say
mark_holds : (mark : Bool) (Fact : Type 0) → Marks mark Fact → IsTrue mark → Fact
mark_holds true Fact marks h = marks
mark_holds false Fact marks h = cc

marks_so : (mark : Bool) (Fact : Type 0) → Marks mark Fact → Fact → IsTrue mark
marks_so true Fact marks fact = refl
marks_so false Fact marks fact = absurd (marks fact)

module _ (script : Script) (report : Report) (v : Name) (r : ℕ) (mark : Bool) where
  later_fact : (work : Work) (state : ReplyState) → MarksVisit (graph_at_place script report r) v work state mark → IsTrue (may_be_later script report v r mark work state) → MayBeLaterAt script report v r work state
  later_fact (Change ops) state marks h = h
  later_fact (Look program) Unbegun marks h = tt
  later_fact (Look program) Begun marks h = tt
  later_fact (Look program) (Committed number answers) marks h = tt
  later_fact (Look program) (Conflict vertex newer) marks h = tt
  later_fact (Look program) (Refused op reason at) marks h = tt
  later_fact (Look program) (Finished answer) marks h = mark_holds mark (IsVisited (graph_at_place script report r) program v) marks h

  later_test : (work : Work) (state : ReplyState) → MarksVisit (graph_at_place script report r) v work state mark → MayBeLaterAt script report v r work state → IsTrue (may_be_later script report v r mark work state)
  later_test (Change ops) state marks h = h
  later_test (Look program) Unbegun marks h = refl
  later_test (Look program) Begun marks h = refl
  later_test (Look program) (Committed number answers) marks h = refl
  later_test (Look program) (Conflict vertex newer) marks h = refl
  later_test (Look program) (Refused op reason at) marks h = refl
  later_test (Look program) (Finished answer) marks h = marks_so mark (IsVisited (graph_at_place script report r) program v) marks h

  both_fact : (o : Option Request) (p : Option Reply) → ((request : Request) (reply : Reply) → o ≡ Some request → p ≡ Some reply → MarksVisit (graph_at_place script report r) v request.work reply.state mark)
      → IsTrue (are_both (λ (request : Request) (reply : Reply). may_be_later script report v r mark request.work reply.state) o p) → AreBoth (λ (request : Request) (reply : Reply). MayBeLaterAt script report v r request.work reply.state) o p
  both_fact None p marks h = cc
  both_fact (Some request) None marks h = cc
  both_fact (Some request) (Some reply) marks h = later_fact request.work reply.state (marks request reply refl refl) h

  both_test : (o : Option Request) (p : Option Reply) → ((request : Request) (reply : Reply) → o ≡ Some request → p ≡ Some reply → MarksVisit (graph_at_place script report r) v request.work reply.state mark)
      → AreBoth (λ (request : Request) (reply : Reply). MayBeLaterAt script report v r request.work reply.state) o p → IsTrue (are_both (λ (request : Request) (reply : Reply). may_be_later script report v r mark request.work reply.state) o p)
  both_test None p marks h = absurd h
  both_test (Some request) None marks h = absurd h
  both_test (Some request) (Some reply) marks h = later_test request.work reply.state (marks request reply refl refl) h

module _ (script : Script) (report : Report) (pair : Pair) (mark : Bool) (marks : IsMarkedPair script report pair mark) where
  -- if its mark is right, a pair that passes the test is in place
  pub pair_fact : IsTrue (is_pair_in_place script report pair mark) → IsPairInPlace script report pair
  pair_fact h =
      let parts = and_parts (are_both unordered (stamp_at report pair.earlier) (stamp_at report pair.later) && is_committed_and_names script report pair.vertex pair.earlier) _ h in
      let first = and_parts (are_both unordered (stamp_at report pair.earlier) (stamp_at report pair.later)) _ parts.0 in
      (first.0, first.1, both_fact script report pair.vertex pair.later mark (request_at script pair.later) (reply_at report pair.later) marks parts.1)

  -- and one that is in place passes the test
  pub pair_test : IsPairInPlace script report pair → IsTrue (is_pair_in_place script report pair mark)
  pair_test h = and_from _ _ (and_from _ _ h.0 h.1) (both_test script report pair.vertex pair.later mark (request_at script pair.later) (reply_at report pair.later) marks h.2)

-- the work of each request has few enough operations to be numbered
pub is_numbered : (script : Script) → IsTrue (has_numbered_operations script) → (r : ℕ) (request : Request) → request_at script r ≡ Some request → IsTrue (is_numbered_work request.work)
is_numbered script numbered r request at = passes_at (λ (x : Request). is_numbered_work x.work) script.requests r request numbered at

-- what is at a place
pub got_at : {A : Type 0} (xs : List A) (i : ℕ) (x : A) → i < length xs → x ≡ get_or xs i x → slice_get xs i ≡ Some x
got_at [] i x within is = absurd (omega (arith, within))
got_at (y ∷ xs) zero x within is = ap Some (sym is)
got_at (y ∷ xs) (suc i) x within is = got_at xs i x (omega (arith, within)) is
