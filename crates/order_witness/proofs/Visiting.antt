-- Marks of pairs whose later requests are programs: each is set at its request's place in the order, and stays.
-- Used by `first_fault`, `mark_all`, `pairs_by_later`, `replay_program` and `replay_work`.
use Rattle.std.proofs.Common.{◌≡◌, ◌≢◌, ℕ, suc, ◌+◌, ◌<◌, ◌≤◌, Bool, true, false, not, cond, eqb, ◌||◌, ◌&&◌, IsTrue, Contains, List, [], ◌∷◌, ◌++◌, length, take, drop, get_or, slice_index_or, Option, Some, None, Result, Ok, Err, inl, inr, refl, sym, ap, ◌∙◌, subst, arith}
use Rattle.std.specs.Prelude.{◌↔◌, IfOk, MatchBool, slice_get}
use Rattle.std.specs.declared.alloc.AllocError.{AllocError}
use Rattle.std.proofs.lemmas.Bool.{and_parts, both_ways, cases_eq, cases_lt, or_cases, not-true, eqb-true, eq-eqb}
use Rattle.std.proofs.lemmas.List.{get_or_default, take-append-drop, take_all, take_more}
use Rattle.std.proofs.Math.Seq.{drop-cons}
use Rattle.std.proofs.lemmas.Option.{slice_get_within}
use Rattle.std.proofs.lemmas.List.Elements.{Contains-append_left, Contains-append_right, Contains-append_cases, Contains-push_cases}
use Rattle.weave_data.specs.declared.name.Name.{Name}
use Rattle.graph_ops.specs.PlainGraph.{PlainGraph, empty_graph}
use Rattle.program_defs.specs.declared.program.Program.{Program}
use Rattle.program_defs.specs.declared.script.Script.{Script}
use Rattle.program_defs.specs.declared.script.Request.{Request}
use Rattle.program_defs.specs.declared.script.Work.{Work}
use Rattle.program_defs.specs.declared.script.Work.TheVariants.{Change, Look}
use Rattle.program_defs.specs.declared.program.Answer.{Answer}
use Rattle.program_defs.specs.Searching.{has_name}
use Rattle.program_defs.specs.Visits.{IsVisited}
use Rattle.report_rules.specs.declared.report.Report.{Report}
use Rattle.report_rules.specs.declared.report.Reply.{Reply}
use Rattle.report_rules.specs.declared.report.Pair.{Pair}
use Rattle.report_rules.specs.declared.report.ReplyState.{ReplyState}
use Rattle.report_rules.specs.declared.report.ReplyState.TheVariants.{Unbegun, Begun, Committed, Conflict, Refused, Finished}
use Rattle.weave_data.specs.Facts.{Facts, AllHold}
use Rattle.weave_data.proofs.Members.{has_none, has_read, has_head, has_last}
use Rattle.report_rules.specs.Lookups.{is_in, is_some_and, is_committed_or_finished, may_be_listed, request_at, reply_at}
use Rattle.report_rules.specs.Replay.{graph_at_place, graph_before}
use Rattle.report_rules.specs.RightReport.{all_are_listed, listing_clause, replies_clause}
use Rattle.order_witness.specs.ByNumber.{list_at}
use Rattle.order_witness.specs.Refusals.{Marks}
use Rattle.order_witness.specs.Replay.{TellsOf}
use Rattle.order_witness.specs.Visited.{AreMarkedAt, AreMarkedBy, AreOtherMarksKept, AreVisitsMarked, IsMarkedPair, MarksVisit}
use Rattle.order_witness.proofs.Cutting.{in_last}
use Rattle.order_witness.proofs.Replays.{graph_here, graph_through}
use Rattle.order_witness.proofs.Replying.{fact_of, hold_front, is_numbered}
use Rattle.order_witness.proofs.Testing.{got_at, passes_at}

-- the pairs of these later requests are marked
abbrev pub AreMarkedTo : Script → Report → List ℕ → List Bool → Type 0
AreMarkedTo script report taken marks =
    (place : ℕ) (pair : Pair) → slice_get report.pairs place ≡ Some pair → IsTrue (is_in pair.later taken) → IsMarkedPair script report pair (slice_index_or marks place false)

module _ (script : Script) (report : Report) where
  by_request : (graph : PlainGraph) (o : Option Request) (p : Option Reply) (request : Request) (reply : Reply) (places : List ℕ) (marks : List Bool) → o ≡ Some request → p ≡ Some reply → AreMarkedAt report.pairs graph o p places marks
      → AreMarkedBy report.pairs graph request.work reply.state places marks
  by_request graph o p request reply places marks is_o is_p h =
      subst (λ (q : Option Reply). AreMarkedAt report.pairs graph (Some request) q places marks) is_p (subst (λ (r : Option Request). AreMarkedAt report.pairs graph r p places marks) is_o h)

  -- the new marks at these places are of this graph, and the others are the old ones
  module _ (graph : PlainGraph) (places : List ℕ) (old new : List Bool) (others : AreOtherMarksKept places old new) (size : length new ≡ length report.pairs) where
    -- one more request of the order
    pub marked_step : (before after : List ℕ) (r : ℕ) → report.order ≡ before ++ r ∷ after → is_in r before ≡ false → graph ≡ graph_through script report empty_graph before
        → ((place : ℕ) (pair : Pair) → slice_get report.pairs place ≡ Some pair → (pair.later ≡ r) ↔ Contains places place)
        → AreMarkedAt report.pairs graph (request_at script r) (reply_at report r) places new → AreMarkedTo script report before old
        → AreMarkedTo script report (before ++ r ∷ []) new
    marked_step before after r order_is fresh graph_is exact marked so_far place pair at there =
        elim (in_last pair.later r before there) [
          | inl earlier ↦
              let other : ¬ Contains places place = λ h. both_ways _ fresh (subst (λ n. IsTrue (is_in n before)) ((exact place pair at).1 h) earlier) in
              subst (IsMarkedPair script report pair) (sym (others place other)) (so_far place pair at earlier)
          | inr same ↦ λ request reply at_r at_p.
              let here : graph_at_place script report pair.later ≡ graph =
              ap (λ n. graph_at_place script report n) same ∙ ap (λ (xs : List ℕ). graph_before r empty_graph script xs) order_is ∙ graph_here script report r empty_graph before after fresh ∙ sym graph_is in
              let by = by_request graph (request_at script r) (reply_at report r) request reply places new (ap (request_at script) (sym same) ∙ at_r) (ap (reply_at report) (sym same) ∙ at_p) marked in
              subst (λ (g : PlainGraph). MarksVisit g pair.vertex request.work reply.state (slice_index_or new place false)) (sym here)
              (by place pair ((exact place pair at).0 same) at (omega (arith, slice_get_within report.pairs place pair at, size)))
        ]

  -- a listed request isn't listed before, and has a reply
  listed_once : AllHold (listing_clause report) → (i r : ℕ) → slice_get report.order i ≡ Some r → (is_in r (take i report.order) ≡ false) × (r < length report.replies)
  listed_once listing i r at =
      let fact : IsTrue (not (is_in r (take i report.order)) && may_be_listed report r) =
      fact_of (λ before n. IsTrue (not (is_in n before) && may_be_listed report n)) [] report.order i r (hold_front _ _ listing) at in
      let parts = and_parts (not (is_in r (take i report.order))) (may_be_listed report r) fact in
      (not-true _ parts.0, there (reply_at report r) refl parts.1)
    where
      there : (o : Option Reply) → reply_at report r ≡ o → IsTrue (is_some_and (λ (reply : Reply). is_committed_or_finished reply.state) o) → r < length report.replies
      there None is h = cc
      there (Some reply) is h = slice_get_within report.replies r reply is

  split_at : (xs : List ℕ) (i : ℕ) → i < length xs → xs ≡ take i xs ++ get_or xs i 0 ∷ drop (suc i) xs
  split_at xs i lt = sym (take-append-drop i xs) ∙ ap (λ (ys : List ℕ). take i xs ++ ys) (drop-cons xs i 0 lt)

  -- the same by places in the order
  module _ (graph : PlainGraph) (places : List ℕ) (old new : List Bool) (others : AreOtherMarksKept places old new) (size : length new ≡ length report.pairs)
      (listing : AllHold (listing_clause report)) (order : List ℕ) (i : ℕ) (is : order ≡ report.order) (lt : i < length order) where
    -- once the pairs of the next request are marked by the graph at its place, those of one request more are
    pub marked_next : graph ≡ graph_through script report empty_graph (take i order)
        → (get_or order i 0 < length report.replies → (place : ℕ) (pair : Pair) → slice_get report.pairs place ≡ Some pair → (pair.later ≡ get_or order i 0) ↔ Contains places place)
        → AreMarkedAt report.pairs graph (request_at script (get_or order i 0)) (reply_at report (get_or order i 0)) places new
        → AreMarkedTo script report (take i order) old → AreMarkedTo script report (take (i + 1) order) new
    marked_next graph_is exact marked so_far =
        let r : ℕ = get_or order i 0 in
        let once = listed_once listing i r (subst (λ (xs : List ℕ). slice_get xs i ≡ Some r) is (got_at order i r lt (get_or_default order i 0 r lt))) in
        let fresh : is_in r (take i order) ≡ false = subst (λ (xs : List ℕ). is_in r (take i xs) ≡ false) (sym is) once.0 in
        subst (λ (taken : List ℕ). AreMarkedTo script report taken new) (sym (take_more order i 0 lt))
        (marked_step graph places old new others size (take i order) (drop (suc i) order) r (sym is ∙ split_at order i lt) fresh graph_is (exact once.1) marked so_far)

  -- before the first request of the order
  pub marked_none : (marks : List Bool) → AreMarkedTo script report [] marks
  marked_none marks place pair at there = cc

  hold_last : (facts : Facts) (Last : Type 0) → AllHold (facts ++ Last ∷ []) → Last
  hold_last [] Last h = h.0
  hold_last (Fact ∷ facts) Last h = hold_last facts Last h.1

  -- at the end all pairs are marked, since each finished program is listed
  pub marked_all : AllHold (replies_clause script report) → AllHold (listing_clause report) → (marks : List Bool) → AreMarkedTo script report report.order marks → AreVisitsMarked script report marks
  marked_all holds listing marks so_far place pair at request reply at_r at_p = of_work request.work reply.state refl refl
    where
      listed : IsTrue (all_are_listed report)
      listed = hold_last _ _ listing

      there : IsTrue (is_committed_or_finished reply.state) → MarksVisit (graph_at_place script report pair.later) pair.vertex request.work reply.state (slice_index_or marks place false)
      there finished =
          let test = passes_at (λ (one : Reply). not (is_committed_or_finished one.state) || is_in one.request report.order) report.replies pair.later reply listed at_p in
          let in_order : IsTrue (is_in reply.request report.order) = elim (or_cases (not (is_committed_or_finished reply.state)) _ test) [ inl none ↦ absurd (both_ways _ (not-true _ none) finished) | inr is ↦ is ] in
          so_far place pair at (subst (λ n. IsTrue (is_in n report.order)) (is_numbered script report holds pair.later reply at_p) in_order) request reply at_r at_p

      of_state : (program : Program) (state : ReplyState) → request.work ≡ Look program → reply.state ≡ state → MarksVisit (graph_at_place script report pair.later) pair.vertex (Look program) state (slice_index_or marks place false)
      of_state program Unbegun is_w is = tt
      of_state program Begun is_w is = tt
      of_state program (Committed number answers) is_w is = tt
      of_state program (Conflict v newer) is_w is = tt
      of_state program (Refused op reason after) is_w is = tt
      of_state program (Finished answer) is_w is =
          subst (λ (s : ReplyState). MarksVisit (graph_at_place script report pair.later) pair.vertex (Look program) s (slice_index_or marks place false)) is
          (subst (λ (w : Work). MarksVisit (graph_at_place script report pair.later) pair.vertex w reply.state (slice_index_or marks place false)) is_w (there (ap is_committed_or_finished is)))

      of_work : (work : Work) (state : ReplyState) → request.work ≡ work → reply.state ≡ state → MarksVisit (graph_at_place script report pair.later) pair.vertex request.work reply.state (slice_index_or marks place false)
      of_work (Change ops) state is_w is = subst (λ (w : Work). MarksVisit (graph_at_place script report pair.later) pair.vertex w reply.state (slice_index_or marks place false)) (sym is_w) tt
      of_work (Look program) state is_w is =
          subst (λ (w : Work). MarksVisit (graph_at_place script report pair.later) pair.vertex w reply.state (slice_index_or marks place false)) (sym is_w)
          (subst (λ (s : ReplyState). MarksVisit (graph_at_place script report pair.later) pair.vertex (Look program) s (slice_index_or marks place false)) (sym is) (of_state program state is_w is))

-- The pairs by their later requests

-- the lists have the places of the first pairs, and no others
pub record HavePairsTo (count : ℕ) (bound : ℕ) (pairs : List Pair) (lists : List (List ℕ)) : Type 0 where
  pub size : length lists ≡ bound
  pub exact : (r place : ℕ) (pair : Pair) → r < bound → place < count → slice_get pairs place ≡ Some pair → (pair.later ≡ r) ↔ Contains (list_at lists r) place
  pub within : (r place : ℕ) → r < bound → Contains (list_at lists r) place → place < count

one_place : (b : Bool) (place k : ℕ) → Contains (cond b (place ∷ []) []) k → IsTrue b × (place ≡ k)
one_place true place k h = elim (has_read place [] k h) [ inl same ↦ (refl, same) | inr none ↦ absurd (has_none k none) ]
one_place false place k h = absurd (has_none k h)

place_put : (b : Bool) (place : ℕ) → IsTrue b → Contains (cond b (place ∷ []) []) place
place_put true place is = has_head place []
place_put false place is = cc

-- empty lists have none of the pairs
pub pairs_start : (bound : ℕ) (pairs : List Pair) (lists : List (List ℕ)) → length lists ≡ bound → ((n : ℕ) → list_at lists n ≡ []) → HavePairsTo 0 bound pairs lists
pairs_start bound pairs lists size empty = record {
  size = size;
  exact = λ r place pair below before at. absurd (omega (arith, before));
  within = λ r place below has. absurd (has_none place (subst (λ (ps : List ℕ). Contains ps place) (empty r) has));
}

-- with one more pair in the list of its later request, the lists have one pair more
pub pairs_more : (count bound : ℕ) (pairs : List Pair) (item : Pair) (lists next : List (List ℕ)) → ((pair : Pair) → slice_get pairs count ≡ Some pair → pair ≡ item) → length next ≡ length lists
    → ((n : ℕ) → n < length lists → list_at next n ≡ list_at lists n ++ cond (eqb item.later n) (count ∷ []) []) → HavePairsTo count bound pairs lists → HavePairsTo (count + 1) bound pairs next
pairs_more count bound pairs item lists next is_item same put h = record {
  size = same ∙ h.size;
  exact = λ r place pair below before at.
      let there = put r (omega (arith, below, h.size)) in
      elim (cases_lt place count) [
        | inl earlier ↦ (
          λ is. subst (λ (ps : List ℕ). Contains ps place) (sym there) (Contains-append_left (list_at lists r) _ place ((h.exact r place pair below earlier at).0 is)),
          λ has. elim (Contains-append_cases (list_at lists r) (cond (eqb item.later r) (count ∷ []) []) place (subst (λ (ps : List ℕ). Contains ps place) there has)) [
            | inl old ↦ (h.exact r place pair below earlier at).1 old
            | inr new ↦ absurd (omega (arith, (one_place (eqb item.later r) count place new).1, earlier))
          ],
        )
        | inr later ↦
            let here : place ≡ count = omega (arith, before, later) in
            let is_it : pair ≡ item = is_item pair (ap (slice_get pairs) (sym here) ∙ at) in (
              λ is.
                  subst (λ (ps : List ℕ). Contains ps place) (sym there)
                  (Contains-append_right (list_at lists r) (cond (eqb item.later r) (count ∷ []) []) place
                  (subst (λ k. Contains (cond (eqb item.later r) (count ∷ []) []) k) (sym here) (place_put (eqb item.later r) count (eq-eqb item.later r (ap (λ (p : Pair). p.later) (sym is_it) ∙ is))))),
              λ has. elim (Contains-append_cases (list_at lists r) (cond (eqb item.later r) (count ∷ []) []) place (subst (λ (ps : List ℕ). Contains ps place) there has)) [
                | inl old ↦ absurd (omega (arith, h.within r place below old, later))
                | inr new ↦ ap (λ (p : Pair). p.later) is_it ∙ eqb-true item.later r (one_place (eqb item.later r) count place new).0
              ],
            )
      ];
  within = λ r place below has.
      elim (Contains-append_cases (list_at lists r) (cond (eqb item.later r) (count ∷ []) []) place (subst (λ (ps : List ℕ). Contains ps place) (put r (omega (arith, below, h.size))) has)) [
        | inl old ↦ omega (arith, h.within r place below old)
        | inr new ↦ omega (arith, (one_place (eqb item.later r) count place new).1)
      ];
}

-- The marks of a program's pairs, place after place

module _ (pairs : List Pair) (visits : List Name) (start : List Bool) where
  -- the marks of these places say so, and the others are as at the start
  pub record AreMarkedAmong (places : List ℕ) (now : List Bool) : Type 0 where
    pub size : length now ≡ length start
    pub others : (k : ℕ) → ¬ Contains places k → slice_index_or now k false ≡ slice_index_or start k false
    pub marked : (k : ℕ) (pair : Pair) → Contains places k → k < length start → slice_get pairs k ≡ Some pair → slice_index_or now k false ≡ has_name visits pair.vertex

  -- before the first place no mark is set, and all are as at the start
  pub none_among : AreMarkedAmong [] start
  none_among = record { size = refl; others = λ k none. refl; marked = λ k pair has. absurd (has_none k has) }

  -- with the mark at the next place set by the visits, those of one place more are
  pub one_among : (places : List ℕ) (i p : ℕ) (old new : List Bool) → i < length places → get_or places i 0 ≡ p → length new ≡ length old
      → ((k : ℕ) → k ≢ p → slice_index_or new k false ≡ slice_index_or old k false)
      → ((pair : Pair) → p < length old → slice_get pairs p ≡ Some pair → slice_index_or new p false ≡ has_name visits pair.vertex)
      → AreMarkedAmong (take i places) old → AreMarkedAmong (take (i + 1) places) new
  one_among places i p old new lt is same others here so_far =
      let whole : take (i + 1) places ≡ take i places ++ p ∷ [] = take_more places i 0 lt ∙ ap (λ x. take i places ++ x ∷ []) is in
      record {
        size = same ∙ so_far.size;
        others = λ k none.
            let not_before : ¬ Contains (take i places) k = λ h. none (subst (λ (ps : List ℕ). Contains ps k) (sym whole) (Contains-append_left (take i places) (p ∷ []) k h)) in
            let not_this : k ≢ p = λ is_p. none (subst (λ (ps : List ℕ). Contains ps k) (sym whole) (subst (λ n. Contains (take i places ++ p ∷ []) n) (sym is_p) (has_last (take i places) p))) in
            others k not_this ∙ so_far.others k not_before;
        marked = λ k pair has below at.
            elim (cases_eq k p) [
              | inl is_p ↦ ap (λ n. slice_index_or new n false) is_p ∙ here pair (omega (arith, below, so_far.size, is_p)) (ap (slice_get pairs) (sym is_p) ∙ at)
              | inr other ↦
                  others k other
                  ∙ so_far.marked k pair (elim (Contains-push_cases (take i places) p k (subst (λ (ps : List ℕ). Contains ps k) whole has)) [
                    | inl before ↦ before
                    | inr this ↦ absurd (other (sym this))
                  ]) below at
            ];
      }

  -- once all places are gone through, the marks of all of them are set, and the others are as at the start
  pub all_among : (places : List ℕ) (n : ℕ) (now : List Bool) → length places ≤ n → AreMarkedAmong (take n places) now → AreMarkedAmong places now
  all_among places n now all so_far = subst (λ (ps : List ℕ). AreMarkedAmong ps now) (take_all n places all) so_far

marks_of_test : (b : Bool) (Fact : Type 0) → (IsTrue b ↔ Fact) → Marks b Fact
marks_of_test true Fact test = test.0 refl
marks_of_test false Fact test = λ fact. both_ways false refl (test.1 fact)

-- marks that say which vertices are among the visits
pub marked_by_visits : (pairs : List Pair) (graph : PlainGraph) (program : Program) (answer : Answer) (visits : List Name) → ((v : Name) → IsTrue (has_name visits v) ↔ IsVisited graph program v) → (places : List ℕ) (start marks : List Bool) → length marks ≡ length start
    → ((k : ℕ) (pair : Pair) → Contains places k → k < length start → slice_get pairs k ≡ Some pair → slice_index_or marks k false ≡ has_name visits pair.vertex) → AreMarkedBy pairs graph (Look program) (Finished answer) places marks
marked_by_visits pairs graph program answer visits exact places start marks size marked place pair has at within =
    subst (λ b. Marks b (IsVisited graph program pair.vertex)) (sym (marked place pair has (omega (arith, within, size)) at)) (marks_of_test (has_name visits pair.vertex) (IsVisited graph program pair.vertex) (exact pair.vertex))

-- What a program's replay says, with its graph as it was
pub with_graph : (result : Result Bool AllocError) (Said : Type 0) (graph now : PlainGraph) → now ≡ graph → IfOk result (λ holds. MatchBool holds Said (¬ Said)) → IfOk result (TellsOf Said now graph)
with_graph (Ok true) Said graph now same h = (h, same)
with_graph (Ok false) Said graph now same h = h
with_graph (Err error) Said graph now same h = tt
