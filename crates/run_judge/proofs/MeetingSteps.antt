-- A request of the order is compared, noted and replayed: then what is kept goes on, or it is the first that meets an
-- earlier one without precedence.
-- Used by `first_fault`.
use Rattle.std.proofs.Common.{◌≡◌, ℕ, zero, suc, ◌+◌, ◌-◌, ◌<◌, false, not, ◌&&◌, IsTrue, List, [], ◌∷◌, ◌++◌, length, take, drop, get_or, Option, Some, None, inl, inr, refl, sym, ap, ◌∙◌, subst, arith}
use Rattle.std.specs.Prelude.{◌↔◌, IsSomeAnd, nat_eq, slice_get}
use Rattle.std.proofs.lemmas.Bool.{and_parts, both_ways, or_cases, or_left, or_right}
use Rattle.std.proofs.lemmas.List.{get_or_default, take-append-drop, take_more}
use Rattle.std.proofs.lemmas.Option.{slice_get_read}
use Rattle.weave_data.specs.declared.name.Name.{Name}
use Rattle.weave_data.specs.Facts.{AllHold, BreaksFirstAt, facts_in_turn}
use Rattle.weave_data.proofs.FactsLaws.{breaks_at, holds_step}
use Rattle.graph_ops.specs.PlainGraph.{PlainGraph, empty_graph}
use Rattle.program_defs.specs.declared.script.Request.{Request}
use Rattle.program_defs.specs.declared.script.Script.{Script}
use Rattle.program_defs.specs.declared.script.Work.{Work}
use Rattle.program_defs.specs.declared.script.Work.TheVariants.{Change, Look}
use Rattle.program_defs.specs.Visits.{IsVisited}
use Rattle.program_defs.specs.Works.{is_change}
use Rattle.report_rules.specs.declared.report.Report.{Report}
use Rattle.report_rules.specs.RightReport.{IsListedInOrder, all_are_listed, listing_clause, order_clause}
use Rattle.report_rules.specs.Lookups.{RequestPrecedes, is_in, is_some_and, may_be_listed, request_at}
use Rattle.report_rules.specs.Meetings.{RequestIsAt, WorkIsAt, is_transaction}
use Rattle.report_rules.specs.Replay.{graph_after, graph_at_place, graph_before}
use Rattle.report_rules.proofs.Precedence.{IsDecided}
use Rattle.order_witness.proofs.BegunLaws.{AreClosed}
use Rattle.order_witness.proofs.Leading.{item_in}
use Rattle.order_witness.proofs.Replays.{graph_here, graph_through}
use Rattle.order_witness.proofs.Replying.{fact_of, hold_front}
use Rattle.run_judge.specs.declared.vertices.Unordered.{Unordered}
use Rattle.run_judge.specs.declared.vertices.Vertices.{Vertices}
use Rattle.run_judge.specs.Meetings.{MeetUnordered, MeetsRequest, MeetsIf, MeetsWork}
use Rattle.run_judge.specs.Promises.{IsOrderedWhereMet, meetings_clause}
use Rattle.run_judge.specs.Vertices.{AreKeptAtAll, IsComparedAt, IsOn, last_transaction, later_programs}
use Rattle.run_judge.proofs.MeetingLaws.{kept_more, not_so, ordered, precedes_so, unordered}

in_taken : (e n : ℕ) (xs : List ℕ) → IsTrue (is_in e (take n xs)) → IsTrue (is_in e xs)
in_taken e zero xs h = absurd (both_ways false refl h)
in_taken e (suc n) [] h = h
in_taken e (suc n) (x ∷ xs) h = elim (or_cases (nat_eq e x) _ h) [ inl here ↦ or_left _ _ here | inr later ↦ or_right (nat_eq e x) _ (in_taken e n xs later) ]

drop_at : (xs : List ℕ) (i : ℕ) → i < length xs → drop i xs ≡ get_or xs i 0 ∷ drop (suc i) xs
drop_at [] i within = absurd (omega (arith, within))
drop_at (x ∷ xs) zero within = refl
drop_at (x ∷ xs) (suc i) within = drop_at xs i (omega (arith, within))

some_none : (u : Unordered) → ¬ (Some u ≡ None)
some_none u e = cc

-- the graph that one request more of an order leaves
next_graph : (script : Script) (report : Report) (graph : PlainGraph) (order : List ℕ) (i : ℕ) → i < length order → graph_through script report graph (take (suc i) order) ≡ graph_after (graph_through script report graph (take i order)) (request_at script (get_or order i 0))
next_graph script report graph [] i within = absurd (omega (arith, within))
next_graph script report graph (x ∷ order) zero within = refl
next_graph script report graph (x ∷ order) (suc i) within = next_graph script report (graph_after graph (request_at script x)) order i (omega (arith, within))

module _ (decided : IsDecided) (all_closed : AreClosed) (script : Script) (report : Report) (listing : AllHold (listing_clause report)) (order : AllHold (order_clause script report)) (place : ℕ) (within : place < length report.order) where
  abbrev pub r : ℕ
  r = get_or report.order place 0

  abbrev pub before : List ℕ
  before = take place report.order

  at_place : slice_get report.order place ≡ Some r
  at_place = slice_get_read report.order (length report.order) place r refl within (get_or_default report.order place 0 r within)

  listed_new : IsTrue (not (is_in r before) && may_be_listed report r)
  listed_new = fact_of (λ front x. IsTrue (not (is_in x front) && may_be_listed report x)) [] report.order place r (hold_front (facts_in_turn (λ front x. IsTrue (not (is_in x front) && may_be_listed report x)) report.order) (IsTrue (all_are_listed report) ∷ []) listing) at_place

  is_new : IsTrue (not (is_in r before))
  is_new = (and_parts (not (is_in r before)) (may_be_listed report r) listed_new).0

  in_order : IsListedInOrder script report before r
  in_order = fact_of (IsListedInOrder script report) [] report.order place r order at_place

  split : report.order ≡ before ++ r ∷ drop (suc place) report.order
  split = sym (take-append-drop place report.order) ∙ ap (λ (xs : List ℕ). before ++ xs) (drop_at report.order place within)

  graph_is_here : graph_at_place script report r ≡ graph_through script report empty_graph before
  graph_is_here = ap (graph_before r empty_graph script) split ∙ graph_here script report r empty_graph before (drop (suc place) report.order) (not_so (is_in r before) is_new)

  module _ (graph after : PlainGraph) (old next : Vertices) (facts : AllHold (facts_in_turn (IsOrderedWhereMet script report) before)) (kept : AreKeptAtAll script report before old) (graph_is : graph ≡ graph_through script report empty_graph before) where
    on_so : (v : Name) (work : Work) → IsOn graph v work ↔ WorkIsAt script report v r work
    on_so v (Change ops) = (λ h. h, λ h. h)
    on_so v (Look program) =
        let same : graph ≡ graph_at_place script report r = graph_is ∙ sym graph_is_here in
        (λ h. subst (λ g. IsVisited g program v) same h, λ h. subst (λ g. IsVisited g program v) (sym same) h)

    -- where a request of the script is
    there_so : (request : Request) → request_at script r ≡ Some request → (v : Name) → IsOn graph v request.work ↔ RequestIsAt script report v r
    there_so request is v = (
      λ h. subst (λ o. IsSomeAnd o (λ (x : Request). WorkIsAt script report v r x.work)) (sym is) ((on_so v request.work).0 h),
      λ h. (on_so v request.work).1 (subst (λ o. IsSomeAnd o (λ (x : Request). WorkIsAt script report v r x.work)) is h),
    )

    nowhere : request_at script r ≡ None → (v : Name) → ¬ RequestIsAt script report v r
    nowhere none v h = subst (λ o. IsSomeAnd o (λ (x : Request). WorkIsAt script report v r x.work)) none h

    changes_so : (request : Request) → request_at script r ≡ Some request → is_transaction script r ≡ is_change request.work
    changes_so request is = ap (λ o. is_some_and (λ (x : Request). is_change x.work) o) is

    -- What goes on

    pub record GoesOn : Type 0 where
      pub facts_hold : AllHold (facts_in_turn (IsOrderedWhereMet script report) (take (place + 1) report.order))
      pub kept_on : AreKeptAtAll script report (take (place + 1) report.order) next
      pub graph_on : after ≡ graph_through script report empty_graph (take (place + 1) report.order)

    goes_on : IsOrderedWhereMet script report before r → AreKeptAtAll script report (before ++ r ∷ []) next → after ≡ graph_after graph (request_at script r) → GoesOn
    goes_on fact keeps is =
        let same : place + 1 ≡ suc place = omega arith in
        record {
          facts_hold = holds_step (IsOrderedWhereMet script report) report.order place 0 within facts fact;
          kept_on = subst (λ (xs : List ℕ). AreKeptAtAll script report xs next) (sym (take_more report.order place 0 within)) keeps;
          graph_on = is ∙ ap (λ g. graph_after g (request_at script r)) graph_is ∙ sym (next_graph script report empty_graph report.order place within) ∙ ap (λ n. graph_through script report empty_graph (take n report.order)) (sym same);
        }

    of_none : request_at script r ≡ None → (after ≡ graph) × (next ≡ old) → GoesOn
    of_none none h =
        let changes : is_transaction script r ≡ false = ap (λ o. is_some_and (λ (x : Request). is_change x.work) o) none in
        goes_on (λ v e there m. absurd (nowhere none v m.second_is_there))
        (kept_more decided all_closed script report r before old kept false changes (λ v e at compared. absurd (nowhere none v at)) next (λ v. RequestIsAt script report v r) (λ v. (λ h. h, λ h. h))
        (λ v. inr (nowhere none v, ap (λ (x : Vertices). last_transaction x v) h.1, λ e. ap (λ (x : Vertices). is_in e (later_programs x v)) h.1)))
        (h.0 ∙ ap (graph_after graph) (sym none))

    of_work : (request : Request) → request_at script r ≡ Some request → MeetsWork report request r graph after old next None → GoesOn
    of_work request is m =
        let there = there_so request is in
        let all : (v : Name) (e : ℕ) → RequestIsAt script report v r → IsComparedAt old v (is_change request.work) e → RequestPrecedes report e r =
        λ v e at compared. precedes_so decided all_closed script report e r (m.compared v e ((there v).1 at) compared) in
        goes_on (ordered decided all_closed script report r before old kept (is_change request.work) (changes_so request is) all)
        (kept_more decided all_closed script report r before old kept (is_change request.work) (changes_so request is) all next (λ v. IsOn graph v request.work) there m.noted)
        (m.graph_is ∙ ap (graph_after graph) (sym is))

    -- if the request meets no earlier one without precedence, what is kept goes on
    pub none_found : MeetsRequest script report r graph after old next None → GoesOn
    none_found m = of_request (request_at script r) refl m
      where
        of_request : (o : Option Request) → request_at script r ≡ o → MeetsIf report o r graph after old next None → GoesOn
        of_request None is h = of_none is (h.1, h.2)
        of_request (Some request) is h = of_work request is h

    -- the next request is the first one that meets an earlier one without precedence, and this is one
    abbrev pub IsFirstBreach : Unordered → Type 0
    IsFirstBreach found =
        BreaksFirstAt (meetings_clause script report) (place + 1)
        × ((x : ℕ) × (slice_get report.order ((place + 1) - 1) ≡ Some x)
        × IsTrue (is_in found.earlier (take ((place + 1) - 1) report.order))
        × MeetUnordered script report found.vertex found.earlier x)

    -- and else it is the first one that does
    pub one_found : (found : Unordered) → MeetsRequest script report r graph after old next (Some found) → IsFirstBreach found
    one_found found m = of_request (request_at script r) refl m
      where
        of_request : (o : Option Request) → request_at script r ≡ o → MeetsIf report o r graph after old next (Some found) → IsFirstBreach found
        of_request None is h = absurd (some_none found h.0)
        of_request (Some request) is h =
            let said = h.compared in
            let here : place ≡ (place + 1) - 1 = omega arith in
            let both = unordered decided all_closed script report r before old kept (is_change request.work) (changes_so request is) is_new (item_in report.order place within) (λ e. in_taken e place report.order) in_order found.vertex found.earlier ((there_so request is found.vertex).0 said.0) said.1 said.2 in (
              breaks_at (IsOrderedWhereMet script report) report.order place 0 within facts
                  (λ fact. elim (fact found.vertex found.earlier both.0 both.1.meet) [ inl first ↦ both.1.not_first first | inr second ↦ both.1.not_second second ]),
              (
                r,
                ap (slice_get report.order) (sym here) ∙ at_place,
                subst (λ n. IsTrue (is_in found.earlier (take n report.order))) here both.0,
                both.1,
              ),
            )
