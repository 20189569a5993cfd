-- If the begun requests are taken in turn, each has one turn, after all that leads to it.
-- Used by `first_by_counts` and `leads`.
use Rattle.std.proofs.Common.{◌≡◌, ℕ, zero, suc, ◌-◌, ◌<◌, ◌≤◌, Bool, false, not, ◌||◌, IsTrue, List, [], ◌∷◌, length, Contains, eqb, Some, inl, inr, refl, sym, ap, ◌∙◌, subst, arith}
use Rattle.std.specs.Prelude.{nat_eq, nat_lt}
use Rattle.std.proofs.lemmas.Bool.{and_parts, and_from, both_ways, cases_Bool, cases_eq, false_from_ne_true, or_cases, or_left, or_right, not-true, not_from_false, eqb-true, eq-eqb, ne_eqb, ltb-true, lt-ltb}
use Rattle.std.proofs.lemmas.Option.{slice_get_within}
use Rattle.vector_stamp.specs.declared.clock.Stamp.{Stamp}
use Rattle.vector_stamp.specs.Precedence.{precedes}
use Rattle.program_defs.specs.declared.script.Script.{Script}
use Rattle.report_rules.specs.declared.report.Report.{Report}
use Rattle.weave_data.specs.Facts.{AllHold}
use Rattle.report_rules.specs.RightReport.{replies_clause}
use Rattle.report_rules.specs.PrintedOrder.{TakesAll, begun_requests, without_request}
use Rattle.report_rules.specs.Lookups.{is_in, stamp_at, given_pairs, RequestPrecedes}
use Rattle.report_rules.proofs.Precedence.{IsDecided}
use Rattle.order_witness.specs.declared.heads.Run.{Run}
use Rattle.order_witness.specs.Begun.{request_precedes, is_request_before, stamp_in}
use Rattle.order_witness.specs.ByNumber.{list_at}
use Rattle.order_witness.specs.Choices.{requests_begun}
use Rattle.order_witness.specs.Heads.{item, run_at, AreEarlierEnds, AreRising, IsReached}
use Rattle.order_witness.specs.Preceding.{LeadsBySteps, direct_steps, AreStepsOf}
use Rattle.order_witness.specs.Preceding.LeadsBySteps.{Directly, Through}
use Rattle.order_witness.specs.Rows.{HadTurn, AreTurns, AreLined, ArePlacesIn, RowsTell, IsCounted, CountsTell, is_below_last}
use Rattle.order_witness.proofs.BegunLaws.{AreClosed, both_there}
use Rattle.order_witness.proofs.Leading.{in_filter, begun_there}
use Rattle.order_witness.proofs.Strict.{IsStrict, before_trans}
use Rattle.order_witness.proofs.Printing.{IsBegun, all_at, all_begun, kept_in}
use Rattle.order_witness.proofs.Replying.{reply_of}
use Rattle.order_witness.proofs.Taking.{place_of}
use Rattle.order_witness.proofs.Testing.{way_of, test_of}
use Rattle.order_witness.proofs.Ways.{sound, steps_within}

module _ (report : Report) where
  -- what is taken was there
  taken_in : (taken start : List ℕ) → TakesAll report start taken → (k : ℕ) → k < length taken → IsTrue (is_in (item taken k) start)
  taken_in [] start h k within = absurd (omega (arith, within))
  taken_in (r ∷ taken) start h zero within = h.0.remains
  taken_in (r ∷ taken) start h (suc k) within = (in_filter (λ n. not (eqb n r)) start (item taken k) (taken_in taken (without_request r start) h.1 k (omega (arith, within)))).0

  -- and taken once
  taken_once : (taken start : List ℕ) → TakesAll report start taken → (j k : ℕ) → j < k → k < length taken → ¬ (item taken j ≡ item taken k)
  taken_once [] start h j k less within same = absurd (omega (arith, within))
  taken_once (r ∷ taken) start h j zero less within same = absurd (omega (arith, less))
  taken_once (r ∷ taken) start h zero (suc k) less within same =
      let there = in_filter (λ n. not (eqb n r)) start (item taken k) (taken_in taken (without_request r start) h.1 k (omega (arith, within))) in
      both_ways _ (not-true _ there.1) (eq-eqb (item taken k) r (sym same))
  taken_once (r ∷ taken) start h (suc j) (suc k) less within same = taken_once taken (without_request r start) h.1 j k (omega (arith, less)) (omega (arith, within)) same

  later_turn : (r : ℕ) (taken : List ℕ) (n a : ℕ) → HadTurn taken n a → HadTurn (r ∷ taken) (suc n) a
  later_turn r taken n a had = record { j = suc had.j; within = (let less = had.within in omega (arith, less)); event = had.event }

  -- each one that was there has a turn
  taken_each : (taken start : List ℕ) → TakesAll report start taken → (a : ℕ) → IsTrue (is_in a start) → HadTurn taken (length taken) a
  taken_each [] start h a there = absurd (let none : is_in a start ≡ false = ap (is_in a) h in both_ways _ none there)
  taken_each (r ∷ taken) start h a there =
      elim (cases_eq a r) [
        | inl same ↦ record { j = 0; within = omega arith; event = sym same }
        | inr other ↦ later_turn r taken (length taken) a (taken_each taken (without_request r start) h.1 a (kept_in (λ n. not (eqb n r)) start a there (not_from_false _ (ne_eqb a r other))))
      ]

  -- and one that precedes another has its turn before it
  taken_after : (taken start : List ℕ) → TakesAll report start taken → (k a : ℕ) → k < length taken → IsTrue (is_in a start) → RequestPrecedes report a (item taken k) → HadTurn taken k a
  taken_after [] start h k a within there leads = absurd (omega (arith, within))
  taken_after (r ∷ taken) start h zero a within there leads = absurd (all_at (λ other. ¬ RequestPrecedes report other r) start a h.0.free there leads)
  taken_after (r ∷ taken) start h (suc k) a within there leads =
      elim (cases_eq a r) [
        | inl same ↦ record { j = 0; within = omega arith; event = sym same }
        | inr other ↦ later_turn r taken k a (taken_after taken (without_request r start) h.1 k a (omega (arith, within)) (kept_in (λ n. not (eqb n r)) start a there (not_from_false _ (ne_eqb a r other))) leads)
      ]

module _ (script : Script) (report : Report) (holds : AllHold (replies_clause script report)) (befores : List (List ℕ)) (size : length befores ≡ length report.replies) (ends : AreEarlierEnds report befores) (all_closed : AreClosed) (steps : AreStepsOf report befores) where
  step_begun : (a b : ℕ) → IsTrue (direct_steps report befores a b) → IsBegun report a
  step_begun a b h = let there = both_there (precedes (given_pairs report)) (stamp_at report a) (stamp_at report b) (sound report befores size ends all_closed a b (Directly a b h)) in (there.x, there.first_is)

  module _ (turns : List ℕ) (taken : TakesAll report (begun_requests report) turns) where
    -- each request has one turn, after all that directly leads to it
    pub are_turns : AreTurns (direct_steps report befores) turns (length report.replies)
    are_turns =
        record {
          after = λ k a within h. taken_after report turns (begun_requests report) taken k a within (begun_there script report holds a (step_begun a (item turns k) h)) ((steps a (item turns k)).0 (Directly a (item turns k) h));
          apart = taken_once report turns (begun_requests report) taken;
          within = λ k within.
              let begun = all_at (IsBegun report) (requests_begun report.replies) (item turns k) (all_begun script report holds) (taken_in report turns (begun_requests report) taken k within) in
              let reply = reply_of script report holds (item turns k) begun.0 begun.1 in
              slice_get_within report.replies (item turns k) reply.0 reply.1;
        }

    -- each begun request has a turn
    had_turn : (b : ℕ) (stamp : Stamp) → stamp_at report b ≡ Some stamp → HadTurn turns (length turns) b
    had_turn b stamp at = taken_each report turns (begun_requests report) taken b (begun_there script report holds b (stamp, at))

    -- so the rows say exactly which request precedes a begun one
    pub counts_tell : (line : List ℕ) (runs : List Run) (rows : List (List ℕ)) → AreRising report line runs → RowsTell (direct_steps report befores) line runs turns rows → CountsTell report line runs rows
    counts_tell line runs rows rising tells a b stamp at = (
      λ found.
          let i : ℕ = found.0 in
          let top : ℕ = item (list_at rows b) i in
          let last : ℕ = item line (top - 1) in
          let parts = and_parts (nat_lt (run_at runs i).next top) (nat_eq a last || is_request_before report a last) found.2 in
          let some = ltb-true (run_at runs i).next top parts.0 in
          let counted : IsCounted line runs (list_at rows b) last = record { i = i; there = found.1; k = top - 1; from = omega (arith, some); below = omega (arith, some); event = refl } in
          let way : LeadsBySteps (direct_steps report befores) last b = (tells.tell last b (had_turn b stamp at)).0 counted in
          (steps a b).0 (elim (or_cases (nat_eq a last) _ parts.1) [
            | inl same ↦ subst (λ n. LeadsBySteps (direct_steps report befores) n b) (sym (eqb-true a last same)) way
            | inr before ↦ Through a last b (Directly a last (or_left (is_request_before report a last) _ before)) way
          ]),
      λ h.
          let c = (tells.tell a b (had_turn b stamp at)).1 ((steps a b).1 h) in
          let top : ℕ = item (list_at rows b) c.i in
          let last : ℕ = item line (top - 1) in
          let from = c.from in
          let below = c.below in
          let inside : top ≤ (run_at runs c.i).end = elim (tells.ended b c.i (had_turn b stamp at) c.there) [ inl none ↦ absurd (omega (arith, none, from, below)) | inr within ↦ within ] in
          let at_last : IsTrue (nat_eq a last || is_request_before report a last) = elim (cases_eq c.k (top - 1)) [
            | inl same ↦ or_left _ _ (eq-eqb a last (sym c.event ∙ ap (item line) same))
            | inr other ↦ or_right (nat_eq a last) _ (subst (λ n. IsTrue (is_request_before report n last)) c.event (rising c.i c.k (top - 1) c.there from (omega (arith, below, other)) (omega (arith, below, inside))))
          ] in
          (c.i, c.there, and_from _ _ (lt-ltb (run_at runs c.i).next top (omega (arith, from, below))) at_last),
    )

  -- the begun requests are in runs, each at its place, if they are in a line that is cut into runs that rise
  pub are_lined : IsStrict → (line : List ℕ) (runs : List Run) (places : List ℕ) → ((place : ℕ) (stamp : Stamp) → stamp_in report.replies place ≡ Some stamp → Contains line place) → AreRising report line runs → ((k : ℕ) → k < length line → IsReached runs k) → ArePlacesIn line (length report.replies) (length line) places → AreLined (is_request_before report) (list_at befores) line runs places
  are_lined strict line runs places has rising reached placed =
      record {
        transitive = before_trans strict report;
        rising = rising;
        placed = λ a b h.
            let begun = step_begun a b h in
            let at = place_of line a (has a begun.0 begun.1) in
            let is = placed at.0 at.1 (subst (λ n. n < length report.replies) (sym at.2) (steps_within report befores size ends a b h)) in
            (subst (λ n. item line (item places n) ≡ n) at.2 is.0, reached (item places a) (subst (λ n. item places n < length line) at.2 is.1));
      }

module _ (report : Report) (line : List ℕ) (runs : List Run) (rows : List (List ℕ)) (a b : ℕ) where
  -- the row of b counts a in this run
  abbrev pub is_below : ℕ → Bool
  is_below i = is_below_last report line (run_at runs i) (item (list_at rows b) i) a

  -- what a row counts precedes, and what precedes is counted
  pub leads_so : IsDecided → CountsTell report line runs rows → (stamp : Stamp) → stamp_at report b ≡ Some stamp → (result : Bool) → (IsTrue result → (i : ℕ) × (i < length runs) × IsTrue (is_below i)) → (result ≡ false → (i : ℕ) → i < length runs → is_below i ≡ false) → result ≡ request_precedes report a b
  leads_so decided tell stamp at result found none =
      elim (cases_Bool result) [
        | inl is ↦ is ∙ sym (test_of decided (given_pairs report) (stamp_at report a) (stamp_at report b) ((tell a b stamp at).0 (found is)))
        | inr not_so ↦ not_so ∙ sym (false_from_ne_true _ (λ h.
            let one = (tell a b stamp at).1 (way_of decided (given_pairs report) (stamp_at report a) (stamp_at report b) h) in
            both_ways _ (none not_so one.0 one.1) one.2))
      ]
