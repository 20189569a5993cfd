-- The rows say exactly which begun request precedes which.
-- Used by `precedes` and `ways_of`.
use Rattle.std.proofs.Common.{◌≡◌, ℕ, suc, ◌-◌, Bool, false, not, ◌&&◌, IsTrue, List, [], ◌∷◌, length, eqb, Option, Some, None, inl, inr, refl, sym, ap, ◌∙◌, subst, arith}
use Rattle.std.specs.Prelude.{is_some}
use Rattle.std.proofs.lemmas.Bool.{both_ways, cases_Bool, cases_eq, false_from_ne_true, leb-true, ne_eqb, not_from_false}
use Rattle.vector_stamp.specs.declared.clock.Stamp.{Stamp}
use Rattle.vector_stamp.specs.Precedence.{precedes}
use Rattle.program_defs.specs.declared.script.Script.{Script}
use Rattle.report_rules.specs.declared.report.Pair.{Pair}
use Rattle.report_rules.specs.declared.report.Reply.{Reply}
use Rattle.report_rules.specs.declared.report.Report.{Report}
use Rattle.weave_data.specs.Facts.{AllHold}
use Rattle.report_rules.specs.RightReport.{replies_clause}
use Rattle.report_rules.specs.PrintedOrder.{TakesAll, begun_requests, without_request}
use Rattle.report_rules.specs.Lookups.{are_both, given_pairs, is_in, stamp_at, RequestPrecedes}
use Rattle.report_rules.proofs.Precedence.{IsDecided}
use Rattle.order_witness.specs.Begun.{is_request_before, request_precedes}
use Rattle.order_witness.specs.ByNumber.{list_at}
use Rattle.order_witness.specs.Heads.{AreEarlierEnds, AreEndsOf, item}
use Rattle.order_witness.specs.Preceding.{AreStepsOf, LeadsBySteps, direct_steps}
use Rattle.order_witness.specs.Rows.{HadTurn}
use Rattle.order_witness.proofs.Leading.{begun_there}
use Rattle.order_witness.proofs.Printing.{kept_in}
use Rattle.order_witness.proofs.Testing.{test_of, way_of}
use Rattle.run_judge.specs.declared.ways.Ways.{Ways}
use Rattle.run_judge.specs.Chains.{AreTurnChains, spot_at}
use Rattle.run_judge.specs.Rows.{AreTurnRows, is_counted}
use Rattle.run_judge.specs.Ways.{TellsWays}

-- the table has the earlier ends of the report's pairs, if it has those of its replies and pairs
pub ends_of_report : (report : Report) (replies : List Reply) (pairs : List Pair) (ends : List (List ℕ)) → replies ≡ report.replies → pairs ≡ report.pairs → AreEndsOf replies pairs ends → AreEarlierEnds report ends
ends_of_report report replies pairs ends same_replies same_pairs are =
    subst (λ (ps : List Pair). AreEndsOf report.replies ps ends) same_pairs (subst (λ (rs : List Reply). AreEndsOf rs pairs ends) same_replies are)

module _ (script : Script) (report : Report) (holds : AllHold (replies_clause script report)) where
  taken_each : (taken start : List ℕ) → TakesAll report start taken → (a : ℕ) → IsTrue (is_in a start) → HadTurn taken (length taken) a
  taken_each [] start h a there = absurd (let none : is_in a start ≡ false = ap (is_in a) h in both_ways _ none there)
  taken_each (r ∷ taken) start h a there =
      elim (cases_eq a r) [
        | inl same ↦ record { j = 0; within = omega arith; event = sym same }
        | inr other ↦
            let had = taken_each taken (without_request r start) h.1 a (kept_in (λ n. not (eqb n r)) start a there (not_from_false _ (ne_eqb a r other))) in
            record { j = suc had.j; within = (let less = had.within in omega (arith, less)); event = had.event }
      ]

  -- each begun request has a turn
  turn_of : (turns : List ℕ) → TakesAll report (begun_requests report) turns → (b : ℕ) (stamp : Stamp) → stamp_at report b ≡ Some stamp → HadTurn turns (length turns) b
  turn_of turns taken b stamp at = taken_each turns (begun_requests report) taken b (begun_there script report holds b (stamp, at))

  -- so chains and rows along the turns say what precedes each of them
  pub ways_tell : (ends : List (List ℕ)) → AreStepsOf report ends → (ways : Ways) → TakesAll report (begun_requests report) ways.turns.items
      → AreTurnChains (is_request_before report) ways.turns.items (length ways.turns.items) ways.chains.items ways.spots.items
      → AreTurnRows (LeadsBySteps (direct_steps report ends)) ways.chains.items ways.spots.items ways.turns.items (length ways.turns.items) ways.rows.items
      → TellsWays report ways
  ways_tell ends steps ways taken chains rows = record {
    placed = λ a stamp at. chains.placed a (turn_of ways.turns.items taken a stamp at);
    rows = λ b stamp at.
        let row = rows b (turn_of ways.turns.items taken b stamp at) in
        record {
          size = row.size;
          within = row.within;
          sound = λ c k there less. (steps (item (list_at ways.chains.items c) k) b).0 (row.sound c k there less);
          all = λ a h. row.all a ((steps a b).1 h);
        };
  }

module _ (decided : IsDecided) (report : Report) (ways : Ways) (tell : TellsWays report ways) (a b : ℕ) where
  abbrev counted : Bool
  counted = is_counted ways.spots.items (list_at ways.rows.items b) a

  of_begun : (x y : Stamp) → stamp_at report a ≡ Some x → stamp_at report b ≡ Some y → counted ≡ request_precedes report a b
  of_begun x y is_a is_b =
      let at = tell.placed a x is_a in
      let row = tell.rows b y is_b in
      let some = at.some in
      elim (cases_Bool counted) [
        | inl is ↦
            let least = leb-true (spot_at ways.spots.items a).place (item (list_at ways.rows.items b) (spot_at ways.spots.items a).chain) is in
            let way : RequestPrecedes report (item (list_at ways.chains.items (spot_at ways.spots.items a).chain) ((spot_at ways.spots.items a).place - 1)) b = row.sound (spot_at ways.spots.items a).chain ((spot_at ways.spots.items a).place - 1) at.there (omega (arith, some, least)) in
            is ∙ sym (test_of decided (given_pairs report) (stamp_at report a) (stamp_at report b) (subst (λ n. RequestPrecedes report n b) at.event way))
        | inr none ↦ none ∙ sym (false_from_ne_true _ (λ h. both_ways _ none (row.all a (way_of decided (given_pairs report) (stamp_at report a) (stamp_at report b) h))))
      ]

  of_options : (first second : Option Stamp) → stamp_at report a ≡ first → stamp_at report b ≡ second → (is_some first && (is_some second && counted)) ≡ are_both (precedes (given_pairs report)) first second
  of_options None second is_a is_b = refl
  of_options (Some x) None is_a is_b = refl
  of_options (Some x) (Some y) is_a is_b =
      of_begun x y is_a is_b ∙ ap (λ s. are_both (precedes (given_pairs report)) s (stamp_at report b)) is_a ∙ ap (λ s. are_both (precedes (given_pairs report)) (Some x) s) is_b

  -- what is counted of begun requests is what precedes
  pub counted_so : (is_some (stamp_at report a) && (is_some (stamp_at report b) && counted)) ≡ request_precedes report a b
  counted_so = of_options (stamp_at report a) (stamp_at report b) refl refl
