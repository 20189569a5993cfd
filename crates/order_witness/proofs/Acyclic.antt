-- By the clauses on replies, listing, order and pairs no request precedes itself.
-- Used by `first_fault`.
use Rattle.std.proofs.Common.{◌≡◌, ℕ, Bool, true, false, ◌||◌, ◌&&◌, not, IsTrue, List, [], ◌∷◌, ◌++◌, length, eqb, Option, Some, None, ◌⊎◌, inl, inr, refl, sym, ◌∙◌, subst}
use Rattle.std.specs.Prelude.{slice_get, is_some}
use Rattle.std.proofs.lemmas.Bool.{and_parts, or_cases, eqb-true}
use Rattle.std.proofs.lemmas.List.{get_or_default}
use Rattle.vector_stamp.specs.declared.clock.Stamp.{Stamp}
use Rattle.vector_stamp.specs.Order.{stamp_before}
use Rattle.program_defs.specs.declared.script.Script.{Script}
use Rattle.report_rules.specs.declared.report.Report.{Report}
use Rattle.report_rules.specs.declared.report.Reply.{Reply}
use Rattle.report_rules.specs.declared.report.Pair.{Pair}
use Rattle.report_rules.specs.declared.report.ReplyState.{ReplyState}
use Rattle.report_rules.specs.declared.report.ReplyState.TheVariants.{Unbegun, Begun, Committed, Conflict, Refused, Finished}
use Rattle.weave_data.specs.Facts.{Facts, AllHold, facts_in_turn, facts_of_each}
use Rattle.report_rules.specs.RightReport.{IsListedInOrder, all_are_listed, IsPairInPlace, replies_clause, listing_clause, order_clause, pairs_clause}
use Rattle.report_rules.specs.Lookups.{is_in, is_some_and, are_both, stamp_at, committed_number, is_committed, is_committed_or_finished, may_be_listed, RequestPrecedes}
use Rattle.order_witness.specs.Begun.{is_request_before, is_pair_between, pairs_lead, NonePrecedesItself}
use Rattle.order_witness.specs.ByNumber.{list_at}
use Rattle.order_witness.specs.Heads.{AreEarlierEnds}
use Rattle.order_witness.specs.Preceding.{Test, IsTransitive, leads_directly, LeadsBySteps, AreStepsOf}
use Rattle.order_witness.specs.Preceding.LeadsBySteps.{Directly, Through}
use Rattle.order_witness.proofs.Leading.{in_read}
use Rattle.order_witness.proofs.Strict.{IsStrict, before_trans}
use Rattle.order_witness.proofs.Replying.{fact_of, is_numbered}
use Rattle.order_witness.proofs.Testing.{got_at, passes_at}
use Rattle.order_witness.proofs.Ways.{pair_of}

module _ (before : Test) (ends : ℕ → List ℕ) (transitive : IsTransitive before) (IsSource : ℕ → Type 0) (sources : (a b : ℕ) → IsTrue (is_in a (ends b)) → IsSource a) where
  abbrev direct : Test
  direct = leads_directly before ends

  -- a leads to b by stamps alone, or through the earlier end of a pair
  abbrev ThroughSource : ℕ → ℕ → Type 0
  ThroughSource a b = (e : ℕ) × IsSource e × ((a ≡ e) ⊎ LeadsBySteps direct a e) × LeadsBySteps direct e b

  by_source : (a b : ℕ) → LeadsBySteps direct a b → IsTrue (before a b) ⊎ ThroughSource a b
  by_source _ _ (Directly a b h) =
      elim (or_cases (before a b) _ h) [
        | inl stamp ↦ inl stamp
        | inr pair ↦ inr (a, sources a b pair, inl refl, Directly a b h)
      ]
  by_source _ _ (Through a b c first then) =
      elim (by_source a b first) [
        | inr some ↦ inr (some.0, some.1, some.2, Through some.0 b c some.3 then)
        | inl stamp ↦ elim (by_source b c then) [
          | inl next ↦ inl (transitive a b c stamp next)
          | inr some ↦ inr (some.0, some.1, inr (elim some.2 [ inl here ↦ subst (LeadsBySteps direct a) here first | inr on ↦ Through a b some.0 first on ]), some.3)
        ]
      ]

  -- if no earlier end of a pair precedes itself, nothing does
  pub no_cycle : ((a : ℕ) → ¬ IsTrue (before a a)) → ((e : ℕ) → IsSource e → ¬ LeadsBySteps direct e e) → (a : ℕ) → ¬ LeadsBySteps direct a a
  no_cycle irreflexive none a h =
      elim (by_source a a h) [
        | inl stamp ↦ irreflexive a stamp
        | inr some ↦ none some.0 some.1 (elim some.2 [
          | inl here ↦ subst (LeadsBySteps direct some.0) here some.3
          | inr on ↦ Through some.0 a some.0 some.3 on
        ])
      ]

-- facts at the end of others
hold_last : (facts more : Facts) → AllHold (facts ++ more) → AllHold more
hold_last [] more h = h
hold_last (Fact ∷ facts) more h = hold_last facts more h.1

may_list : (state : ReplyState) → IsTrue (is_some (committed_number state)) → IsTrue (is_committed_or_finished state)
may_list Unbegun h = cc
may_list Begun h = cc
may_list (Committed number answers) h = refl
may_list (Conflict v newer) h = cc
may_list (Refused op reason at) h = cc
may_list (Finished answer) h = refl

committed_reply : (o : Option Reply) → IsTrue (is_some_and (λ (reply : Reply). is_some (committed_number reply.state)) o) → (reply : Reply) × (o ≡ Some reply) × IsTrue (is_some (committed_number reply.state))
committed_reply None h = cc
committed_reply (Some reply) h = (reply, refl, h)

itself : (strict : IsStrict) (o : Option Stamp) → ¬ IsTrue (are_both stamp_before o o)
itself strict None h = cc
itself strict (Some s) h = strict.irreflexive s h

module _ (script : Script) (report : Report) (replies : AllHold (replies_clause script report)) (listing : AllHold (listing_clause report)) (order : AllHold (order_clause script report)) (pairs : AllHold (pairs_clause script report)) where
  source_of : (ps : List Pair) → AllHold (facts_of_each (IsPairInPlace script report) ps) → (a b : ℕ) → IsTrue (pairs_lead report.replies ps a b) → IsTrue (is_committed report a)
  source_of [] h a b leads = cc
  source_of (pair ∷ ps) h a b leads =
      elim (or_cases (is_pair_between report.replies a b pair) _ leads) [
        | inr later ↦ source_of ps h.1 a b later
        | inl here ↦
            let ends = and_parts (eqb a pair.earlier && eqb b pair.later) _ here in
            let is : a ≡ pair.earlier = eqb-true a pair.earlier (and_parts (eqb a pair.earlier) (eqb b pair.later) ends.0).0 in
            subst (λ n. IsTrue (is_committed report n)) (sym is) (and_parts (is_committed report pair.earlier) _ h.0.1).0
      ]

  listed_so : (e : ℕ) → IsTrue (is_committed report e) → IsTrue (is_in e report.order)
  listed_so e h =
      let found = committed_reply (slice_get report.replies e) h in
      let ends : AllHold (IsTrue (all_are_listed report) ∷ []) = hold_last (facts_in_turn (λ before r. IsTrue (not (is_in r before) && may_be_listed report r)) report.order) (IsTrue (all_are_listed report) ∷ []) listing in
      let test = passes_at (λ (reply : Reply). not (is_committed_or_finished reply.state) || is_in reply.request report.order) report.replies e found.0 ends.0 found.1 in
      let there : IsTrue (is_in found.0.request report.order) = from_or (is_committed_or_finished found.0.state) (is_in found.0.request report.order) (may_list found.0.state found.2) test in
      subst (λ n. IsTrue (is_in n report.order)) (is_numbered script report replies e found.0 found.1) there
    where
      from_or : (p q : Bool) → IsTrue p → IsTrue (not p || q) → IsTrue q
      from_or true q h g = g
      from_or false q h g = cc

  never_itself : (e : ℕ) → IsTrue (is_committed report e) → ¬ RequestPrecedes report e e
  never_itself e h =
      let at = in_read e report.order (listed_so e h) in
      let fact = fact_of (IsListedInOrder script report) [] report.order at.0 e order (got_at report.order at.0 e at.1 (sym at.2 ∙ get_or_default report.order at.0 0 e at.1)) in
      fact.0.0

  -- if these clauses hold, no request precedes itself
  pub none_itself : IsStrict → (befores : List (List ℕ)) (size : length befores ≡ length report.replies) (ends : AreEarlierEnds report befores) → AreStepsOf report befores → NonePrecedesItself report
  none_itself strict befores size ends steps r h =
      no_cycle (is_request_before report) (list_at befores) (before_trans strict report) (λ e. IsTrue (is_committed report e))
      (λ a b there. source_of report.pairs pairs a b (pair_of report befores size ends a b there))
      (λ a before. itself strict (stamp_at report a) before)
      (λ e committed way. never_itself e committed ((steps e e).0 way))
      r ((steps r r).1 h)
