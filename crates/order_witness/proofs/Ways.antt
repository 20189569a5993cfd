-- The direct steps of a report, by stamps and by pairs, lead from one request to another exactly if it precedes it.
-- Used by `chain_between`, `first_fault`, Acyclic, Nearest and TakenTurns.
use Rattle.std.proofs.Common.{◌≡◌, ℕ, ◌<◌, IsTrue, List, [], ◌∷◌, length, Contains, Some, ◌⊎◌, inl, inr, refl, sym, ap, ◌∙◌, subst, arith}
use Rattle.std.proofs.lemmas.Bool.{both_ways, cases_lt, or_cases, or_left, or_right}
use Rattle.std.proofs.lemmas.List.{get_or_past}
use Rattle.std.proofs.lemmas.Option.{slice_get_within}
use Rattle.vector_stamp.specs.declared.clock.Stamp.{Stamp}
use Rattle.vector_stamp.specs.Order.{stamp_before}
use Rattle.vector_stamp.specs.Precedence.{GivenPair, precedes}
use Rattle.weave_data.proofs.Members.{has_head, has_tail}
use Rattle.program_defs.specs.declared.script.Script.{Script}
use Rattle.report_rules.specs.declared.report.Report.{Report}
use Rattle.report_rules.specs.Lookups.{is_in, stamp_at, given_pairs}
use Rattle.report_rules.proofs.Precedence.{IsDecided}
use Rattle.order_witness.specs.declared.heads.Run.{Run}
use Rattle.order_witness.specs.Begun.{request_precedes, StampsDiffer, is_request_before, stamp_in, pairs_lead}
use Rattle.order_witness.specs.ByNumber.{list_at}
use Rattle.order_witness.specs.Heads.{AreEarlierEnds, AreRising, IsReached}
use Rattle.order_witness.specs.Marks.{AreRuns}
use Rattle.order_witness.specs.Preceding.{LeadsBySteps, direct_steps, AreStepsOf}
use Rattle.order_witness.specs.Preceding.LeadsBySteps.{Directly, Through}
use Rattle.order_witness.proofs.BegunLaws.{AreClosed, OneMoreJoins, AreJoined, both_there, there_both, joined_given, given_joined, trans}
use Rattle.order_witness.proofs.Strict.{IsStrict, before_trans}
use Rattle.order_witness.proofs.RisingSteps.{reply_there}
use Rattle.order_witness.proofs.Taking.{place_of}
use Rattle.order_witness.proofs.Testing.{way, tested}

module _ (report : Report) (befores : List (List ℕ)) (size : length befores ≡ length report.replies) (ends : AreEarlierEnds report befores) where
  has_reply : (e b : ℕ) → IsTrue (is_in e (list_at befores b)) → b < length report.replies
  has_reply e b h =
      elim (cases_lt b (length befores)) [
        | inl below ↦ omega (arith, below, size)
        | inr past ↦ absurd (both_ways _ (ap (is_in e) (get_or_past befores b [] past)) h)
      ]

  -- the earlier end of a pair is joined to the later one
  pub pair_of : (e b : ℕ) → IsTrue (is_in e (list_at befores b)) → IsTrue (pairs_lead report.replies report.pairs e b)
  pair_of e b h = sym (ends e b (has_reply e b h)) ∙ h

  -- the earlier end of a pair leads directly to the later one
  pub of_pair : (a b : ℕ) → IsTrue (pairs_lead report.replies report.pairs a b) → IsTrue (direct_steps report befores a b)
  of_pair a b h =
      let there = (joined_given report report.pairs a b h).0 in
      let reply = reply_there report.replies b there.y there.second_is in
      or_right (is_request_before report a b) _ (ends a b (slice_get_within report.replies b reply.0 reply.1) ∙ h)

  -- what leads directly to another is begun, and so is that one
  pub steps_within : (a b : ℕ) → IsTrue (direct_steps report befores a b) → a < length report.replies
  steps_within a b h =
      elim (or_cases (is_request_before report a b) _ h) [
        | inl stamp ↦
            let there = both_there stamp_before (stamp_at report a) (stamp_at report b) stamp in
            let reply = reply_there report.replies a there.x there.first_is in
            slice_get_within report.replies a reply.0 reply.1
        | inr pair ↦
            let there = (joined_given report report.pairs a b (pair_of a b pair)).0 in
            let reply = reply_there report.replies a there.x there.first_is in
            slice_get_within report.replies a reply.0 reply.1
      ]

  -- the begun requests are in runs for a walk, if they are in a line that is cut into runs that rise
  pub are_runs : IsStrict → (line : List ℕ) (runs : List Run) → ((place : ℕ) (stamp : Stamp) → stamp_in report.replies place ≡ Some stamp → Contains line place) → AreRising report line runs → ((k : ℕ) → k < length line → IsReached runs k) → AreRuns (is_request_before report) (list_at befores) line runs (length report.replies)
  are_runs strict line runs has rising reached =
      record {
        transitive = before_trans strict report;
        rising = rising;
        found = λ a b stamp.
            let there = both_there stamp_before (stamp_at report a) (stamp_at report b) stamp in
            let at = place_of line a (has a there.x there.first_is) in
            (at.0, reached at.0 at.1, at.2);
        within = steps_within;
      }

  module _ (all_closed : AreClosed) where
    -- what leads to a request by such steps precedes it
    pub sound : (a b : ℕ) → LeadsBySteps (direct_steps report befores) a b → IsTrue (request_precedes report a b)
    sound _ _ (Directly a b h) =
        elim (or_cases (is_request_before report a b) _ h) [
          | inl stamp ↦
              let there = both_there stamp_before (stamp_at report a) (stamp_at report b) stamp in
              there_both (precedes (given_pairs report)) _ _ there.x there.y there.first_is there.second_is ((all_closed (given_pairs report)).has_stamps there.x there.y there.passes)
          | inr pair ↦
              let found = joined_given report report.pairs a b (pair_of a b pair) in
              let there = found.0 in
              there_both (precedes (given_pairs report)) _ _ there.x there.y there.first_is there.second_is ((all_closed (given_pairs report)).has_pairs there.x there.y (found.1 there.x there.y there.first_is there.second_is))
        ]
    sound _ _ (Through a b c first then) = trans report all_closed a b c (sound a b first) (sound b c then)

    module _ (one_more : OneMoreJoins) (differ : StampsDiffer report) where
      -- the stamps of a step by these pairs, and what leads there
      abbrev AllLead : List GivenPair → Type 0
      AllLead ps = (a b : ℕ) (x y : Stamp) → stamp_at report a ≡ Some x → stamp_at report b ≡ Some y → IsTrue (precedes ps x y) → LeadsBySteps (direct_steps report befores) a b

      by_stamps : AllLead []
      by_stamps a b x y is_a is_b h = Directly a b (or_left _ _ (there_both stamp_before (stamp_at report a) (stamp_at report b) x y is_a is_b h))

      -- to a stamp, or it itself
      to_end : (ps : List GivenPair) → AllLead ps → (a e : ℕ) (x s : Stamp) → stamp_at report a ≡ Some x → stamp_at report e ≡ Some s → (x ≡ s) ⊎ IsTrue (precedes ps x s) → (b : ℕ) → LeadsBySteps (direct_steps report befores) e b → LeadsBySteps (direct_steps report befores) a b
      to_end ps known a e x s is_a is_e h b on =
          elim h [
            | inl same ↦ subst (λ r. LeadsBySteps (direct_steps report befores) r b) (differ e a s is_e (is_a ∙ ap Some same)) on
            | inr before ↦ Through a e b (known a e x s is_a is_e before) on
          ]

      from_end : (ps : List GivenPair) → AllLead ps → (l b : ℕ) (t y : Stamp) → stamp_at report l ≡ Some t → stamp_at report b ≡ Some y → (t ≡ y) ⊎ IsTrue (precedes ps t y) → (a : ℕ) → LeadsBySteps (direct_steps report befores) a l → LeadsBySteps (direct_steps report befores) a b
      from_end ps known l b t y is_l is_b h a on =
          elim h [
            | inl same ↦ subst (λ r. LeadsBySteps (direct_steps report befores) a r) (differ l b y (is_l ∙ ap Some same) is_b) on
            | inr after ↦ Through a l b on (known l b t y is_l is_b after)
          ]

      all_lead : (ps : List GivenPair) → ((x y : Stamp) → Contains ps (x, y) → AreJoined report report.pairs x y) → AllLead ps
      all_lead [] joined a b x y is_a is_b h = by_stamps a b x y is_a is_b h
      all_lead (p ∷ ps) joined a b x y is_a is_b h =
          let known = all_lead ps (λ s t there. joined s t (has_tail p ps (s, t) there)) in
          elim (one_more p ps x y h) [
            | inl before ↦ known a b x y is_a is_b before
            | inr via ↦
                let ends_of = joined p.0 p.1 (has_head p ps) in
                let step : LeadsBySteps (direct_steps report befores) ends_of.earlier ends_of.later = Directly ends_of.earlier ends_of.later (of_pair ends_of.earlier ends_of.later ends_of.joined) in
                to_end ps known a ends_of.earlier x p.0 is_a ends_of.earlier_is via.0 b (from_end ps known ends_of.later b p.1 y ends_of.later_is is_b via.1 ends_of.earlier step)
          ]

      complete : (a b : ℕ) → IsTrue (request_precedes report a b) → LeadsBySteps (direct_steps report befores) a b
      complete a b h =
          let there = both_there (precedes (given_pairs report)) (stamp_at report a) (stamp_at report b) h in
          all_lead (given_pairs report) (given_joined report report.pairs) a b there.x there.y there.first_is there.second_is there.passes

      -- if stamps differ, the steps lead from a to b exactly if request a precedes b
      pub are_steps : IsDecided → (script : Script) → AreStepsOf report befores
      are_steps decided script a b = (
        λ h. way decided script report (request_precedes report) (λ x y. refl) a b (sound a b h),
        λ h. complete a b (tested decided script report (request_precedes report) (λ x y. refl) a b h),
      )
