-- What the test of a refusal says, if its mark is right.
-- Used by `first_out_of_place`.
use Rattle.std.proofs.Common.{◌≡◌, ◌≤◌, ℕ, Bool, true, false, IsTrue, Some, refl, subst}
use Rattle.std.specs.Prelude.{nat_le}
use Rattle.std.proofs.lemmas.Bool.{and_parts, and_from, leb-true}
use Rattle.program_defs.specs.declared.script.Script.{Script}
use Rattle.report_rules.specs.declared.report.Report.{Report}
use Rattle.report_rules.specs.declared.report.ReplyState.{ReplyState}
use Rattle.report_rules.specs.declared.report.ReplyState.TheVariants.{Unbegun, Begun, Committed, Conflict, Refused, Finished}
use Rattle.report_rules.specs.Lookups.{commits}
use Rattle.report_rules.specs.Replay.{graph_of_commits}
use Rattle.report_rules.specs.RightReport.{IsRefusalInPlace, stands_among_commits}
use Rattle.order_witness.specs.Refusals.{IsRefusedSo, Marks, refused_after, is_refusal_in_place}

mark_holds : (mark : Bool) (Fact : Type 0) → mark ≡ true → Marks mark Fact → Fact
mark_holds mark Fact is h = subst (λ b. Marks b Fact) is h

mark_is : (mark : Bool) (Fact : Type 0) → Marks mark Fact → Fact → mark ≡ true
mark_is true Fact h fact = refl
mark_is false Fact h fact = absurd (h fact)

module _ (script : Script) (report : Report) (r : ℕ) (mark : Bool) where
  -- the mark of a reply refused after commits that are there says whether it is right to refuse it on their graph
  abbrev pub IsRight : ReplyState → Type 0
  IsRight state = (at : ℕ) → refused_after state ≡ Some at → at ≤ commits report → Marks mark (IsRefusedSo script (graph_of_commits script report at) r state)

  within : (at : ℕ) → IsTrue (stands_among_commits script report r at) → at ≤ commits report
  within at h = leb-true at (commits report) (and_parts (nat_le at (commits report)) _ h).0

  -- if the mark is right, a reply that passes the test of refusals is in place by the clause on them
  pub refusal_fact : (state : ReplyState) → IsRight state → IsTrue (is_refusal_in_place script report r state mark) → IsRefusalInPlace script report r state
  refusal_fact Unbegun right h = tt
  refusal_fact Begun right h = tt
  refusal_fact (Committed number answers) right h = tt
  refusal_fact (Conflict v newer) right h = tt
  refusal_fact (Refused op reason at) right h =
      let parts = and_parts (stands_among_commits script report r at) mark h in
      (parts.0, mark_holds mark _ parts.1 (right at refl (within at parts.0)))
  refusal_fact (Finished answer) right h = tt

  -- and one that is in place passes the test
  pub refusal_test : (state : ReplyState) → IsRight state → IsRefusalInPlace script report r state → IsTrue (is_refusal_in_place script report r state mark)
  refusal_test Unbegun right h = refl
  refusal_test Begun right h = refl
  refusal_test (Committed number answers) right h = refl
  refusal_test (Conflict v newer) right h = refl
  refusal_test (Refused op reason at) right h = and_from _ _ h.0 (mark_is mark _ (right at refl (within at h.0)) h.1)
  refusal_test (Finished answer) right h = refl
