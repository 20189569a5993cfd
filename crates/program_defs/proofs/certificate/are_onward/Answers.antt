use Rattle.std.proofs.Common.{◌≡◌, ℕ, ◌+◌, ◌∙◌, true≢false, sym, subst, Some, List, slice_get, arith, inl, inr}
use Rattle.std.proofs.lemmas.Bool.{both_ways, cases_eq}
use Rattle.std.proofs.lemmas.Option.{none-some, same_Some}
use Rattle.program_defs.specs.Labels.{label_in, row_in, IsLabelledWithin}
use Rattle.program_defs.proofs.CertificateSteps.{onward-row, row-onward}
use Rattle.program_defs.proofs.ParentSteps.{row-of}
use Rattle.program_defs.proofs.certificate.are_onward.Goals as goal
use Rattle.program_defs.proofs.certificate.are_onward.Goals.{in-Some+else-not-is_row_onward, in_default}

pub returns-then-not-is_row_onward : goal.returns-then-not-is_row_onward
returns-then-not-is_row_onward c = (
  λ h. absurd (true≢false (sym h)),
  λ all.
      let row = row-of c.args.rows.now c.loop-u.u c.index-rows-u.result c.as_slice.result.now (omega (arith, c.loop-u.auto.u-end, c.loop-u-test.true)) c.index-rows-u.is c.as_slice.ensures in
      absurd (both_ways _ (sym c.is_row_onward.ensures ∙ c.if-not-is_row_onward.true)
      (onward-row (label_in c.args.labels.now) c.in-Some.start c.as_slice.result.now (λ k w p e. all c.loop-u.u c.in-Some.start k w p (sym c.label_of.ensures ∙ c.in-Some.is) (subst (λ (es : List (ℕ × ℕ)). slice_get es k ≡ Some (w, p)) (sym row) e)))),
)

pub loop-u-preserved : goal.loop-u-preserved
loop-u-preserved c = λ u d k w p below e edge.
    elim (cases_eq u c.loop-u.u) [
      | inr other ↦ c.loop-u.invariant u d k w p (omega (arith, below, other)) e edge
      | inl same ↦ (
          let label : label_in c.args.labels.now c.loop-u.u ≡ Some d = subst (λ x. label_in c.args.labels.now x ≡ Some d) same e in
          let here : slice_get (row_in c.args.rows.now c.loop-u.u) k ≡ Some (w, p) = subst (λ x. slice_get (row_in c.args.rows.now x) k ≡ Some (w, p)) same edge in
          elim c.match-label_of.branch [
            | in-Some+else-not-is_row_onward v ↦ (
                let row = row-of c.args.rows.now c.loop-u.u v.index-rows-u.result v.as_slice.result.now (omega (arith, c.loop-u.auto.u-end, c.loop-u-test.true)) v.index-rows-u.is v.as_slice.ensures in
                let start : v.in-Some.start ≡ d = same_Some _ _ (sym v.in-Some.is ∙ c.label_of.ensures ∙ label) in
                subst (λ n. IsLabelledWithin (label_in c.args.labels.now) w (n + p)) start
                (row-onward (label_in c.args.labels.now) v.in-Some.start v.as_slice.result.now (sym v.is_row_onward.ensures ∙ v.if-not-is_row_onward.false) k w p (subst (λ (es : List (ℕ × ℕ)). slice_get es k ≡ Some (w, p)) row here)))
            | in_default v ↦ absurd (none-some _ (sym v.in_default.is ∙ c.label_of.ensures ∙ label))
          ])
    ]
