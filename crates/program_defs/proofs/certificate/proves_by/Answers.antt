use Rattle.std.proofs.Common.{◌≡◌, ◌∙◌, true≢false, sym, subst, length, List, Option, Some, slice_get, ℕ, arith}
use Rattle.std.proofs.lemmas.Bool.{both_ways, eqb-true}
use Rattle.weave_data.specs.declared.name.Name.{Name}
use Rattle.program_defs.specs.Labels.{AreNumbersOf, IsCertificate, label_in, row_in}
use Rattle.program_defs.specs.Parents.{AreParents, IsSeenBefore}
use Rattle.program_defs.proofs.Proving.{led-is-answer, no-certificate}
use Rattle.program_defs.proofs.certificate.proves_by.Goals as goal
use Rattle.program_defs.proofs.certificate.proves_by.Goals.{then-price-total, else-price-total}

pub returns-then-not-is_certificate : goal.returns-then-not-is_certificate
returns-then-not-is_certificate c = λ graph key from bounds numbers begin.
    let list = c.args.list.now in
    let start = c.args.start in
    let refused : IsCertificate (row_in list.rows.items) start (label_in list.labels.items) → ⊥ = λ cert. both_ways _ c.if-not-is_certificate.true (c.is_certificate.ensures.1
    (subst (λ (rs : List (List (ℕ × ℕ))). IsCertificate (row_in rs) start (label_in c.as_slice-labels.result.now)) (sym c.as_slice-rows.ensures.value)
    (subst (λ (ls : List (Option ℕ)). IsCertificate (row_in list.rows.items) start (label_in ls)) (sym c.as_slice-labels.ensures.value) cert))) in (
      (λ h. absurd (true≢false (sym h))),
      (λ answer. absurd (no-certificate graph key from bounds list.vertices.items list.labels.items list.rows.items start numbers begin (sym c.requires.labels ∙ c.requires.vertices) c.args.to c.args.walk.now c.args.total refused answer)),
    )

pub returns : goal.returns
returns c = λ graph key from bounds numbers begin.
    let list = c.args.list.now in
    let start = c.args.start in
    let vertices = c.as_slice-vertices.result.now in
    let labels = c.as_slice-labels.result.now in
    let rows = c.as_slice-rows.result.now in
    let by_slices : AreNumbersOf graph key bounds vertices labels rows =
    subst (λ (rs : List (List (ℕ × ℕ))). AreNumbersOf graph key bounds vertices labels rs) (sym c.as_slice-rows.ensures.value)
    (subst (λ (ls : List (Option ℕ)). AreNumbersOf graph key bounds vertices ls list.rows.items) (sym c.as_slice-labels.ensures.value)
    (subst (λ (vs : List Name). AreNumbersOf graph key bounds vs list.labels.items list.rows.items) (sym c.as_slice-vertices.ensures.value) numbers)) in
    let all : length labels ≡ length vertices = omega (arith, c.as_slice-labels.ensures.len, c.as_slice-vertices.ensures.len, list.labels.ok.0, list.vertices.ok.0, c.requires.labels, c.requires.vertices) in
    let all_rows : length labels ≡ length rows = omega (arith, c.as_slice-labels.ensures.len, c.as_slice-rows.ensures.len, list.labels.ok.0, list.rows.ok.0, c.requires.labels) in
    let begun = subst (λ (vs : List Name). slice_get vs start ≡ Some from) (sym c.as_slice-vertices.ensures.value) begin in
    let are = subst (λ (ps : List (Option ℕ)). AreParents rows labels (IsSeenBefore (length rows)) (length rows) ps) (sym c.as_slice-2.ensures.value) c.in_ok-parents.ensures in
    let right = c.in_ok-led.ensures graph from key start rows by_slices.between begun (c.is_certificate.ensures.0 c.if-not-is_certificate.false) all_rows are in
    let answer_is = led-is-answer graph key from bounds vertices labels rows start by_slices begun all c.args.to c.in_ok-led.led c.args.walk.now c.in_ok-led.price c.args.total right in
    elim c.if-price-total.branch [
      | then-price-total w ↦ rw w.result-is (
        (λ h. answer_is.0 (omega (arith, w.if-price-total.true), w.is_same_walk.ensures.0 h)),
        (λ answer. w.is_same_walk.ensures.1 ((answer_is.1 answer).1)),
      )
      | else-price-total w ↦ rw w.result-is (
        (λ h. let same = eqb-true c.in_ok-led.price c.args.total h in absurd (omega (arith, same, w.if-price-total.false))),
        (λ answer. let same = (answer_is.1 answer).0 in absurd (omega (arith, same, w.if-price-total.false))),
      )
    ]
