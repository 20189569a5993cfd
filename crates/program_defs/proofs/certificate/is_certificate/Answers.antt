use Rattle.std.proofs.Common.{true≢false, sym}
use Rattle.std.proofs.lemmas.Bool.{both_ways}
use Rattle.program_defs.proofs.Proving.{certificate-by-parents}
use Rattle.program_defs.proofs.certificate.is_certificate.Goals as goal

pub returns-then-not-has_label : goal.returns-then-not-has_label
returns-then-not-has_label c = (λ h. absurd (true≢false (sym h)), λ cert. absurd (both_ways _ c.if-not-has_label.true (c.has_label.ensures.1 cert.begin)))

pub returns-then-not-are_onward : goal.returns-then-not-are_onward
returns-then-not-are_onward c = (λ h. absurd (true≢false (sym h)), λ cert. absurd (both_ways _ c.if-not-are_onward.true (c.are_onward.ensures.1 cert.onward)))

pub returns : goal.returns
returns c =
    let by = certificate-by-parents c.args.rows.now c.args.labels.now c.args.parents.now c.args.start c.requires.labels c.requires.parents in
    (λ h. by.0 (c.has_label.ensures.0 c.if-not-has_label.false, c.are_onward.ensures.0 c.if-not-are_onward.false, c.are_met.ensures.0 h), λ cert. c.are_met.ensures.1 ((by.1 cert).2))
