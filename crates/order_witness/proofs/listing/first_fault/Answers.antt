use Rattle.std.proofs.Common.{IsTrue, not, ◌&&◌, ◌+◌, List, [], ◌∷◌, ◌++◌, ℕ, length, refl, sym, ◌∙◌, subst}
use Rattle.std.proofs.lemmas.Bool.{both_ways}
use Rattle.report_rules.specs.declared.report.Report.{Report}
use Rattle.weave_data.specs.Facts.{Facts, AllHold, BreaksFirstAt, facts_in_turn}
use Rattle.report_rules.specs.Lookups.{is_in, may_be_listed}
use Rattle.report_rules.specs.RightReport.{all_are_listed}
use Rattle.order_witness.specs.Seen.{AreSeen}
use Rattle.order_witness.proofs.Seeing.{all_listed}
use Rattle.order_witness.proofs.Loops.{within_breaks, end_breaks, all_hold}
use Rattle.order_witness.proofs.listing.first_fault.Goals as goal

-- what is said of each place
abbrev IsListed : Report → List ℕ → ℕ → Type 0
IsListed report before r = IsTrue (not (is_in r before) && may_be_listed report r)

-- the clause over a list of requests
abbrev facts : Report → List ℕ → Facts
facts report order = facts_in_turn (IsListed report) order ++ IsTrue (all_are_listed report) ∷ []

pub returns-in-Some : goal.returns-in-Some
returns-in-Some c =
    subst (λ (order : List ℕ). BreaksFirstAt (facts c.args.report.now order) c.in-Some.place) c.as_slice-order.ensures
    (within_breaks (IsListed c.args.report.now) (IsTrue (all_are_listed c.args.report.now)) c.as_slice-order.result.now c.in-Some.place c.in-Some.ensures.fault)

pub returns-then-not-all_are_seen : goal.returns-then-not-all_are_seen
returns-then-not-all_are_seen c =
    subst (λ (order : List ℕ). BreaksFirstAt (facts c.args.report.now order) (length c.as_slice-order.result.now + 1)) c.as_slice-order.ensures
    (end_breaks (IsListed c.args.report.now) (IsTrue (all_are_listed c.args.report.now)) c.as_slice-order.result.now c.in_default.ensures.fault
    (both_ways _ (sym (c.all_are_seen.ensures ∙ all_listed c.args.report.now c.first_out_of_place.new.seen (subst (λ (rs : List ℕ). AreSeen rs c.first_out_of_place.new.seen) c.as_slice-order.ensures (c.in_default.ensures.seen refl))) ∙ c.if-not-all_are_seen.true)))

pub returns : goal.returns
returns c =
    subst (λ (order : List ℕ). AllHold (facts c.args.report.now order)) c.as_slice-order.ensures
    (all_hold (IsListed c.args.report.now) (IsTrue (all_are_listed c.args.report.now)) c.as_slice-order.result.now c.in_default.ensures.fault
    (sym (c.all_are_seen.ensures ∙ all_listed c.args.report.now c.first_out_of_place.new.seen (subst (λ (rs : List ℕ). AreSeen rs c.first_out_of_place.new.seen) c.as_slice-order.ensures (c.in_default.ensures.seen refl))) ∙ c.if-not-all_are_seen.false))
