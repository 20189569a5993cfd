use Rattle.std.proofs.Common.{◌≡◌, ℕ, List, IsTrue, not, ◌&&◌, take, get_or, refl, sym, ap, ◌∙◌, subst, arith}
use Rattle.std.proofs.lemmas.Bool.{both_ways}
use Rattle.std.proofs.lemmas.List.{get_or_default, take_all}
use Rattle.report_rules.specs.Lookups.{is_in, may_be_listed}
use Rattle.order_witness.specs.Seen.{AreSeen}
use Rattle.order_witness.proofs.Loops.{turn_step, turn_breaks}
use Rattle.order_witness.proofs.Seeing.{seen_more}
use Rattle.order_witness.proofs.listing.first_out_of_place.Goals as goal

pub returns-then-not-holds-clause-fault : goal.returns-then-not-holds-clause-fault
returns-then-not-holds-clause-fault c =
    let r : ℕ = get_or c.args.order.now c.loop-place.place 0 in
    let same : c.see-holds.result ≡ (not (is_in r (take c.loop-place.place c.args.order.now)) && may_be_listed c.args.report.now r) = c.see-holds.ensures.holds ∙ ap (λ b. not b && may_be_listed c.args.report.now r) (c.loop-place.invariant.seen r) in
    turn_breaks (λ before r. IsTrue (not (is_in r before) && may_be_listed c.args.report.now r)) c.args.order.now c.loop-place.place r
    c.loop-place-test.true c.loop-place.invariant.hold (get_or_default c.args.order.now c.loop-place.place 0 _ c.loop-place-test.true) (both_ways _ (sym same ∙ c.if-not-holds.true))

pub loop-place-preserved : goal.loop-place-preserved
loop-place-preserved c =
    let r : ℕ = get_or c.args.order.now c.loop-place.place 0 in
    let same : c.see-holds.result ≡ (not (is_in r (take c.loop-place.place c.args.order.now)) && may_be_listed c.args.report.now r) = c.see-holds.ensures.holds ∙ ap (λ b. not b && may_be_listed c.args.report.now r) (c.loop-place.invariant.seen r) in
    record {
      hold =
          turn_step (λ before r. IsTrue (not (is_in r before) && may_be_listed c.args.report.now r)) c.args.order.now c.loop-place.place r
          c.loop-place-test.true c.loop-place.invariant.hold (get_or_default c.args.order.now c.loop-place.place 0 _ c.loop-place-test.true) (sym same ∙ c.if-not-holds.false);
      size = c.see-holds.ensures.size ∙ c.loop-place.invariant.size;
      seen = seen_more c.args.order.now c.loop-place.place r c.loop-place.seen c.see-holds.new.seen c.loop-place-test.true refl c.loop-place.invariant.seen (c.see-holds.ensures.after c.if-not-holds.false);
    }

pub returns-clause-seen : goal.returns-clause-seen
returns-clause-seen c none = subst (λ (rs : List ℕ). AreSeen rs c.loop-place.seen) (take_all c.loop-place.place c.args.order.now (omega (arith, c.loop-place-test.false))) c.loop-place.invariant.seen
