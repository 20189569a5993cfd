use Rattle.std.proofs.Common.{◌≡◌, ◌||◌, ℕ, Option, IsTrue, take, sym, ap, ◌∙◌}
use Rattle.std.proofs.lemmas.Bool.{both_ways}
use Rattle.report_rules.specs.declared.report.Reply.{Reply}
use Rattle.report_rules.specs.RightReport.{is_number_in_place}
use Rattle.std.specs.Prelude.{nat_eq}
use Rattle.report_rules.specs.Lookups.{is_some_and, committed_number}
use Rattle.order_witness.specs.Bits.{has_bit}
use Rattle.order_witness.specs.Seen.{is_number_new}
use Rattle.order_witness.proofs.Loops.{turn_step, turn_breaks}
use Rattle.order_witness.proofs.Seeing.{number_test, numbers_more}
use Rattle.order_witness.proofs.numbers.first_out_of_place.Goals as goal

pub returns-then-not-holds : goal.returns-then-not-holds
returns-then-not-holds c =
    let same : c.see-holds.result ≡ is_number_in_place c.args.count (take c.loop-place.place c.args.replies.now) (committed_number c.index-replies-place.result.state) =
    c.see-holds.ensures.holds ∙ ap (is_number_new c.args.count c.loop-place.seen) c.number_of.ensures ∙ number_test c.args.count (take c.loop-place.place c.args.replies.now) c.loop-place.seen (committed_number c.index-replies-place.result.state) c.loop-place.invariant.seen in
    turn_breaks (λ before (reply : Reply). IsTrue (is_number_in_place c.args.count before (committed_number reply.state))) c.args.replies.now c.loop-place.place c.index-replies-place.result
    c.loop-place-test.true c.loop-place.invariant.hold c.index-replies-place.is (both_ways _ (sym same ∙ c.if-not-holds.true))

pub loop-place-preserved : goal.loop-place-preserved
loop-place-preserved c =
    let same : c.see-holds.result ≡ is_number_in_place c.args.count (take c.loop-place.place c.args.replies.now) (committed_number c.index-replies-place.result.state) =
    c.see-holds.ensures.holds ∙ ap (is_number_new c.args.count c.loop-place.seen) c.number_of.ensures ∙ number_test c.args.count (take c.loop-place.place c.args.replies.now) c.loop-place.seen (committed_number c.index-replies-place.result.state) c.loop-place.invariant.seen in
    record {
      hold =
          turn_step (λ before (reply : Reply). IsTrue (is_number_in_place c.args.count before (committed_number reply.state))) c.args.replies.now c.loop-place.place c.index-replies-place.result
          c.loop-place-test.true c.loop-place.invariant.hold c.index-replies-place.is (sym same ∙ c.if-not-holds.false);
      size = c.see-holds.ensures.size ∙ c.loop-place.invariant.size;
      seen = numbers_more c.args.replies.now c.loop-place.place c.index-replies-place.result c.loop-place.seen c.see-holds.new.seen c.loop-place-test.true c.index-replies-place.is c.loop-place.invariant.seen (λ n. c.see-holds.ensures.after c.if-not-holds.false n ∙ ap (λ (o : Option ℕ). has_bit c.loop-place.seen n || is_some_and (λ m. nat_eq n m) o) c.number_of.ensures);
    }
