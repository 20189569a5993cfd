use Rattle.std.proofs.Common.{ℕ, List, IsTrue, get_or, take, sym, subst, ◌∙◌}
use Rattle.std.proofs.lemmas.List.{take_more}
use Rattle.report_rules.specs.Lookups.{is_in}
use Rattle.order_witness.proofs.Cutting.{seen_on, left_on}
use Rattle.order_witness.proofs.heads.see.Goals as goal

pub loop-request-preserved : goal.loop-request-preserved
loop-request-preserved c =
    let i : ℕ = c.loop-request.request-index in
    let r : ℕ = get_or c.args.requests.now i 0 in
    record {
      size = c.see_one.ensures.size ∙ c.loop-request.invariant.size;
      seen = λ start. seen_on c.args.befores.now c.args.done.now c.loop-request.seen c.see_one.new.seen r c.see_one.ensures.others c.see_one.ensures.first c.see_one.ensures.past (c.loop-request.invariant.seen start);
      is_left = λ q there.
          left_on c.args.befores.now c.args.done.now c.loop-request.seen c.see_one.new.seen r c.see_one.ensures.others c.see_one.ensures.first c.see_one.ensures.past (take i c.args.requests.now) _ (sym c.loop-request.invariant.size) c.loop-request.invariant.is_left q
          (subst (λ (xs : List ℕ). IsTrue (is_in q xs)) (take_more c.args.requests.now i 0 c.loop-request-test.true) there);
    }
