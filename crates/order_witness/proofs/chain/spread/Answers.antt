use Rattle.std.proofs.Common.{◌≡◌, ◌≤◌, ℕ, List, IsTrue, length, ap, ◌∙◌, subst, arith}
use Rattle.order_witness.specs.Marks.{AreAllMarked, AreMoreMarked}
use Rattle.order_witness.specs.Preceding.{Test, direct_steps}
use Rattle.order_witness.specs.Spreading.{node}
use Rattle.order_witness.proofs.Nearest.{spread_next}
use Rattle.order_witness.proofs.chain.spread.Goals as goal

pub loop-looked-preserved : goal.loop-looked-preserved
loop-looked-preserved c =
    let direct : Test = direct_steps c.args.report.now c.args.befores.now in
    let found : List ℕ = c.loop-looked.found.items in
    let more : List ℕ = c.look.new.due.items in
    let looked : ℕ = c.loop-looked.looked in
    let here : c.node-request.result ≡ node c.args.b found looked = c.node-request.ensures ∙ ap (λ (xs : List ℕ). node c.args.b xs looked) c.as_slice-in-loop-looked.ensures.value in
    let open_one : looked ≤ length found = omega (arith, c.loop-looked-test.true, c.len.ensures, c.loop-looked.found.ok.0) in
    let many : c.len-in-loop-looked.result ≡ length more = omega (arith, c.len-in-loop-looked.ensures, c.look.new.due.ok.0) in
    record {
      size = c.in_ok-look.ensures.grown.size ∙ c.loop-looked.invariant.size;
      passed = c.in_ok-look.ensures.passed;
      spread = spread_next direct c.args.b c.loop-looked.marked c.look.new.marked found more c.loop-looked.from.items c.fill.new.numbers.items looked c.loop-looked.invariant.spread open_one
          (subst (λ n. AreMoreMarked (λ a. IsTrue (direct a n)) c.loop-looked.marked c.look.new.marked found more) here c.in_ok-look.ensures.grown)
          (subst (AreAllMarked direct c.look.new.marked) here c.in_ok-look.ensures.all)
          (c.in_ok-fill.ensures.size ∙ many) c.in_ok-fill.ensures.front (λ k past less. c.in_ok-fill.ensures.added k past (omega (arith, less, many)));
    }
