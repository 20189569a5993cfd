use Rattle.std.proofs.Common.{◌+◌, ℕ, List, get_or, refl, sym, subst, ◌∙◌}
use Rattle.order_witness.specs.Begun.{is_request_before}
use Rattle.order_witness.specs.ByNumber.{list_at}
use Rattle.order_witness.specs.Preceding.{Test, leads_directly}
use Rattle.order_witness.specs.Marks.{ArePreceders}
use Rattle.order_witness.proofs.Walking.{looked_first, looked_next}
use Rattle.order_witness.proofs.walk.mark_before.Goals as goal

pub loop-request-init : goal.loop-request-init
loop-request-init c =
    let direct : Test = leads_directly (is_request_before c.args.report.now) (list_at c.args.befores.now) in
    let order : List ℕ = c.args.order.now in
    let place : ℕ = c.args.place in
    record {
      size = c.in_ok-look_once.ensures.grown.size;
      passed = c.in_ok-look_once.ensures.passed;
      marked = looked_first direct order c.args.marked.now c.look_once.new.marked c.new-due.result.items c.look_once.new.due.items (get_or order place 0) c.in_ok-look_once.ensures.grown c.in_ok-look_once.ensures.all place refl
          (subst (λ (xs : List ℕ). ArePreceders direct order place c.args.marked.now xs) (sym c.new-due.ensures.items) c.requires.marked);
      looked = c.in_ok-look_once.ensures.looked;
    }

pub loop-request-preserved : goal.loop-request-preserved
loop-request-preserved c =
    let direct : Test = leads_directly (is_request_before c.args.report.now) (list_at c.args.befores.now) in
    let order : List ℕ = c.args.order.now in
    record {
      size = c.in_ok-look_once-2.ensures.grown.size ∙ c.loop-request.invariant.size;
      passed = c.in_ok-look_once-2.ensures.passed;
      marked = looked_next direct order c.loop-request.marked c.look_once-in-Some.new.marked c.pop.new.self.items c.look_once-in-Some.new.due.items c.in-Some.request c.in_ok-look_once-2.ensures.grown c.in_ok-look_once-2.ensures.all (c.args.place + 1)
          (subst (λ (xs : List ℕ). ArePreceders direct order (c.args.place + 1) c.loop-request.marked xs) c.in-Some.ensures.items c.loop-request.invariant.marked);
      looked = c.in_ok-look_once-2.ensures.looked;
    }
