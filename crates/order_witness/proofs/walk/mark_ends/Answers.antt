use Rattle.std.proofs.Common.{◌≡◌, ◌<◌, ℕ, List, IsTrue, length, take, get_or, inl, inr, sym, subst, arith}
use Rattle.std.proofs.lemmas.List.{take_more}
use Rattle.report_rules.specs.Lookups.{is_in}
use Rattle.order_witness.specs.Marks.{is_marked}
use Rattle.order_witness.proofs.Walking.{grown_on, grown_wider, in_last}
use Rattle.order_witness.proofs.Leading.{item_in}
use Rattle.order_witness.proofs.walk.mark_ends.Goals as goal

pub loop-earlier-preserved : goal.loop-earlier-preserved
loop-earlier-preserved c =
    let i : ℕ = c.loop-earlier.earlier-index in
    let ends : List ℕ = c.args.ends.now in
    let e : ℕ = get_or ends i 0 in
    let below : i < length ends = c.loop-earlier-test.true in
    let grown = c.in_ok-mark.ensures.grown in
    record {
      all = λ a h lt. elim (in_last a e (take i ends) (subst (λ (xs : List ℕ). IsTrue (is_in a xs)) (take_more ends i 0 below) h)) [
        | inl before ↦ grown.stay a (c.loop-earlier.invariant.all a before lt)
        | inr here ↦ subst (λ x. IsTrue (is_marked c.mark.new.marked x)) (sym here) (let size = c.loop-earlier.invariant.grown.size in c.in_ok-mark.ensures.there (omega (arith, lt, here, size)))
      ];
      grown = grown_on (λ a. IsTrue (is_in a ends)) c.args.marked.now c.loop-earlier.marked c.mark.new.marked c.args.due.now.items c.loop-earlier.due.items c.mark.new.due.items c.loop-earlier.invariant.grown
          (grown_wider (λ a. a ≡ e) (λ a. IsTrue (is_in a ends)) c.loop-earlier.marked c.mark.new.marked c.loop-earlier.due.items c.mark.new.due.items (λ a same. subst (λ x. IsTrue (is_in x ends)) (sym same) (item_in ends i below)) grown);
    }
