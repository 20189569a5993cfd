use Rattle.std.proofs.Common.{◌≡◌, ℕ, Bool, true, List, IsTrue, inl, inr, sym, ap, subst, ◌∙◌, arith}
use Rattle.std.proofs.lemmas.Bool.{cases_eq}
use Rattle.order_witness.specs.Begun.{is_request_before}
use Rattle.order_witness.specs.Heads.{item}
use Rattle.order_witness.specs.Marks.{is_marked}
use Rattle.order_witness.proofs.Walking.{grown_on, grown_wider}
use Rattle.order_witness.proofs.walk.mark_run.Goals as goal

pub loop-place-preserved : goal.loop-place-preserved
loop-place-preserved c =
    let before : ℕ → Bool = λ a. is_request_before c.args.report.now a c.args.request in
    let line : List ℕ = c.args.line.now in
    let place : ℕ = c.loop-place.place in
    let e : ℕ = c.item-earlier.result in
    let inv = c.loop-place.invariant in
    let grown = c.in_ok-mark.ensures.grown in
    let first : before e ≡ true = sym c.is_request_before.ensures ∙ c.if-not-is_request_before.false in
    record {
      marked = λ k from less. elim (cases_eq k place) [
        | inl same ↦
            let room = c.requires e first in
            let size = inv.grown.size in
            subst (λ x. IsTrue (is_marked c.mark.new.marked x)) (c.item-earlier.ensures ∙ ap (item line) (sym same)) (c.in_ok-mark.ensures.there (omega (arith, room, size)))
        | inr other ↦ grown.stay (item line k) (inv.marked k from (omega (arith, less, other)))
      ];
      grown = grown_on (λ a. IsTrue (before a)) c.args.marked.now c.loop-place.marked c.mark.new.marked c.args.due.now.items c.loop-place.due.items c.mark.new.due.items inv.grown
          (grown_wider (λ a. a ≡ e) (λ a. IsTrue (before a)) c.loop-place.marked c.mark.new.marked c.loop-place.due.items c.mark.new.due.items (λ a same. subst (λ x. IsTrue (before x)) (sym same) first) grown);
    }
