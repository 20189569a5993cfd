use Rattle.std.proofs.Common.{◌≡◌, ℕ, List, false, inl, inr, sym, ap, ◌∙◌, subst, arith}
use Rattle.std.specs.Prelude.{slice_get}
use Rattle.std.specs.List.{list_any}
use Rattle.std.proofs.lemmas.Bool.{cases_lt, or_from}
use Rattle.std.proofs.lemmas.Option.{slice_get_within}
use Rattle.report_rules.specs.declared.report.Pair.{Pair}
use Rattle.report_rules.specs.declared.report.Reply.{Reply}
use Rattle.order_witness.specs.Begun.{is_pair_between, is_request_before}
use Rattle.order_witness.proofs.Nearest.{link_so, none_any_at}
use Rattle.order_witness.proofs.Numbered.{the_item}
use Rattle.order_witness.proofs.chain.link_between.Goals as goal

pub returns-then-is_request_before : goal.returns-then-is_request_before
returns-then-is_request_before c =
    link_so c.args.script.now c.args.report.now c.args.a c.args.b c.link_of_stamps.result (sym c.is_request_before.ensures ∙ c.if-is_request_before.true) c.link_of_stamps.ensures

pub loop-place-preserved : goal.loop-place-preserved
loop-place-preserved c k pair below at =
    let pairs : List Pair = c.as_slice-pair-items.result.now in
    let place : ℕ = c.loop-place.place in
    let here : Pair = c.pair-item.result in
    elim (cases_lt k place) [
      | inl before ↦ c.loop-place.invariant k pair before at
      | inr last ↦
          let same : k ≡ place = omega (arith, below, last) in
          subst (λ (p : Pair). is_pair_between c.as_slice-replies.result.now c.args.a c.args.b p ≡ false) (sym (the_item pairs place here pair c.pair-item.is (ap (slice_get pairs) (sym same) ∙ at))) (sym c.joins.ensures ∙ c.if-joins.false)
    ]

pub returns : goal.returns
returns c =
    let report = c.args.report.now in
    let replies : List Reply = c.as_slice-replies.result.now in
    let pairs : List Pair = c.as_slice-pair-items.result.now in
    let none : list_any (is_pair_between replies c.args.a c.args.b) pairs ≡ false = none_any_at (is_pair_between replies c.args.a c.args.b) pairs (λ k pair at. c.loop-place.invariant k pair (let inside = slice_get_within pairs k pair at in omega (arith, inside, c.loop-place-test.false)) at) in
    or_from (is_request_before report c.args.a c.args.b) _ (sym c.is_request_before.ensures ∙ c.if-is_request_before.false)
    (subst (λ (rs : List Reply). list_any (is_pair_between rs c.args.a c.args.b) report.pairs ≡ false) c.as_slice-replies.ensures (subst (λ (ps : List Pair). list_any (is_pair_between replies c.args.a c.args.b) ps ≡ false) c.as_slice-pair-items.ensures none))
