use Rattle.std.proofs.Common.{◌≡◌, ◌∷◌, [], ℕ, inl, inr, sym, ap, ◌∙◌, arith}
use Rattle.std.specs.Prelude.{slice_get}
use Rattle.std.proofs.lemmas.Bool.{cases_lt}
use Rattle.std.proofs.lemmas.Option.{slice_get_within}
use Rattle.report_rules.specs.declared.report.Reply.{Reply}
use Rattle.order_witness.specs.Rising.{stamp_entry}
use Rattle.order_witness.proofs.Numbered.{the_item}
use Rattle.order_witness.proofs.RisingSteps.{entries_more, stamp_place, reply_there}
use Rattle.order_witness.proofs.rising.begun_by_stamps.Goals as goal

pub loop-place-preserved : goal.loop-place-preserved
loop-place-preserved c k stamp below at =
    let item : Reply = c.index-replies-place.result in
    entries_more (λ (one : ℕ × ℕ × ℕ × ℕ). one.3) c.loop-place.begun.items (stamp_entry c.loop-place.place item.stamp) c.put_begun.new.begun.items k c.in_ok-put_begun.ensures
    (elim (cases_lt k c.loop-place.place) [
      | inl before ↦ inl (c.loop-place.invariant k stamp before at)
      | inr last ↦
          let same : k ≡ c.loop-place.place = omega (arith, below, last) in
          let reply = reply_there c.args.replies.now k stamp at in
          let is : reply.0 ≡ item = the_item c.args.replies.now c.loop-place.place item reply.0 c.index-replies-place.is (ap (λ n. slice_get c.args.replies.now n) (sym same) ∙ reply.1) in
          inr (stamp_place c.loop-place.place item.stamp stamp (ap (λ (r : Reply). r.stamp) (sym is) ∙ reply.2) ∙ ap (λ n. n ∷ []) (sym same))
    ])

pub returns : goal.returns
returns c k stamp at =
    let reply = reply_there c.args.replies.now k stamp at in
    c.loop-place.invariant k stamp (omega (arith, slice_get_within c.args.replies.now k reply.0 reply.1, c.loop-place-test.false)) at
