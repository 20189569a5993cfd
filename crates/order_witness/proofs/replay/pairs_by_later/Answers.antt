use Rattle.std.proofs.Common.{◌+◌, List, length, sym, ap, subst, arith}
use Rattle.std.proofs.lemmas.Option.{slice_get_within}
use Rattle.report_rules.specs.declared.report.Pair.{Pair}
use Rattle.order_witness.proofs.Numbered.{the_item}
use Rattle.order_witness.proofs.Visiting.{HavePairsTo, pairs_more}
use Rattle.order_witness.proofs.replay.pairs_by_later.Goals as goal

pub loop-place-preserved : goal.loop-place-preserved
loop-place-preserved c =
    let items : List Pair = c.as_slice-pair-items.result.now in
    subst (λ (pairs : List Pair). HavePairsTo (c.loop-place.place + 1) (length c.args.report.now.replies) pairs c.put.new.self) c.as_slice-pair-items.ensures
    (pairs_more c.loop-place.place (length c.args.report.now.replies) items c.pair-item.result c.loop-place.table c.put.new.self
    (λ pair at. the_item items c.loop-place.place c.pair-item.result pair c.pair-item.is at)
    c.in_ok-put.ensures.size c.in_ok-put.ensures.after
    (subst (λ (pairs : List Pair). HavePairsTo c.loop-place.place (length c.args.report.now.replies) pairs c.loop-place.table) (sym c.as_slice-pair-items.ensures) c.loop-place.invariant))

pub returns : goal.returns
returns c = λ r place pair below at.
    c.loop-place.invariant.exact r place pair below (omega (arith, slice_get_within c.args.report.now.pairs place pair at, ap length c.as_slice-pair-items.ensures, c.loop-place-test.false)) at
