use Rattle.std.proofs.Common.{arith, ap, length}
use Rattle.program_defs.proofs.NumberedRows.{in-table}
use Rattle.program_defs.proofs.ParentSteps.{edge-at, row-of}
use Rattle.priced_path.proofs.Going.{small-offer, look-one, look-end}
use Rattle.priced_path.proofs.least.look.Goals as goal

pub overflow_add-label : goal.overflow_add-label
overflow_add-label c =
    let some = c.requires.going in
    let begin = in-table c.args.labels.now c.args.v c.args.label c.requires.label in
    let edge = edge-at c.args.rows.now c.args.v c.loop-target.target-index c.index-rows-v.result c.as_slice-target-items.result.now (omega (arith, begin, some.1.all)) c.index-rows-v.is c.as_slice-target-items.ensures c.loop-target-test.true in
    let row = c.requires.rows c.args.v c.loop-target.target-index _ _ edge in
    let small = small-offer c.args.labels.now c.args.v c.args.label _ some.1.small c.requires.label row.2 in
    omega (arith, small, c.requires.few)

pub offer-requires : goal.offer-requires
offer-requires c =
    let some = c.requires.going in
    let begin = in-table c.args.labels.now c.args.v c.args.label c.requires.label in
    let edge = edge-at c.args.rows.now c.args.v c.loop-target.target-index c.index-rows-v.result c.as_slice-target-items.result.now (omega (arith, begin, some.1.all)) c.index-rows-v.is c.as_slice-target-items.ensures c.loop-target-test.true in
    let row = c.requires.rows c.args.v c.loop-target.target-index _ _ edge in
    let now = c.loop-target.invariant.going some.0 some.1 in
    omega (arith, row.0, now.all)

pub loop-target-preserved : goal.loop-target-preserved
loop-target-preserved c =
    let some = c.requires.going in
    let begin = in-table c.args.labels.now c.args.v c.args.label c.requires.label in
    let edge = edge-at c.args.rows.now c.args.v c.loop-target.target-index c.index-rows-v.result c.as_slice-target-items.result.now (omega (arith, begin, some.1.all)) c.index-rows-v.is c.as_slice-target-items.ensures c.loop-target-test.true in
    look-one c.args.rows.now c.requires.rows c.args.v c.args.label c.loop-target.target-index c.args.labels.now c.loop-target.labels c.offer.new.labels c.args.opened.now c.loop-target.opened c.offer.new.opened _ _ edge some c.in_ok-offer.ensures c.loop-target.invariant

pub returns-clause-going : goal.returns-clause-going
returns-clause-going c =
    λ start g.
    let begin = in-table c.args.labels.now c.args.v c.args.label c.requires.label in
    let row = row-of c.args.rows.now c.args.v c.index-rows-v.result c.as_slice-target-items.result.now (omega (arith, begin, g.all)) c.index-rows-v.is c.as_slice-target-items.ensures in
    look-end c.args.rows.now c.args.v c.args.label c.loop-target.target-index c.args.labels.now c.loop-target.labels c.args.opened.now c.loop-target.opened (omega (arith, ap length row, c.loop-target-test.false)) c.loop-target.invariant start g
