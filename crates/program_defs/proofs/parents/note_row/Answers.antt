use Rattle.std.proofs.Common.{arith, ap, length, sym, ◌∙◌}
use Rattle.program_defs.proofs.ParentSteps.{edge-at, row-of}
use Rattle.program_defs.proofs.ParentSteps.{row-skips, row-begin, row-end, noted}
use Rattle.program_defs.proofs.parents.note_row.Goals as goal

pub returns-in_default : goal.returns-in_default
returns-in_default c = row-skips c.args.rows.now c.args.labels.now c.args.u c.args.u c.args.parents.now (omega arith) (sym c.label_of.ensures ∙ c.in_default.is) c.requires.before

pub loop-target-init : goal.loop-target-init
loop-target-init c = row-begin c.args.rows.now c.args.labels.now c.args.u c.args.u c.args.parents.now (omega arith) c.requires.before

pub note-requires : goal.note-requires
note-requires c =
    let edge = edge-at c.args.rows.now c.args.u c.loop-target.target-index c.index-rows-u.result c.as_slice-target-items.result.now c.requires.u c.index-rows-u.is c.as_slice-target-items.ensures c.loop-target-test.true in
    let row = c.requires.rows c.args.u c.loop-target.target-index _ _ edge in
    omega (arith, row.0, c.requires.len, c.loop-target.auto.parents)

pub loop-target-preserved : goal.loop-target-preserved
loop-target-preserved c =
    let edge = edge-at c.args.rows.now c.args.u c.loop-target.target-index c.index-rows-u.result c.as_slice-target-items.result.now c.requires.u c.index-rows-u.is c.as_slice-target-items.ensures c.loop-target-test.true in
    let row = c.requires.rows c.args.u c.loop-target.target-index _ _ edge in
    noted c.args.rows.now c.args.labels.now c.args.u c.in-Some.start c.loop-target.target-index _ _ c.loop-target.parents c.note.new.parents (sym c.label_of.ensures ∙ c.in-Some.is) edge (omega (arith, row.0, c.requires.len, c.loop-target.auto.parents)) c.note.ensures c.loop-target.invariant

pub returns : goal.returns
returns c =
    let row = row-of c.args.rows.now c.args.u c.index-rows-u.result c.as_slice-target-items.result.now c.requires.u c.index-rows-u.is c.as_slice-target-items.ensures in
    row-end c.args.rows.now c.args.labels.now c.args.u c.loop-target.target-index c.loop-target.parents (omega (arith, ap length row, c.loop-target-test.false)) c.loop-target.invariant
