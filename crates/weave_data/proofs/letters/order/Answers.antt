use Rattle.std.proofs.Common.{arith, ◌≡◌, ◌+◌, ◌*◌, sym, ◌∙◌}
use Rattle.weave_data.proofs.Spelling.{eight_on, decided, undecided}
use Rattle.weave_data.proofs.letters.order.Goals as goal

pub returns-then-one-other : goal.returns-then-one-other
returns-then-one-other c =
    let long = c.told-letters in
    let more = c.loop-step-test.true in
    let next = eight_on c.args.letters.now c.args.others.now (8 * c.loop-step.step) (omega (arith, long, more)) (long ∙ sym c.told-others) c.fits-letters c.fits-others in
    c.cmp.ensures ∙ sym (c.loop-step.invariant ∙ next ∙ rw (← c.word-one.ensures, ← c.word-other.ensures) (decided c.word-one.result c.word-other.result _ c.if-one-other.true))

pub loop-step-preserved : goal.loop-step-preserved
loop-step-preserved c =
    let long = c.told-letters in
    let more = c.loop-step-test.true in
    let next = eight_on c.args.letters.now c.args.others.now (8 * c.loop-step.step) (omega (arith, long, more)) (long ∙ sym c.told-others) c.fits-letters c.fits-others in
    let on : 8 * (c.loop-step.step + 1) ≡ 8 * c.loop-step.step + 8 = omega arith in
    c.loop-step.invariant ∙ next ∙ rw (← c.word-one.ensures, ← c.word-other.ensures, on) (undecided c.word-one.result c.word-other.result _ c.if-one-other.false)
