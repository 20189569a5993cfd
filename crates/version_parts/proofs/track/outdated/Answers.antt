use Rattle.std.proofs.Common.{◌<◌, is_some, sym, ap, subst, ◌∙◌, arith}
use Rattle.version_parts.specs.Splits.{IsSplit}
use Rattle.version_parts.specs.Tracks.{shown_value}
use Rattle.version_parts.proofs.Splitting.{nothing_old, shown_left, hidden_left}
use Rattle.version_parts.proofs.track.outdated.Goals as goal

pub returns-then-passed-eq0-clause-left : goal.returns-then-passed-eq0-clause-left
returns-then-passed-eq0-clause-left g c =
    nothing_old c.args.since c.args.oldest c.args.items.now (subst (IsSplit c.args.oldest c.args.items.now) c.if-passed-eq0.true c.passed-passed.ensures.split)

pub returns-then-is_shown-clause-left : goal.returns-then-is_shown-clause-left
returns-then-is_shown-clause-left g c =
    let some : 0 < c.passed-passed.result = omega arith in
    shown_left c.args.since c.args.oldest c.args.items.now c.passed-passed.result c.index-items-passed.result c.passed-passed.ensures.split some
    (ap (λ item. is_some (shown_value c.args.since item)) (sym c.index-items-passed.is) ∙ sym c.is_shown.ensures ∙ c.if-is_shown.true)

pub returns-else-is_shown-clause-left : goal.returns-else-is_shown-clause-left
returns-else-is_shown-clause-left g c =
    let some : 0 < c.passed-passed.result = omega arith in
    hidden_left c.args.since c.args.oldest c.args.items.now c.passed-passed.result c.index-items-passed.result c.passed-passed.ensures.split some
    (ap (λ item. is_some (shown_value c.args.since item)) (sym c.index-items-passed.is) ∙ sym c.is_shown.ensures ∙ c.if-is_shown.false)
