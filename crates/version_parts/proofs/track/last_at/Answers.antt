use Rattle.std.proofs.Common.{◌<◌, Some, sym, ap, ◌∙◌, arith}
use Rattle.version_parts.proofs.Splitting.{last_passed, none_passed}
use Rattle.version_parts.proofs.track.last_at.Goals as goal

pub returns-then-passed-eq0 : goal.returns-then-passed-eq0
returns-then-passed-eq0 g c =
    sym (none_passed c.args.update c.args.items.now c.passed-passed.result c.passed-passed.ensures.split (omega arith))

pub returns : goal.returns
returns g c =
    let some : 0 < c.passed-passed.result = omega arith in
    ap Some c.index-items-passed.is ∙ sym (last_passed c.args.update c.args.items.now c.passed-passed.result c.index-items-passed.result c.passed-passed.ensures.split some)
