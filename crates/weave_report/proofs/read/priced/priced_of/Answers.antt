use Rattle.std.proofs.Common.{sym}
use Rattle.std.proofs.lemmas.Result.{err_from_is_err_and}
use Rattle.weave_report.proofs.PricedParts.{priced_made, priced_no_bounds, priced_no_walk}
use Rattle.weave_report.proofs.read.priced.priced_of.Goals as goal

pub returns-in_err-walk-in-Some : goal.returns-in_err-walk-in-Some
returns-in_err-walk-in-Some c =
    let p = err_from_is_err_and c.from_residual.result c.from_residual.ensures.1 in
    rw (p.1, p.2) (priced_no_walk c.args.total.now c.args.words.now c.in-Some.at _ (sym c.in-Some.ensures) c.in_err-walk-in-Some.field-0.0 c.in_err-walk-in-Some.ensures)

pub returns-in_err-bounds-in-Some : goal.returns-in_err-bounds-in-Some
returns-in_err-bounds-in-Some c =
    let p = err_from_is_err_and c.from_residual-in_err-bounds-in-Some.result c.from_residual-in_err-bounds-in-Some.ensures.1 in
    rw (p.1, p.2) (priced_no_bounds c.args.total.now c.args.words.now c.in-Some.at _ (sym c.in-Some.ensures) c.in_ok-walk-in-Some.walk c.in_ok-walk-in-Some.total c.in_err-bounds-in-Some.field-0.0 c.in_ok-walk-in-Some.ensures c.in_err-bounds-in-Some.ensures)

pub returns-in_ok-bounds-in-Some : goal.returns-in_ok-bounds-in-Some
returns-in_ok-bounds-in-Some c =
    priced_made c.args.total.now c.args.words.now c.in-Some.at _ (sym c.in-Some.ensures) c.in_ok-walk-in-Some.walk c.in_ok-walk-in-Some.total c.in_ok-bounds-in-Some.bounds c.in_ok-walk-in-Some.ensures c.in_ok-bounds-in-Some.ensures
