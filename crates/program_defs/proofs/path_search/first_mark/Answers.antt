use Rattle.std.proofs.Common.{arith, ◌∙◌, ap}
use Rattle.weave_data.proofs.Results.{with_ok}
use Rattle.program_defs.specs.LeastWalks.{mark_in}
use Rattle.program_defs.proofs.Noting.{first-mark}
use Rattle.program_defs.proofs.path_search.first_mark.Goals as goal

pub returns : goal.returns
returns c = λ v.
    first-mark c.args.from _ c.reserve.new.self.entries c.insert.new.self.entries (λ w. c.reserve.ensures.entries.2 w ∙ ap (λ xs. mark_in xs w) c.new-marks.ensures.empty)
    (with_ok _ _ (c.insert.ensures.succeeds (let room = c.in_ok-reserve.ensures.ok in omega (arith, room))) c.insert.ensures.updates).0 v
