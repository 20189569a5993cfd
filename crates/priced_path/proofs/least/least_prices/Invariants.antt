use Rattle.priced_path.specs.Searches.{IsNoneLeft}
use Rattle.priced_path.specs.Tables.{IsSearchOver, work_left}
use Rattle.priced_path.proofs.least.least_prices.Given as goal

abbrev pub invariant-loop-label : goal.invariant-loop-label
invariant-loop-label l = IsSearchOver l.rows l.start l.labels.items l.opened IsNoneLeft

abbrev pub decreases-loop-label : goal.decreases-loop-label
decreases-loop-label l = work_left l.labels.items l.opened
