use Rattle.std.proofs.Common.{sym, ap, subst, ◌∙◌}
use Rattle.version_parts.specs.Counts.{count_updates}
use Rattle.version_parts.specs.Placed.{AreUpTo}
use Rattle.version_parts.specs.States.{state_at}
use Rattle.version_parts.proofs.Counting.{until_count}
use Rattle.version_parts.proofs.Cutting.{until_stays}
use Rattle.version_parts.proofs.Placing.{until_within}
use Rattle.version_parts.proofs.parts.Parts.take_back.Goals as goal

pub returns-clause-states : goal.returns-clause-states
returns-clause-states c = λ update within. ap (state_at update) c.cut.ensures.items ∙ until_stays c.args.newest update c.args.self.now within

pub returns-clause-within : goal.returns-clause-within
returns-clause-within c = subst (AreUpTo c.args.newest) (sym c.cut.ensures.items) (until_within c.args.newest c.args.self.now)

pub returns-clause-counts : goal.returns-clause-counts
returns-clause-counts c = λ test. ap (count_updates test) c.cut.ensures.items ∙ until_count test c.args.newest c.args.self.now
