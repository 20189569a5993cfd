use Rattle.weaver_core.proofs.CoreDone.{values-of-start}
use Rattle.weaver_core.proofs.script_core.Core.start.Goals as goal

pub invariant_of-result : goal.invariant_of-result
invariant_of-result c = (c.in_ok-machines.ensures.are, values-of-start c.args.script c.in_ok-machines.machines c.in_ok-machines.ensures.start c.in_ok-machines.ensures.values)

pub returns-clause-state : goal.returns-clause-state
returns-clause-state c = c.in_ok-machines.ensures.start
