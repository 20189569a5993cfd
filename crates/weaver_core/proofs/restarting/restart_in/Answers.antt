use Rattle.weaver_core.proofs.restarting.restart_in.Goals as goal

pub returns-in-Ok-clause-raises : goal.returns-in-Ok-clause-raises
returns-in-Ok-clause-raises c = (c.in-Ok.ensures.raised, c.in-Ok.ensures.old)

-- `field-0` is the fault of the pattern: its clause is carried over to `Old`
pub returns-in-Err-Old-clause-raises : goal.returns-in-Err-Old-clause-raises
returns-in-Err-Old-clause-raises c = (c.in-Err-Old.ensures.refused, (rw c.in-Err-Old.field-0-is at c.in-Err-Old.ensures.old).1)
