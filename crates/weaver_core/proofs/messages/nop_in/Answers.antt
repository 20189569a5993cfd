use Rattle.weaver_core.proofs.messages.nop_in.Goals as goal

pub returns-in-Ok-clause-sends : goal.returns-in-Ok-clause-sends
returns-in-Ok-clause-sends c = (c.in-Ok.ensures.entry, c.in-Ok.ensures.busy)

-- `field-0` is the fault of the pattern: its clause is carried over to `Busy`
pub returns-in-Err-Busy-clause-sends : goal.returns-in-Err-Busy-clause-sends
returns-in-Err-Busy-clause-sends c = (c.in-Err-Busy.ensures.refused, (rw c.in-Err-Busy.field-0-is at c.in-Err-Busy.ensures.busy).1)
