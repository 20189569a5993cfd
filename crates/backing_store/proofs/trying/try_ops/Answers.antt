use Rattle.backing_store.proofs.trying.try_ops.Goals as goal

pub returns-in-Ok-clause-trial : goal.returns-in-Ok-clause-trial
returns-in-Ok-clause-trial c = rw c.in-Ok.ensures.done (rw (← c.in-Ok.ensures.before) c.passed.ensures.trial)
