use Rattle.std.proofs.Common.{◌∙◌}
use Rattle.machine_tests.proofs.LogSteps.{gates-stay}
use Rattle.machine_tests.proofs.shard_row.apply.Goals as goal

pub apply-applied-requires-clause-passes : goal.apply-applied-requires-clause-passes
apply-applied-requires-clause-passes g c = λ head is waits. c.expect_head_passing.ensures head is

pub invariant_of-row : goal.invariant_of-row
invariant_of-row g c = gates-stay _ _ _ _ c.apply-applied.result c.apply-applied.ensures.entry c.apply-applied.ensures.unchanged ∙ c.row.invariant
