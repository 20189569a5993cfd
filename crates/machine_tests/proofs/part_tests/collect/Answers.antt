use Rattle.machine_tests.proofs.part_tests.collect.Goals as goal

pub invariant_of-row : goal.invariant_of-row
invariant_of-row c = c.collect.ensures.within c.row.inside.updates c.row.invariant
