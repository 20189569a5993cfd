use Rattle.std.proofs.Common.{◌∙◌}
use Rattle.machine_tests.proofs.LogSteps.{gates-arrived}
use Rattle.machine_tests.proofs.shard_row.arrive.Goals as goal

pub invariant_of-row : goal.invariant_of-row
invariant_of-row g c =
    let answer = rw c.expect-arrival.ensures at c.arrive.ensures.answer in
    let kept = rw c.expect-arrival.ensures at c.arrive.ensures.kept in
    let repeated = rw c.expect-arrival.ensures at c.arrive.ensures.repeat in
    gates-arrived _ _ c.expect-arrival.result _ c.row.inside.shard c.arrive.new.self _ _ answer kept repeated ∙ c.row.invariant
