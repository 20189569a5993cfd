use Rattle.std.proofs.Common.{ℕ, IsTrue, take}
use Rattle.report_rules.specs.Lookups.{is_in}
use Rattle.order_witness.specs.Begun.{request_precedes}
use Rattle.run_judge.proofs.vertices.first_after.Given as goal

abbrev pub invariant-loop-place : goal.invariant-loop-place
invariant-loop-place l = (e : ℕ) → IsTrue (is_in e (take l.place l.requests)) → IsTrue (request_precedes l.report e l.request)
