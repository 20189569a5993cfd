use Rattle.std.proofs.Common.{◌<◌, ◌-◌, IsTrue}
use Rattle.order_witness.specs.Begun.{is_request_before}
use Rattle.order_witness.specs.Heads.{item}
use Rattle.run_judge.proofs.rows.passed.Given as goal

abbrev pub invariant-loop-place : goal.invariant-loop-place
invariant-loop-place l = l.from < l.place → IsTrue (is_request_before l.report (item l.list (l.place - 1)) l.request)
