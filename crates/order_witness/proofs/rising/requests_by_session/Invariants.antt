use Rattle.std.proofs.Common.{◌≡◌, ◌<◌, ℕ, Some, map, Contains}
use Rattle.program_defs.specs.declared.script.Request.{Request}
use Rattle.report_rules.specs.Lookups.{request_at}
use Rattle.order_witness.proofs.rising.requests_by_session.Given as goal

abbrev pub invariant-loop-place : goal.invariant-loop-place
invariant-loop-place l = (k : ℕ) (request : Request) → k < l.place → request_at l.script k ≡ Some request → Contains (map (λ (one : ℕ × ℕ). one.1) l.requests.items) k
