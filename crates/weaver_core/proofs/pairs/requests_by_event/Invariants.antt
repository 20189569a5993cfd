use Rattle.std.proofs.Common.{◌≤◌, length, drop}
use Rattle.weaver_core.specs.Reporting.{HasRequests}
use Rattle.weaver_core.proofs.pairs.requests_by_event.Given as goal

-- the requests from this place on are in the table
abbrev pub invariant-loop-place : goal.invariant-loop-place
invariant-loop-place l = record { within : l.place ≤ length l.stamps; has : HasRequests l.place (drop l.place l.stamps) l.requests.entries }

abbrev pub decreases-loop-place : goal.decreases-loop-place
decreases-loop-place l = l.place
