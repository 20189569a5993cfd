use Rattle.std.proofs.Common.{◌≡◌, ◌++◌, map, take, drop}
use Rattle.order_graph.specs.Chains.{raised_event}
use Rattle.order_graph.proofs.chain.raise_events.Given as goal

abbrev pub invariant-loop-place : goal.invariant-loop-place
invariant-loop-place l = l.events ≡ map (raised_event l.earlier l.later l.frontier.latest) (take l.place l.initial.events) ++ drop l.place l.initial.events
