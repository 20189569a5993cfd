use Rattle.std.specs.Prelude.{◌≡◌, ◌≤◌, ◌+◌, ◌*◌, ◌-◌}
use Rattle.weaver_workers.specs.Phases.{programs_in}
use Rattle.weaver_workers.proofs.bounds.program_turns.Given as goal

abbrev pub invariant-loop-request : goal.invariant-loop-request
invariant-loop-request l = record {
  count : l.turns + programs_in l.script l.request (l.upto - l.request) * 4 ≡ programs_in l.script l.from (l.upto - l.from) * 4;
  few : l.turns ≤ (l.request - l.from) * 4;
}
