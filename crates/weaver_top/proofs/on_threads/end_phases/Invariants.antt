use Rattle.std.proofs.Common.{◌≡◌}
use Rattle.weaver_workers.specs.Phases.{phase_start}
use Rattle.weaver_top.specs.ByWorkers.{AreRunByWorkers}
use Rattle.weaver_top.specs.PhaseByPhase.{IsRunUpTo}
use Rattle.weaver_top.proofs.on_threads.end_phases.Given as goal

abbrev pub invariant-loop-phase : goal.invariant-loop-phase
invariant-loop-phase g l = record {
  script : l.core.script ≡ l.fn.core.script;
  workers : AreRunByWorkers l.fn.core.script l.phase l.core.state.account;
  run : IsRunUpTo l.fn.core.script l.phase (phase_start l.fn.core.script l.phase) l.core.state.account;
}
