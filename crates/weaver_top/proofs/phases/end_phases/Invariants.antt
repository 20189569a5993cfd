use Rattle.std.proofs.Common.{◌≡◌}
use Rattle.weaver_top.specs.PhaseByPhase.{IsRunUpTo}
use Rattle.weaver_top.proofs.phases.end_phases.Given as goal

abbrev pub invariant-loop-phase : goal.invariant-loop-phase
invariant-loop-phase l = record {
  script : l.core.script ≡ l.fn.core.script;
  run : IsRunUpTo l.fn.core.script l.phase l.bound l.core.state.account;
}
