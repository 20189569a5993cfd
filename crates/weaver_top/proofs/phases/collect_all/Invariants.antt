use Rattle.std.proofs.Common.{◌≡◌, ℕ}
use Rattle.weaver_top.specs.PhaseByPhase.{RunsBelow}
use Rattle.weaver_top.proofs.phases.collect_all.Given as goal

abbrev pub invariant-loop-shard : goal.invariant-loop-shard
invariant-loop-shard l = record {
  script : l.core.script ≡ l.fn.core.script;
  runs : (bound : ℕ) → RunsBelow l.fn.core.script bound l.fn.core.state.account l.core.state.account;
}
