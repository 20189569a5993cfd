use Rattle.std.proofs.Common.{◌≡◌, fold, drop}
use Rattle.step_rules.specs.Trace.{trace_of, traced_after}
use Rattle.weave_script.specs.Scripts.{steps_of}
use Rattle.weaver_top.proofs.trace_command.traced.Given as goal

abbrev pub invariant-loop-index : goal.invariant-loop-index
invariant-loop-index l = record {
  script : l.core.script ≡ l.fn.core.script;
  rest : fold (traced_after l.fn.core.script) (record { answers = l.answers; state = l.core.state }) (drop l.index (steps_of l.fn.core.script.steps)) ≡ trace_of l.fn.core.script (steps_of l.fn.core.script.steps);
}
