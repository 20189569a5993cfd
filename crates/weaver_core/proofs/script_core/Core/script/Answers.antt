use Rattle.std.proofs.Common.{subst}
use Rattle.program_defs.specs.Limits.{IsWithinLimits}
use Rattle.step_rules.specs.IsCore.{IsCore}
use Rattle.weaver_core.specs.Cores.{CoreView}
use Rattle.weaver_core.proofs.script_core.Core.script.Goals as goal

pub returns-clause-limits : goal.returns-clause-limits
returns-clause-limits c = subst (λ (v : CoreView). IsWithinLimits v.script) c.self.view_is c.self.invariant.0.limits

pub returns-clause-core : goal.returns-clause-core
returns-clause-core c = subst (λ (v : CoreView). IsCore v.script v.state) c.self.view_is c.self.invariant.0.core
