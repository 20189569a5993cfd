use Rattle.std.proofs.Common.{refl}
use Rattle.program_defs.specs.declared.script.Step.TheVariants.{Visit}
use Rattle.report_rules.specs.declared.report.StepAnswer.TheVariants.{Idle}
use Rattle.weaver_core.proofs.Resting.{rests}
use Rattle.weaver_core.proofs.stepping.visit_taken.Goals as goal

pub visit-requires-clause-runs : goal.visit-requires-clause-runs
visit-requires-clause-runs c = c.requires.runs c.in-Some.running c.in-Some.is

pub returns-in-None-clause-done : goal.returns-in-None-clause-done
returns-in-None-clause-done c = rests c.args.script.now (Visit c.args.request) c.args.machines.now c.args.machines.now Idle (c.requires.idle c.in-None.is) refl refl
