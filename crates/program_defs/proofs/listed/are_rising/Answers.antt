use Rattle.std.proofs.Common.{◌-◌, sym, ◌∙◌, arith}
use Rattle.program_defs.proofs.CertificateSteps.{rising-end}
use Rattle.program_defs.proofs.listed.are_rising.Goals as goal

pub returns : goal.returns
returns c = sym (rising-end c.args.names.now (c.loop-place.place - 1) (omega (arith, c.loop-place-test.false, c.loop-place.auto.place))) ∙ c.loop-place.invariant
