use Rattle.program_defs.proofs.CertificateLaw.{tests-are-exact}
use Rattle.program_defs.proofs.laws.certificates_are_exact.Goals as goal

pub returns : goal.returns
returns c = tests-are-exact
