use Rattle.std.proofs.Common.{refl}
use Rattle.weave_phase.proofs.running.run_one.Goals as goal

pub returns : goal.returns
returns g c = record { answer = c.go-answer.result; answer_is = refl; works = c.go-answer.ensures }
