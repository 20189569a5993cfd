use Rattle.gatekeeper.proofs.Programs.{finished_more}
use Rattle.gatekeeper.proofs.running.end.Goals as goal

pub returns : goal.returns
returns c = λ programs holds. finished_more _ _ programs (c.args.author, c.args.request) holds c.remove.ensures.updates.0
