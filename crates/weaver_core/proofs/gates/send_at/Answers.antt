use Rattle.weaver_core.proofs.gates.send_at.Goals as goal

pub send-requires-clause-counts : goal.send-requires-clause-counts
send-requires-clause-counts c = λ flight flies. c.requires.counts
