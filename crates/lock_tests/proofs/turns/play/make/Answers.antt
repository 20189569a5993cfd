use Rattle.std.proofs.Common.{◌∙◌}
use Rattle.lock_tests.proofs.turns.play.make.Goals as goal

pub answer-requires-clause-gates : goal.answer-requires-clause-gates
answer-requires-clause-gates g c = c.requires.bench.locks.gates ∙ c.requires.bench.two_gates
