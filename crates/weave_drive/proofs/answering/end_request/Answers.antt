use Rattle.std.proofs.lemmas.Bool.{both_ways}
use Rattle.weave_drive.proofs.answering.end_request.Goals as goal

pub returns-then-change-clause-read : goal.returns-then-change-clause-read
returns-then-change-clause-read c f = absurd (both_ways c.args.change f c.if-change.true)

pub look-requires-clause-reading : goal.look-requires-clause-reading
look-requires-clause-reading c = c.requires.reading c.if-change.false

pub look-requires-clause-quiet : goal.look-requires-clause-quiet
look-requires-clause-quiet c = c.requires.quiet c.if-change.false

pub returns-clause-sent : goal.returns-clause-sent
returns-clause-sent c t = absurd (both_ways c.args.change c.if-change.false t)
