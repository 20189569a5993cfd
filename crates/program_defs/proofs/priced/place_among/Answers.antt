use Rattle.program_defs.proofs.Placing.{found-here, none-here}
use Rattle.program_defs.proofs.priced.place_among.Goals as goal

pub returns-in-Ok-clause-some : goal.returns-in-Ok-clause-some
returns-in-Ok-clause-some c = found-here c.args.vertices.now c.args.v c.in-Ok.place c.in-Ok.ensures.bound c.in-Ok.ensures.ok

pub returns-in-Err-clause-none : goal.returns-in-Err-clause-none
returns-in-Err-clause-none c = none-here c.args.vertices.now c.args.v c.in-Err.field-0 c.requires c.in-Err.ensures.position
