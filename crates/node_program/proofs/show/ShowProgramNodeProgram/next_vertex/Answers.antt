use Rattle.node_program.proofs.Shown.{shown_over}
use Rattle.node_program.proofs.show.ShowProgramNodeProgram.next_vertex.Goals as goal

pub returns-in-Some-clause-visit : goal.returns-in-Some-clause-visit
returns-in-Some-clause-visit c = λ reads h. shown_over _ _ _ reads c.in-Some.is h
