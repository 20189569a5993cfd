use Rattle.std.proofs.Common.{◌∙◌}
use Rattle.node_program.proofs.Shown.{shown_is}
use Rattle.node_program.proofs.show.ShowProgramNodeProgram.outcome.Goals as goal

pub returns-in_ok-copy-in-Some : goal.returns-in_ok-copy-in-Some
returns-in_ok-copy-in-Some c = λ reads h. c.in_ok-copy-in-Some.ensures ∙ shown_is _ _ _ reads c.in-Some.is h
