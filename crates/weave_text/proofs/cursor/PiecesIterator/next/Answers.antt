use Rattle.std.proofs.Common.{length, arith, sym, ap, ◌∙◌}
use Rattle.std.specs.Prelude.{option_map}
use Rattle.weave_text.specs.Cutting.{pieces_left}
use Rattle.weave_text.proofs.FirstPiece.{pieces_of-cut, pieces_of-whole}
use Rattle.weave_text.proofs.cursor.PiecesIterator.next.Goals as goal

pub returns-in-Some-clause-steps : goal.returns-in-Some-clause-steps
returns-in-Some-clause-steps c =
    sym c.self.view_is ∙ ap (λ left. pieces_left c.self.inside.at (option_map (λ text. text.now) left)) c.in_ok-text.was
    ∙ pieces_of-cut c.self.inside.at c.in_ok-text.text.now c.in-Some.end (sym c.in-Some.ensures)

pub returns-in-None-clause-steps : goal.returns-in-None-clause-steps
returns-in-None-clause-steps c =
    sym c.self.view_is ∙ ap (λ left. pieces_left c.self.inside.at (option_map (λ text. text.now) left)) c.in_ok-text.was
    ∙ pieces_of-whole c.self.inside.at c.in_ok-text.text.now (sym c.in-None.ensures)

pub returns-in-Some-clause-goes : goal.returns-in-Some-clause-goes
returns-in-Some-clause-goes c =
    record { on = λ _. (tt, tt, omega (arith, ap length (returns-in-Some-clause-steps c))); keeps = tt; rests = λ _. tt }

pub returns-in-None-clause-goes : goal.returns-in-None-clause-goes
returns-in-None-clause-goes c =
    record { on = λ _. (tt, tt, omega (arith, ap length (returns-in-None-clause-steps c))); keeps = tt; rests = λ _. tt }
