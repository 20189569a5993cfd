use Rattle.std.proofs.Common.{sym, ap, ◌∙◌}
use Rattle.weave_text.specs.Cutting.{is_empty}
use Rattle.weave_text.proofs.FirstPiece.{none_left}
use Rattle.weave_text.proofs.cursor.Pieces.is_empty.Goals as goal

pub returns : goal.returns
returns c = none_left c.self.inside.at c.is_none.result c.self.inside.left (sym c.is_none.ensures) ∙ ap is_empty c.self.view_is
