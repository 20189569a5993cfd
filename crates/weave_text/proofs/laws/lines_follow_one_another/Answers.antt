use Rattle.weave_text.proofs.Joined.{lines_in_turn}
use Rattle.weave_text.proofs.laws.lines_follow_one_another.Goals as goal

pub returns : goal.returns
returns c = lines_in_turn
