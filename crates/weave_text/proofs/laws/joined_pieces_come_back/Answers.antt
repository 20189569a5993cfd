use Rattle.weave_text.proofs.Joined.{pieces_come_back}
use Rattle.weave_text.proofs.laws.joined_pieces_come_back.Goals as goal

pub returns : goal.returns
returns c = pieces_come_back
