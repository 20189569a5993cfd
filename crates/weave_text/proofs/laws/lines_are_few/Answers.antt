use Rattle.weave_text.proofs.Joined.{length-lines_of}
use Rattle.weave_text.proofs.laws.lines_are_few.Goals as goal

pub returns : goal.returns
returns c = length-lines_of
