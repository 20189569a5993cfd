use Rattle.weave_text.proofs.Joined.{joined_of-pieces}
use Rattle.weave_text.proofs.laws.cut_texts_are_joined.Goals as goal

pub returns-clause-words : goal.returns-clause-words
returns-clause-words c = joined_of-pieces 32

pub returns-clause-pieces : goal.returns-clause-pieces
returns-clause-pieces c = joined_of-pieces
