use Rattle.weave_script.proofs.HeadTexts.{head_reached}
use Rattle.weave_script.proofs.laws.heads_are_texts.Goals as goal

pub returns : goal.returns
returns c = head_reached (record { back = c.numbers_come_back.ensures.bounded; word = c.numbers_come_back.ensures.bounded_word })
