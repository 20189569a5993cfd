use Rattle.explain_words.proofs.verdict.verdict_words.Goals as goal

pub wrong_words-requires : goal.wrong_words-requires
wrong_words-requires c = c.in_ok-verdict.ensures.no c.in-No.clause c.in-No.place c.in-No.is
