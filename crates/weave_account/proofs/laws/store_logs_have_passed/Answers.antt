use Rattle.weave_account.proofs.StorePasses.{have-passed}
use Rattle.weave_account.proofs.laws.store_logs_have_passed.Goals as goal

pub returns : goal.returns
returns c = λ store right. have-passed c.verdicts_say_what_was_judged.ensures.passes c.verdicts_say_what_was_judged.ensures.counts store right
