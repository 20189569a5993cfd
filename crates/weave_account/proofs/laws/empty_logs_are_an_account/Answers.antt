use Rattle.weave_account.proofs.Starting.{starts}
use Rattle.weave_account.proofs.laws.empty_logs_are_an_account.Goals as goal

pub returns : goal.returns
returns c =
    starts
