use Rattle.seen_logs.proofs.MakesAccount.{shards-within}
use Rattle.seen_logs.proofs.NotBegun.{all-in-turn}
use Rattle.seen_logs.proofs.laws.begun_programs_are_enough.Goals as goal

pub returns : goal.returns
returns c = λ script account number legal hand begins of-begun.
    let laws = c.the_crates_below_keep_their_laws.ensures in
    all-in-turn laws script account legal.gate_logs begins (shards-within laws script.shards account number hand) of-begun
