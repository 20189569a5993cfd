use Rattle.seen_logs.proofs.Asking.{hand-sees}
use Rattle.seen_logs.proofs.OfAccount.{gate-refers, oracle-refers, shard-refers, store-refers}
use Rattle.seen_logs.proofs.laws.accounts_refer_within.Goals as goal

pub returns : goal.returns
returns c =
    let laws = c.the_crates_below_keep_their_laws.ensures in
    record {
      gates = λ script account limits is home. gate-refers laws script account limits is home;
      store = λ script account limits is. store-refers laws script account limits is;
      oracle = λ script account limits is. oracle-refers laws script account limits is;
      asked = λ script account is entry h. is.oracle.asked entry h;
      shards = λ script account limits is legal shard. shard-refers laws script account limits is legal shard;
      hand = λ script account limits is legal number. hand-sees laws script account limits is legal number;
    }
