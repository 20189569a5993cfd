use Rattle.weave_account.specs.Account.{shard_log}
use Rattle.weave_account.proofs.Basis.{based}
use Rattle.weave_account.proofs.Collecting.{account-sent}
use Rattle.weave_account.proofs.Heads.{account-seen}
use Rattle.weave_account.proofs.Sent.{sent-made}
use Rattle.weave_account.proofs.laws.accounts_were_seen.Goals as goal

pub returns : goal.returns
returns c =
    let laws = c.the_crates_below_keep_their_laws.ensures in
    record {
      shards = λ script account limits is shard. account-seen script account (based laws limits is) shard (shard_log account shard) (is.shards.deeds shard);
      sent = λ script account limits is shard. account-sent script account (based laws limits is) shard;
      channels = λ script account limits is shard home a h. sent-made script account shard is.channels home a h;
    }
