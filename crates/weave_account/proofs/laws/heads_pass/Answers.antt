use Rattle.weave_account.specs.Account.{shard_log}
use Rattle.weave_account.proofs.Basis.{based}
use Rattle.weave_account.proofs.Heads.{account-seen, head-kept, head-passes-at}
use Rattle.weave_account.proofs.laws.heads_pass.Goals as goal

pub returns : goal.returns
returns c =
    let laws = c.the_crates_below_keep_their_laws.ensures in
    record {
      seen_passes = λ shards store shard log has home head there waits.
          head-passes-at laws shards store shard log has home _ head there waits;
      seen_kept_here = λ shards store shard log has home head there part h.
          head-kept laws shards store shard log has home _ head there part h;
      passes = λ script account limits is shard home head there waits.
          head-passes-at laws script.shards account.store shard (shard_log account shard)
          (account-seen script account (based laws limits is) shard (shard_log account shard) (is.shards.deeds shard))
          home _ head there waits;
      kept_here = λ script account limits is shard home head there part h.
          head-kept laws script.shards account.store shard (shard_log account shard)
          (account-seen script account (based laws limits is) shard (shard_log account shard) (is.shards.deeds shard))
          home _ head there part h;
    }
