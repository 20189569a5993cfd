use Rattle.std.proofs.Common.{refl}
use Rattle.weave_data.specs.Names.{shard_of}
use Rattle.weave_account.specs.Account.{shard_log}
use Rattle.weave_account.proofs.Basis.{based}
use Rattle.weave_account.proofs.Heads.{account-seen, seen-updates}
use Rattle.weave_account.proofs.laws.updates_are_commits.Goals as goal

pub returns : goal.returns
returns c =
    let laws = c.the_crates_below_keep_their_laws.ensures in
    record {
      seen = λ shards store shard log has v here. seen-updates laws shards store shard log has v here;
      whole = λ script account limits is v.
          seen-updates laws script.shards account.store (shard_of v script.shards) (shard_log account (shard_of v script.shards))
          (account-seen script account (based laws limits is) (shard_of v script.shards) (shard_log account (shard_of v script.shards)) (is.shards.deeds (shard_of v script.shards))) v refl;
    }
