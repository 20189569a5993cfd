use Rattle.std.proofs.Common.{refl, subst}
use Rattle.weave_data.specs.Names.{shard_of}
use Rattle.weave_account.specs.Account.{shard_log}
use Rattle.weave_account.specs.Seen.{HasSeenSent}
use Rattle.weave_account.proofs.Basis.{based}
use Rattle.weave_account.proofs.Collecting.{account-sent, below-program, bound-below, kept-for, running-inside, sent-before}
use Rattle.weave_account.proofs.Heads.{account-seen}
use Rattle.weave_account.proofs.Sent.{commits-pass}
use Rattle.weave_account.proofs.laws.collections_leave_what_programs_see.Goals as goal

pub returns : goal.returns
returns c =
    let laws = c.the_crates_below_keep_their_laws.ensures in
    record {
      seen_bounds = λ gates shards seen shard log sent home inside program running bound e.
          below-program laws gates shards seen shard log sent home inside program running bound e;
      seen_kept = λ gates shards seen shard log has sent home inside program running v here.
          kept-for laws gates shards seen shard log has sent home inside program running v here;
      bounds = λ script account limits is home program running shard before after at bound e.
          below-program laws script.gates script.shards account shard before
          (sent-before script.gates script.shards account shard before after
          (subst (HasSeenSent script.gates script.shards account shard) at (account-sent script account (based laws limits is) shard)))
          home (running-inside script account (based laws limits is) home program running) program running bound e;
      oldest = λ script account limits is v some.
          bound-below laws script.shards account.store (commits-pass script account (based laws limits is))
          (shard_of v script.shards) v refl (shard_log account (shard_of v script.shards))
          (account-seen script account (based laws limits is) (shard_of v script.shards) (shard_log account (shard_of v script.shards)) (is.shards.deeds (shard_of v script.shards))).takes some;
      kept = λ script account limits is home program running v.
          kept-for laws script.gates script.shards account (shard_of v script.shards) (shard_log account (shard_of v script.shards))
          (account-seen script account (based laws limits is) (shard_of v script.shards) (shard_log account (shard_of v script.shards)) (is.shards.deeds (shard_of v script.shards)))
          (account-sent script account (based laws limits is) (shard_of v script.shards)) home (running-inside script account (based laws limits is) home program running) program running v refl;
    }
