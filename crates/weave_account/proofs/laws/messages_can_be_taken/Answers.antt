use Rattle.weave_account.proofs.Basis.{based}
use Rattle.weave_account.proofs.Heads.{made-kept, parts-kept}
use Rattle.weave_account.proofs.Sent.{commits-pass, sent-made}
use Rattle.weave_account.proofs.Takable.{made-fit, made-takable}
use Rattle.weave_account.proofs.laws.messages_can_be_taken.Goals as goal

pub returns : goal.returns
returns c =
    let laws = c.the_crates_below_keep_their_laws.ensures in
    record {
      seen_apart = λ shards store shard log has message made. (made-fit laws shards store has.passes shard message made).apart_parts;
      seen_counted = λ shards store shard log has message made part h. (made-fit laws shards store has.passes shard message made).few_commits part h;
      seen_kept_here = λ shards store shard message made part h. made-kept shards store shard message made part h;
      seen_takable = λ shards store shard log has few message made. made-takable laws shards store has.passes shard few message made;
      takable = λ script account limits is few shard home a h.
          made-takable laws script.shards account.store (commits-pass script account (based laws limits is)) shard few a.message (sent-made script account shard is.channels home a h);
      apart = λ script account limits is shard home a h.
          (made-fit laws script.shards account.store (commits-pass script account (based laws limits is)) shard a.message (sent-made script account shard is.channels home a h)).apart_parts;
      counted = λ script account limits is shard home a h part k.
          (made-fit laws script.shards account.store (commits-pass script account (based laws limits is)) shard a.message (sent-made script account shard is.channels home a h)).few_commits part k;
      kept_here = λ script account limits is shard home a h part k. parts-kept script account (based laws limits is) shard home a h part k;
    }
