use Rattle.std.proofs.Common.{[], ◌∷◌}
use Rattle.weave_data.proofs.Members.{has_head, has_tail}
use Rattle.weave_account.specs.Account.{shard_log}
use Rattle.weave_account.proofs.Basis.{based}
use Rattle.weave_account.proofs.KnownClocks.{own-known, begun-known, judged-known, settled-known, message-known, visit-known, bound-known, hearing-known, meet-known, sent-known, session-known, collected-known, may-be-heard, low-known}
use Rattle.weave_account.proofs.Ticking.{tick-known}
use Rattle.weave_account.proofs.laws.clocks_are_known.Goals as goal

pub returns : goal.returns
returns c =
    let laws = c.the_crates_below_keep_their_laws.ensures in
    record {
      gatekeepers = λ script account limits is home. own-known script account (based laws limits is) home;
      begun = λ script account limits is begun h. begun-known script account (based laws limits is) begun h;
      judged = λ script account limits is judged h. judged-known script account (based laws limits is) judged h;
      settled = λ script account limits is entry h stamp k. settled-known script account (based laws limits is) entry h stamp k;
      messages = λ script account limits is shard home number message e.
          message-known script account (based laws limits is) shard (shard_log account shard) (is.shards.deeds shard) home number message e;
      visits = λ script account limits is shard visit h. visit-known script account (based laws limits is) shard visit h;
      bounds = λ script account limits is shard bound e.
          bound-known script account (based laws limits is) shard (shard_log account shard) (is.shards.deeds shard) script.gates bound e;
      sessions = λ script account limits is session r stamp h. session-known script account (based laws limits is) session r stamp h;
      collected = λ script account limits is shard before after author bound there. collected-known script account (based laws limits is) shard before after author bound there;
      sent = λ script account limits is shard home a h. (
        sent-known script account (based laws limits is) shard home a h a.message.stamp.clock (has_head a.message.stamp.clock (a.message.low ∷ [])),
        sent-known script account (based laws limits is) shard home a h a.message.low (has_tail a.message.stamp.clock (a.message.low ∷ []) a.message.low (has_head a.message.low [])),
      );
      may_be_heard = λ shards home account below log clock known. may-be-heard laws home shards account below log clock known;
      heard = λ account home below clock heard known too. hearing-known laws account home below clock heard known too;
      met = λ account a b known too. meet-known laws account a b known too;
      low = λ account stamp running known each. low-known laws account stamp.clock running known each;
      ticked = λ script account next on home below clock known more. tick-known script laws account next on home below clock known more;
    }
