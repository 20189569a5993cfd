use Rattle.weave_account.proofs.Basis.{based}
use Rattle.drive_rules.proofs.ReadyFor.{processed-arrived}
use Rattle.drive_rules.proofs.SentMessages.{arrived-sent, home-inside, home-is, number-within, sent-under}
use Rattle.drive_rules.proofs.laws.messages_arrive_as_sent.Goals as goal

pub returns : goal.returns
returns c =
    let laws = c.the_crates_below_keep_their_laws.ensures in
    record {
      arrived = λ script account limits is shard. arrived-sent script account (based laws limits is) shard;
      gatekeepers = λ script account limits is shard. home-inside script account (based laws limits is) shard;
      homes = λ script account limits is shard. home-is script account (based laws limits is) shard;
      numbers = λ script account limits is shard. number-within script account (based laws limits is) shard;
      numbered = λ script account limits is shard. sent-under script account (based laws limits is) shard;
      processed = λ script account limits is shard. processed-arrived script account (based laws limits is) shard;
    }
