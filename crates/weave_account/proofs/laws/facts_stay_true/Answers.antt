use Rattle.weave_account.proofs.Basis.{based}
use Rattle.weave_account.proofs.Growing.{precedence-stays, known-stays, begins-stay, entry-begun, judges-stay, sends-stay, shard-stays, reply-stays, pair-stays, stamp-stays, begun-stays}
use Rattle.weave_account.proofs.Sessions.{sessions-rise}
use Rattle.weave_account.proofs.laws.facts_stay_true.Goals as goal
use Rattle.weave_account.proofs.VisitsStay.{asked-for-stays, entry-stays, marked-stay, reads-go-on, reads-same, reads-stay, turn-stays}

pub returns : goal.returns
returns c =
    let laws = c.the_crates_below_keep_their_laws.ensures in
    record {
      precedence = precedence-stays;
      clocks = known-stays;
      begun = begun-stays;
      stamps = λ script account next on once r stamp is. stamp-stays script account next on once r stamp is;
      begins = λ script account next limits is on once home before after entry there.
          begins-stay script account next on once (sessions-rise script account (based laws limits is)) home before entry.deed
          (entry-begun account is.gatekeepers.once home before entry after there) (is.gatekeepers.begins home before entry after there);
      judgements = judges-stay;
      sends = sends-stay;
      shards = shard-stays;
      replies = reply-stays;
      asked = λ script account next limits is on settled asked. asked-for-stays script account next (based laws limits is) on settled asked;
      marked = λ script account next limits is on shard visit h its. entry-stays script account next (based laws limits is) on shard visit h its;
      reads = λ script account next limits is on r shard. reads-go-on script account next (based laws limits is) on r shard;
      same_reads = λ script account next limits is on r same. reads-stay script account next (based laws limits is) on r same;
      as_many_reads = λ script account next limits is on r many. reads-same script account next (based laws limits is) on r many;
      same_marked = λ script account next limits is on same. marked-stay script account next (based laws limits is) on same;
      programs = λ script account next limits is on r program same ended turn. turn-stays script account next (based laws limits is) on r program same ended turn;
      pairs = λ script account next on once pair given is. pair-stays script account next on once pair given is;
    }
