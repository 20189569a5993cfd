use Rattle.weave_account.proofs.Basis.{based}
use Rattle.drive_rules.proofs.SomeHead.{all-processed, not-stuck}
use Rattle.drive_rules.proofs.laws.no_shard_is_stuck.Goals as goal

pub returns : goal.returns
returns c =
    let laws = c.the_crates_below_keep_their_laws.ensures in
    record {
      some_head = λ script account limits is quiet shard. not-stuck script account (based laws limits is) shard quiet;
      all_processed = λ script account limits is quiet shard. all-processed script account (based laws limits is) shard quiet;
    }
