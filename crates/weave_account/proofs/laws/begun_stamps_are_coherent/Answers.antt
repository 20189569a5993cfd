use Rattle.weave_account.proofs.Basis.{acyclic, based}
use Rattle.weave_account.proofs.Coherence.{begun-coherent, seen-coherent}
use Rattle.weave_account.proofs.PairEnds.{ids-apart, ids-differ}
use Rattle.weave_account.proofs.SeenIds.{seen-ids}
use Rattle.weave_account.proofs.laws.begun_stamps_are_coherent.Goals as goal

pub returns : goal.returns
returns c =
    let laws = c.the_crates_below_keep_their_laws.ensures in
    record {
      coherent = λ script account limits is. begun-coherent script account (based laws limits is);
      seen = λ shards seen few logs. seen-coherent laws shards seen few logs;
      acyclic = λ script account limits is. acyclic script account (based laws limits is);
      ids_differ = λ script account limits is. ids-differ script account (based laws limits is);
      differ = λ script account limits is a b in-a in-b other. ids-apart script account (based laws limits is) a b in-a in-b other;
      seen_ids = λ shards seen few logs. seen-ids laws shards seen few logs;
    }
