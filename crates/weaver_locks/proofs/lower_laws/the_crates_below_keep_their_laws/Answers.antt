use Rattle.weaver_locks.proofs.lower_laws.the_crates_below_keep_their_laws.Goals as goal

pub returns : goal.returns
returns c = record {
  hand = c.hands_keep_their_laws.ensures;
  store_stays = c.references_go_on.ensures.store;
  oracle_stays = c.references_go_on.ensures.oracle;
  shard_stays = c.references_go_on.ensures.shard;
  asked_precede = c.asked_pairs_precede.ensures;
}
