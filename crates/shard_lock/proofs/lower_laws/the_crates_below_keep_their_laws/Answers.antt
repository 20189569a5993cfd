use Rattle.shard_lock.proofs.lower_laws.the_crates_below_keep_their_laws.Goals as goal

pub returns : goal.returns
returns c = record {
  notes = c.machines_note_more.ensures.shard;
  stays = c.references_go_on.ensures.shard;
  beginnings = c.beginnings_are_legal.ensures;
  has_seen = c.shards_have_seen.ensures.store;
  passes = c.heads_pass.ensures.seen_passes;
}
