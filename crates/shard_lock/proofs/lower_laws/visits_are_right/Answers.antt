use Rattle.shard_lock.proofs.lower_laws.visits_are_right.Goals as goal

pub returns : goal.returns
returns c = record {
  sent = c.shards_have_seen.ensures.sent;
  kept = c.collections_leave_what_programs_see.ensures.seen_kept;
  updates = c.updates_are_commits.ensures.seen;
  ids = c.begun_stamps_are_coherent.ensures.seen_ids;
  skipped = c.visits_split_the_updates.ensures.skipped;
  read = c.kept_updates_are_read_like_all.ensures.updates;
  last = c.kept_updates_are_read_like_all.ensures.last;
  named = c.the_last_update_read_is_seen.ensures.named;
  all_precede = c.settling_puts_all_before.ensures.all_precede;
  tested = c.precedence_is_decided.ensures.tested;
  grows = c.more_pairs_more_precedence.ensures.grows;
}
