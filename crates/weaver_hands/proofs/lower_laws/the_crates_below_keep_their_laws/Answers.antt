use Rattle.weaver_hands.proofs.lower_laws.the_crates_below_keep_their_laws.Goals as goal

pub returns : goal.returns
returns c = record {
  precedence_stays = c.facts_stay_true.ensures.precedence;
  known_stays = c.facts_stay_true.ensures.clocks;
  applied = c.updates_go_on.ensures.applied;
  not_applied = c.updates_go_on.ensures.still;
  ends = c.requests_end.ensures.begun;
  settled = c.stamps_are_begun.ensures.settled;
  made = c.accounts_were_seen.ensures.channels;
  has_seen = c.accounts_were_seen.ensures.shards;
  updates_seen = c.updates_are_commits.ensures.seen;
  ids = c.begun_stamps_are_coherent.ensures.differ;
  low_known = c.clocks_are_known.ensures.low;
  flight_stamp = c.stamps_are_its_own.ensures.flight;
  heard_known = c.clocks_are_known.ensures.heard;
  replay_clock = c.the_replay_goes_on.ensures.clock;
  raised_count = c.counts_one_by_one.ensures.raised;
  seen_ids = c.begun_stamps_are_coherent.ensures.seen_ids;
  running_stamp = c.stamps_are_its_own.ensures.running;
}
