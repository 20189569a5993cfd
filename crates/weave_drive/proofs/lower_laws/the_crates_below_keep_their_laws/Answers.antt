use Rattle.weave_drive.proofs.lower_laws.the_crates_below_keep_their_laws.Goals as goal

pub returns : goal.returns
returns c = record {
  goes_on = c.steps_keep_the_core.ensures.goes_on;
  arrived = c.messages_arrive_as_sent.ensures.arrived;
  gatekeepers = c.messages_arrive_as_sent.ensures.gatekeepers;
  numbers = c.messages_arrive_as_sent.ensures.numbers;
  numbered = c.messages_arrive_as_sent.ensures.numbered;
  all_processed = c.no_shard_is_stuck.ensures.all_processed;
  after_its_home = c.known_clocks_may_be_heard.ensures.after_its_home;
  reached = c.readiness_stays.ensures.reached;
  stays = c.readiness_stays.ensures.stays;
  left = c.programs_read_few.ensures;
  whole = c.reads_stay.ensures.whole;
  sent = c.requests_end_or_go_on.ensures.sent;
  stamps = c.facts_stay_true.ensures.stamps;
}
