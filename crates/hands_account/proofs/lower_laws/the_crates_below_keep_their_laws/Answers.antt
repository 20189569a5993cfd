use Rattle.hands_account.proofs.lower_laws.the_crates_below_keep_their_laws.Goals as goal

pub returns : goal.returns
returns c = record {
  refer_within = c.closed_logs_refer_within.ensures;
  make_account = c.logs_make_an_account.ensures;
  programs_follow = c.begun_programs_are_enough.ensures;
  reads = c.programs_read_what_was_seen.ensures.reads;
  ended = c.programs_read_what_was_seen.ensures.ended;
  at_start = c.programs_read_what_was_seen.ensures.at_start;
  begins_stay = c.facts_stay_true.ensures.begins;
  begun_judged = c.judgements_are_of_requests.ensures.begun;
  before_flight = c.judgements_are_of_requests.ensures.before;
  sent = c.requests_end_or_go_on.ensures.sent;
  rise = c.requests_of_a_session_rise.ensures.rise;
  among = c.requests_of_a_session_rise.ensures.among;
  first_begun = c.sessions_go_in_turn.ensures.begun;
  has_begun = c.begun_and_replied_are_decided.ensures.begun;
  ends = c.requests_end.ensures.begun;
}
