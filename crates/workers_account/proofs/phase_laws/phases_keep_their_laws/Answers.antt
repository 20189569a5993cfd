use Rattle.workers_account.proofs.phase_laws.phases_keep_their_laws.Goals as goal

pub returns : goal.returns
returns c = record {
  follow = c.workers_follow_their_sessions.ensures;
  visits_none = c.visits_stay_of_own_programs.ensures.start;
  visits_carried = c.hands_visit_their_own_programs.ensures.others;
  own_at_gate = c.own_entries_of_each_log.ensures.gate;
  own = c.own_entries_are_those_seen.ensures;
  found = c.hands_are_found_by_number.ensures.found;
  reads_all = c.own_reads_were_seen.ensures.all;
  reads_closed = c.programs_read_what_was_seen.ensures.reads;
  ends = c.requests_end.ensures.begun;
  flights = c.what_has_not_ended_goes_on.ensures.flight;
  begun_first = c.sessions_go_in_turn.ensures.begun;
  replied_first = c.sessions_go_in_turn.ensures.replied;
  has_reply = c.begun_and_replied_are_decided.ensures.replied;
  rise = c.requests_of_a_session_rise.ensures.rise;
  last_is = c.last_stamps_are_those_of_sessions.ensures;
  once_at = c.requests_end_or_go_on.ensures.once;
  ids = c.begun_stamps_are_coherent.ensures.differ;
  replies_stay = c.facts_stay_true.ensures.replies;
  clocks_stay = c.facts_stay_true.ensures.clocks;
  account = c.closed_logs_are_an_account.ensures;
  goes_on = c.closed_logs_go_on.ensures;
}
