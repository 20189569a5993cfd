use Rattle.weaver_core.proofs.staying.what_stays.Goals as goal

pub returns-clause-stay : goal.returns-clause-stay
returns-clause-stay c = record {
  same_reads = c.facts_stay_true.ensures.same_reads;
  replied = c.finished_exactly_if_replied.ensures;
  ends = c.requests_end.ensures.begun;
  rise = c.requests_of_a_session_rise.ensures.rise;
  among = c.requests_of_a_session_rise.ensures.among;
  begun_first = c.sessions_go_in_turn.ensures.begun;
  replied_first = c.sessions_go_in_turn.ensures.replied;
  begun_tested = c.begun_and_replied_are_decided.ensures.begun;
  replied_tested = c.begun_and_replied_are_decided.ensures.replied;
}

pub returns-clause-core : goal.returns-clause-core
returns-clause-core c = record { tried = c.steps_keep_the_core.ensures.tried; goes_on = c.steps_keep_the_core.ensures.goes_on }
