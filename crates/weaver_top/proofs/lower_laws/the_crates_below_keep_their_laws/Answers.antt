use Rattle.weaver_top.proofs.lower_laws.the_crates_below_keep_their_laws.Goals as goal

pub returns : goal.returns
returns c = record {
  ends = c.requests_end.ensures.begun;
  in_flight = c.what_has_not_ended_goes_on.ensures.flight;
  once = c.requests_end_or_go_on.ensures.once;
  differ = c.begun_stamps_are_coherent.ensures.differ;
  begun = c.facts_stay_true.ensures.begun;
  finished = c.finished_exactly_if_replied.ensures;
  goes_on = c.steps_keep_the_core.ensures.goes_on;
  start = c.start_is_a_core.ensures;
}
