use Rattle.weave_phase.proofs.lower_laws.phases_keep_their_laws.Goals as goal

pub returns : goal.returns
returns c = record {
  idle = c.split_clients_are_ready.ensures.idle;
  ready = c.split_clients_are_ready.ensures.ready;
  begun_first = c.sessions_go_in_turn.ensures.begun;
  may_start = c.split_machines_may_start.ensures;
  order = c.split_machines_are_in_order.ensures.order;
  logs = c.split_machines_are_in_order.ensures.logs;
  counts = c.split_machines_are_in_order.ensures.counts;
  parts = c.closed_machines_are_parts.ensures;
  shards = c.split_shards_keep_the_rules.ensures;
  ends = c.closed_parts_can_be_joined.ensures;
  ran_as = c.sessions_run_as_their_workers_end.ensures.ends;
  ran_idle = c.sessions_run_as_their_workers_end.ensures.idle;
  own_visits = c.hands_of_a_phase_visit_their_own.ensures;
  clocks = c.facts_stay_true.ensures.clocks;
}
