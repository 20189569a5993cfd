use Rattle.weaver_locks.proofs.gate_laws.gates_keep_their_laws.Goals as goal

pub returns : goal.returns
returns c = record {
  stays = c.references_go_on.ensures.gate;
  own_clock = c.clocks_count_within.ensures.own;
  may_be_heard = c.clocks_are_known.ensures.may_be_heard;
  flight = c.the_replay_goes_on.ensures.flight;
  counts = c.verdicts_count_what_is_named.ensures;
}
