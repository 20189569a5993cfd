use Rattle.lock_tests.proofs.hands.calls.workers_keep_their_laws.Goals as goal

pub returns : goal.returns
returns c = record {
  fresh_at_gate = c.what_was_not_begun_stays.ensures.gate;
  fresh_elsewhere = c.what_was_not_begun_stays.ensures.others;
  heard_at_gate = c.what_was_begun_may_be_heard.ensures.gate;
  heard_elsewhere = c.what_was_begun_may_be_heard.ensures.others;
  nothing_read = c.own_reads_were_seen.ensures.nothing;
  same_reads = c.programs_left_alone_go_on.ensures.reads;
  runs = c.programs_left_alone_go_on.ensures.running;
  starts = c.begun_programs_run.ensures;
}
