use Rattle.std.proofs.Common.{Ok}
use Rattle.weaver_workers.proofs.keeping.workers_keep_their_laws.Goals as goal

pub returns : goal.returns
returns c = record {
  own_at_gate = c.own_entries_of_each_log.ensures.gate;
  at_gate = c.what_was_not_begun_stays.ensures.gate;
  elsewhere = c.what_was_not_begun_stays.ensures.others;
  runs = c.programs_left_alone_go_on.ensures.running;
  reads = c.programs_left_alone_go_on.ensures.reads;
  transact = λ shards old new gate request ops last stamp verdict did r.
      c.calls_leave_others_alone.ensures.transact shards old new gate request ops last (Ok (stamp, verdict)) did r;
  start = λ shards old new gate request last stamp did r.
      c.calls_leave_others_alone.ensures.start shards old new gate request last (Ok stamp) did r;
  visit = λ gates shards old new was is did r other.
      c.calls_leave_others_alone.ensures.visit gates shards old new was is (Ok tt) did r other;
  finish = λ shards old new running answer did r.
      c.calls_leave_others_alone.ensures.finish_visits shards old new running (Ok answer) did r;
  begun = c.begun_programs_run.ensures;
  replay = c.a_log_goes_on.ensures.replay;
  replied_first = c.sessions_go_in_turn.ensures.replied;
  has_reply = c.begun_and_replied_are_decided.ensures.replied;
}
