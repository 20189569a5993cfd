use Rattle.std.proofs.Common.{Ok}
use Rattle.workers_account.proofs.read_laws.hands_read_by_their_laws.Goals as goal

pub returns : goal.returns
returns c = record {
  reads = c.programs_left_alone_go_on.ensures.reads;
  transact = λ shards old new gate request ops last stamp verdict did r.
      (c.calls_leave_others_alone.ensures.transact shards old new gate request ops last (Ok (stamp, verdict)) did r).unvisited;
  start = λ shards old new gate request last stamp did r.
      (c.calls_leave_others_alone.ensures.start shards old new gate request last (Ok stamp) did r).unvisited;
  visit = λ gates shards old new was is did r other.
      (c.calls_leave_others_alone.ensures.visit gates shards old new was is (Ok tt) did r other).unvisited;
  finish = λ shards old new running answer did r.
      c.calls_leave_others_alone.ensures.finish_visits shards old new running (Ok answer) did r;
  none_visited = c.hands_visit_their_own_programs.ensures.others;
  own_visited = λ shared old new was is is_old is_new runs did own.
      c.hands_visit_their_own_programs.ensures.visit shared old new was is (Ok tt) is_old is_new runs did own;
  visits_go_on = c.visits_go_on.ensures;
  among_tested = c.each_vertex_is_named_once.ensures.tested;
  replied_first = c.sessions_go_in_turn.ensures.replied;
}
