use Rattle.std.proofs.Common.{Ok}
use Rattle.sessions_account.proofs.lower_laws.sessions_keep_their_laws.Goals as goal

pub returns : goal.returns
returns c = record {
  phase = record {
    follow = c.workers_follow_their_sessions.ensures;
    visits_none = c.visits_stay_of_own_programs.ensures.start;
    visits_carried = c.hands_visit_their_own_programs.ensures.others;
    own_at_gate = c.own_entries_of_each_log.ensures.gate;
    own = c.own_entries_are_those_seen.ensures;
    found = c.hands_are_found_by_number.ensures.found;
    reads_all = c.own_reads_were_seen.ensures.all;
    reads_closed = c.programs_read_what_was_seen.ensures.reads;
    ends = c.requests_end.ensures.begun;
    flights = c.what_has_not_ended_goes_on.ensures.flight;
    begun_first = c.sessions_go_in_turn.ensures.begun;
    replied_first = c.sessions_go_in_turn.ensures.replied;
    has_reply = c.begun_and_replied_are_decided.ensures.replied;
    rise = c.requests_of_a_session_rise.ensures.rise;
    last_is = c.last_stamps_are_those_of_sessions.ensures;
    once_at = c.requests_end_or_go_on.ensures.once;
    ids = c.begun_stamps_are_coherent.ensures.differ;
    replies_stay = c.facts_stay_true.ensures.replies;
    clocks_stay = c.facts_stay_true.ensures.clocks;
    account = c.closed_logs_are_an_account.ensures;
    goes_on = c.closed_logs_go_on.ensures;
  };
  reads = record {
    reads = c.programs_left_alone_go_on.ensures.reads;
    transact = λ shards old new gate request ops last stamp verdict did r.
        (c.calls_leave_others_alone.ensures.transact shards old new gate request ops last (Ok (stamp, verdict)) did r).unvisited;
    start = λ shards old new gate request last stamp did r.
        (c.calls_leave_others_alone.ensures.start shards old new gate request last (Ok stamp) did r).unvisited;
    visit = λ gates shards old new was is did r other.
        (c.calls_leave_others_alone.ensures.visit gates shards old new was is (Ok tt) did r other).unvisited;
    finish = λ shards old new running answer did r.
        c.calls_leave_others_alone.ensures.finish_visits shards old new running (Ok answer) did r;
    none_visited = c.hands_visit_their_own_programs.ensures.others;
    own_visited = λ shared old new was is is_old is_new runs did own.
        c.hands_visit_their_own_programs.ensures.visit shared old new was is (Ok tt) is_old is_new runs did own;
    visits_go_on = c.visits_go_on.ensures;
    among_tested = c.each_vertex_is_named_once.ensures.tested;
    replied_first = c.sessions_go_in_turn.ensures.replied;
  };
  runs = c.programs_left_alone_go_on.ensures.running;
  goes_on = c.hands_go_on.ensures.client;
  landed = c.hands_go_on.ensures.landed;
  idle = c.split_clients_are_ready.ensures.idle;
  ready = c.split_clients_are_ready.ensures.ready;
}
