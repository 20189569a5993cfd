use Rattle.weaver_hands.proofs.Calls.{apply-alone, finish-alone, finish-unvisited, nop-alone, pull-alone, start-alone, tell-alone, transact-alone, visit-alone}
use Rattle.weaver_hands.proofs.laws.calls_leave_others_alone.Goals as goal

pub returns : goal.returns
returns c = record {
  transact = transact-alone c.more_is_seen.ensures.later;
  start = start-alone;
  tell = tell-alone c.more_is_seen.ensures.later;
  nop = nop-alone;
  pull = pull-alone c.more_is_seen.ensures.later;
  apply = apply-alone;
  visit = visit-alone;
  finish = finish-alone;
  finish_visits = finish-unvisited;
}
