use Rattle.std.proofs.Common.{ℕ, ◌<◌, arith}
use Rattle.program_defs.specs.declared.script.Script.{Script}
use Rattle.program_defs.specs.Limits.{IsWithinLimits}
use Rattle.step_rules.proofs.lower_laws.accounts_keep_their_laws.Goals as goal

below : (script : Script) → IsWithinLimits script → (home : ℕ) → home < script.gates → home < 8
below script limits home inside = let few = limits.few_gates in omega (arith, inside, few)

pub returns : goal.returns
returns c = record {
  may_be_heard = λ script account limits is home clock inside. c.clocks_are_known.ensures.may_be_heard script.shards home account (below script limits home inside) (is.gatekeepers.logs home) clock;
  ticked = λ script account next limits is on home inside. c.clocks_are_known.ensures.ticked script account next on home (below script limits home inside);
  low = c.clocks_are_known.ensures.low;
  last = c.stamps_are_begun.ensures.last;
  differ = c.begun_stamps_are_coherent.ensures.differ;
  judged_work = c.judgements_are_of_requests.ensures.work;
  judged_counts = c.judgements_are_of_requests.ensures.counts;
  judged_begun = c.judgements_are_of_requests.ensures.begun;
  flights = c.requests_end_or_go_on.ensures.flights;
  judged_before = c.judgements_are_of_requests.ensures.before;
  follows = c.sessions_follow_gatekeepers.ensures;
  earlier = c.requests_of_a_session_rise.ensures.earlier;
  rise = c.requests_of_a_session_rise.ensures.rise;
  among = c.requests_of_a_session_rise.ensures.among;
  each_once = c.requests_end_or_go_on.ensures.once;
  same_marked = λ script account next limits is on many. c.facts_stay_true.ensures.same_marked script account next limits is on;
  same_reads = λ script account next limits is on many. c.facts_stay_true.ensures.as_many_reads script account next limits is on;
}
