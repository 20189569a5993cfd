use Rattle.graph_ops.proofs.States.{copied_more, apart_rest, all_copied}
use Rattle.graph_ops.proofs.graph.copy_slots.Goals as goal

pub loop-v-preserved-in_ok-insert : goal.loop-v-preserved-in_ok-insert
loop-v-preserved-in_ok-insert c = record {
  apart = apart_rest c.in-Some.v.now c.in-Some.state.now _ _ c.in-Some.ensures.steps c.loop-v.invariant.apart;
  states = copied_more c.in-Some.v.now c.in-Some.state.now c.in_ok-copy.field-0 c.args.slots.now.entries _ _ _ _ c.in-Some.ensures.steps c.in_ok-copy.ensures c.loop-v.invariant.apart c.in_ok-insert.ensures.updates.0 c.loop-v.invariant.states;
}

pub loop-v-preserved-in_ok-insert-2 : goal.loop-v-preserved-in_ok-insert-2
loop-v-preserved-in_ok-insert-2 c = record {
  apart = apart_rest c.in-Some.v.now c.in-Some.state.now _ _ c.in-Some.ensures.steps c.loop-v.invariant.apart;
  states = copied_more c.in-Some.v.now c.in-Some.state.now c.in_ok-copy.field-0 c.args.slots.now.entries _ _ _ _ c.in-Some.ensures.steps c.in_ok-copy.ensures c.loop-v.invariant.apart c.in_ok-insert.ensures.updates.0 c.loop-v.invariant.states;
}

pub loop-v-preserved : goal.loop-v-preserved
loop-v-preserved c = record {
  apart = apart_rest c.in-Some.v.now c.in-Some.state.now _ _ c.in-Some.ensures.steps c.loop-v.invariant.apart;
  states = copied_more c.in-Some.v.now c.in-Some.state.now c.in_ok-copy.field-0 c.args.slots.now.entries _ _ _ _ c.in-Some.ensures.steps c.in_ok-copy.ensures c.loop-v.invariant.apart c.in_ok-insert.ensures.updates.0 c.loop-v.invariant.states;
}

pub returns : goal.returns
returns c = all_copied _ _ _ c.in-None.ensures.steps.0 c.loop-v.invariant.states
