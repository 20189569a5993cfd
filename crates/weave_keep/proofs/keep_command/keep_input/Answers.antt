use Rattle.weave_keep.proofs.keep_command.keep_input.Goals as goal

pub returns-clause-ends : goal.returns-clause-ends
returns-clause-ends g c = record {
  prepared = c.prepare_answer-prepared.result;
  is_prepared = c.prepare_answer-prepared.ensures.prepared;
  within = c.prepare_answer-prepared.ensures.rest;
  delivered = c.deliver.ensures;
}
