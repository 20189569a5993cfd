use Rattle.lock_tests.proofs.calls.workers_keep_their_laws.Goals as goal

pub returns : goal.returns
returns c = record {
  at_gate = c.accounts_have_logs_of_locks.ensures.gate;
  refers = c.references_go_on.ensures.gate;
  runs = c.own_programs_are_running.ensures;
}
