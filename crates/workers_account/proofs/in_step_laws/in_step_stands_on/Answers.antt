use Rattle.workers_account.proofs.in_step_laws.in_step_stands_on.Goals as goal

pub returns : goal.returns
returns c = record { begun_first = c.sessions_go_in_turn.ensures.begun }
