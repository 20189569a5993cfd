use Rattle.workers_account.proofs.turn_laws.turns_keep_their_laws.Goals as goal

pub returns : goal.returns
returns c = record { own = c.own_entries_of_each_log.ensures.gate }
