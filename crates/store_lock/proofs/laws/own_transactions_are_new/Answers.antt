use Rattle.store_lock.proofs.Begun.{own-new}
use Rattle.store_lock.proofs.laws.own_transactions_are_new.Goals as goal

pub returns : goal.returns
returns c = own-new c.begun_stamps_are_coherent.ensures.seen_ids
