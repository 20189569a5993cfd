use Rattle.weave_entries.specs.StoreReplay.{commits_of}
use Rattle.backing_store.proofs.Afters.{comes_after}
use Rattle.backing_store.proofs.laws.commits_come_after_the_last.Goals as goal

pub returns : goal.returns
returns c = λ pairs log stamp ops number answers counts is last has.
    comes_after c.settling_puts_all_before.ensures.all_precede (λ ps a b before. (c.precedence_is_decided.ensures.closed ps).has_stamps a b before) pairs (commits_of log) stamp ops number answers counts is last has
