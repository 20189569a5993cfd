use Rattle.weave_entries.specs.StoreReplay.{commits_of}
use Rattle.backing_store.proofs.Members.{asked_is_kept, kept_is_judged}
use Rattle.backing_store.proofs.laws.what_is_asked_is_kept.Goals as goal

pub returns-clause-asked : goal.returns-clause-asked
returns-clause-asked c = λ log stamp one ops h. asked_is_kept stamp ops (commits_of log) one h

pub returns-clause-kept : goal.returns-clause-kept
returns-clause-kept c = λ log one h. kept_is_judged log one h
