use Rattle.weaver_workers.proofs.Called.{applied, pulled, sent-empty, told}
use Rattle.weaver_workers.proofs.Carried.{made-none, nothing-at-gate, nothing-at-shard}
use Rattle.weaver_workers.proofs.laws.other_calls_only_carry.Goals as goal

pub returns-clause-tell : goal.returns-clause-tell
returns-clause-tell c = told

pub returns-clause-nop : goal.returns-clause-nop
returns-clause-nop c = sent-empty

pub returns-clause-pull : goal.returns-clause-pull
returns-clause-pull c = pulled

pub returns-clause-apply : goal.returns-clause-apply
returns-clause-apply c = applied

pub returns-clause-busy : goal.returns-clause-busy
returns-clause-busy c = λ shards old new gate found. nothing-at-gate shards old new gate found.before found.was

pub returns-clause-unready : goal.returns-clause-unready
returns-clause-unready c = λ gates shards old new was is shard gate found.
    nothing-at-shard shards old new shard found.visits.before found.visits.was

pub returns-clause-nothing : goal.returns-clause-nothing
returns-clause-nothing c = λ old new none. made-none old new none
