use Rattle.std.proofs.Common.{subst, sym}
use Rattle.lock_tests.specs.Dropping.{IsSentToShard}
use Rattle.lock_tests.proofs.SentRun.{deleted-sent, empty-sent, made-sent}
use Rattle.lock_tests.proofs.dropping.shard_with_versions.Goals as goal

pub take-requires-clause-sent : goal.take-requires-clause-sent
take-requires-clause-sent g c = subst (IsSentToShard 1) (sym c.first_message.ensures) made-sent

pub take-requires-2-clause-sent : goal.take-requires-2-clause-sent
take-requires-2-clause-sent g c = subst (IsSentToShard 2) (sym c.second_message.ensures) deleted-sent

pub take-requires-3-clause-sent : goal.take-requires-3-clause-sent
take-requires-3-clause-sent g c = subst (IsSentToShard 3) (sym c.third_message.ensures) empty-sent
