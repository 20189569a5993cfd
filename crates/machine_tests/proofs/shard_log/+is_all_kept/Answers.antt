use Rattle.machine_tests.proofs.LogSteps.{none_dropped-cons}
use Rattle.machine_tests.proofs.shard_log.+is_all_kept.Goals as goal

pub returns : goal.returns
returns t c = λ kept. none_dropped-cons c.in-Some.entry.now c.in-Some.others.now c.args.log.now c.in-Some.ensures.cases.0 (c.drops_nothing.ensures c.if-not-drops_nothing.false) (c.is_all_kept.ensures kept)
