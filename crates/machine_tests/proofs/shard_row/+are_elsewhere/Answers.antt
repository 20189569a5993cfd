use Rattle.std.proofs.Common.{sym, ◌∙◌}
use Rattle.machine_tests.proofs.ShardStamps.{elsewhere-cons}
use Rattle.machine_tests.proofs.shard_row.+are_elsewhere.Goals as goal

pub returns : goal.returns
returns t c = λ elsewhere. elsewhere-cons c.args.vertex c.in-Some.part.now c.in-Some.others.now c.args.parts.now c.in-Some.ensures.cases.0 (sym c.eq.ensures ∙ c.if-eq.false) (c.are_elsewhere.ensures elsewhere)
