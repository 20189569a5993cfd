use Rattle.std.proofs.Common.{◌≤◌, List, Contains, sym, subst, arith}
use Rattle.vector_stamp.specs.declared.clock.Stamp.{Stamp}
use Rattle.machine_tests.proofs.ShardStamps.{kept_before}
use Rattle.machine_tests.proofs.shard_row.expect_kept.Goals as goal

pub returns : goal.returns
returns g c =
    let count : 1 ≤ c.kept.result = omega arith in
    kept_before c.args.vertex c.args.shard.now.log c.args.program.now (subst (λ n. 1 ≤ n) c.kept.ensures count)
    (λ one has. c.are_before.ensures c.if-not-are_before.false one (subst (λ (all : List Stamp). Contains all one) (sym c.requires) has))
