use Rattle.std.proofs.Common.{◌<◌, ◌^◌, List, length, sym, subst}
use Rattle.graph_ops.specs.declared.op.Op.{Op}
use Rattle.weave_report.specs.TextOf.{HasDistinctNames}
use Rattle.weave_report.proofs.FewOps.{few_ops_at}
use Rattle.weave_report.proofs.read.named.Named.ops.Goals as goal

pub returns-clause-few : goal.returns-clause-few
returns-clause-few c =
    subst (λ (ops : List Op). length ops < 2 ^ 32) (sym c.found_ops.ensures) (few_ops_at c.args.self.now c.args.place (subst HasDistinctNames c.self.view_is c.self.invariant.tells))
