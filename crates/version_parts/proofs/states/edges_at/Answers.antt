use Rattle.std.proofs.Common.{List, sym, subst}
use Rattle.weave_data.specs.declared.name.Name.{Name}
use Rattle.weave_data.specs.Pairs.{IsRising}
use Rattle.version_parts.specs.declared.edge.EdgeItems.{EdgeItems}
use Rattle.version_parts.specs.KeptValues.{kept_values}
use Rattle.version_parts.specs.States.{edge_at}
use Rattle.version_parts.proofs.KeptLaws.{rising_kept}
use Rattle.version_parts.proofs.states.edges_at.Goals as goal

pub from_vec-requires : goal.from_vec-requires
from_vec-requires c =
    subst IsRising (sym c.in_ok-found.ensures)
    (subst (λ (pairs : List (Name × EdgeItems)). IsRising (kept_values (edge_at c.args.update c.args.since) pairs)) (sym c.as_slice-pairs.ensures.pairs)
    (rising_kept (edge_at c.args.update c.args.since) c.args.edges.now c.as_slice-pairs.ensures.rising))
