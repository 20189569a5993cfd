use Rattle.std.proofs.Common.{List, sym, subst}
use Rattle.weave_data.specs.declared.name.Name.{Name}
use Rattle.weave_data.specs.Pairs.{IsRising}
use Rattle.version_parts.specs.declared.edge.EdgeItems.{EdgeItems}
use Rattle.version_parts.specs.Cuts.{left_edge}
use Rattle.version_parts.specs.KeptValues.{kept_values}
use Rattle.version_parts.proofs.KeptLaws.{rising_kept}
use Rattle.version_parts.proofs.lists.cut_edges.Goals as goal

pub from_vec-requires : goal.from_vec-requires
from_vec-requires c =
    subst IsRising (sym c.cut_edge_pairs.ensures.pairs)
    (subst (λ (pairs : List (Name × EdgeItems)). IsRising (kept_values (left_edge c.args.cut) pairs)) (sym c.into_vec-pairs.ensures.pairs)
    (rising_kept (left_edge c.args.cut) c.replace.result c.into_vec-pairs.ensures.rising))
