use Rattle.std.proofs.Common.{sym, subst}
use Rattle.weave_data.specs.Pairs.{IsRising}
use Rattle.version_parts.specs.Cuts.{left_items}
use Rattle.version_parts.specs.KeptValues.{kept_values}
use Rattle.version_parts.specs.States.{Tracks}
use Rattle.version_parts.proofs.KeptLaws.{rising_kept}
use Rattle.version_parts.proofs.maps.cut_tracks.Goals as goal

pub from_vec-requires : goal.from_vec-requires
from_vec-requires c =
    subst IsRising (sym c.cut_pairs.ensures.pairs)
    (subst (λ (pairs : Tracks). IsRising (kept_values (left_items c.args.cut) pairs)) (sym c.into_vec-pairs.ensures.pairs)
    (rising_kept (left_items c.args.cut) c.replace.result c.into_vec-pairs.ensures.rising))
