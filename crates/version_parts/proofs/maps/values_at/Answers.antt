use Rattle.std.proofs.Common.{sym, subst}
use Rattle.weave_data.specs.Pairs.{IsRising}
use Rattle.version_parts.specs.KeptValues.{kept_values}
use Rattle.version_parts.specs.States.{Tracks, value_at}
use Rattle.version_parts.proofs.KeptLaws.{rising_kept}
use Rattle.version_parts.proofs.maps.values_at.Goals as goal

pub from_vec-requires : goal.from_vec-requires
from_vec-requires c =
    subst IsRising (sym c.in_ok-values.ensures)
    (subst (λ (pairs : Tracks). IsRising (kept_values (value_at c.args.update c.args.since) pairs)) (sym c.as_slice-pairs.ensures.pairs)
    (rising_kept (value_at c.args.update c.args.since) c.args.tracks.now c.as_slice-pairs.ensures.rising))
