use Rattle.std.proofs.Common.{◌∙◌, rules}
use Rattle.version_parts.specs.Counts.{has_items}
use Rattle.version_parts.specs.Tracks.{cut_items}
use Rattle.version_parts.proofs.KeptLaws.{retained_in_turn, retained_pairs}
use Rattle.version_parts.proofs.maps.cut_pairs.Goals as goal

pub returns-clause-pairs : goal.returns-clause-pairs
returns-clause-pairs c =
    retained_in_turn _ _ (λ pair. has_items (cut_items c.args.cut pair.1)) (λ pair. (pair.0, cut_items c.args.cut pair.1)) (λ x b t y h. search rules) _ _ c.retain_mut.ensures.filtered
    ∙ retained_pairs (λ items. has_items (cut_items c.args.cut items)) (cut_items c.args.cut) c.args.pairs.now.items
