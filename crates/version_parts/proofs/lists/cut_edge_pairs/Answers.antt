use Rattle.std.proofs.Common.{◌∙◌, rules}
use Rattle.version_parts.specs.Cuts.{cut_edge, has_some}
use Rattle.version_parts.proofs.KeptLaws.{retained_in_turn, retained_pairs}
use Rattle.version_parts.proofs.lists.cut_edge_pairs.Goals as goal

pub returns-clause-pairs : goal.returns-clause-pairs
returns-clause-pairs c =
    retained_in_turn _ _ (λ pair. has_some (cut_edge c.args.cut pair.1)) (λ pair. (pair.0, cut_edge c.args.cut pair.1)) (λ x b t y h. search rules) _ _ c.retain_mut.ensures.filtered
    ∙ retained_pairs (λ edge. has_some (cut_edge c.args.cut edge)) (cut_edge c.args.cut) c.args.pairs.now.items
