use Rattle.std.proofs.Common.{sym, ap, subst, ◌∙◌}
use Rattle.version_parts.specs.declared.cut.Cut.TheVariants.{Newer}
use Rattle.version_parts.specs.Splits.{IsSplit}
use Rattle.version_parts.specs.Tracks.{cut_items}
use Rattle.version_parts.proofs.Splitting.{older_left}
use Rattle.version_parts.proofs.track.Track.cut.Goals as goal

pub returns-in-Newer : goal.returns-in-Newer
returns-in-Newer g c =
    c.truncate.ensures.items
    ∙ older_left c.in-Newer.update c.self.inside.items.items c.passed-left.result (subst (λ items. IsSplit c.in-Newer.update items c.passed-left.result) c.as_slice.ensures.value c.passed-left.ensures.split)
    ∙ ap (cut_items (Newer c.in-Newer.update)) c.self.view_is
    ∙ ap (λ cut. cut_items cut c.args.self.now) (sym c.in-Newer.is)
