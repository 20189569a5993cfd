use Rattle.std.proofs.Common.{ap, sym, subst, ◌∙◌}
use Rattle.std.specs.List.{each_same}
use Rattle.program_defs.specs.Searching.{SearchState, IsOnce}
use Rattle.program_defs.specs.Visits.{as_set}
use Rattle.program_defs.proofs.Sorting.{sorted-is-set}
use Rattle.program_defs.proofs.search.Search.present.Goals as goal

pub returns : goal.returns
returns c = λ once.
    let same = each_same _ _ c.in_ok-vertices.ensures.cases.0 ∙ ap (λ (s : SearchState). s.present) c.self.view_is in
    c.from_vec.ensures ∙ sorted-is-set _ _ c.sort_unstable.ensures.permutation c.sort_unstable.ensures.sorted (subst IsOnce (sym same) once) ∙ ap as_set same
