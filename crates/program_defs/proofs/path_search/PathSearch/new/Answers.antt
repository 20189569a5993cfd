use Rattle.std.proofs.Common.{◌∷◌, [], IsTrue, sym, ap, subst, ◌∙◌}
use Rattle.graph_ops.specs.Mentions.{is_among}
use Rattle.program_defs.specs.declared.aim.Aim.{Aim}
use Rattle.program_defs.proofs.Pathing.{walked-first}
use Rattle.program_defs.proofs.path_search.PathSearch.new.Goals as goal

pub returns-clause-reads : goal.returns-clause-reads
returns-clause-reads c = λ program is.
    walked-first program c.in_ok-search.search c.in_ok-marks.marks.entries c.new-2.result.items _ c.new-2.ensures.items (c.in_ok-search.ensures.reads program is) c.in_ok-search.ensures.going
    (λ v k. (let none : IsTrue (is_among [] v) = subst (λ xs. IsTrue (is_among xs v)) c.in_ok-search.ensures.present k in cc))
    (λ v. c.in_ok-marks.ensures v ∙ ap (λ (a : Aim). is_among (a.from ∷ []) v) (sym c.in_ok-search.ensures.aim))
