use Rattle.std.proofs.Common.{sym, ap, ◌∙◌, subst, is_none}
use Rattle.program_defs.specs.Searching.{IsOnce, SearchState}
use Rattle.program_defs.specs.Visits.{as_set, first_of}
use Rattle.program_defs.proofs.Sorting.{sorted-is-set}
use Rattle.program_defs.proofs.Turning.{down-is, empty-is}
use Rattle.program_defs.proofs.search.Search.go_down.Goals as goal

pub returns-clause-level : goal.returns-clause-level
returns-clause-level c = λ once.
    let was = ap (λ v. v.items) c.swap.ensures.x_after ∙ ap (λ (s : SearchState). s.found) c.self.view_is in
    let sorted = sorted-is-set _ _ c.sort_unstable.ensures.permutation c.sort_unstable.ensures.sorted (subst IsOnce (sym was) once) ∙ ap as_set was in
    down-is c.args.self.now _ _ _ _ _ _ _ _
    (ap (λ (s : SearchState). s.aim) c.self.view_is) (ap (λ (s : SearchState). s.left) c.self.view_is) sorted c.clear.ensures.items
    (ap (λ (s : SearchState). s.reached) c.self.view_is) (ap (λ (s : SearchState). s.present) c.self.view_is) (empty-is _ _ _ c.sort_unstable.new.self.ok.0 c.is_empty-self-inside.ensures ∙ ap (λ xs. is_none (first_of xs)) sorted)
