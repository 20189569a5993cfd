use Rattle.std.proofs.Common.{sym, ap, ◌∙◌, is_none, arith}
use Rattle.program_defs.specs.Searching.{SearchState}
use Rattle.program_defs.specs.Visits.{first_of}
use Rattle.program_defs.proofs.Turning.{still-is, left-over}
use Rattle.program_defs.proofs.search.Search.go_on.Goals as goal

pub returns-else-len-self-clause-onward : goal.returns-else-len-self-clause-onward
returns-else-len-self-clause-onward c = λ once.
    let len = c.self.inside.level.ok.0 in
    still-is _ _ (sym c.is_target.ensures ∙ c.if-is_target.false)
    (ap (λ (s : SearchState). is_none (first_of s.rest)) (sym c.self.view_is) ∙ left-over c.self.inside.at c.self.inside.level.items (omega (arith, len, c.if-len-self.false)))
