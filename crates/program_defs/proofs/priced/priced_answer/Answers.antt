use Rattle.std.proofs.Common.{sym, subst, length, List, Option, ℕ}
use Rattle.program_defs.specs.declared.program.Bound.{Bound}
use Rattle.program_defs.specs.Parents.{AreParents, IsSeenBefore}
use Rattle.program_defs.specs.PricedAnswer.{IsPricedAnswer}
use Rattle.program_defs.proofs.priced.priced_answer.Goals as goal

pub returns : goal.returns
returns c = λ graph from key start between begin cert.
    let rows = c.args.rows.now in
    let are = subst (λ (ps : List (Option ℕ)). AreParents rows c.args.labels.now (IsSeenBefore (length rows)) (length rows) ps) (sym c.as_slice.ensures.value) c.in_ok-parents.ensures in
    subst (λ (bounds : List Bound). IsPricedAnswer graph from c.args.to key c.in_ok-walk.walk c.in_ok-walk.total bounds) (sym c.in_ok-bounds.ensures)
    (c.in_ok-walk.ensures graph from key start rows between begin cert c.requires.labels are)
