use Rattle.std.proofs.Common.{sym, subst, ap, ◌∙◌, [], Some, None}
use Rattle.program_defs.specs.Walks.{filter_in, passing_of}
use Rattle.reach_program.specs.declared.reach.Goal.TheVariants.{Within}
use Rattle.reach_program.specs.Reach.{HasReached}
use Rattle.reach_program.proofs.reach.ReachProgram.around.Goals as goal

pub returns-clause-reads : goal.returns-clause-reads
returns-clause-reads c =
    let same = c.in_ok-search.ensures.aim in
    let kept = ap passing_of c.of.ensures.filter ∙ sym c.of.ensures.passing in
    let read : HasReached (Within c.args.bound) c.in_ok-search.search [] = c.in_ok-search.ensures.reads _ ((λ i. Some (record { from = (same i).from; target = None; bound = Some c.args.bound; pass = passing_of (filter_in (same i).pass) })) ∙ ap (λ p. Some (record { from = c.args.from; target = None; bound = Some c.args.bound; pass = p })) kept) in
    subst (λ search. HasReached (Within c.args.bound) search []) (sym c.in_ok-new.ensures.ok) read
