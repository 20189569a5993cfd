use Rattle.std.proofs.Common.{◌≤◌, take, drop, length, subst, sym, ap, ◌∙◌}
use Rattle.std.specs.Prelude.{nat_le}
use Rattle.std.proofs.lemmas.List.Sums.{prefix_len-le-length}
use Rattle.weave_script.proofs.Due.{parts}
use Rattle.weave_script.proofs.print.items.split_due.Goals as goal

pub split_at-requires : goal.split_at-requires
split_at-requires c = subst (λ n. n ≤ length c.args.phases.now) (sym c.count_due.ensures) (prefix_len-le-length (λ phase. nat_le phase c.args.count) c.args.phases.now)

pub returns-clause-due : goal.returns-clause-due
returns-clause-due c = c.split_at.ensures.front ∙ ap (λ n. take n c.args.phases.now) c.count_due.ensures ∙ (parts c.args.count c.args.phases.now).due

pub returns-clause-later : goal.returns-clause-later
returns-clause-later c = c.split_at.ensures.back ∙ ap (λ n. drop n c.args.phases.now) c.count_due.ensures ∙ (parts c.args.count c.args.phases.now).later
