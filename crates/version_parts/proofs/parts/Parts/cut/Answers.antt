use Rattle.std.proofs.Common.{◌≤◌, true, sym, subst, arith}
use Rattle.version_parts.specs.declared.lists.Lists.{Lists}
use Rattle.version_parts.specs.Counts.{count_in_lists}
use Rattle.version_parts.specs.InOrder.{ListsInOrder}
use Rattle.version_parts.proofs.Counting.{cut_count}
use Rattle.version_parts.proofs.Sequences.{lists_order}
use Rattle.version_parts.proofs.parts.Parts.cut.Goals as goal

pub count_of-self-inside-requires : goal.count_of-self-inside-requires
count_of-self-inside-requires c =
    let less : count_in_lists c.cut.new.self ≤ count_in_lists c.self.inside.lists = subst (λ (lists : Lists). count_in_lists lists ≤ count_in_lists c.self.inside.lists) (sym c.cut.ensures) (cut_count c.args.cut (λ update. true) c.self.inside.lists) in
    omega (arith, less, c.self.invariant.count)

pub invariant_of-self : goal.invariant_of-self
invariant_of-self c = record {
  count = c.count_of-self-inside.ensures;
  order = subst ListsInOrder (sym c.cut.ensures) (lists_order c.args.cut c.self.inside.lists c.self.invariant.order);
}

pub returns-clause-order : goal.returns-clause-order
returns-clause-order c = subst ListsInOrder c.self.view_is c.self.invariant.order
