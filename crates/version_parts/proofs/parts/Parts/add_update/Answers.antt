use Rattle.std.proofs.Common.{◌≡◌, ◌≤◌, ◌<◌, ◌+◌, true, IsTrue, sym, ap, subst, ◌∙◌, arith}
use Rattle.graph_ops.specs.Operations.{State}
use Rattle.graph_ops.specs.VertexOps.{state_after_ops, none_refused}
use Rattle.version_parts.specs.declared.cut.Cut.TheVariants.{Newer}
use Rattle.version_parts.specs.declared.time.Time.{Time}
use Rattle.version_parts.specs.Counts.{count_updates, count_in_lists}
use Rattle.version_parts.specs.InOrder.{ListsInOrder}
use Rattle.version_parts.specs.Placed.{AreUpTo}
use Rattle.version_parts.specs.States.{state_at}
use Rattle.version_parts.proofs.Placing.{lists_weaker, state_past, until_within}
use Rattle.version_parts.proofs.Sequences.{lists_order}
use Rattle.version_parts.proofs.Updating.{undone_counts, undone_states}
use Rattle.version_parts.proofs.parts.Parts.add_update.Goals as goal

pub add_ops-requires-clause-before : goal.add_ops-requires-clause-before
add_ops-requires-clause-before c =
    lists_weaker (λ (time : Time). time.update ≤ c.args.before) (λ (time : Time). time.update < c.args.before + 1) (λ time old. omega (arith, old)) c.self.inside.lists (subst (AreUpTo c.args.before) (sym c.self.view_is) c.requires.within)

pub add_ops-requires-clause-passes : goal.add_ops-requires-clause-passes
add_ops-requires-clause-passes c =
    let same : state_at (c.args.before + 1) c.self.inside.lists ≡ state_at c.args.before c.args.self.now = state_past c.args.before (c.args.before + 1) (omega arith) c.self.inside.lists (subst (AreUpTo c.args.before) (sym c.self.view_is) c.requires.within) ∙ ap (state_at c.args.before) c.self.view_is in
    subst (λ (state : State). IsTrue (none_refused c.args.ops.now state)) (sym same) c.requires.passes

pub invariant_of-self-in-Err : goal.invariant_of-self-in-Err
invariant_of-self-in-Err c = record {
  count = c.self.invariant.count ∙ sym (ap count_in_lists c.cut.ensures ∙ undone_counts c.args.before c.self.inside.lists c.add_ops.new.lists (subst (AreUpTo c.args.before) (sym c.self.view_is) c.requires.within) c.add_ops.ensures.others (λ update. true));
  order = subst ListsInOrder (sym c.cut.ensures) (lists_order (Newer c.args.before) c.add_ops.new.lists c.add_ops.ensures.order);
}

pub returns-in-Ok-clause-state : goal.returns-in-Ok-clause-state
returns-in-Ok-clause-state c =
    let same : state_at (c.args.before + 1) c.self.inside.lists ≡ state_at c.args.before c.args.self.now = state_past c.args.before (c.args.before + 1) (omega arith) c.self.inside.lists (subst (AreUpTo c.args.before) (sym c.self.view_is) c.requires.within) ∙ ap (state_at c.args.before) c.self.view_is in
    c.in-Ok.ensures.state ∙ ap (state_after_ops c.args.ops.now) same

pub returns-in-Err-clause-earlier : goal.returns-in-Err-clause-earlier
returns-in-Err-clause-earlier c = λ update old.
    ap (state_at update) c.cut.ensures ∙ undone_states c.args.before update c.self.inside.lists c.add_ops.new.lists old c.add_ops.ensures.earlier ∙ ap (state_at update) c.self.view_is

pub returns-in-Err-clause-still_within : goal.returns-in-Err-clause-still_within
returns-in-Err-clause-still_within c = subst (AreUpTo c.args.before) (sym c.cut.ensures) (until_within c.args.before c.add_ops.new.lists)

pub returns-in-Err-clause-same_counts : goal.returns-in-Err-clause-same_counts
returns-in-Err-clause-same_counts c = λ test.
    ap (count_updates test) c.cut.ensures ∙ undone_counts c.args.before c.self.inside.lists c.add_ops.new.lists (subst (AreUpTo c.args.before) (sym c.self.view_is) c.requires.within) c.add_ops.ensures.others test ∙ ap (count_updates test) c.self.view_is
