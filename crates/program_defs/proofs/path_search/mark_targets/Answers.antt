use Rattle.std.proofs.Common.{◌≡◌, subst, length}
use Rattle.program_defs.specs.LeastWalks.{mark_in, marks_after}
use Rattle.program_defs.proofs.HopOrder.{sorted-rising}
use Rattle.program_defs.proofs.path_search.mark_targets.Goals as goal

pub returns : goal.returns
returns c = record {
  sorted = c.sort_unstable.new.self.items;
  moved = c.sort_unstable.ensures.permutation;
  rising = sorted-rising _ c.sort_unstable.ensures.sorted;
  marks = λ v. subst (λ xs. mark_in c.mark_in_turn.new.marks.entries v ≡ marks_after (mark_in c.args.marks.now.entries) (length c.args.marks.now.entries) xs v) c.as_slice.ensures.value (c.mark_in_turn.ensures v);
  taken = c.clear.ensures.items;
}
