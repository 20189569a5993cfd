use Rattle.std.proofs.Common.{◌<◌, ℕ, length, take, IsTrue}
use Rattle.report_rules.specs.Lookups.{is_in}
use Rattle.order_witness.specs.Marks.{AreMoreMarked, is_marked}
use Rattle.order_witness.proofs.walk.mark_ends.Given as goal

abbrev pub invariant-loop-earlier : goal.invariant-loop-earlier
invariant-loop-earlier l = record {
  all : (a : ℕ) → IsTrue (is_in a (take l.earlier-index l.ends)) → a < length l.initial.marked → IsTrue (is_marked l.marked a);
  grown : AreMoreMarked (λ a. IsTrue (is_in a l.ends)) l.initial.marked l.marked l.initial.due.items l.due.items;
}
