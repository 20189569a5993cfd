use Rattle.std.proofs.Common.{◌≡◌, ◌<◌, ℕ, IsTrue, false}
use Rattle.report_rules.specs.Lookups.{is_in}
use Rattle.order_witness.specs.Begun.{is_request_before}
use Rattle.order_witness.specs.ByNumber.{list_at}
use Rattle.order_witness.specs.Heads.{item, run_at}
use Rattle.order_witness.specs.Preceding.{leads_directly}
use Rattle.order_witness.specs.Marks.{AreMoreMarked, ArePassed, is_marked}
use Rattle.order_witness.proofs.walk.look.Given as goal

abbrev pub invariant-loop-i : goal.invariant-loop-i
invariant-loop-i l = record {
  passed : ArePassed l.line l.marked l.runs l.passed;
  stopped : (i : ℕ) → i < l.i → item l.passed i < (run_at l.runs i).end → is_request_before l.report (item l.line (item l.passed i)) l.request ≡ false;
  ends : (a : ℕ) → IsTrue (is_in a (list_at l.befores l.request)) → IsTrue (is_marked l.marked a);
  grown : AreMoreMarked (λ a. IsTrue (leads_directly (is_request_before l.report) (list_at l.befores) a l.request)) l.fn.marked l.marked l.fn.due.items l.due.items;
}
