use Rattle.std.proofs.Common.{◌≡◌, ◌<◌, ◌≤◌, ℕ, IsTrue, false, take}
use Rattle.report_rules.specs.Lookups.{is_in}
use Rattle.order_witness.specs.Begun.{is_request_before}
use Rattle.order_witness.specs.ByNumber.{list_at}
use Rattle.order_witness.specs.Heads.{item, run_at}
use Rattle.order_witness.specs.Preceding.{leads_directly}
use Rattle.order_witness.specs.Rows.{IsCounted, IsPart}
use Rattle.order_witness.proofs.rows.row_of.Given as goal

abbrev pub invariant-loop-earlier : goal.invariant-loop-earlier
invariant-loop-earlier l = record {
  part : IsPart (leads_directly (is_request_before l.report) (list_at l.befores)) l.line l.runs l.turns l.turn l.rows (item l.turns l.turn) l.row;
  ends : (a : ℕ) → IsTrue (is_in a (take l.earlier-index (list_at l.befores (item l.turns l.turn)))) → IsCounted l.line l.runs l.row a;
}

abbrev pub invariant-loop-i : goal.invariant-loop-i
invariant-loop-i l = record {
  part : IsPart (leads_directly (is_request_before l.report) (list_at l.befores)) l.line l.runs l.turns l.turn l.rows (item l.turns l.turn) l.row;
  ends : (a : ℕ) → IsTrue (is_in a (list_at l.befores (item l.turns l.turn))) → IsCounted l.line l.runs l.row a;
  stopped : (i k : ℕ) → i < l.i → item l.row i ≤ k → k < (run_at l.runs i).end → is_request_before l.report (item l.line k) (item l.turns l.turn) ≡ false;
}
