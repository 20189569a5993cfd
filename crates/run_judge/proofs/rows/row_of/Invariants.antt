use Rattle.std.proofs.Common.{◌<◌, ℕ, IsTrue, length, take}
use Rattle.report_rules.specs.Lookups.{is_in}
use Rattle.order_witness.specs.Begun.{is_request_before}
use Rattle.order_witness.specs.ByNumber.{list_at}
use Rattle.order_witness.specs.Heads.{item}
use Rattle.order_witness.specs.Preceding.{LeadsBySteps, leads_directly}
use Rattle.run_judge.specs.Rows.{IsPartOfRow, is_counted}
use Rattle.run_judge.proofs.rows.row_of.Given as goal

abbrev pub invariant-loop-earlier : goal.invariant-loop-earlier
invariant-loop-earlier l = record {
  part : IsPartOfRow (LeadsBySteps (leads_directly (is_request_before l.report) (list_at l.ends))) l.chains l.spots (item l.turns l.turn) l.row.items;
  ends : (a : ℕ) → IsTrue (is_in a (take l.earlier-index (list_at l.ends (item l.turns l.turn)))) → IsTrue (is_counted l.spots l.row.items a);
}

abbrev pub invariant-loop-chain : goal.invariant-loop-chain
invariant-loop-chain l = record {
  part : IsPartOfRow (LeadsBySteps (leads_directly (is_request_before l.report) (list_at l.ends))) l.chains l.spots (item l.turns l.turn) l.row.items;
  ends : (a : ℕ) → IsTrue (is_in a (list_at l.ends (item l.turns l.turn))) → IsTrue (is_counted l.spots l.row.items a);
  passed : (c k : ℕ) → c < l.chain → k < length (list_at l.chains c) → IsTrue (is_request_before l.report (item (list_at l.chains c) k) (item l.turns l.turn)) → k < item l.row.items c;
}
