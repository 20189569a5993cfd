-- What the counts say of precedence. No public contract cites it.
use Rattle.std.specs.Prelude.{◌≡◌, ℕ, Some}
use Rattle.vector_stamp.specs.declared.clock.Stamp.{Stamp}
use Rattle.report_rules.specs.declared.report.Report.{Report}
use Rattle.report_rules.specs.Lookups.{RequestPrecedes, stamp_at}
use Rattle.order_witness.specs.ByNumber.{list_at}
use Rattle.run_judge.specs.declared.ways.Ways.{Ways}
use Rattle.run_judge.specs.Chains.{IsAtSpot, spot_at}
use Rattle.run_judge.specs.Rows.{IsRow}

-- each begun request is at its spot, and its row counts exactly what precedes it
pub record TellsWays (report : Report) (ways : Ways) : Type 0 where
  pub placed : (a : ℕ) (stamp : Stamp) → stamp_at report a ≡ Some stamp
      → IsAtSpot ways.chains.items (spot_at ways.spots.items a) a
  pub rows : (b : ℕ) (stamp : Stamp) → stamp_at report b ≡ Some stamp
      → IsRow (RequestPrecedes report) ways.chains.items ways.spots.items b (list_at ways.rows.items b)
