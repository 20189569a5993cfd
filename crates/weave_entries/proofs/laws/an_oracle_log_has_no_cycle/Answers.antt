use Rattle.std.proofs.Common.{[]}
use Rattle.weave_entries.proofs.OracleLogs.{SettlingLaws, log_acyclic, all_open, all_apart}
use Rattle.weave_entries.proofs.laws.an_oracle_log_has_no_cycle.Goals as goal

pub returns : goal.returns
returns c =
    let settling = c.settling_puts_all_before.ensures in
    let laws : SettlingLaws = record { in_place = settling.in_place; left_open = settling.left_open; of_earlier = settling.of_earlier; settled = c.no_cycle_arises.ensures.settled } in
    record {
      acyclic = λ log right. log_acyclic laws [] log c.no_cycle_arises.ensures.at_first right;
      unordered = λ log right. all_open laws [] log right;
      of_two = λ log right. all_apart laws [] log right;
    }
