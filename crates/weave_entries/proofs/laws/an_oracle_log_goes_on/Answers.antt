use Rattle.std.proofs.Common.{[]}
use Rattle.weave_data.proofs.Ends.{flat_push}
use Rattle.weave_entries.specs.declared.oracle_log.OracleEntry.{OracleEntry}
use Rattle.weave_entries.specs.OracleReplay.{settled_entry, pairs_of_entry}
use Rattle.weave_entries.proofs.OracleLogs.{SettlingLaws, right-push, right-before, right_pairs}
use Rattle.weave_entries.proofs.laws.an_oracle_log_goes_on.Goals as goal

pub returns : goal.returns
returns c =
    let settling = c.settling_puts_all_before.ensures in
    let laws : SettlingLaws = record { in_place = settling.in_place; left_open = settling.left_open; of_earlier = settling.of_earlier; settled = c.no_cycle_arises.ensures.settled } in
    record {
      at_first = tt;
      right = λ log entry right fits. right-push [] log entry right fits;
      right_before = λ log rest right. right-before [] log rest right;
      pairs = λ log entry. flat_push (λ (e : OracleEntry). pairs_of_entry (settled_entry e)) log entry;
      added = λ pairs entry right. right_pairs laws pairs entry right.added;
    }
