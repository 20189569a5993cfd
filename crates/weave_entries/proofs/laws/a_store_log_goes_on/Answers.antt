use Rattle.weave_data.proofs.Entries.{each_none, each_push, each_before}
use Rattle.weave_entries.specs.declared.store_log.StoreEntry.{StoreEntry}
use Rattle.weave_entries.specs.StoreRule.{FitsStore}
use Rattle.weave_entries.proofs.laws.a_store_log_goes_on.Goals as goal

pub returns : goal.returns
returns c =
    record {
      at_first = each_none (λ before (one : StoreEntry). FitsStore before one.deed);
      right = λ log entry so_far fits. each_push (λ before (one : StoreEntry). FitsStore before one.deed) log entry so_far fits;
      right_before = λ log rest all. each_before (λ before (one : StoreEntry). FitsStore before one.deed) log rest all;
    }
