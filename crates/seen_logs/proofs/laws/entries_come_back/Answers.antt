use Rattle.std.proofs.Common.{refl}
use Rattle.weave_data.proofs.Images.{made-back}
use Rattle.seen_logs.specs.Entries.{gate_entry, gate_pair, oracle_entry, oracle_pair, shard_entry, shard_pair, store_entry, store_pair}
use Rattle.seen_logs.proofs.laws.entries_come_back.Goals as goal

pub returns : goal.returns
returns c = record {
  records_of_gate = made-back gate_entry gate_pair (λ entry. refl);
  pairs_of_gate = made-back gate_pair gate_entry (λ pair. refl);
  records_of_store = made-back store_entry store_pair (λ entry. refl);
  pairs_of_store = made-back store_pair store_entry (λ pair. refl);
  records_of_oracle = made-back oracle_entry oracle_pair (λ entry. refl);
  pairs_of_oracle = made-back oracle_pair oracle_entry (λ pair. refl);
  records_of_shard = made-back shard_entry shard_pair (λ entry. refl);
  pairs_of_shard = made-back shard_pair shard_entry (λ pair. refl);
}
