-- Locks that were opened for machines which are still outside. No public contract cites this.
use Rattle.std.specs.Prelude.{◌≡◌, ℕ, List, length, map}
use Rattle.weave_entries.specs.declared.oracle_log.OracleEntry.{OracleEntry}
use Rattle.weave_entries.specs.declared.store_log.StoreEntry.{StoreEntry}
use Rattle.weaver_locks.specs.declared.opened_locks.OpenedLocks.{OpenedLocks}
use Rattle.weaver_locks.specs.Opened.{passes_of, AreEmpty, AreOpened, HaveFirst}

-- a lock for each machine, opened for it and empty, with that many passes: one for each hand
pub record IsOpenedFor (store : List StoreEntry) (oracle : List OracleEntry) (passes : ℕ) (opened : OpenedLocks)
    : Type 0 where
  pub are_opened : AreOpened opened.locks (map (λ b. b.gate) opened.gates.items) store oracle
      (map (λ b. b.shard) opened.shards.items)
  pub gate_count : length opened.locks.gates.items ≡ length opened.gates.items
  pub shard_count : length opened.locks.shards.items ≡ length opened.shards.items
  pub count : passes_of opened.locks ≡ passes
  pub passes_are : HaveFirst passes opened.locks opened.passes
  pub places_are : AreEmpty opened.locks opened.places
