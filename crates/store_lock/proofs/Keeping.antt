-- What the store's judgements refer to stays seen.
-- Used by `meet` and Committing.
use Rattle.std.proofs.Common.{◌≡◌, ℕ, List, [], length, sym, subst}
use Rattle.std.proofs.lemmas.List.{append-nil}
use Rattle.weave_entries.specs.declared.gate_log.GateEntry.{GateEntry}
use Rattle.weave_entries.specs.declared.gate_log.GateDeed.{GateDeed}
use Rattle.weave_entries.specs.declared.oracle_log.OracleEntry.{OracleEntry}
use Rattle.weave_entries.specs.declared.store_log.StoreEntry.{StoreEntry}
use Rattle.weave_entries.specs.declared.store_log.StoreDeed.{StoreDeed}
use Rattle.weave_entries.specs.ShardRules.{IsShardLog}
use Rattle.weave_account.specs.declared.account.Account.{Account}
use Rattle.weave_account.specs.Account.{shard_log}
use Rattle.weave_account.specs.GoesOn.{IsBeginningOf}
use Rattle.seen_logs.specs.References.{StoreRefersAs}
use Rattle.seen_logs.specs.Seen.{GatesGoOn}
use Rattle.chronicle.specs.declared.note.Note.{Note}
use Rattle.oracle_lock.specs.Seen.{gates_noted, of_gates, AreGateLogs}
use Rattle.oracle_lock.proofs.Settling.{GatesMet, as-many-noted, legal-noted}
use Rattle.store_lock.specs.Seen.{store_seen, StoreIsKept}

-- what an entry refers to stays seen
abbrev pub Stays : Type 0
Stays = (seen next : Account) → GatesGoOn seen next → IsBeginningOf seen.oracle next.oracle → (before : List StoreEntry) (author : ℕ)
    (deed : StoreDeed) → StoreRefersAs seen before author deed → StoreRefersAs next before author deed

-- with more of the gatekeepers' logs all is still seen
notes-keep : Stays → (shards : ℕ) (gates more : List (List GateEntry)) (oracle : List OracleEntry) (log : List StoreEntry)
    → StoreIsKept shards gates oracle log → GatesGoOn (of_gates gates) (of_gates more) → length more ≡ length gates → AreGateLogs shards more
    → StoreIsKept shards more oracle log
notes-keep stays shards gates more oracle log kept on long legal = record {
  refers = λ front entry rest at. stays (store_seen gates oracle log) (store_seen more oracle log) on ([], sym (append-nil oracle)) front
      entry.author entry.deed (kept.refers front entry rest at);
  legal = record {
    gate_logs = legal.rules;
    hears = legal.hears;
    store_log = kept.legal.store_log;
    oracle_log = kept.legal.oracle_log;
    shard_logs = subst (λ (n : ℕ). (shard : ℕ) → IsShardLog n (shard_log (store_seen gates oracle log) shard)) (sym long) kept.legal.shard_logs;
  };
}

-- this holds after notes and passes have met
pub meeting-keeps : Stays → (shards its : ℕ) (notes later : List (Note GateDeed)) (before after : List (List GateEntry))
    (oracle : List OracleEntry) (log : List StoreEntry) → StoreIsKept shards (gates_noted notes) oracle log → shards ≡ its
    → GatesMet its notes later before after → StoreIsKept shards (gates_noted later) oracle log
meeting-keeps stays shards its notes later before after oracle log kept same met =
    notes-keep stays shards (gates_noted notes) (gates_noted later) oracle log kept met.notes_on
    (as-many-noted its notes later before after met)
    (legal-noted its notes later before after met shards same
    (record { rules = kept.legal.gate_logs; hears = kept.legal.hears }))
