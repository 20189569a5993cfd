-- Locks that were opened for machines of legal logs which refer to nothing but themselves.
-- Used by `fill_locks` and `new`.
use Rattle.std.proofs.Common.{◌≡◌, inr, ℕ, ◌<◌, List, [], ◌∷◌, ◌++◌, length, map, get_or, set, refl, sym, ap, ◌∙◌, subst, arith, length-append}
use Rattle.std.proofs.lemmas.List.{get_or-map, length-map, set-get_or}
use Rattle.weave_entries.specs.declared.gate_log.GateDeed.{GateDeed}
use Rattle.weave_entries.specs.declared.gate_log.GateEntry.{GateEntry}
use Rattle.weave_entries.specs.declared.oracle_log.OracleEntry.{OracleEntry}
use Rattle.weave_entries.specs.declared.shard_log.ShardDeed.{ShardDeed}
use Rattle.weave_entries.specs.declared.shard_log.ShardEntry.{ShardEntry}
use Rattle.weave_entries.specs.declared.store_log.StoreEntry.{StoreEntry}
use Rattle.gatekeeper.specs.Gates.{GateView}
use Rattle.shard_node.specs.Shards.{ShardView}
use Rattle.weave_account.specs.declared.account.Account.{Account}
use Rattle.weave_account.specs.Account.{gate_log, shard_log}
use Rattle.weave_account.specs.GoesOn.{IsBeginningOf}
use Rattle.weave_account.proofs.GoesOn.{whole}
use Rattle.seen_logs.specs.Entries.{account_of_logs, gate_entries, oracle_entries, shard_entries, store_entries}
use Rattle.seen_logs.specs.Seen.{AreLegal, GateRefersWithin, IsWithin, ShardRefersWithin}
use Rattle.chronicle.specs.declared.chronicle.Chronicle.{Chronicle}
use Rattle.chronicle.specs.declared.note.Note.{Note}
use Rattle.chronicle.specs.Logs.{Log}
use Rattle.chronicle.specs.Locks.{lock_of, name_of}
use Rattle.chronicle.specs.Passes.{lock_noted, seen_by_note}
use Rattle.lock_row.specs.Rows.{names_of}
use Rattle.lock_row.proofs.Lists.{mapped_alike}
use Rattle.gate_lock.specs.declared.noted_gate.NotedGate.{NotedGate}
use Rattle.gate_lock.specs.declared.notes.GateNotes.{GateNotes}
use Rattle.gate_lock.specs.Notes as gate
use Rattle.oracle_lock.specs.Seen.{oracle_seen, OracleIsKept}
use Rattle.store_lock.specs.Seen.{store_seen, StoreIsKept}
use Rattle.shard_lock.specs.declared.noted_shard.NotedShard.{NotedShard}
use Rattle.shard_lock.specs.declared.notes.ShardNotes.{ShardNotes}
use Rattle.shard_lock.specs.Notes as shard
use Rattle.weaver_locks.specs.declared.locks.Locks.{Locks}
use Rattle.weaver_locks.specs.Closing.{logs_of, MayStart}
use Rattle.weaver_locks.specs.Opened.{AreOpened}
use Rattle.weaver_locks.specs.Noted.{gates_start, GateNotesStart, NoteStarts, ShardNotesStart}
use Rattle.weaver_locks.specs.OpeningLaws.{OpeningLaws}
use Rattle.weaver_locks.proofs.Lists.{map_twice}

-- an entry of a log was there at its start, if the log is as it was
was_there : {E : Type 0} (log before after : List E) (entry : E) → log ≡ before ++ entry ∷ after → length before < length log
was_there {E} log before after entry at =
    let long : length log ≡ length (before ++ entry ∷ after) = ap (λ (l : List E). length l) at in
    omega (arith, long, length-append before (entry ∷ after))

-- there are as many notes as locks
as_many : {M E : Type 0} (locks : List (Chronicle M E)) (notes : List (Note E)) → NoteStarts locks notes → length notes ≡ length locks
as_many {M} locks notes is =
    let same : length (map lock_noted notes) ≡ length (names_of locks) = ap (λ (l : List (List ℕ)). length l) is.names in
    sym (length-map notes lock_noted) ∙ (same ∙ length-map locks (λ (c : Chronicle M _). name_of (lock_of c)))

module _ (laws : OpeningLaws) (locks : Locks) (gates : List GateView) (store : List StoreEntry) (oracle : List OracleEntry)
    (shards : List ShardView) (start : MayStart gates store oracle shards) (opened : AreOpened locks gates store oracle shards)
    (gate_count : length locks.gates.items ≡ length gates) (shard_count : length locks.shards.items ≡ length shards) where
  abbrev pub account : Account
  account = logs_of gates store oracle shards

  abbrev gate_start : Chronicle NotedGate GateDeed → Log GateDeed
  gate_start c = (lock_of c).start

  abbrev shard_start : Chronicle NotedShard ShardDeed → Log ShardDeed
  shard_start c = (lock_of c).start

  -- the gatekeepers' locks start with the gatekeepers' logs
  pub gates_are : map gate_entries (map gate_start locks.gates.items) ≡ map (λ (g : GateView). g.log) gates
  gates_are = map_twice gate_entries gate_start locks.gates.items
      ∙ mapped_alike (λ (g : GateView). g.log) (λ (c : Chronicle NotedGate GateDeed). gate_entries (lock_of c).start) gates locks.gates.items gate_count
      (λ k g c low. ap gate_entries (opened.gate_locks k c g (omega (arith, low, gate_count))).start_is ∙ laws.gate_records (get_or gates k g).log)

  -- the shards' locks start with the shards' logs
  pub shards_are : map shard_entries (map shard_start locks.shards.items) ≡ map (λ (s : ShardView). s.log) shards
  shards_are = map_twice shard_entries shard_start locks.shards.items
      ∙ mapped_alike (λ (s : ShardView). s.log) (λ (c : Chronicle NotedShard ShardDeed). shard_entries (lock_of c).start) shards locks.shards.items shard_count
      (λ k s c low. ap shard_entries (opened.shard_locks k c s (omega (arith, low, shard_count))).start_is ∙ laws.shard_records (get_or shards k s).log)

  -- the store's lock starts with the store's log
  pub store_is : store_entries (lock_of locks.store).start ≡ store
  store_is = ap store_entries opened.store_lock.start_is ∙ laws.store_records store

  -- the oracle's lock starts with the oracle's log
  pub oracle_is : oracle_entries (lock_of locks.oracle).start ≡ oracle
  oracle_is = ap oracle_entries opened.oracle_lock.start_is ∙ laws.oracle_records oracle

  -- the locks begin with the machines' logs
  pub start_is : account_of_logs (map gate_start locks.gates.items) (lock_of locks.store).start (lock_of locks.oracle).start
      (map shard_start locks.shards.items) ≡ account
  start_is =
      let a = gates_are in
      let b = store_is in
      let c = oracle_is in
      let d = shards_are in
      λ i. record { gates = a i; store = b i; oracle = c i; shards = d i; sessions = [] }

  gate_refers : (home : ℕ) → GateRefersWithin (length shards) account home
  gate_refers home before entry after at = (start.refers 0).gate_entries home before entry after at
      (inr (was_there (gate_log account home) before after entry at))

  shard_refers : (k : ℕ) → ShardRefersWithin (length shards) account k
  shard_refers k before entry after at = (start.refers 0).shard_entries k before entry after at
      (inr (was_there (shard_log account k) before after entry at))

  -- a gatekeeper with notes of the logs at the start has seen legal logs, and all that its entries refer to
  pub kept_gate : (k : ℕ) (g : GateView) → k < length gates → (notes : GateNotes) → GateNotesStart locks notes → gate.GateIsKept (get_or gates k g) notes
  kept_gate k g low notes is =
      let v : GateView = get_or gates k g in
      let home : v.home ≡ k = start.order.homes k g low in
      let many : v.gates ≡ length gates = start.order.gates_of k g low in
      let shard_many : v.shards ≡ length shards = start.order.shards_of k g low in
      let logs : List (List GateEntry) = map (λ (x : GateView). x.log) gates in
      let seen : map gate_entries (map seen_by_note notes.gates.items) ≡ logs = ap (map gate_entries) is.gates.starts ∙ gates_are in
      let own : v.log ≡ get_or logs v.home [] = sym (ap (λ (j : ℕ). get_or logs j []) home ∙ get_or-map (λ (x : GateView). x.log) gates k g [] low) in
      let whole : set (map gate_entries (map seen_by_note notes.gates.items)) v.home v.log ≡ logs =
      ap (λ (l : List (List GateEntry)). set l v.home v.log) seen ∙ (ap (set logs v.home) own ∙ set-get_or logs v.home []) in
      let shards_seen : map shard_entries (map seen_by_note notes.shards.items) ≡ account.shards = ap (map shard_entries) is.shards.starts ∙ shards_are in
      laws.gate_kept v notes account (omega (arith, home, many, low))
      (as_many locks.gates.items notes.gates.items is.gates ∙ (gate_count ∙ sym many))
      (as_many locks.shards.items notes.shards.items is.shards ∙ (shard_count ∙ sym shard_many))
      (subst (λ (z : ℕ × ℕ). AreLegal z.0 z.1 account) (λ i. (sym many i, sym shard_many i)) start.legal)
      (subst (λ (n : ℕ). GateRefersWithin n account v.home) (sym shard_many) (gate_refers v.home))
      (λ j. ap (λ (l : List (List GateEntry)). get_or l j []) whole)
      (ap store_entries is.store.start ∙ store_is)
      (λ j. ap (λ (l : List (List ShardEntry)). get_or l j []) shards_seen)

  -- if a shard's notes start as the locks are, the shard has seen what its log refers to
  pub kept_shard : (k : ℕ) (s : ShardView) → k < length shards → (notes : ShardNotes) → ShardNotesStart locks notes
      → shard.ShardIsKept (get_or shards k s) (length shards) notes
  kept_shard k s low notes is =
      let v : ShardView = get_or shards k s in
      let number : v.number ≡ k = start.order.numbers k s low in
      let many : v.gates ≡ length gates = start.order.shard_gates k s low in
      let seen : map (λ (n : Note GateDeed). gate_entries (seen_by_note n)) notes.gates.items ≡ account.gates =
      sym (map_twice gate_entries seen_by_note notes.gates.items) ∙ (ap (map gate_entries) is.gates.starts ∙ gates_are) in
      laws.shard_kept v (length shards) notes account (omega (arith, number, low))
      (as_many locks.gates.items notes.gates.items is.gates ∙ (gate_count ∙ sym many))
      (subst (λ (n : ℕ). AreLegal n (length shards) account) (sym many) start.legal)
      (shard_refers v.number)
      (λ j. ap (λ (l : List (List GateEntry)). get_or l j []) seen)
      (ap store_entries is.store.start ∙ store_is)
      (ap oracle_entries is.oracle.start ∙ oracle_is)
      (sym (ap (λ (j : ℕ). shard_log account j) number ∙ get_or-map (λ (x : ShardView). x.log) shards k s [] low))

  -- what the store and the oracle have seen is within the account
  part_within : (seen : Account) → seen.gates ≡ account.gates → seen.oracle ≡ oracle → IsBeginningOf seen.store store → seen.shards ≡ []
      → IsWithin seen account
  part_within seen gates_same oracle_same store_begins none = record {
    gates = λ home. subst (λ (l : List (List GateEntry)). IsBeginningOf (get_or l home []) (gate_log account home)) (sym gates_same) (whole (gate_log account home));
    store = store_begins;
    oracle = subst (λ (l : List OracleEntry). IsBeginningOf l oracle) (sym oracle_same) (whole oracle);
    shards = λ k. subst (λ (l : List (List ShardEntry)). IsBeginningOf (get_or l k []) (shard_log account k)) (sym none) (shard_log account k, refl);
  }

  -- the same of the store, which has seen the gatekeepers' and the oracle's logs at the start
  pub kept_store : StoreIsKept (length shards) (gates_start locks) (oracle_entries (lock_of locks.oracle).start) store
  kept_store =
      let seen : Account = store_seen account.gates oracle store in
      subst (λ (z : List (List GateEntry) × List OracleEntry). StoreIsKept (length shards) z.0 z.1 store) (λ i. (sym gates_are i, sym oracle_is i)) record {
        refers = λ before entry after at. laws.store_stays account seen (λ home. whole (gate_log account home)) (whole oracle) before entry.author entry.deed
            ((start.refers 0).store_entries before entry after at (inr (was_there store before after entry at)));
        legal = subst (λ (n : ℕ). AreLegal n (length shards) seen) (sym (length-map gates (λ (g : GateView). g.log)))
            (laws.beginnings (length gates) (length shards) seen account (part_within seen refl refl (whole store) refl) start.legal);
      }

  -- the same of the oracle, which has seen the gatekeepers' logs at the start
  pub kept_oracle : OracleIsKept (length shards) (gates_start locks) oracle
  kept_oracle =
      let seen : Account = oracle_seen account.gates oracle in
      subst (λ (l : List (List GateEntry)). OracleIsKept (length shards) l oracle) (sym gates_are) record {
        refers = λ before entry after at. laws.oracle_stays account seen (λ home. whole (gate_log account home)) entry.deed
            ((start.refers 0).oracle_entries before entry after at (inr (was_there oracle before after entry at))).0;
        legal = subst (λ (n : ℕ). AreLegal n (length shards) seen) (sym (length-map gates (λ (g : GateView). g.log)))
            (laws.beginnings (length gates) (length shards) seen account (part_within seen refl refl (store, refl) refl) start.legal);
      }
