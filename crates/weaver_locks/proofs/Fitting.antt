-- Machines with their notes fit the locks that were opened for them.
-- Used by `fill_locks`.
use Rattle.std.proofs.Common.{◌≡◌, ◌<◌, List, [], ◌∷◌, length, map, get_or, sym, ap, ◌∙◌, arith}
use Rattle.std.specs.List.{All}
use Rattle.std.proofs.lemmas.List.{get_or-map, length-map}
use Rattle.weave_entries.specs.declared.oracle_log.OracleEntry.{OracleEntry}
use Rattle.weave_entries.specs.declared.store_log.StoreEntry.{StoreEntry}
use Rattle.gatekeeper.specs.Gates.{GateView}
use Rattle.shard_node.specs.Shards.{ShardView}
use Rattle.seen_logs.specs.Entries.{gate_pair, oracle_pair, shard_pair, store_pair}
use Rattle.chronicle.specs.Passes.{lock_noted}
use Rattle.lock_row.proofs.Lists.{one_of}
use Rattle.gate_lock.specs.declared.noted_gate.NotedGate.{NotedGate}
use Rattle.gate_lock.specs.Frames.{gate_frame}
use Rattle.gate_lock.specs.Notes.{frame_of_gate}
use Rattle.shard_lock.specs.declared.noted_shard.NotedShard.{NotedShard}
use Rattle.shard_lock.specs.Frames.{shard_frame}
use Rattle.shard_lock.specs.Notes.{frame_of_shard}
use Rattle.weaver_locks.specs.declared.locks.Locks.{Locks}
use Rattle.weaver_locks.specs.declared.machines.Machines.{Machines}
use Rattle.weaver_locks.specs.Opened.{frame_for_gate, frame_for_oracle, frame_for_shard, frame_for_store, AreOpened}
use Rattle.weaver_locks.specs.Noted.{FitLocks, GateNotesStart, ShardNotesStart}

module _ (locks : Locks) (gates : List GateView) (store : List StoreEntry) (oracle : List OracleEntry) (shards : List ShardView)
    (opened : AreOpened locks gates store oracle shards) (gate_count : length locks.gates.items ≡ length gates)
    (shard_count : length locks.shards.items ≡ length shards) where
  -- the frame that a gatekeeper's notes give
  noted_frame : (n : NotedGate) → GateNotesStart locks n.notes → frame_of_gate n.gate n.notes ≡ frame_for_gate locks n.gate
  noted_frame n is i = gate_frame n.gate.home n.gate.gates n.gate.shards (is.gates.names i) (is.store.lock_is i) (is.shards.names i)

  noted_shard_frame : (n : NotedShard) → n.shards ≡ length shards → ShardNotesStart locks n.notes
      → frame_of_shard n.shard n.shards n.notes ≡ frame_for_shard locks (length shards) n.shard
  noted_shard_frame n many is i = shard_frame n.shard.number n.shard.gates (many i) (is.store.lock_is i) (is.oracle.lock_is i) (is.gates.names i)

  -- machines whose views are these, and whose notes start as the locks are
  pub record AreNoted (machines : Machines) : Type 0 where
    pub gates_are : map (λ (n : NotedGate). n.gate) machines.gates.items ≡ gates
    pub gate_notes : All (λ (n : NotedGate). GateNotesStart locks n.notes) machines.gates.items
    pub store_is : machines.store.store ≡ store
    pub store_frame : (machines.store.shards ∷ []) ∷ lock_noted machines.store.oracle ∷ map lock_noted machines.store.gates
        ≡ frame_for_store locks (length shards)
    pub oracle_is : machines.oracle.oracle ≡ oracle
    pub oracle_frame : (machines.oracle.shards ∷ []) ∷ map lock_noted machines.oracle.gates ≡ frame_for_oracle locks (length shards)
    pub shards_are : map (λ (n : NotedShard). n.shard) machines.shards.items ≡ shards
    pub shard_counts : All (λ (n : NotedShard). n.shards ≡ length shards) machines.shards.items
    pub shard_notes : All (λ (n : NotedShard). ShardNotesStart locks n.notes) machines.shards.items

  -- machines with these views, and with notes that start as the locks are, fit the locks
  pub fit : (machines : Machines) → AreNoted machines → FitLocks locks machines
  fit machines noted =
      let ms : List NotedGate = machines.gates.items in
      let ns : List NotedShard = machines.shards.items in
      let gates_long : length ms ≡ length gates = sym (length-map ms (λ (n : NotedGate). n.gate)) ∙ ap (λ (l : List GateView). length l) noted.gates_are in
      let shards_long : length ns ≡ length shards = sym (length-map ns (λ (n : NotedShard). n.shard)) ∙ ap (λ (l : List ShardView). length l) noted.shards_are in record {
        gate_count = omega (arith, gates_long, gate_count, machines.gates.ok.0);
        gates = λ k c m low.
            let there : k < length gates = omega (arith, low, gate_count) in
            let here : k < length ms = omega (arith, there, gates_long) in
            let g : GateView = one_of gates k there in
            let at : (get_or ms k m).gate ≡ get_or gates k g =
            sym (get_or-map (λ (n : NotedGate). n.gate) ms k m g here) ∙ ap (λ (l : List GateView). get_or l k g) noted.gates_are in
            let is = opened.gate_locks k c g low in record {
              frame_is = noted_frame (get_or ms k m) (noted.gate_notes k m here) ∙ (ap (frame_for_gate locks) at ∙ sym is.frame_is);
              log_is = ap (λ (v : GateView). map gate_pair v.log) at ∙ sym is.start_is;
            };
        store_frame = noted.store_frame ∙ sym opened.store_lock.frame_is;
        store_log = ap (map store_pair) noted.store_is ∙ sym opened.store_lock.start_is;
        oracle_frame = noted.oracle_frame ∙ sym opened.oracle_lock.frame_is;
        oracle_log = ap (map oracle_pair) noted.oracle_is ∙ sym opened.oracle_lock.start_is;
        shard_count = omega (arith, shards_long, shard_count, machines.shards.ok.0);
        shards = λ k c m low.
            let there : k < length shards = omega (arith, low, shard_count) in
            let here : k < length ns = omega (arith, there, shards_long) in
            let s : ShardView = one_of shards k there in
            let at : (get_or ns k m).shard ≡ get_or shards k s =
            sym (get_or-map (λ (n : NotedShard). n.shard) ns k m s here) ∙ ap (λ (l : List ShardView). get_or l k s) noted.shards_are in
            let is = opened.shard_locks k c s low in record {
              frame_is = noted_shard_frame (get_or ns k m) (noted.shard_counts k m here) (noted.shard_notes k m here)
                  ∙ (ap (frame_for_shard locks (length shards)) at ∙ sym is.frame_is);
              log_is = ap (λ (v : ShardView). map shard_pair v.log) at ∙ sym is.start_is;
            };
      }
