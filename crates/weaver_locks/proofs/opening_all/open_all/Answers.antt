use Rattle.std.proofs.Common.{arith, ◌≡◌, ℕ, [], ◌∷◌, get_or, length, map, refl, sym, ap, ◌∙◌, subst}
use Rattle.std.proofs.lemmas.List.{length-map}
use Rattle.gatekeeper.specs.Gates.{GateView}
use Rattle.shard_node.specs.Shards.{ShardView}
use Rattle.seen_logs.specs.Entries.{gate_pair, shard_pair}
use Rattle.chronicle.specs.Locks.{lock_of, name_of}
use Rattle.lock_row.specs.Hands.{AreFirst, HavePasses}
use Rattle.lock_row.specs.Rows.{names_of}
use Rattle.lock_row.proofs.Hands.{first_all}
use Rattle.gate_lock.specs.Frames.{gate_frame}
use Rattle.shard_lock.specs.Frames.{shard_frame}
use Rattle.weaver_locks.specs.Opened.{passes_of}
use Rattle.weaver_locks.proofs.Begun.{all_begun}
use Rattle.weaver_locks.proofs.opening_all.open_all.Goals as goal

pub returns-clause-same : goal.returns-clause-same
returns-clause-same c = record {
  gate_count = c.open_row.ensures.count;
  gates = c.open_row.ensures.names;
  store = c.open_store-store_passes.ensures.name;
  oracle = c.open_oracle-oracle_passes.ensures.name;
  shard_count = c.open_row-2.ensures.count;
  shards = c.open_row-2.ensures.names;
}

pub returns-clause-opened : goal.returns-clause-opened
returns-clause-opened c =
    let old = c.args.locks.now in
    let reserved = c.requires.reserved in
    let gates = c.open_row.new.locks.items in
    let shards = c.open_row-2.new.locks.items in
    let gate_names = c.open_row.ensures.names in
    let shard_names = c.open_row-2.ensures.names in
    let store_name = c.open_store-store_passes.ensures.name in
    let oracle_name = c.open_oracle-oracle_passes.ensures.name in
    let store = c.open_store-store_passes.ensures.lock in
    let oracle = c.open_oracle-oracle_passes.ensures.lock in
    let more = sym store.passes_is in
    let bare_shards = map (λ b. b.shard) c.args.shards.now in
    let all_shards : length c.args.shards.now ≡ length bare_shards = sym (length-map c.args.shards.now (λ b. b.shard)) in
    let count = all_shards in
    let oracle_at = ap (λ v. name_of (lock_of v)) c.of-beside.ensures in
    let store_row = ap (λ v. names_of v.items) c.of-same_row.ensures in
    let oracle_row = ap (λ v. names_of v.items) c.of-row.ensures in
    record {
      gate_locks = all_begun (λ b. gate_frame b.gate.home b.gate.gates b.gate.shards (names_of old.gates.items) (name_of (lock_of b.store.value))
          (names_of b.shards.value.items)) (λ b. map gate_pair b.gate.log) (λ b. b.gate)
          (λ (g : GateView). gate_frame g.home g.gates g.shards (names_of gates) (name_of (lock_of c.open_store-store_passes.new.lock)) (names_of shards))
          (λ (g : GateView). map gate_pair g.log) old.gates.items gates c.args.gates.now (passes_of old) (lock_of c.open_store-store_passes.new.lock).passes
          c.in_ok-gate_passes.ensures.begin c.requires.gate_count c.open_row.ensures.count reserved.gate_passes more
          (λ k b low. let r = c.requires.gates k b low in
          let v = (get_or c.args.gates.now k b).gate in
          λ i. gate_frame v.home v.gates v.shards (sym gate_names i) ((r.0 ∙ sym store_name) i) ((r.1 ∙ sym shard_names) i)) (λ b. refl);
      store_lock = record {
        passes_is = refl;
        frame_is = store.frame_is ∙ (λ i. (count i ∷ []) ∷ oracle_at i ∷ store_row i);
        start_is = store.start_is;
      };
      oracle_lock = record {
        passes_is = oracle.passes_is ∙ (reserved.oracle_passes ∙ more);
        frame_is = oracle.frame_is ∙ (λ i. (count i ∷ []) ∷ oracle_row i);
        start_is = oracle.start_is;
      };
      shard_locks = all_begun (λ b. shard_frame b.shard.number b.shard.gates b.shards (name_of (lock_of b.store.value))
          (name_of (lock_of b.oracle.value)) (names_of b.gates.value.items)) (λ b. map shard_pair b.shard.log) (λ b. b.shard)
          (λ (s : ShardView). shard_frame s.number s.gates (length bare_shards) (name_of (lock_of c.open_store-store_passes.new.lock))
          (name_of (lock_of c.open_oracle-oracle_passes.new.lock)) (names_of gates))
          (λ (s : ShardView). map shard_pair s.log) old.shards.items shards c.args.shards.now (passes_of old) (lock_of c.open_store-store_passes.new.lock).passes
          c.in_ok-shard_passes.ensures.begin c.requires.shard_count c.open_row-2.ensures.count reserved.shard_passes more
          (λ k b low. let r = c.requires.shards k b low in
          let v = (get_or c.args.shards.now k b).shard in
          λ i. shard_frame v.number v.gates ((r.0 ∙ all_shards) i) ((r.2 ∙ sym store_name) i) ((r.3 ∙ sym oracle_name) i) ((r.1 ∙ sym gate_names) i)) (λ b. refl);
    }

pub returns-clause-passes : goal.returns-clause-passes
returns-clause-passes c =
    let old = c.args.locks.now in
    let reserved = c.requires.reserved in
    let n : ℕ = passes_of old in
    let gates = c.in_ok-gate_passes in
    let shards = c.in_ok-shard_passes in
    let store = c.open_store-store_passes.ensures in
    let oracle = c.open_oracle-oracle_passes.ensures in
    let more = sym store.lock.passes_is in
    let gates_new = c.open_row.new.locks.items in
    let shards_new = c.open_row-2.new.locks.items in
    record {
      gate_count = omega (arith, gates.ensures.passes_count, gates.gate_passes.ok.0, c.open_row.ensures.count);
      gates = subst (λ (m : ℕ). HavePasses m gates_new gates.gate_passes.items) more (gates.ensures.passes n reserved.gate_passes);
      store = subst (λ (m : ℕ). AreFirst m (lock_of c.open_store-store_passes.new.lock) c.open_store-store_passes.result.0.items) more
          (first_all n (lock_of c.open_store-store_passes.new.lock) c.open_store-store_passes.result.0.items store.numbers store.ready store.seen);
      oracle = subst (λ (m : ℕ). AreFirst m (lock_of c.open_oracle-oracle_passes.new.lock) c.open_oracle-oracle_passes.result.0.items) (reserved.oracle_passes ∙ more)
          (first_all (lock_of old.oracle).passes (lock_of c.open_oracle-oracle_passes.new.lock) c.open_oracle-oracle_passes.result.0.items oracle.numbers oracle.ready oracle.seen);
      shard_count = omega (arith, shards.ensures.passes_count, shards.shard_passes.ok.0, c.open_row-2.ensures.count);
      shards = subst (λ (m : ℕ). HavePasses m shards_new shards.shard_passes.items) more (shards.ensures.passes n reserved.shard_passes);
    }
