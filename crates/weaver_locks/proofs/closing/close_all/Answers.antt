use Rattle.std.proofs.Common.{arith, ◌≡◌, List, length, map, refl, sym, ◌∙◌, subst, vec_len}
use Rattle.std.specs.List.{All}
use Rattle.std.proofs.lemmas.List.Elements.{All-weaker}
use Rattle.gatekeeper.specs.Gates.{GateView}
use Rattle.shard_node.specs.Shards.{ShardView}
use Rattle.weave_entries.specs.declared.oracle_log.OracleEntry.{OracleEntry}
use Rattle.weave_entries.specs.declared.store_log.StoreEntry.{StoreEntry}
use Rattle.chronicle.specs.Locks.{lock_of}
use Rattle.chronicle.specs.Passes.{IsReady, number_of}
use Rattle.lock_row.specs.Rows.{AreReady}
use Rattle.gate_lock.specs.declared.noted_gate.NotedGate.{NotedGate}
use Rattle.shard_lock.specs.declared.noted_shard.NotedShard.{NotedShard}
use Rattle.weaver_locks.specs.declared.hand.Hand.{Hand}
use Rattle.weaver_locks.specs.Hands.{hand_number, IsHand}
use Rattle.weaver_locks.specs.ClosedLogs.{AreClosedLogs}
use Rattle.weaver_locks.proofs.Closings.{all_passes, row_all, AreOut, closed_logs}
use Rattle.weaver_locks.proofs.closing.close_all.Goals as goal

pub close_row-noted_gates-requires-clause-passes : goal.close_row-noted_gates-requires-clause-passes
close_row-noted_gates-requires-clause-passes c =
    let shared = c.args.shared in
    let hands = c.args.hands.items in
    row_all shared hands c.requires.each c.requires.all (λ (h : Hand). h.gates.items) shared.gates.items c.gather.new.rooms.gates.items
    (vec_len c.args.hands)
    (All-weaker (IsHand shared) (λ h. length h.gates.items ≡ length shared.gates.items) (λ h is. is.gates) hands c.requires.each)
    (All-weaker (IsHand shared) (λ h. All (λ p. number_of p ≡ hand_number h) h.gates.items) (λ h is. is.gate_numbers) hands c.requires.each)
    shared.framed.gate_passes (c.gather.ensures.gate_count ∙ shared.roomy.gate_count) c.gather.ensures.gates
    (All-weaker (IsHand shared) (λ h. AreReady shared.gates.items h.gates.items) (λ h is. is.gates_ready) hands c.requires.each)

pub close-noted_store-requires-clause-passes : goal.close-noted_store-requires-clause-passes
close-noted_store-requires-clause-passes c =
    let shared = c.args.shared in
    let hands = c.args.hands.items in
    all_passes shared hands c.requires.each c.requires.all (lock_of shared.store) (λ (h : Hand). h.store) c.gather.new.rooms.store.items
    c.gather.ensures.store refl
    (All-weaker (IsHand shared) (λ h. IsReady (lock_of shared.store) h.store) (λ h is. is.store_ready) hands c.requires.each)
    (λ k d low. refl)

pub close-noted_oracle-requires-clause-passes : goal.close-noted_oracle-requires-clause-passes
close-noted_oracle-requires-clause-passes c =
    let shared = c.args.shared in
    let hands = c.args.hands.items in
    all_passes shared hands c.requires.each c.requires.all (lock_of shared.oracle) (λ (h : Hand). h.oracle) c.gather.new.rooms.oracle.items
    c.gather.ensures.oracle shared.framed.oracle_passes
    (All-weaker (IsHand shared) (λ h. IsReady (lock_of shared.oracle) h.oracle) (λ h is. is.oracle_ready) hands c.requires.each)
    (All-weaker (IsHand shared) (λ h. number_of h.oracle ≡ hand_number h) (λ h is. is.oracle_number) hands c.requires.each)

pub close_row-noted_shards-requires-clause-passes : goal.close_row-noted_shards-requires-clause-passes
close_row-noted_shards-requires-clause-passes c =
    let shared = c.args.shared in
    let hands = c.args.hands.items in
    row_all shared hands c.requires.each c.requires.all (λ (h : Hand). h.shards.items) shared.shards.items c.gather.new.rooms.shards.items
    (vec_len c.args.hands)
    (All-weaker (IsHand shared) (λ h. length h.shards.items ≡ length shared.shards.items) (λ h is. is.shards) hands c.requires.each)
    (All-weaker (IsHand shared) (λ h. All (λ p. number_of p ≡ hand_number h) h.shards.items) (λ h is. is.shard_numbers) hands c.requires.each)
    shared.framed.shard_passes (c.gather.ensures.shard_count ∙ shared.roomy.shard_count) c.gather.ensures.shards
    (All-weaker (IsHand shared) (λ h. AreReady shared.shards.items h.shards.items) (λ h is. is.shards_ready) hands c.requires.each)

pub returns-clause-closed : goal.returns-clause-closed
returns-clause-closed c =
    let shared = c.args.shared in
    let hands = c.args.hands.items in
    let rooms = c.gather.new.rooms in
    let noted_gates = c.close_row-noted_gates.result in
    let noted_shards = c.close_row-noted_shards.result in
    let noted_store = c.close-noted_store.result in
    let noted_oracle = c.close-noted_oracle.result in
    let store = c.close-noted_store.ensures in
    let oracle = c.close-noted_oracle.ensures in
    let out : AreOut shared hands c.requires.each c.requires.all rooms.gates.items rooms.store.items rooms.oracle.items rooms.shards.items
    (vec_len c.args.hands) noted_gates.items noted_store noted_oracle noted_shards.items = record {
      gate_count = omega (arith, c.close_row-noted_gates.ensures.count, noted_gates.ok.0, shared.gates.ok.0);
      gate_room_count = c.gather.ensures.gate_count ∙ shared.roomy.gate_count;
      shard_count = omega (arith, c.close_row-noted_shards.ensures.count, noted_shards.ok.0, shared.shards.ok.0);
      shard_room_count = c.gather.ensures.shard_count ∙ shared.roomy.shard_count;
      gates_gathered = c.gather.ensures.gates;
      store_gathered = c.gather.ensures.store;
      oracle_gathered = c.gather.ensures.oracle;
      shards_gathered = c.gather.ensures.shards;
      gates_closed = c.close_row-noted_gates.ensures.closed;
      store_closed = record { frame_is = refl; longest = store.longest; prefixes = store.prefixes; own = store.own; authors = store.authors };
      oracle_closed = record { frame_is = refl; longest = oracle.longest; prefixes = oracle.prefixes; own = oracle.own; authors = oracle.authors };
      shards_closed = c.close_row-noted_shards.ensures.closed;
    } in
    let laws = c.closed_logs_keep_their_laws.ensures in
    let gates_out = map (λ (n : NotedGate). n.gate) noted_gates.items in
    let shards_out = map (λ (n : NotedShard). n.shard) noted_shards.items in
    subst (λ (z : List GateView × List StoreEntry × List OracleEntry × List ShardView). AreClosedLogs shared hands z.0 z.1 z.2 z.3)
    (λ i. (sym c.gates_without_notes.ensures i, sym c.into_store.ensures i, sym c.into_oracle.ensures i, sym c.shards_without_notes.ensures i))
    (closed_logs shared hands c.requires.each c.requires.all rooms.gates.items rooms.store.items rooms.oracle.items rooms.shards.items
    (vec_len c.args.hands) noted_gates.items noted_store noted_oracle noted_shards.items out laws)
