use Rattle.std.proofs.Common.{arith, ◌≡◌, ◌<◌, ℕ, length, map, sym, ap, ◌∙◌, subst}
use Rattle.std.proofs.lemmas.List.{length-map, get_or-map}
use Rattle.gatekeeper.specs.Gates.{GateView}
use Rattle.shard_node.specs.Shards.{ShardView}
use Rattle.chronicle.specs.Locks.{lock_of}
use Rattle.lock_row.proofs.Lists.{one_of}
use Rattle.gate_lock.specs.Notes as gate
use Rattle.shard_lock.specs.Notes as shard
use Rattle.oracle_lock.specs.Seen.{OracleIsKept}
use Rattle.store_lock.specs.Seen.{StoreIsKept}
use Rattle.seen_logs.specs.Entries.{oracle_entries}
use Rattle.weaver_locks.specs.declared.hand.Hand.{Hand}
use Rattle.weaver_locks.specs.Noted.{gates_start}
use Rattle.weaver_locks.specs.Opened.{frame_for_oracle, frame_for_store, IsNewHand}
use Rattle.weaver_locks.proofs.Starting.{kept_gate, kept_oracle, kept_shard, kept_store}
use Rattle.weaver_locks.proofs.Fitting.{fit}
use Rattle.weaver_locks.proofs.NewHands.{all_new}
use Rattle.weaver_locks.proofs.filling.fill_locks.Goals as goal

pub note_all-requires-clause-hand : goal.note_all-requires-clause-hand
note_all-requires-clause-hand c =
    let v = c.index_mut.result.now in
    subst (λ (h : Hand). IsNewHand c.args.opened.locks 0 h) (sym c.index_mut.ensures.value)
    (c.in_ok-dealt.ensures.hands 0 v (omega (arith, c.requires.hands)))

pub note_all-requires-clause-gates : goal.note_all-requires-clause-gates
note_all-requires-clause-gates c k b low notes noted =
    let opened = c.args.opened in
    let is = c.requires.opened in
    let bare = opened.gates.items in
    let bare_shards = opened.shards.items in
    let gates = map (λ b. b.gate) bare in
    let shards = map (λ b. b.shard) bare_shards in
    let gates_long : length opened.locks.gates.items ≡ length gates = is.gate_count ∙ sym (length-map bare (λ b. b.gate)) in
    let shards_long : length opened.locks.shards.items ≡ length shards = is.shard_count ∙ sym (length-map bare_shards (λ b. b.shard)) in
    let there : k < length gates = omega (arith, low, length-map bare (λ b. b.gate)) in
    let g : GateView = one_of gates k there in
    subst (λ (v : GateView). gate.GateIsKept v notes) (get_or-map (λ x. x.gate) bare k b g low)
    (kept_gate c.new_locks_keep_their_laws.ensures opened.locks gates c.args.store c.args.oracle shards c.requires.start is.are_opened gates_long shards_long k g there notes noted)

pub note_all-requires-clause-store : goal.note_all-requires-clause-store
note_all-requires-clause-store c =
    let opened = c.args.opened in
    let is = c.requires.opened in
    let bare = opened.gates.items in
    let bare_shards = opened.shards.items in
    let gates = map (λ b. b.gate) bare in
    let shards = map (λ b. b.shard) bare_shards in
    let gates_long : length opened.locks.gates.items ≡ length gates = is.gate_count ∙ sym (length-map bare (λ b. b.gate)) in
    let shards_long : length opened.locks.shards.items ≡ length shards = is.shard_count ∙ sym (length-map bare_shards (λ b. b.shard)) in
    let count : c.len-count.result ≡ length shards = c.len-count.ensures ∙ (opened.shards.ok.0 ∙ sym (length-map bare_shards (λ b. b.shard))) in
    subst (λ (n : ℕ). StoreIsKept n (gates_start opened.locks) (oracle_entries (lock_of opened.locks.oracle).start) c.args.store) (sym count)
    (kept_store c.new_locks_keep_their_laws.ensures opened.locks gates c.args.store c.args.oracle shards c.requires.start is.are_opened gates_long shards_long)

pub note_all-requires-clause-oracle : goal.note_all-requires-clause-oracle
note_all-requires-clause-oracle c =
    let opened = c.args.opened in
    let is = c.requires.opened in
    let bare = opened.gates.items in
    let bare_shards = opened.shards.items in
    let gates = map (λ b. b.gate) bare in
    let shards = map (λ b. b.shard) bare_shards in
    let gates_long : length opened.locks.gates.items ≡ length gates = is.gate_count ∙ sym (length-map bare (λ b. b.gate)) in
    let shards_long : length opened.locks.shards.items ≡ length shards = is.shard_count ∙ sym (length-map bare_shards (λ b. b.shard)) in
    let count : c.len-count.result ≡ length shards = c.len-count.ensures ∙ (opened.shards.ok.0 ∙ sym (length-map bare_shards (λ b. b.shard))) in
    subst (λ (n : ℕ). OracleIsKept n (gates_start opened.locks) c.args.oracle) (sym count)
    (kept_oracle c.new_locks_keep_their_laws.ensures opened.locks gates c.args.store c.args.oracle shards c.requires.start is.are_opened gates_long shards_long)

pub note_all-requires-clause-shards : goal.note_all-requires-clause-shards
note_all-requires-clause-shards c k b low notes noted =
    let opened = c.args.opened in
    let is = c.requires.opened in
    let bare = opened.gates.items in
    let bare_shards = opened.shards.items in
    let gates = map (λ b. b.gate) bare in
    let shards = map (λ b. b.shard) bare_shards in
    let gates_long : length opened.locks.gates.items ≡ length gates = is.gate_count ∙ sym (length-map bare (λ b. b.gate)) in
    let shards_long : length opened.locks.shards.items ≡ length shards = is.shard_count ∙ sym (length-map bare_shards (λ b. b.shard)) in
    let count : c.len-count.result ≡ length shards = c.len-count.ensures ∙ (opened.shards.ok.0 ∙ sym (length-map bare_shards (λ b. b.shard))) in
    let there : k < length shards = omega (arith, low, length-map bare_shards (λ b. b.shard)) in
    let s : ShardView = one_of shards k there in
    subst (λ (z : ShardView × ℕ). shard.ShardIsKept z.0 z.1 notes) (λ i. (get_or-map (λ x. x.shard) bare_shards k b s low i, sym count i))
    (kept_shard c.new_locks_keep_their_laws.ensures opened.locks gates c.args.store c.args.oracle shards c.requires.start is.are_opened gates_long shards_long k s there notes noted)

pub fill_all-requires-clause-machines : goal.fill_all-requires-clause-machines
fill_all-requires-clause-machines c =
    let opened = c.args.opened in
    let is = c.requires.opened in
    let bare = opened.gates.items in
    let bare_shards = opened.shards.items in
    let gates = map (λ b. b.gate) bare in
    let shards = map (λ b. b.shard) bare_shards in
    let gates_long : length opened.locks.gates.items ≡ length gates = is.gate_count ∙ sym (length-map bare (λ b. b.gate)) in
    let shards_long : length opened.locks.shards.items ≡ length shards = is.shard_count ∙ sym (length-map bare_shards (λ b. b.shard)) in
    let count : c.len-count.result ≡ length shards = c.len-count.ensures ∙ (opened.shards.ok.0 ∙ sym (length-map bare_shards (λ b. b.shard))) in
    let m = c.in_ok-machines in
    fit opened.locks gates c.args.store c.args.oracle shards is.are_opened gates_long shards_long m.machines record {
      gates_are = m.ensures.gates;
      gate_notes = m.ensures.gate_notes;
      store_is = m.ensures.store;
      store_frame = m.ensures.store_frame ∙ ap (frame_for_store opened.locks) count;
      oracle_is = m.ensures.oracle;
      oracle_frame = m.ensures.oracle_frame ∙ ap (frame_for_oracle opened.locks) count;
      shards_are = m.ensures.shards;
      shard_counts = λ k n low. m.ensures.shard_counts k n low ∙ count;
      shard_notes = m.ensures.shard_notes;
    }

pub returns-clause-hands : goal.returns-clause-hands
returns-clause-hands c k h low =
    let dealt = c.in_ok-dealt in
    all_new c.args.opened.locks c.args.hands dealt.dealt.items c.note_all.new.hand (sym dealt.dealt.ok.0 ∙ dealt.ensures.count) dealt.ensures.hands
    c.in_ok-machines.ensures.hand k h low
