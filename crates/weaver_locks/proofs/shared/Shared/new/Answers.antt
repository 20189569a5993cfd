use Rattle.std.proofs.Common.{arith, ◌≡◌, ℕ, List, length, sym, ap, ◌∙◌, subst}
use Rattle.std.proofs.lemmas.List.{length-map}
use Rattle.gatekeeper.specs.Gates.{GateView}
use Rattle.shard_node.specs.Shards.{ShardView}
use Rattle.weave_entries.specs.declared.store_log.StoreDeed.{StoreDeed}
use Rattle.chronicle.specs.Locks.{Lock, lock_of}
use Rattle.weaver_locks.specs.Opened.{AreOpened}
use Rattle.weaver_locks.proofs.Starting.{start_is}
use Rattle.weaver_locks.specs.Kept.{HasEnds, HasRooms}
use Rattle.weaver_locks.proofs.NewHands.{begins, framed, new_hand, sees}
use Rattle.weaver_locks.specs.Closing.{MayStart}
use Rattle.weaver_locks.proofs.shared.Shared.new.Goals as goal

pub fill_locks-requires-clause-start : goal.fill_locks-requires-clause-start
fill_locks-requires-clause-start c =
    let made = c.in_ok-opened.ensures in
    subst (λ (z : List GateView × List ShardView). MayStart z.0 c.args.store c.args.oracle z.1) (λ i. (sym made.gates i, sym made.shards i)) c.requires.start

pub invariant_of-shared : goal.invariant_of-shared
invariant_of-shared c =
    let gates = c.args.gates.items in
    let shards = c.args.shards.items in
    let opened = c.in_ok-opened.opened in
    let made = c.in_ok-opened.ensures in
    let is = made.opened in
    let locks = opened.locks in
    let begun : AreOpened locks gates c.args.store c.args.oracle shards =
    subst (λ (z : List GateView × List ShardView). AreOpened locks z.0 c.args.store c.args.oracle z.1) (λ i. (made.gates i, made.shards i)) is.are_opened in
    let gates_long : length locks.gates.items ≡ length gates =
    is.gate_count ∙ (sym (length-map opened.gates.items (λ b. b.gate)) ∙ ap (λ (l : List GateView). length l) made.gates) in
    let shards_long : length locks.shards.items ≡ length shards =
    is.shard_count ∙ (sym (length-map opened.shards.items (λ b. b.shard)) ∙ ap (λ (l : List ShardView). length l) made.shards) in
    let after = c.in_ok-locks.locks in
    let filled = c.in_ok-locks.ensures.filled in
    let gates_after : length after.gates.items ≡ length gates = filled.gate_count ∙ gates_long in
    let shards_after : length after.shards.items ≡ length shards = filled.shard_count ∙ shards_long in
    let passes_after : (lock_of after.store).passes ≡ c.args.hands = ap (λ (l : Lock StoreDeed). l.passes) filled.store ∙ is.count in
    let began = start_is c.new_locks_keep_their_laws.ensures locks gates c.args.store c.args.oracle shards c.requires.start begun gates_long shards_long in
    let gate_len : c.len-gate_len.result ≡ length gates = c.len-gate_len.ensures ∙ c.args.gates.ok.0 in
    let shard_len : c.len-shard_len.result ≡ length shards = c.len-shard_len.ensures ∙ c.args.shards.ok.0 in
    record {
      framed = framed locks gates c.args.store c.args.oracle shards c.requires.start begun gates_long shards_long began after filled
          (omega (arith, is.count, c.requires.hands));
      gates_filled = filled.gates_filled;
      store_filled = filled.store_filled;
      oracle_filled = filled.oracle_filled;
      shards_filled = filled.shards_filled;
      roomy = subst (λ (z : ℕ × ℕ × ℕ). HasRooms z.0 z.1 z.2 c.in_ok-rooms.rooms)
          (λ i. ((gate_len ∙ sym gates_after) i, (shard_len ∙ sym shards_after) i, sym passes_after i)) c.in_ok-rooms.ensures;
      spacious = subst (λ (z : ℕ × ℕ). HasEnds z.0 z.1 c.in_ok-ends.ends) (λ i. ((gate_len ∙ sym gates_after) i, (shard_len ∙ sym shards_after) i)) c.in_ok-ends.ensures;
    }

pub returns-clause-start : goal.returns-clause-start
returns-clause-start c =
    let gates = c.args.gates.items in
    let shards = c.args.shards.items in
    let opened = c.in_ok-opened.opened in
    let made = c.in_ok-opened.ensures in
    let is = made.opened in
    let locks = opened.locks in
    let begun : AreOpened locks gates c.args.store c.args.oracle shards =
    subst (λ (z : List GateView × List ShardView). AreOpened locks z.0 c.args.store c.args.oracle z.1) (λ i. (made.gates i, made.shards i)) is.are_opened in
    let gates_long : length locks.gates.items ≡ length gates =
    is.gate_count ∙ (sym (length-map opened.gates.items (λ b. b.gate)) ∙ ap (λ (l : List GateView). length l) made.gates) in
    let shards_long : length locks.shards.items ≡ length shards =
    is.shard_count ∙ (sym (length-map opened.shards.items (λ b. b.shard)) ∙ ap (λ (l : List ShardView). length l) made.shards) in
    let after = c.in_ok-locks.locks in
    let filled = c.in_ok-locks.ensures.filled in
    let began = start_is c.new_locks_keep_their_laws.ensures locks gates c.args.store c.args.oracle shards c.requires.start begun gates_long shards_long in
    begins locks gates c.args.store c.args.oracle shards c.requires.start begun gates_long shards_long began after filled

pub returns-clause-hands : goal.returns-clause-hands
returns-clause-hands c k h low =
    let gates = c.args.gates.items in
    let shards = c.args.shards.items in
    let opened = c.in_ok-opened.opened in
    let made = c.in_ok-opened.ensures in
    let is = made.opened in
    let locks = opened.locks in
    let begun : AreOpened locks gates c.args.store c.args.oracle shards =
    subst (λ (z : List GateView × List ShardView). AreOpened locks z.0 c.args.store c.args.oracle z.1) (λ i. (made.gates i, made.shards i)) is.are_opened in
    let gates_long : length locks.gates.items ≡ length gates =
    is.gate_count ∙ (sym (length-map opened.gates.items (λ b. b.gate)) ∙ ap (λ (l : List GateView). length l) made.gates) in
    let shards_long : length locks.shards.items ≡ length shards =
    is.shard_count ∙ (sym (length-map opened.shards.items (λ b. b.shard)) ∙ ap (λ (l : List ShardView). length l) made.shards) in
    let after = c.in_ok-locks.locks in
    let filled = c.in_ok-locks.ensures.filled in
    let began = start_is c.new_locks_keep_their_laws.ensures locks gates c.args.store c.args.oracle shards c.requires.start begun gates_long shards_long in
    let is_new = c.in_ok-locks.ensures.hands k h low in
    let f = new_hand locks gates c.args.store c.args.oracle shards c.requires.start begun gates_long shards_long began after filled k _ is_new in (
      record {
        gates = f.gates_long;
        shards = f.shards_long;
        gates_ready = f.gates_ready;
        store_ready = f.store_ready;
        oracle_ready = f.oracle_ready;
        shards_ready = f.shards_ready;
        gate_numbers = f.numbers.gates;
        oracle_number = f.numbers.oracle;
        shard_numbers = f.numbers.shards;
        legal = f.legal;
        seen = f.seen_all;
      },
      is_new.store.number_is,
      sees locks gates c.args.store c.args.oracle shards c.requires.start begun gates_long shards_long began after filled k _ is_new,
    )

pub returns-clause-gates : goal.returns-clause-gates
returns-clause-gates c =
    let made = c.in_ok-opened.ensures in
    let opened = c.in_ok-opened.opened in
    c.in_ok-locks.ensures.filled.gate_count ∙ (made.opened.gate_count ∙ (sym (length-map opened.gates.items (λ b. b.gate))
    ∙ (ap (λ (l : List GateView). length l) made.gates ∙ sym c.args.gates.ok.0)))

pub returns-clause-shards : goal.returns-clause-shards
returns-clause-shards c =
    let made = c.in_ok-opened.ensures in
    let opened = c.in_ok-opened.opened in
    c.in_ok-locks.ensures.filled.shard_count ∙ (made.opened.shard_count ∙ (sym (length-map opened.shards.items (λ b. b.shard))
    ∙ (ap (λ (l : List ShardView). length l) made.shards ∙ sym c.args.shards.ok.0)))

pub returns-clause-hand_count : goal.returns-clause-hand_count
returns-clause-hand_count c = ap (λ (l : Lock StoreDeed). l.passes) c.in_ok-locks.ensures.filled.store ∙ c.in_ok-opened.ensures.opened.count
