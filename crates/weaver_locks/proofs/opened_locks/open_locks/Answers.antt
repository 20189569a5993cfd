use Rattle.std.proofs.Common.{arith, ◌≡◌, ◌<◌, ℕ, List, length, map, get_or, sym, ap, ◌∙◌, subst}
use Rattle.std.specs.List.{All}
use Rattle.std.proofs.lemmas.List.{length-map}
use Rattle.gatekeeper.specs.Gates.{GateView}
use Rattle.shard_node.specs.Shards.{ShardView}
use Rattle.chronicle.specs.Locks.{lock_of, name_of}
use Rattle.lock_row.specs.Rows.{names_of}
use Rattle.weaver_locks.specs.Opened.{passes_of, AreOpened, HaveFirst}
use Rattle.weaver_locks.proofs.opened_locks.open_locks.Goals as goal

pub open_all-requires-clause-gate_count : goal.open_all-requires-clause-gate_count
open_all-requires-clause-gate_count c =
    let gates = c.args.gates.items in
    let shards = c.args.shards.items in
    let made = c.in_ok-locks in
    let bare = c.in_ok-bare in
    let bare_shards = c.in_ok-bare_shards in
    let gate_count : length made.locks.gates.items ≡ length gates = made.ensures.gates ∙ (c.len-gate_len.ensures ∙ c.args.gates.ok.0) in
    let shard_count : length made.locks.shards.items ≡ length shards = made.ensures.shards ∙ (c.len-shard_len.ensures ∙ c.args.shards.ok.0) in
    let count : c.len-shard_len.result ≡ length shards = c.len-shard_len.ensures ∙ c.args.shards.ok.0 in
    ap (λ l. length l) c.deref.ensures.value ∙ (sym (length-map bare.bare.items (λ b. b.gate)) ∙ (ap (λ (l : List GateView). length l) bare.ensures.gates ∙ sym gate_count))

pub open_all-requires-clause-gates : goal.open_all-requires-clause-gates
open_all-requires-clause-gates c =
    let bare = c.in_ok-bare in
    let locks = c.in_ok-locks.locks in
    subst (All (λ b. (name_of (lock_of b.store.value) ≡ name_of (lock_of locks.store)) × (names_of b.shards.value.items ≡ names_of locks.shards.items)))
    (sym c.deref.ensures.value)
    (λ k b low. (ap (λ v. name_of (lock_of v)) (bare.ensures.store k b low), ap (λ v. names_of v.items) (bare.ensures.shards k b low)))

pub open_all-requires-clause-few : goal.open_all-requires-clause-few
open_all-requires-clause-few c =
    let gates = c.args.gates.items in
    let shards = c.args.shards.items in
    let made = c.in_ok-locks in
    let bare = c.in_ok-bare in
    let bare_shards = c.in_ok-bare_shards in
    let gate_count : length made.locks.gates.items ≡ length gates = made.ensures.gates ∙ (c.len-gate_len.ensures ∙ c.args.gates.ok.0) in
    let shard_count : length made.locks.shards.items ≡ length shards = made.ensures.shards ∙ (c.len-shard_len.ensures ∙ c.args.shards.ok.0) in
    let count : c.len-shard_len.result ≡ length shards = c.len-shard_len.ensures ∙ c.args.shards.ok.0 in
    let long = ap (λ l. length l) c.deref-2.ensures.value ∙ (sym (length-map bare_shards.bare_shards.items (λ b. b.shard)) ∙ ap (λ (l : List ShardView). length l) bare_shards.ensures.shards) in
    omega (arith, long, c.requires.few_shards)

pub open_all-requires-clause-shard_count : goal.open_all-requires-clause-shard_count
open_all-requires-clause-shard_count c =
    let gates = c.args.gates.items in
    let shards = c.args.shards.items in
    let made = c.in_ok-locks in
    let bare = c.in_ok-bare in
    let bare_shards = c.in_ok-bare_shards in
    let gate_count : length made.locks.gates.items ≡ length gates = made.ensures.gates ∙ (c.len-gate_len.ensures ∙ c.args.gates.ok.0) in
    let shard_count : length made.locks.shards.items ≡ length shards = made.ensures.shards ∙ (c.len-shard_len.ensures ∙ c.args.shards.ok.0) in
    let count : c.len-shard_len.result ≡ length shards = c.len-shard_len.ensures ∙ c.args.shards.ok.0 in
    ap (λ l. length l) c.deref-2.ensures.value ∙ (sym (length-map bare_shards.bare_shards.items (λ b. b.shard)) ∙ (ap (λ (l : List ShardView). length l) bare_shards.ensures.shards ∙ sym shard_count))

pub open_all-requires-clause-shards : goal.open_all-requires-clause-shards
open_all-requires-clause-shards c =
    let gates = c.args.gates.items in
    let shards = c.args.shards.items in
    let made = c.in_ok-locks in
    let bare = c.in_ok-bare in
    let bare_shards = c.in_ok-bare_shards in
    let gate_count : length made.locks.gates.items ≡ length gates = made.ensures.gates ∙ (c.len-gate_len.ensures ∙ c.args.gates.ok.0) in
    let shard_count : length made.locks.shards.items ≡ length shards = made.ensures.shards ∙ (c.len-shard_len.ensures ∙ c.args.shards.ok.0) in
    let count : c.len-shard_len.result ≡ length shards = c.len-shard_len.ensures ∙ c.args.shards.ok.0 in
    let locks = made.locks in
    let many = c.deref-2.ensures.value in
    let long = ap (λ l. length l) many ∙ (sym (length-map bare_shards.bare_shards.items (λ b. b.shard)) ∙ ap (λ (l : List ShardView). length l) bare_shards.ensures.shards) in
    λ k b low.
    let at = ap (λ l. get_or l k b) many in
    let here = subst (λ n. k < n) (ap (λ l. length l) many) low in (
      ap (λ v. v.shards) at ∙ (bare_shards.ensures.count k b here ∙ (count ∙ sym long)),
      ap (λ v. names_of v.gates.value.items) at ∙ ap (λ v. names_of v.items) (bare_shards.ensures.gates k b here),
      ap (λ v. name_of (lock_of v.store.value)) at ∙ ap (λ v. name_of (lock_of v)) (bare_shards.ensures.store k b here),
      ap (λ v. name_of (lock_of v.oracle.value)) at ∙ ap (λ v. name_of (lock_of v)) (bare_shards.ensures.oracle k b here),
    )

pub returns-clause-opened : goal.returns-clause-opened
returns-clause-opened c =
    let gates = c.in_ok-bare.bare.items in
    let shards = c.in_ok-bare_shards.bare_shards.items in
    let made = c.in_ok-locks in
    let is = c.in_ok-passes.ensures in
    let locks = c.open_all.new.locks in
    let gate_count : length made.locks.gates.items ≡ length gates = made.ensures.gates ∙ (c.len-gate_len.ensures ∙ c.args.gates.ok.0)
    ∙ sym (sym (length-map gates (λ b. b.gate)) ∙ ap (λ (l : List GateView). length l) c.in_ok-bare.ensures.gates) in
    let shard_count : length made.locks.shards.items ≡ length shards = made.ensures.shards ∙ (c.len-shard_len.ensures ∙ c.args.shards.ok.0)
    ∙ sym (sym (length-map shards (λ b. b.shard)) ∙ ap (λ (l : List ShardView). length l) c.in_ok-bare_shards.ensures.shards) in
    let gates_now : map (λ b. b.gate) c.deref.result.now ≡ map (λ b. b.gate) gates = ap (λ l. map (λ b. b.gate) l) c.deref.ensures.value in
    let shards_now : map (λ b. b.shard) c.deref-2.result.now ≡ map (λ b. b.shard) shards = ap (λ l. map (λ b. b.shard) l) c.deref-2.ensures.value in
    let passes_are : passes_of locks ≡ c.args.hands = is.count ∙ made.ensures.passes in
    record {
      are_opened = subst (λ (z : List GateView × List ShardView). AreOpened locks z.0 c.args.store.now c.args.oracle.now z.1) (λ i. (gates_now i, shards_now i)) is.opened;
      gate_count = is.same.gate_count ∙ gate_count;
      shard_count = is.same.shard_count ∙ shard_count;
      count = passes_are;
      passes_are = subst (λ (n : ℕ). HaveFirst n locks c.in_ok-passes.passes) passes_are is.passes;
      places_are = is.places;
    }
