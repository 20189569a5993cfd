use Rattle.std.proofs.Common.{◌≡◌, ◌∙◌, List, length, subst, sym, arith}
use Rattle.weave_entries.specs.declared.oracle_log.OracleEntry.{OracleEntry}
use Rattle.weave_entries.specs.declared.store_log.StoreEntry.{StoreEntry}
use Rattle.weaver_locks.specs.Closing.{MayStart, logs_of}
use Rattle.lock_tests.proofs.NewMachines.{in-order, no-entries, no-gate-log, no-reads, no-shard-log}
use Rattle.lock_tests.proofs.Opening.{unused-hands}
use Rattle.lock_tests.proofs.machines.new_locks.Goals as goal

pub new-made-requires-clause-start : goal.new-made-requires-clause-start
new-made-requires-clause-start g c =
    let gates = c.new_gates.result.items in
    let shards = c.new_shards.result.items in
    let gate_len : length gates ≡ c.args.gates = sym c.new_gates.result.ok.0 ∙ c.new_gates.ensures.count in
    let shard_len : length shards ≡ c.args.shards = sym c.new_shards.result.ok.0 ∙ c.new_shards.ensures.count in
    let store = c.new.ensures in
    let oracle = c.new-2.ensures in
    let a = c.requires.some_gate in
    let b = c.requires.few_gates in
    let d = c.requires.some_shard in
    let e = c.requires.few_shards in
    subst (λ (z : List StoreEntry × List OracleEntry). MayStart gates z.0 z.1 shards) (λ i. (sym store i, sym oracle i))
    (c.new_machines_may_start.ensures gates shards (omega (arith, gate_len, a)) (omega (arith, gate_len, b))
    (omega (arith, shard_len, d)) (omega (arith, shard_len, e))
    (in-order gates shards c.args.gates c.args.shards gate_len shard_len c.new_gates.ensures.new c.new_shards.ensures.new)
    (no-gate-log gates shards c.args.gates c.args.shards gate_len shard_len c.new_gates.ensures.new c.new_shards.ensures.new)
    (no-shard-log gates shards c.args.gates c.args.shards gate_len shard_len c.new_gates.ensures.new c.new_shards.ensures.new))

pub returns-clause-hands : goal.returns-clause-hands
returns-clause-hands g c =
    let gates = c.new_gates.result.items in
    let shards = c.new_shards.result.items in
    let gate_len : length gates ≡ c.args.gates = sym c.new_gates.result.ok.0 ∙ c.new_gates.ensures.count in
    let shard_len : length shards ≡ c.args.shards = sym c.new_shards.result.ok.0 ∙ c.new_shards.ensures.count in
    let hands = rw c.expect.ensures at c.new-made.ensures.hands in
    let count = rw c.expect.ensures at c.new-made.ensures.count in
    let dealt = c.expect.result.1 in
    unused-hands c.expect.result.0 dealt.items c.args.hands
    (logs_of gates c.new.result c.new-2.result shards) (sym dealt.ok.0 ∙ count)
    (no-entries gates c.new.result c.new-2.result shards
    (no-gate-log gates shards c.args.gates c.args.shards gate_len shard_len c.new_gates.ensures.new c.new_shards.ensures.new))
    (no-reads gates c.new.result c.new-2.result shards
    (no-shard-log gates shards c.args.gates c.args.shards gate_len shard_len c.new_gates.ensures.new c.new_shards.ensures.new)) hands
