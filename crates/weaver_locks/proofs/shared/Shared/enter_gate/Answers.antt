use Rattle.std.proofs.Common.{◌≡◌, ◌<◌, List, [], length, set, refl, sym, ap, ◌∙◌, subst, arith}
use Rattle.std.proofs.lemmas.List.{length-set}
use Rattle.lock_row.proofs.Lists.{written}
use Rattle.weave_entries.specs.declared.gate_log.GateDeed.{GateDeed}
use Rattle.weave_entries.specs.declared.shard_log.ShardDeed.{ShardDeed}
use Rattle.seen_logs.specs.Seen.{AreLegal}
use Rattle.chronicle.specs.declared.chronicle.Chronicle.{Chronicle}
use Rattle.chronicle.specs.declared.held.Held.{Held}
use Rattle.chronicle.specs.declared.pass.Pass.{Pass}
use Rattle.gate_lock.specs.declared.noted_gate.NotedGate.{NotedGate}
use Rattle.gate_lock.specs.Notes.{seen_by_gate_passes}
use Rattle.shard_lock.specs.declared.noted_shard.NotedShard.{NotedShard}
use Rattle.weaver_locks.specs.declared.hand.Hand.{Hand}
use Rattle.weaver_locks.proofs.Entering.{HasEntered, HasMet, entered_by, is_in_gate, legal_there, met_there, within_gate}
use Rattle.weaver_locks.proofs.shared.Shared.enter_gate.Goals as goal

pub meet-requires-clause-legal : goal.meet-requires-clause-legal
meet-requires-clause-legal g c =
    let P : List (Chronicle NotedGate GateDeed) × List (Pass GateDeed) × List (Chronicle NotedShard ShardDeed) × List (Pass ShardDeed) → Type 0 =
    λ z. AreLegal (length z.0) (length z.2) (seen_by_gate_passes c.args.gate [] (set z.1 c.args.gate c.enter-held.new.pass) c.args.hand.now.store z.3) in
    subst P (λ i. (
      sym c.as_slice-locks.ensures.value i,
      sym c.as_mut_slice-passes.ensures.value i,
      sym c.as_slice.ensures.value i,
      sym c.as_mut_slice.ensures.value i,
    ))
    (legal_there c.hands_keep_their_laws.ensures c.args.self.now c.args.hand.now c.args.gate c.requires.gate c.requires.hand
    c.enter-held.new.pass)

pub returns-clause-inside : goal.returns-clause-inside
returns-clause-inside g c =
    let shared = c.args.self.now in
    let old = c.args.hand.now in
    let gate = c.args.gate in
    let q = c.enter-held.new.pass in
    let state = c.state-state.result.now in
    let later : Held NotedGate GateDeed = record {
      chronicle = c.enter-held.result.chronicle;
      machine = c.meet.new.self;
      seat = c.enter-held.result.seat;
      seated = c.enter-held.result.seated;
      view = c.enter-held.result.view;
      author = c.enter-held.result.author;
    } in
    let now : Hand = record old {
      gates = Rattle.std.specs.Vec.with_items old.gates c.meet.new.gates;
      store = c.meet.new.store;
      shards = Rattle.std.specs.Vec.with_items old.shards c.meet.new.shards;
    } in
    let e = c.enter-held.ensures in
    let low_old : gate < length old.gates.items = omega (arith, c.requires.gate, c.requires.hand.gates) in
    let entered : HasEntered shared old gate q later state = entered_by shared old gate q c.index-passes-gate.result later state
    c.enter-held.result.machine c.index-locks-gate.result c.as_slice-locks.result.now c.as_mut_slice-passes.result.now
    c.requires.gate low_old c.as_slice-locks.ensures.value c.as_mut_slice-passes.ensures.value c.index-locks-gate.is
    c.state-state.ensures.value e.frame e.log e.own e.entry e.lock
    (record { table_is = e.pass.table_is; seat_is = e.pass.seat_is; number_is = e.pass.number_is }) e.number in
    let m = c.meet.ensures in
    let gates_long : length c.meet.new.gates ≡ old.gates.len = (m.gate_passes ∙ (length-set c.as_mut_slice-passes.result.now gate q
    ∙ ap (λ (l : List (Pass GateDeed)). length l) c.as_mut_slice-passes.ensures.value)) ∙ sym old.gates.ok.0 in
    let gates_are : now.gates.items ≡ c.meet.new.gates = written old.gates.len c.meet.new.gates old.gates.items gates_long in
    let shards_long : length c.meet.new.shards ≡ old.shards.len = (m.shard_passes
    ∙ ap (λ (l : List (Pass ShardDeed)). length l) c.as_mut_slice.ensures.value) ∙ sym old.shards.ok.0 in
    let shards_are : now.shards.items ≡ c.meet.new.shards = written old.shards.len c.meet.new.shards old.shards.items shards_long in
    let met : HasMet shared old now gate q state c.meet.new.self shared.gates.items old.gates.items shared.shards.items old.shards.items
    now.gates.items now.shards.items =
    met_there shared old now gate q state c.meet.new.self c.as_slice-locks.result.now c.as_mut_slice-passes.result.now
    c.as_slice.result.now c.as_mut_slice.result.now c.meet.new.gates c.meet.new.shards c.as_slice-locks.ensures.value
    c.as_mut_slice-passes.ensures.value c.as_slice.ensures.value c.as_mut_slice.ensures.value gates_are shards_are (record {
      gate_is = m.gate;
      frame = m.frame;
      gates_met = m.gates;
      store_met = m.store;
      shards_met = m.shards;
      oracle = refl;
      gate_passes = m.gate_passes;
      shard_passes = m.shard_passes;
      pass = m.pass;
      same = m.same;
      before = m.passes_before;
    }) in
    is_in_gate c.hands_keep_their_laws.ensures shared old gate c.requires.gate c.requires.hand q now later state entered met
    c.shows_what_it_keeps.ensures

pub returns-clause-within : goal.returns-clause-within
returns-clause-within g c =
    let shared = c.args.self.now in
    let old = c.args.hand.now in
    let gate = c.args.gate in
    let q = c.enter-held.new.pass in
    let state = c.state-state.result.now in
    let later : Held NotedGate GateDeed = record {
      chronicle = c.enter-held.result.chronicle;
      machine = c.meet.new.self;
      seat = c.enter-held.result.seat;
      seated = c.enter-held.result.seated;
      view = c.enter-held.result.view;
      author = c.enter-held.result.author;
    } in
    let now : Hand = record old {
      gates = Rattle.std.specs.Vec.with_items old.gates c.meet.new.gates;
      store = c.meet.new.store;
      shards = Rattle.std.specs.Vec.with_items old.shards c.meet.new.shards;
    } in
    let e = c.enter-held.ensures in
    let low_old : gate < length old.gates.items = omega (arith, c.requires.gate, c.requires.hand.gates) in
    let entered : HasEntered shared old gate q later state = entered_by shared old gate q c.index-passes-gate.result later state
    c.enter-held.result.machine c.index-locks-gate.result c.as_slice-locks.result.now c.as_mut_slice-passes.result.now
    c.requires.gate low_old c.as_slice-locks.ensures.value c.as_mut_slice-passes.ensures.value c.index-locks-gate.is
    c.state-state.ensures.value e.frame e.log e.own e.entry e.lock
    (record { table_is = e.pass.table_is; seat_is = e.pass.seat_is; number_is = e.pass.number_is }) e.number in
    let m = c.meet.ensures in
    let gates_long : length c.meet.new.gates ≡ old.gates.len = (m.gate_passes ∙ (length-set c.as_mut_slice-passes.result.now gate q
    ∙ ap (λ (l : List (Pass GateDeed)). length l) c.as_mut_slice-passes.ensures.value)) ∙ sym old.gates.ok.0 in
    let gates_are : now.gates.items ≡ c.meet.new.gates = written old.gates.len c.meet.new.gates old.gates.items gates_long in
    let shards_long : length c.meet.new.shards ≡ old.shards.len = (m.shard_passes
    ∙ ap (λ (l : List (Pass ShardDeed)). length l) c.as_mut_slice.ensures.value) ∙ sym old.shards.ok.0 in
    let shards_are : now.shards.items ≡ c.meet.new.shards = written old.shards.len c.meet.new.shards old.shards.items shards_long in
    let met : HasMet shared old now gate q state c.meet.new.self shared.gates.items old.gates.items shared.shards.items old.shards.items
    now.gates.items now.shards.items =
    met_there shared old now gate q state c.meet.new.self c.as_slice-locks.result.now c.as_mut_slice-passes.result.now
    c.as_slice.result.now c.as_mut_slice.result.now c.meet.new.gates c.meet.new.shards c.as_slice-locks.ensures.value
    c.as_mut_slice-passes.ensures.value c.as_slice.ensures.value c.as_mut_slice.ensures.value gates_are shards_are (record {
      gate_is = m.gate;
      frame = m.frame;
      gates_met = m.gates;
      store_met = m.store;
      shards_met = m.shards;
      oracle = refl;
      gate_passes = m.gate_passes;
      shard_passes = m.shard_passes;
      pass = m.pass;
      same = m.same;
      before = m.passes_before;
    }) in
    within_gate c.hands_keep_their_laws.ensures shared old gate c.requires.gate c.requires.hand q now later state entered met
    c.shows_what_it_keeps.ensures
