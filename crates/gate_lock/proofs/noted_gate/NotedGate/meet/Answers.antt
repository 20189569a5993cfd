use Rattle.std.proofs.Common.{ℕ, [], length, sym, ap, ◌∙◌, subst}
use Rattle.seen_logs.specs.Seen.{AreLegal, IsWithin}
use Rattle.lock_row.specs.Meetings.{AllMet}
use Rattle.gate_lock.specs.Notes.{NotedGateView, frame_of_gate, seen_by_gate_passes, seen_of_gate}
use Rattle.lock_row.proofs.Meetings.{as_many}
use Rattle.gate_lock.proofs.Meeting.{are_met, at_locks, can_meet, frame_still, kept_met, notes_on, one_account, passes_on}
use Rattle.gate_lock.proofs.noted_gate.NotedGate.meet.Goals as goal

pub meet-requires-clause-gate_notes : goal.meet-requires-clause-gate_notes
meet-requires-clause-gate_notes g c =
    let f = at_locks c.self.inside.gate c.self.inside.notes c.args.self.now c.args.home c.args.gate_locks.now c.args.store_lock.now
    c.args.shard_locks.now c.self.invariant
    c.self.view_is c.requires.frame in
    as_many c.args.gate_locks.now c.self.inside.notes.gates.items f.gate_notes

pub meet-requires-clause-gates : goal.meet-requires-clause-gates
meet-requires-clause-gates g c =
    let f = at_locks c.self.inside.gate c.self.inside.notes c.args.self.now c.args.home c.args.gate_locks.now c.args.store_lock.now
    c.args.shard_locks.now c.self.invariant
    c.self.view_is c.requires.frame in
    can_meet c.args.gate_locks.now c.self.inside.notes.gates.items c.args.gates.now c.args.home f.gate_notes c.requires.gates

pub meet-requires-clause-store_note : goal.meet-requires-clause-store_note
meet-requires-clause-store_note g c =
    let f = at_locks c.self.inside.gate c.self.inside.notes c.args.self.now c.args.home c.args.gate_locks.now c.args.store_lock.now
    c.args.shard_locks.now c.self.invariant
    c.self.view_is c.requires.frame in
    f.store_note

pub meet-requires-clause-shard_notes : goal.meet-requires-clause-shard_notes
meet-requires-clause-shard_notes g c =
    let f = at_locks c.self.inside.gate c.self.inside.notes c.args.self.now c.args.home c.args.gate_locks.now c.args.store_lock.now
    c.args.shard_locks.now c.self.invariant
    c.self.view_is c.requires.frame in
    as_many c.args.shard_locks.now c.self.inside.notes.shards.items f.shard_notes

pub meet-requires-clause-shards : goal.meet-requires-clause-shards
meet-requires-clause-shards g c =
    let f = at_locks c.self.inside.gate c.self.inside.notes c.args.self.now c.args.home c.args.gate_locks.now c.args.store_lock.now
    c.args.shard_locks.now c.self.invariant
    c.self.view_is c.requires.frame in
    can_meet c.args.shard_locks.now c.self.inside.notes.shards.items c.args.shards.now (length c.args.shard_locks.now) f.shard_notes
    (λ k l p low other. c.requires.shards k l p low)

pub invariant_of-self : goal.invariant_of-self
invariant_of-self g c =
    let gate = c.self.inside.gate in
    let notes = c.self.inside.notes in
    let f = at_locks gate notes c.args.self.now c.args.home c.args.gate_locks.now c.args.store_lock.now c.args.shard_locks.now c.self.invariant
    c.self.view_is c.requires.frame in
    let m = c.meet.ensures in
    let met = are_met gate notes c.meet.new.self c.args.home c.args.gate_locks.now c.args.gates.now c.meet.new.gates c.args.store_lock.now
    c.args.store.now c.meet.new.store
    c.args.shard_locks.now c.args.shards.now c.meet.new.shards f (record {
      gate_passes = c.requires.gate_passes;
      gate_passes_now = m.gate_passes;
      shard_passes = c.requires.shard_passes;
      shard_passes_now = m.shard_passes;
      gate_notes = m.gate_notes;
      shard_notes = m.shard_notes;
    }) m.gates m.store m.shards in
    let legal = subst (λ (z : ℕ × ℕ × ℕ). AreLegal z.0 z.1 (seen_by_gate_passes z.2 [] c.args.gates.now c.args.store.now c.args.shards.now))
    (λ i. (sym f.gates_are i, sym f.shards_are i, sym f.home_is i)) c.requires.legal in
    kept_met gate notes c.meet.new.self c.args.gate_locks.now c.args.gates.now c.meet.new.gates c.args.store.now c.meet.new.store
    c.args.shard_locks.now c.args.shards.now c.meet.new.shards c.self.invariant met c.the_crates_below_keep_their_laws.ensures legal

pub returns-clause-frame : goal.returns-clause-frame
returns-clause-frame g c =
    let gate = c.self.inside.gate in
    let notes = c.self.inside.notes in
    let m = c.meet.ensures in
    frame_still gate notes c.meet.new.self m.gate_names m.store.lock_is m.shard_names ∙ ap (λ (v : NotedGateView). frame_of_gate v.gate v.notes) c.self.view_is

pub returns-clause-same : goal.returns-clause-same
returns-clause-same g c =
    let gate = c.self.inside.gate in
    let notes = c.self.inside.notes in
    let f = at_locks gate notes c.args.self.now c.args.home c.args.gate_locks.now c.args.store_lock.now c.args.shard_locks.now c.self.invariant
    c.self.view_is c.requires.frame in
    let m = c.meet.ensures in
    let met = are_met gate notes c.meet.new.self c.args.home c.args.gate_locks.now c.args.gates.now c.meet.new.gates c.args.store_lock.now
    c.args.store.now c.meet.new.store
    c.args.shard_locks.now c.args.shards.now c.meet.new.shards f (record {
      gate_passes = c.requires.gate_passes;
      gate_passes_now = m.gate_passes;
      shard_passes = c.requires.shard_passes;
      shard_passes_now = m.shard_passes;
      gate_notes = m.gate_notes;
      shard_notes = m.shard_notes;
    }) m.gates m.store m.shards in
    one_account gate notes c.meet.new.self c.args.gate_locks.now c.args.gates.now c.meet.new.gates c.args.store.now c.meet.new.store
    c.args.shard_locks.now c.args.shards.now c.meet.new.shards c.self.invariant met
    ∙ ap (λ (h : ℕ). seen_by_gate_passes h gate.log c.meet.new.gates c.meet.new.store c.meet.new.shards) f.home_is

pub returns-clause-before : goal.returns-clause-before
returns-clause-before g c =
    let gate = c.self.inside.gate in
    let notes = c.self.inside.notes in
    let f = at_locks gate notes c.args.self.now c.args.home c.args.gate_locks.now c.args.store_lock.now c.args.shard_locks.now c.self.invariant
    c.self.view_is c.requires.frame in
    let m = c.meet.ensures in
    let met = are_met gate notes c.meet.new.self c.args.home c.args.gate_locks.now c.args.gates.now c.meet.new.gates c.args.store_lock.now
    c.args.store.now c.meet.new.store
    c.args.shard_locks.now c.args.shards.now c.meet.new.shards f (record {
      gate_passes = c.requires.gate_passes;
      gate_passes_now = m.gate_passes;
      shard_passes = c.requires.shard_passes;
      shard_passes_now = m.shard_passes;
      gate_notes = m.gate_notes;
      shard_notes = m.shard_notes;
    }) m.gates m.store m.shards in
    subst (λ (v : NotedGateView). IsWithin (seen_of_gate v.gate v.notes) (seen_of_gate gate c.meet.new.self)) c.self.view_is
    (notes_on gate notes c.meet.new.self c.args.gate_locks.now c.args.gates.now c.meet.new.gates c.args.store.now c.meet.new.store
    c.args.shard_locks.now c.args.shards.now c.meet.new.shards c.self.invariant met)

pub returns-clause-passes_before : goal.returns-clause-passes_before
returns-clause-passes_before g c own on =
    let gate = c.self.inside.gate in
    let notes = c.self.inside.notes in
    let f = at_locks gate notes c.args.self.now c.args.home c.args.gate_locks.now c.args.store_lock.now c.args.shard_locks.now c.self.invariant
    c.self.view_is c.requires.frame in
    let m = c.meet.ensures in
    let met = are_met gate notes c.meet.new.self c.args.home c.args.gate_locks.now c.args.gates.now c.meet.new.gates c.args.store_lock.now
    c.args.store.now c.meet.new.store
    c.args.shard_locks.now c.args.shards.now c.meet.new.shards f (record {
      gate_passes = c.requires.gate_passes;
      gate_passes_now = m.gate_passes;
      shard_passes = c.requires.shard_passes;
      shard_passes_now = m.shard_passes;
      gate_notes = m.gate_notes;
      shard_notes = m.shard_notes;
    }) m.gates m.store m.shards in
    subst (λ (h : ℕ). IsWithin (seen_by_gate_passes h own c.args.gates.now c.args.store.now c.args.shards.now) (seen_of_gate gate c.meet.new.self)) f.home_is
    (passes_on gate notes c.meet.new.self c.args.gate_locks.now c.args.gates.now c.meet.new.gates c.args.store.now c.meet.new.store
    c.args.shard_locks.now c.args.shards.now c.meet.new.shards c.self.invariant met own on)

pub returns-clause-gates : goal.returns-clause-gates
returns-clause-gates g c =
    subst (λ (v : NotedGateView). AllMet c.args.gate_locks.now c.args.gates.now c.meet.new.gates v.notes.gates.items c.meet.new.self.gates.items
    c.args.home) c.self.view_is
    c.meet.ensures.gates

pub returns-clause-shards : goal.returns-clause-shards
returns-clause-shards g c =
    subst (λ (v : NotedGateView). AllMet c.args.shard_locks.now c.args.shards.now c.meet.new.shards v.notes.shards.items c.meet.new.self.shards.items
    (length c.args.shard_locks.now)) c.self.view_is
    c.meet.ensures.shards
