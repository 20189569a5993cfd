use Rattle.std.proofs.Common.{◌≡◌, [], length, sym, ap, ◌∙◌, subst}
use Rattle.chronicle.specs.Locks.{lock_of, name_of}
use Rattle.lock_row.specs.Rows.{names_of}
use Rattle.shard_lock.specs.Frames.{shard_frame}
use Rattle.seen_logs.specs.Seen.{AreLegal, IsWithin}
use Rattle.lock_row.specs.Meetings.{AllMet, HaveMet}
use Rattle.lock_row.proofs.Meetings.{met_of}
use Rattle.shard_lock.specs.Notes.{NotedShardView, frame_of_shard, seen_by_shard_passes, seen_of_shard}
use Rattle.shard_lock.proofs.Meeting.{AreMet, frame_still, framed, kept_met, notes_on, one_account, passes_on}
use Rattle.shard_lock.proofs.noted_shard.NotedShard.meet.Goals as goal

pub invariant_of-self : goal.invariant_of-self
invariant_of-self g c =
    let shard = c.self.inside.shard in
    let notes = c.self.inside.notes in
    let m = c.meet.ensures in
    let met : AreMet notes c.meet.new.self c.args.gates.now c.meet.new.gates c.args.store.now c.meet.new.store c.args.oracle.now
    c.meet.new.oracle = record {
      names = m.gate_names;
      one = m.one;
      notes_on = m.notes_on;
      passes_on = m.passes_on;
      legal = m.legal;
      at_store = met_of _ _ _ _ _ m.store;
      at_oracle = met_of _ _ _ _ _ m.oracle;
    } in
    let legal = subst (λ (v : NotedShardView). AreLegal v.shard.gates v.shards
    (seen_by_shard_passes v.shard.number [] c.args.gates.now c.args.store.now c.args.oracle.now)) (sym c.self.view_is) c.requires.legal in
    kept_met shard notes c.meet.new.self c.args.gates.now c.meet.new.gates c.args.store.now c.meet.new.store
    c.args.oracle.now c.meet.new.oracle met c.the_crates_below_keep_their_laws.ensures
    c.self.inside.shards c.self.invariant legal

pub meet-requires : goal.meet-requires
meet-requires g c =
    let store_name = name_of (lock_of c.args.store_lock.now) in
    let oracle_name = name_of (lock_of c.args.oracle_lock.now) in
    let gate_names = names_of c.args.gate_locks.now in
    let frame = subst (λ (v : NotedShardView). frame_of_shard v.shard v.shards v.notes
    ≡ shard_frame v.shard.number v.shard.gates v.shards store_name oracle_name gate_names) (sym c.self.view_is) c.requires.frame in
    let shard = c.self.inside.shard in
    let are = framed shard c.self.inside.shards c.self.inside.notes shard.number shard.gates c.self.inside.shards store_name oracle_name gate_names frame in record {
      gate_passes = c.requires.gate_passes;
      gate_names = are.gate_notes;
      gates = c.requires.gates;
      store = c.requires.store;
      store_note = are.store_note;
      oracle = c.requires.oracle;
      oracle_note = are.oracle_note;
    }

pub returns : goal.returns
returns g c =
    let shard = c.self.inside.shard in
    let shards = c.self.inside.shards in
    let notes = c.self.inside.notes in
    let new = c.meet.new.self in
    let is = c.self.view_is in
    let locks = c.args.gate_locks.now in
    let m = c.meet.ensures in
    let met : AreMet notes new c.args.gates.now c.meet.new.gates c.args.store.now c.meet.new.store c.args.oracle.now c.meet.new.oracle = record {
      names = m.gate_names;
      one = m.one;
      notes_on = m.notes_on;
      passes_on = m.passes_on;
      legal = m.legal;
      at_store = met_of _ _ _ _ _ m.store;
      at_oracle = met_of _ _ _ _ _ m.oracle;
    } in record {
      shard = ap (λ (v : NotedShardView). v.shard) is;
      shards = ap (λ (v : NotedShardView). v.shards) is;
      frame = frame_still shard shards notes new m.gate_names m.store.lock_is m.oracle.lock_is
          ∙ ap (λ (v : NotedShardView). frame_of_shard v.shard v.shards v.notes) is;
      gates = subst (λ (v : NotedShardView). AllMet locks c.args.gates.now c.meet.new.gates v.notes.gates.items new.gates.items (length locks)) is m.gates;
      store = subst (λ (v : NotedShardView). HaveMet (lock_of c.args.store_lock.now) c.args.store.now c.meet.new.store v.notes.store new.store) is m.store;
      oracle = subst (λ (v : NotedShardView). HaveMet (lock_of c.args.oracle_lock.now) c.args.oracle.now c.meet.new.oracle v.notes.oracle new.oracle) is
          m.oracle;
      gate_passes = m.gate_passes;
      same = one_account shard notes new c.args.gates.now c.meet.new.gates c.args.store.now c.meet.new.store c.args.oracle.now c.meet.new.oracle met;
      before = subst (λ (v : NotedShardView). IsWithin (seen_of_shard v.shard v.notes) (seen_of_shard shard new)) is
          (notes_on shard notes new c.args.gates.now c.meet.new.gates c.args.store.now c.meet.new.store c.args.oracle.now c.meet.new.oracle met);
      passes_before = λ own on. passes_on shard notes new c.args.gates.now c.meet.new.gates c.args.store.now c.meet.new.store
          c.args.oracle.now c.meet.new.oracle met own on;
    }
