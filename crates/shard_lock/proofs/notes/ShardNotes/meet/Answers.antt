use Rattle.std.proofs.Common.{sym, ◌∙◌}
use Rattle.shard_lock.proofs.notes.ShardNotes.meet.Goals as goal

pub meet_gates-requires : goal.meet_gates-requires
meet_gates-requires g c = record { passes = c.requires.gate_passes; names = c.requires.gate_names; ready = c.requires.gates }

pub meet-requires : goal.meet-requires
meet-requires g c = record { pass = c.requires.store; note = c.requires.store_note }

pub meet-requires-2 : goal.meet-requires-2
meet-requires-2 g c = record { pass = c.requires.oracle; note = c.requires.oracle_note }

pub returns : goal.returns
returns g c =
    let all = c.meet_gates.ensures in
    let store = c.meet.ensures in
    let oracle = c.meet-2.ensures in record {
      gate_passes = all.passes;
      gate_names = all.names;
      gates = all.met;
      one = all.one;
      notes_on = all.notes_on;
      passes_on = all.passes_on;
      legal = all.legal;
      store = record {
        ready = store.ready;
        number = store.number;
        own_is = store.own;
        lock_is = store.note ∙ sym c.requires.store_note;
        pass_before = store.pass_before;
        note_before = store.note_before;
        longer_is = store.longer;
        either = store.either;
        one = store.one;
      };
      oracle = record {
        ready = oracle.ready;
        number = oracle.number;
        own_is = oracle.own;
        lock_is = oracle.note ∙ sym c.requires.oracle_note;
        pass_before = oracle.pass_before;
        note_before = oracle.note_before;
        longer_is = oracle.longer;
        either = oracle.either;
        one = oracle.one;
      };
    }
