use Rattle.std.proofs.Common.{List, map, sym, ap, ◌∙◌, subst}
use Rattle.weave_entries.specs.declared.gate_log.GateEntry.{GateEntry}
use Rattle.weave_entries.specs.declared.oracle_log.OracleEntry.{OracleEntry}
use Rattle.seen_logs.specs.Entries.{gate_entries, oracle_entries}
use Rattle.chronicle.specs.Locks.{lock_of}
use Rattle.chronicle.specs.Passes.{seen_by_note}
use Rattle.store_lock.specs.Seen.{StoreIsKept}
use Rattle.weaver_locks.proofs.Lists.{map_twice}
use Rattle.weaver_locks.proofs.NotingStarts.{new_stays}
use Rattle.weaver_locks.proofs.noting_all.note_store.Goals as goal

pub new-requires : goal.new-requires
new-requires c =
    let notes = c.in_ok-gates.gates.items in
    let gates = sym (map_twice gate_entries seen_by_note notes) ∙ ap (map gate_entries) c.in_ok-gates.ensures.notes.starts in
    let oracle = ap oracle_entries (c.note-oracle.ensures.noted ∙ c.requires.hand.oracle.seen_is) in
    subst (λ (z : List (List GateEntry) × List OracleEntry). StoreIsKept c.args.count z.0 z.1 c.args.store) (λ i. (sym gates i, sym oracle i)) c.requires.kept

pub returns-clause-hand : goal.returns-clause-hand
returns-clause-hand c =
    let was = c.requires.hand in
    let locks = c.args.locks.now in
    record {
      gate_count = c.in_ok-gates.ensures.count;
      gates = c.in_ok-gates.ensures.first;
      store = was.store;
      oracle = new_stays (lock_of locks.oracle) c.args.hand.now.oracle c.note-oracle.new.pass was.oracle c.note-oracle.ensures.ready c.note-oracle.ensures.number
          c.note-oracle.ensures.seen;
      shard_count = was.shard_count;
      shards = was.shards;
    }
