use Rattle.chronicle.specs.Locks.{lock_of}
use Rattle.weaver_locks.proofs.NotingStarts.{new_stays}
use Rattle.weaver_locks.proofs.noting.note_gate.Goals as goal

pub returns-clause-hand : goal.returns-clause-hand
returns-clause-hand c =
    let was = c.requires.hand in
    let locks = c.args.locks.now in
    record {
      gate_count = c.in_ok-gates.ensures.count;
      gates = c.in_ok-gates.ensures.first;
      store = new_stays (lock_of locks.store) c.args.hand.now.store c.note-store.new.pass was.store c.note-store.ensures.ready c.note-store.ensures.number
          c.note-store.ensures.seen;
      oracle = was.oracle;
      shard_count = c.in_ok-shards.ensures.count;
      shards = c.in_ok-shards.ensures.first;
    }
