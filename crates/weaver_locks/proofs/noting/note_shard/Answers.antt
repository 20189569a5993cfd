use Rattle.chronicle.specs.Locks.{lock_of}
use Rattle.weaver_locks.proofs.NotingStarts.{new_stays}
use Rattle.weaver_locks.proofs.noting.note_shard.Goals as goal

pub returns-clause-hand : goal.returns-clause-hand
returns-clause-hand c =
    let was = c.requires.hand in
    let locks = c.args.locks.now in
    record {
      gate_count = c.in_ok-gates.ensures.count;
      gates = c.in_ok-gates.ensures.first;
      store = new_stays (lock_of locks.store) c.args.hand.now.store c.note-store.new.pass was.store c.note-store.ensures.ready c.note-store.ensures.number
          c.note-store.ensures.seen;
      oracle = new_stays (lock_of locks.oracle) c.args.hand.now.oracle c.note-oracle.new.pass was.oracle c.note-oracle.ensures.ready c.note-oracle.ensures.number
          c.note-oracle.ensures.seen;
      shard_count = was.shard_count;
      shards = was.shards;
    }
