use Rattle.std.specs.Vec.Iter.{into_iter_items, into_iter_len}
use Rattle.std.proofs.Common.{◌≡◌, ◌≤◌, ◌++◌, length, sum_by, Contains}
use Rattle.oracle_chain.specs.declared.ask.Ask.{Ask}
use Rattle.oracle_chain.specs.IsReplicaChain.{IsAsk}
use Rattle.oracle_chain.proofs.prepared.append_all.Given as goal

abbrev pub invariant-loop-one : goal.invariant-loop-one
invariant-loop-one l = record {
  all : l.replica.asks ++ into_iter_items l.one-iterator ≡ l.initial.replica.asks ++ l.fn.lacked;
  long : into_iter_len l.one-iterator ≡ length (into_iter_items l.one-iterator);
  live : l.replica.live ≡ l.initial.replica.live;
  room : length (into_iter_items l.one-iterator) ≤ l.replica.room;
  events : sum_by (λ (ask : Ask). length ask.earlier) (into_iter_items l.one-iterator) ≤ l.replica.events;
  are : (ask : Ask) → Contains (into_iter_items l.one-iterator) ask → IsAsk ask;
}
