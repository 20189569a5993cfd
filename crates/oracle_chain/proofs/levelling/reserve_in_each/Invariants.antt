use Rattle.std.proofs.Common.{◌≡◌, ◌<◌, ℕ, [], map, get_or}
use Rattle.oracle_chain.specs.Held.{replica_of, no_held, HasRoomFor}
use Rattle.oracle_chain.proofs.levelling.reserve_in_each.Given as goal

abbrev pub invariant-loop-number : goal.invariant-loop-number
invariant-loop-number l = record {
  seen : map replica_of l.replicas ≡ map replica_of l.initial.replicas;
  room : (i : ℕ) → i < l.number → HasRoomFor (get_or l.replicas i no_held) (get_or l.lacked i []);
}
