use Rattle.std.proofs.Common.{◌≡◌, ◌-◌, ◌≤◌, vec_len, vec_capacity}
use Rattle.weaver_locks.specs.Opened.{HaveFirst}
use Rattle.weaver_locks.proofs.Dealings.{DealtSoFar}
use Rattle.weaver_locks.proofs.dealing.deal_hands.Given as goal

abbrev pub invariant-loop-dealt : goal.invariant-loop-dealt
invariant-loop-dealt l = record {
  len : vec_len l.hands ≡ l.dealt;
  space : l.fn.count ≤ vec_capacity l.hands;
  left : HaveFirst (l.fn.count - l.dealt) l.fn.locks l.passes;
  hands : DealtSoFar l.fn.locks l.fn.count l.hands.items l.dealt;
}
