use Rattle.std.proofs.Common.{List, Contains, map, subst, sym, arith}
use Rattle.std.specs.List.{All}
use Rattle.weaver_locks.specs.declared.hand.Hand.{Hand}
use Rattle.weaver_locks.specs.Hands.{hand_number, IsHand}
use Rattle.lock_tests.specs.ReadyWorkers.{hand_of_worker}
use Rattle.lock_tests.proofs.Closing.{all-hands, each-hand}
use Rattle.lock_tests.proofs.hands.bench.close.Goals as goal

pub close-requires-clause-each : goal.close-requires-clause-each
close-requires-clause-each g c =
    let are = c.requires.workers in
    subst (All (IsHand c.args.shared)) (sym c.hands_in-hands.ensures)
    (each-hand hand_of_worker c.args.shared c.args.workers.items (λ k x low. ((are k x low).ready.is_hand, (are k x low).number_is)))

pub close-requires-clause-all : goal.close-requires-clause-all
close-requires-clause-all g c n low =
    let are = c.requires.workers in
    subst (λ (l : List Hand). Contains (map hand_number l) n) (sym c.hands_in-hands.ensures)
    (all-hands hand_of_worker c.args.shared c.args.workers.items (λ k x there. ((are k x there).ready.is_hand, (are k x there).number_is)) n
    (omega (arith, low, c.requires.count, c.args.workers.ok.0)))
