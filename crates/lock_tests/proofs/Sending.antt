-- What was judged may be sent, if it was judged.
-- Used by `commit`.
use Rattle.std.proofs.Common.{ℕ, List}
use Rattle.std.specs.Prelude.{Result, Ok, Err, IfOk}
use Rattle.std.specs.declared.alloc.AllocError.{AllocError}
use Rattle.graph_ops.specs.declared.op.Op.{Op}
use Rattle.vector_stamp.specs.declared.clock.Stamp.{Stamp}
use Rattle.weave_entries.specs.declared.verdict.Verdict.{Verdict}
use Rattle.weaver_locks.specs.declared.hand.Hand.{Hand}
use Rattle.weaver_locks.specs.declared.shared.Shared.{Shared}
use Rattle.weaver_locks.specs.Following.{IsInFlight}
use Rattle.weaver_locks.specs.GateHolds.{MaySend}
use Rattle.weaver_locks.specs.Hands.{hand_number, seen_by, IsHand}
use Rattle.weaver_locks.specs.StoreHolds.{JudgesIn}

abbrev pub Follows : Type 0
Follows = (shared : Shared) (old new : Hand) (gate request : ℕ) (stamp : Stamp) (ops : List Op) (verdict : Verdict)
    → IsHand shared old → IsHand shared new → IsInFlight old gate request stamp
    → JudgesIn old new request stamp ops (Ok verdict) → MaySend (seen_by new) (hand_number new) gate ops verdict

-- if a transaction of the hand in flight was judged, it may be sent by its verdict
pub may-send-if : (shared : Shared) (old new : Hand) (gate request : ℕ) (stamp : Stamp) (ops : List Op) (result : Result Verdict AllocError)
    → Follows → IsHand shared old → IsHand shared new → IsInFlight old gate request stamp → JudgesIn old new request stamp ops result
    → IfOk result (λ verdict. MaySend (seen_by new) (hand_number new) gate ops verdict)
may-send-if shared old new gate request stamp ops (Ok verdict) follows is_old is_new flies judges =
    follows shared old new gate request stamp ops verdict is_old is_new flies judges
may-send-if shared old new gate request stamp ops (Err error) follows is_old is_new flies judges = tt
