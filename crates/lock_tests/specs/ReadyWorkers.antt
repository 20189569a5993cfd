-- What the next calls of a hand in `hands` rely on, once its earlier calls have shown it. For tests: no public contract
-- cites this.
use Rattle.std.specs.Prelude.{◌≡◌, ◌≤◌, ◌<◌, ℕ, List, [], length, slice_index_or, Option, None}
use Rattle.std.specs.Option.{ForSome}
use Rattle.vector_stamp.specs.declared.clock.Stamp.{Stamp}
use Rattle.weaver_core.specs.declared.walks.Running.{Running}
use Rattle.weaver_locks.specs.declared.hand.Hand.{Hand}
use Rattle.weaver_locks.specs.declared.shared.Shared.{Shared}
use Rattle.weaver_locks.specs.Following.{HasNotBegun, MayHear}
use Rattle.weaver_locks.specs.Hands.{hand_number, IsHand}
use Rattle.weaver_hands.specs.Programs.{own_reads, IsRunning}
use Rattle.lock_tests.specs.declared.hands.worker.Worker.{Worker}

-- It is a hand of these locks. From this number on it has begun no request, and read nothing. It may let a gatekeeper
-- hear this stamp, and this program of its own is running.
pub record IsWorkerOf (shared : Shared) (hand : Hand) (next : ℕ) (last : Option Stamp) (walk : Option Running)
    : Type 0 where
  pub is_hand : IsHand shared hand
  pub fresh : (r : ℕ) → next ≤ r → HasNotBegun hand r
  pub unread : (r : ℕ) → next ≤ r → own_reads hand r ≡ []
  pub heard : ForSome last (MayHear shared hand)
  pub running : ForSome walk (IsRunning shared hand)
  pub below : ForSome walk (λ program. program.request < next)

-- what the worker keeps is true of its hand
abbrev pub IsReadyWorker : Shared → Worker → Type 0
IsReadyWorker shared worker = IsWorkerOf shared worker.hand worker.next worker.last worker.walk

-- the worker is ready, and its hand has this number
pub record IsNumbered (shared : Shared) (number : ℕ) (worker : Worker) : Type 0 where
  pub ready : IsReadyWorker shared worker
  pub number_is : hand_number worker.hand ≡ number

-- the workers are those with the numbers from 0
abbrev pub AreWorkers : Shared → List Worker → Type 0
AreWorkers shared workers =
    (k : ℕ) (w : Worker) → k < length workers → IsNumbered shared k (slice_index_or workers k w)

-- the worker of a hand that has done nothing
abbrev pub worker_of : Hand → Worker
worker_of hand = record { hand = hand; next = 0; last = None; walk = None; ended = [] }

-- and back
abbrev pub hand_of_worker : Worker → Hand
hand_of_worker worker = worker.hand
