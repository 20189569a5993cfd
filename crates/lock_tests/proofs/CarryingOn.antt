-- What a worker keeps stays true after its calls that begin nothing.
-- Used by `apply`, `begin`, `finish`, `nop`, `pull`, `say_and_hear`, `transact` and `visit`.
use Rattle.std.proofs.Common.{◌≡◌, ◌≢◌, ℕ, ◌<◌, ◌≤◌, Ok, Err, Result, ◌∙◌, arith}
use Rattle.std.specs.Prelude.{Option, None, Some}
use Rattle.std.specs.Option.{ForSome}
use Rattle.vector_stamp.specs.declared.clock.Stamp.{Stamp}
use Rattle.weaver_core.specs.declared.walks.Running.{Running}
use Rattle.weaver_locks.specs.declared.hand.Hand.{Hand}
use Rattle.weaver_locks.specs.declared.shared.Shared.{Shared}
use Rattle.weaver_locks.specs.Hands.{IsHand}
use Rattle.weaver_hands.specs.declared.fault.HandFault.{HandFault}
use Rattle.weaver_hands.specs.declared.fault.HandFault.TheVariants.{Busy, NotYet, Empty, Waits, Memory}
use Rattle.weaver_hands.specs.Leaving.{LeavesAlone, MakesNoVisit}
use Rattle.weaver_hands.specs.Programs.{IsRunning, VisitsAs}
use Rattle.lock_tests.specs.OwnRequests.{OwnRequestLaws}
use Rattle.lock_tests.specs.ReadyWorkers.{IsWorkerOf}
use Rattle.lock_tests.proofs.Quiet.{Quietly}
use Rattle.lock_tests.proofs.Options.{for-some, just, nothing-there}

module _ (laws : OwnRequestLaws) (shared : Shared) (old new : Hand) (next : ℕ) (last : Option Stamp) (walk : Option Running)
    (on : Quietly shared old new) (is_new : IsHand shared new) (had : IsWorkerOf shared old next last walk) where
  -- after a quiet call without visits for later requests, the worker goes on with any running program of an earlier one
  pub goes-on : ((r : ℕ) → next ≤ r → MakesNoVisit old new r) → (other : Option Running) → ForSome other (IsRunning shared new)
      → ForSome other (λ (program : Running). program.request < next) → IsWorkerOf shared new next last other
  goes-on unvisited other running below = record {
    is_hand = is_new;
    fresh = λ r low. on.fresh r (had.fresh r low);
    unread = λ r low. laws.same_reads shared old new r had.is_hand is_new (unvisited r low) ∙ had.unread r low;
    heard = for-some _ _ last on.heard had.heard;
    running = running;
    below = below;
  }

  -- all requests are left alone
  pub carries-on : ((r : ℕ) → LeavesAlone old new r) → IsWorkerOf shared new next last walk
  carries-on alone = goes-on (λ r low. (alone r).unvisited) walk
      (for-some _ _ walk (λ program. laws.runs shared old new program had.is_hand is_new (alone program.request)) had.running) had.below

  -- the program is given up
  pub ends-on : ((r : ℕ) → MakesNoVisit old new r) → IsWorkerOf shared new next last None
  ends-on unvisited = goes-on (λ r low. unvisited r) None (nothing-there _) (nothing-there _)

-- the worker gives up its program
pub without-program : (shared : Shared) (hand : Hand) (next : ℕ) (last : Option Stamp) (walk : Option Running)
    → IsWorkerOf shared hand next last walk → IsWorkerOf shared hand next last None
without-program shared hand next last walk had = record {
  is_hand = had.is_hand;
  fresh = had.fresh;
  unread = had.unread;
  heard = had.heard;
  running = nothing-there _;
  below = nothing-there _;
}

-- after a visit, or a refusal of one, the program is of the same request as before
pub visit-same : (gates shards : ℕ) (old new : Hand) (was is : Running) (result : Result (Unit {0}) HandFault)
    → VisitsAs gates shards old new was is result → is.request ≡ was.request
visit-same gates shards old new was is (Ok done) did = did.fed.request_is
visit-same gates shards old new was is (Err (NotYet shard gate)) did = did.still.request_is
visit-same gates shards old new was is (Err Memory) did = did.1.request_is
visit-same gates shards old new was is (Err Busy) none = absurd none
visit-same gates shards old new was is (Err Empty) none = absurd none
visit-same gates shards old new was is (Err (Waits vertex)) none = absurd none

-- the program has read its next vertex, or tried to
pub visits-on : OwnRequestLaws → (shared : Shared) (old new : Hand) (next : ℕ) (last : Option Stamp) (walk : Option Running) (was is : Running)
    → Quietly shared old new → IsHand shared new → IsWorkerOf shared old next last walk → walk ≡ Some was
    → ((r : ℕ) → r ≢ was.request → LeavesAlone old new r) → is.request ≡ was.request → IsRunning shared new is
    → IsWorkerOf shared new next last (Some is)
visits-on laws shared old new next last walk was is on is_new had walk_is alone same running =
    let low : was.request < next = had.below was walk_is in
    goes-on laws shared old new next last walk on is_new had
    (λ r high. (alone r (λ (e : r ≡ was.request). omega (arith, e, low, high))).unvisited) (Some is) (just _ is running)
    (just (λ (program : Running). program.request < next) is (omega (arith, low, same)))
