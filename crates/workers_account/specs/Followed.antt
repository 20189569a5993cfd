-- What a client's worker has done since a phase began.
use Rattle.std.specs.Prelude.{◌≡◌, ℕ, ◌<◌}
use Rattle.std.specs.Option.{ForSome}
use Rattle.program_defs.specs.declared.script.Script.{Script}
use Rattle.seen_logs.specs.Seen.{IsWithin}
use Rattle.weaver_core.specs.declared.walks.Running.{Running}
use Rattle.weaver_locks.specs.declared.shared.Shared.{Shared}
use Rattle.weaver_locks.specs.Following.{VisitsItsOwnPrograms}
use Rattle.weaver_locks.specs.Hands.{hand_number, seen_by}
use Rattle.weaver_workers.specs.ClientWork.{Stand}
use Rattle.weaver_workers.specs.Keeping.{KeepsClient}
use Rattle.workers_account.specs.Asked.{AsksForOwn}
use Rattle.workers_account.specs.Begins.{AreBegunInTurn}
use Rattle.workers_account.specs.Gained.{IsInStep}
use Rattle.workers_account.specs.Visits.{AreRepliesByHand, ReadInTurn}

-- The session of this number was followed by its hand: what the hand made and what the session's log says are in step,
-- requests were begun in turn, programs have read in turn, replies are by judgements and reads, and the oracle was
-- asked for the hand's own requests.
pub record IsFollowed (shared : Shared) (script : Script) (number upto : ℕ) (from at : Stand) : Type 0 where
  pub number_is : hand_number at.hand ≡ hand_number from.hand
  pub more : IsWithin (seen_by from.hand) (seen_by at.hand)
  pub keeps : KeepsClient shared script number at.hand at.client
  pub in_step : IsInStep script (hand_number from.hand) upto from at
  pub begins : AreBegunInTurn script number from at
  pub visits : VisitsItsOwnPrograms shared at.hand
  pub reads : ReadInTurn script from at
  pub replies : AreRepliesByHand script from at
  pub asks : AsksForOwn shared from at
  pub running : ForSome from.client.running (λ (one : Running). one.request < upto)
      → ForSome at.client.running (λ (one : Running). one.request < upto)
