-- What a hand's next calls rely on, once its earlier calls have shown it. For tests: no public contract cites this.
use Rattle.std.specs.Prelude.{◌≡◌, ◌≢◌, ◌≤◌, ◌<◌, ◌⊎◌, ℕ, List, length, slice_index_or, Contains, None, ⊤}
use Rattle.std.specs.Option.{ForSome}
use Rattle.vector_stamp.specs.declared.clock.Stamp.{Stamp}
use Rattle.weave_entries.specs.declared.gate_log.GateDeed.TheVariants.{Finished}
use Rattle.weave_entries.specs.declared.gate_log.GateEntry.{GateEntry}
use Rattle.weave_entries.specs.GateReplay.{programs_of}
use Rattle.weave_account.specs.Account.{gate_log}
use Rattle.weave_account.specs.Clocks.{IsKnown}
use Rattle.seen_logs.specs.References.{ArrivesAsSeen, EndsAsSeen}
use Rattle.weaver_locks.specs.declared.hand.Hand.{Hand}
use Rattle.weaver_locks.specs.declared.shared.Shared.{Shared}
use Rattle.weaver_locks.specs.Following.{HasNotBegun, IsInFlight, MayJudge}
use Rattle.weaver_locks.specs.GateHolds.{MaySend}
use Rattle.weaver_locks.specs.Hands.{hand_number, made_by, seen_by, IsHand}
use Rattle.weaver_locks.specs.Locks.{shard_count}
use Rattle.lock_tests.specs.declared.worker.Flight.{Flight}
use Rattle.lock_tests.specs.declared.worker.Player.{Player}
use Rattle.lock_tests.specs.declared.worker.Step.{Step}
use Rattle.lock_tests.specs.declared.worker.Step.TheVariants.{Any, Judge, Send, TakeIn}
use Rattle.lock_tests.specs.declared.worker.Worker.{Worker}

-- the hand began this program, and has not finished it
pub record MayVisit (hand : Hand) (home request : ℕ) (stamp : Stamp) : Type 0 where
  pub begun : Contains (programs_of (gate_log (seen_by hand) home))
      (record { author = hand_number hand; request = request; stamp = stamp })
  pub goes_on : (entry : GateEntry) → Contains (gate_log (made_by hand) home) entry → entry.deed ≢ Finished request

-- the hand has finished no program of this number
abbrev pub HasNotFinished : Hand → ℕ → Type 0
HasNotFinished hand request = (home : ℕ) (entry : GateEntry) → Contains (gate_log (made_by hand) home) entry
    → entry.deed ≢ Finished request

-- the worker's hand is one of these locks, and what the worker keeps is true of it
pub record IsWorker (shared : Shared) (worker : Worker) : Type 0 where
  pub hand : IsHand shared worker.hand
  pub begun : (r : ℕ) → worker.next ≤ r → HasNotBegun worker.hand r
  pub finished : (r : ℕ) → worker.next ≤ r → HasNotFinished worker.hand r
  pub last : ForSome worker.last (λ stamp. IsKnown (seen_by worker.hand) stamp.clock)
  pub said : ForSome worker.said (λ clock. IsKnown (seen_by worker.hand) clock)
  pub walk : ForSome worker.walk (λ walk. MayVisit worker.hand walk.home walk.request walk.stamp)
  pub ended : ForSome worker.ended (λ request. EndsAsSeen (seen_by worker.hand) request)

-- the hand began this transaction, and has not had it judged
pub record MayHaveJudged (hand : Hand) (flight : Flight) : Type 0 where
  pub may : MayJudge hand flight.request flight.stamp
  pub flies : IsInFlight hand flight.gate flight.request flight.stamp

-- the hand may do this next
abbrev pub MayTakeStep : Shared → Hand → Step → Type 0
MayTakeStep shared hand Any = ⊤
MayTakeStep shared hand (Judge flight) = MayHaveJudged hand flight
MayTakeStep shared hand (Send judged) =
    MaySend (seen_by hand) (hand_number hand) judged.gate judged.ops.items judged.verdict
MayTakeStep shared hand (TakeIn fetched) =
    ArrivesAsSeen (seen_by hand) (shard_count shared) fetched.shard fetched.gate fetched.number fetched.message

-- the player is ready for its step
pub record IsPlayer (shared : Shared) (player : Player) : Type 0 where
  pub worker : IsWorker shared player.worker
  pub step : MayTakeStep shared player.worker.hand player.step

-- the player is ready for its step, and its hand has this number
pub record IsNumberedPlayer (shared : Shared) (number : ℕ) (player : Player) : Type 0 where
  pub is : IsPlayer shared player
  pub number_is : hand_number player.worker.hand ≡ number

-- the players are those with the numbers from 0
abbrev pub ArePlayers : Shared → List Player → Type 0
ArePlayers shared players =
    (k : ℕ) (p : Player) → k < length players → IsNumberedPlayer shared k (slice_index_or players k p)

-- the player of a hand that has done nothing
abbrev pub player_of : Hand → Player
player_of hand = record {
  worker = record { hand = hand; next = 0; last = None; said = None; walk = None; ended = None };
  step = Any;
}

-- and back
abbrev pub hand_of_player : Player → Hand
hand_of_player player = player.worker.hand

-- the hand made nothing at gatekeepers but these entries
abbrev pub MadeBut : Hand → Hand → List GateEntry → Type 0
MadeBut old new added = (home : ℕ) (entry : GateEntry) → Contains (gate_log (made_by new) home) entry
    → Contains (gate_log (made_by old) home) entry ⊎ Contains added entry
