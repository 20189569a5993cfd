-- What the calls of the workers in `turns` rely on. For tests: no public contract cites this.
use Rattle.std.specs.Prelude.{◌≡◌, ℕ, [], None}
use Rattle.program_defs.specs.declared.script.Script.{Script}
use Rattle.program_defs.specs.Limits.{IsWithinLimits}
use Rattle.weave_account.specs.Sessions.{requests_of_session}
use Rattle.weave_entries.specs.SessionReplay.{session_start}
use Rattle.weaver_core.specs.declared.client.Client.{Client}
use Rattle.weaver_core.specs.Sessions.{log_of_client}
use Rattle.weaver_locks.specs.declared.hand.Hand.{Hand}
use Rattle.weaver_locks.specs.declared.shared.Shared.{Shared}
use Rattle.weaver_workers.specs.declared.worker.Worker.{Worker}
use Rattle.weaver_workers.specs.declared.worker.Worker.TheVariants.{ClientWork, GateWork, ShardWork}
use Rattle.weaver_workers.specs.Keeping.{AreLocksOf}
use Rattle.weaver_workers.specs.Workers.{HasPhase, IsReadyForPhase}
use Rattle.lock_tests.specs.declared.turns.seat.Seat.{Seat}
use Rattle.lock_tests.specs.declared.turns.seat.Seat.TheVariants.{AtWork, Playing}
use Rattle.lock_tests.specs.UnusedHands.{IsUnusedHand}
use Rattle.lock_tests.specs.Workers.{IsPlayer}

-- the locks are those of a script of two gatekeepers, which is within its limits and has a first phase
pub record IsBench (script : Script) (shared : Shared) : Type 0 where
  pub limits : IsWithinLimits script
  pub phase : HasPhase script 0
  pub locks : AreLocksOf script shared
  pub two_gates : script.gates ≡ 2

-- a session's client before its first request
pub record IsNewClient (script : Script) (session : ℕ) (client : Client) : Type 0 where
  pub session_is : client.session ≡ session_start (requests_of_session script session)
  pub log : log_of_client client ≡ []
  pub running : client.running ≡ None

-- a hand that comes with new locks, whichever number it has
abbrev pub IsHandOfNewLocks : Shared → Hand → Type 0
IsHandOfNewLocks shared hand = (number : ℕ) × IsUnusedHand shared number hand

-- a worker may do its part of the first phase, and a player is ready for its next call
abbrev pub IsReadySeat : Script → Shared → Seat → Type 0
IsReadySeat script shared (AtWork worker) = IsReadyForPhase shared script 0 worker
IsReadySeat script shared (Playing player) = IsPlayer shared player

-- the hand of a worker
abbrev pub hand_of_work : Worker → Hand
hand_of_work (ClientWork hand client) = hand
hand_of_work (GateWork hand gate) = hand
hand_of_work (ShardWork hand shard) = hand

-- the hand of a seat
abbrev pub hand_of_seat : Seat → Hand
hand_of_seat (AtWork worker) = hand_of_work worker
hand_of_seat (Playing player) = player.worker.hand
