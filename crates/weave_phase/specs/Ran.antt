-- What is known when the workers of a phase have run. No public contract cites this.
use Rattle.std.specs.Prelude.{◌≡◌, ◌⊎◌, ℕ, ◌+◌, ◌<◌, true, List, length, map, slice_get, slice_index_or, AllPairs, Contains, Option, Some}
use Rattle.weave_data.specs.Limits.{most_sessions}
use Rattle.program_defs.specs.declared.script.Script.{Script}
use Rattle.weave_account.specs.declared.account.Account.{Account}
use Rattle.weaver_core.specs.declared.client.Client.{Client}
use Rattle.weaver_locks.specs.declared.hand.Hand.{Hand}
use Rattle.weaver_locks.specs.declared.shared.Shared.{Shared}
use Rattle.weaver_locks.specs.Hands.{hand_number, seen_by, IsHand}
use Rattle.weaver_core.specs.declared.split.Split.{Split}
use Rattle.weaver_locks.specs.Closing.{logs_of}
use Rattle.weaver_locks.specs.Locks.{gate_count, hands_of, shard_count, start_of}
use Rattle.weaver_workers.specs.Phases.{phase_end, phase_start}
use Rattle.workers_account.specs.Phase.{IsPhaseStart, WorkerHasEnded}
use Rattle.workers_account.specs.Ready.{IsAnsweredUpTo}
use Rattle.workers_account.specs.SessionRuns.{HasNoRequest}
use Rattle.weave_phase.specs.declared.seats.Seat.{Seat}
use Rattle.weave_phase.specs.Seats.{has_done_its_part, SeatsAreDealt, AreTaken, ArePutBack, HaveRun}

-- a hand that came with the locks, with this number, which has seen the start and no more
pub record IsHandAtStart (shared : Shared) (number : ℕ) (hand : Hand) : Type 0 where
  pub is_hand : IsHand shared hand
  pub number_is : hand_number hand ≡ number
  pub seen : seen_by hand ≡ start_of shared

-- The workers are seated: the parts are those of a core in which just the requests of earlier phases were begun and
-- have their replies, and there is a new hand for each of these sessions, each gatekeeper and each shard.
pub record AreSeated (shared : Shared) (script : Script) (phase : ℕ) (start : Account) (clients : List Client)
    (sessions : List ℕ) (hands : List Hand) (seats : List Seat) : Type 0 where
  pub at_start : IsPhaseStart script start shared clients
  pub answered : IsAnsweredUpTo script (phase_start script phase) start
  pub rising : AllPairs (λ (a b : ℕ). a < b) sessions
  pub few : (session : ℕ) → Contains sessions session → session < most_sessions
  pub many : length hands ≡ length sessions + script.gates + script.shards
  pub of_locks : hands_of shared ≡ length hands
  pub new : (k : ℕ) (hand : Hand) → slice_get hands k ≡ Some hand → IsHandAtStart shared k hand
  pub dealt : SeatsAreDealt sessions script.gates clients hands seats

-- They ran, and each is done. The sessions' clients were taken out of their places for it, and were put back.
pub record HaveRunPhase (shared : Shared) (script : Script) (phase : ℕ) (sessions : List ℕ) (clients left : List Client)
    (before after : List Seat) : Type 0 where
  pub ran : HaveRun shared script phase before after
  pub done : (k : ℕ) (seat : Seat) → slice_get after k ≡ Some seat → has_done_its_part seat ≡ true
  pub between : List (Option Client)
  pub taken : AreTaken sessions (map Some clients) between
  pub back : ArePutBack sessions after between (map Some left)

-- each session's worker has ended, unless the session has no request in the phase
abbrev pub WorkersHaveEnded : Shared → Script → ℕ → List Client → List Hand → Type 0
WorkersHaveEnded shared script phase left hands = (session : ℕ)
    → WorkerHasEnded shared script (phase_end script phase) left hands session
    ⊎ HasNoRequest script (phase_start script phase) (phase_end script phase) session

-- The machines of these parts are behind locks, with a new hand for each of these sessions, which rise, each gatekeeper
-- and each shard.
pub record PartsAreOpened (split : Split) (shared : Shared) (hands : List Hand) (sessions : List ℕ) : Type 0 where
  pub rising : AllPairs (λ (a b : ℕ). a < b) sessions
  pub few : (session : ℕ) → Contains sessions session → session < most_sessions
  pub gates : gate_count shared ≡ length split.gates.items
  pub shards : shard_count shared ≡ length split.shards.items
  pub begins : start_of shared ≡ logs_of split.gates.items split.store split.oracle split.shards.items
  pub of_locks : hands_of shared ≡ length hands
  pub count : length hands ≡ length sessions + split.script.gates + split.script.shards
  pub each : (k : ℕ) (h : Hand) → k < length hands → IsHand shared (slice_index_or hands k h)
      × (hand_number (slice_index_or hands k h) ≡ k)
      × (seen_by (slice_index_or hands k h) ≡ logs_of split.gates.items split.store split.oracle split.shards.items)
