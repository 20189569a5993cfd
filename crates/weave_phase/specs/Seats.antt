-- The workers of a phase, each with its hand, in the order of their hands' numbers: those of sessions, of gatekeepers
-- and of shards. No public contract cites this.
use Rattle.std.specs.Prelude.{◌≡◌, ℕ, ◌+◌, ◌-◌, ◌<◌, ◌≤◌, Bool, true, false, List, length, slice_get, Contains, IfOk, Option, None, Some, Result, Ok, Err}
use Rattle.std.specs.declared.alloc.AllocError.{AllocError}
use Rattle.program_defs.specs.declared.script.Script.{Script}
use Rattle.weaver_core.specs.declared.client.Client.{Client}
use Rattle.weaver_locks.specs.declared.hand.Hand.{Hand}
use Rattle.weaver_locks.specs.declared.shared.Shared.{Shared}
use Rattle.weaver_workers.specs.declared.ended.Ended.{Ended}
use Rattle.weaver_workers.specs.declared.worker.Worker.{Worker}
use Rattle.weaver_workers.specs.declared.worker.Worker.TheVariants.{ClientWork, GateWork, ShardWork}
use Rattle.weaver_workers.specs.Workers.{Works}
use Rattle.weave_phase.specs.declared.seats.Seat.{Seat}

-- the hand of a worker
abbrev pub hand_in : Worker → Hand
hand_in (ClientWork hand client) = hand
hand_in (GateWork hand gate) = hand
hand_in (ShardWork hand shard) = hand

-- the client of a worker, if it has one
abbrev pub client_in : Worker → Option Client
client_in (ClientWork hand client) = Some client
client_in (GateWork hand gate) = None
client_in (ShardWork hand shard) = None

-- Before the workers run

-- the hand of number k works for the k-th of these sessions, with its client
pub record IsClientsSeat (sessions : List ℕ) (clients : List Client) (k : ℕ) (hand : Hand) (worker : Worker) : Type 0
  where
    pub session : ℕ
    pub session_is : slice_get sessions k ≡ Some session
    pub client : Client
    pub client_is : slice_get clients session ≡ Some client
    pub worker_is : worker ≡ ClientWork hand client

-- what the hand of number k works for: a session, else a gatekeeper, else a shard
pub record IsDealt (sessions : List ℕ) (gates : ℕ) (clients : List Client) (k : ℕ) (hand : Hand) (worker : Worker)
    : Type 0 where
  pub session : k < length sessions → IsClientsSeat sessions clients k hand worker
  pub gate : length sessions ≤ k → k < length sessions + gates → worker ≡ GateWork hand (k - length sessions)
  pub shard : length sessions + gates ≤ k → worker ≡ ShardWork hand (k - (length sessions + gates))

-- each hand has its seat
pub record SeatsAreDealt (sessions : List ℕ) (gates : ℕ) (clients : List Client) (hands : List Hand) (seats : List Seat)
    : Type 0 where
  pub many : length seats ≡ length hands
  pub each : (k : ℕ) (hand : Hand) (seat : Seat) → slice_get hands k ≡ Some hand → slice_get seats k ≡ Some seat
      → IsDealt sessions gates clients k hand seat.worker

-- these sessions' clients were taken out of their places
pub record AreTaken (sessions : List ℕ) (old new : List (Option Client)) : Type 0 where
  pub many : length new ≡ length old
  pub taken : (session : ℕ) → Contains sessions session → slice_get new session ≡ Some None
  pub left : (session : ℕ) → ¬ Contains sessions session → slice_get new session ≡ slice_get old session

-- After they ran

-- whether there is an answer, and it is not out of memory
abbrev pub has_answered : Option (Result Ended AllocError) → Bool
has_answered None = false
has_answered (Some (Ok ended)) = true
has_answered (Some (Err fault)) = false

-- whether the worker of a seat has done its part
abbrev pub has_done_its_part : Seat → Bool
has_done_its_part seat = has_answered seat.answer

-- A worker has run, and the seat has its answer. It has done its part of the phase, unless it is out of memory.
pub record HasRun (shared : Shared) (script : Script) (phase : ℕ) (old new : Seat) : Type 0 where
  pub answer : Result Ended AllocError
  pub answer_is : new.answer ≡ Some answer
  pub works : IfOk answer (Works shared script phase old.worker new.worker)

-- each seat's worker has run
pub record HaveRun (shared : Shared) (script : Script) (phase : ℕ) (old new : List Seat) : Type 0 where
  pub many : length new ≡ length old
  pub each : (k : ℕ) (was is : Seat) → slice_get old k ≡ Some was → slice_get new k ≡ Some is
      → HasRun shared script phase was is

-- the clients of the first seats, one for each of these sessions, were put back into their places
pub record ArePutBack (sessions : List ℕ) (seats : List Seat) (old new : List (Option Client)) : Type 0 where
  pub many : length new ≡ length old
  pub back : (k session : ℕ) (seat : Seat) → slice_get sessions k ≡ Some session → slice_get seats k ≡ Some seat
      → slice_get new session ≡ Some (client_in seat.worker)
  pub left : (session : ℕ) → ¬ Contains sessions session → slice_get new session ≡ slice_get old session
