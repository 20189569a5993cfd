-- When a worker may do its part of a phase, and what it has then done.
use Rattle.std.specs.Prelude.{◌≡◌, ℕ, ◌<◌, ◌≤◌, length}
use Rattle.program_defs.specs.declared.script.Script.{Script}
use Rattle.weaver_core.specs.declared.client.Client.{Client}
use Rattle.weaver_locks.specs.declared.hand.Hand.{Hand}
use Rattle.weaver_locks.specs.declared.shared.Shared.{Shared}
use Rattle.weaver_locks.specs.Hands.{IsHand}
use Rattle.weaver_workers.specs.declared.ended.Ended.{Ended}
use Rattle.weaver_workers.specs.declared.ended.Ended.TheVariants.{Done}
use Rattle.weaver_workers.specs.declared.worker.Worker.{Worker}
use Rattle.weaver_workers.specs.declared.worker.Worker.TheVariants.{ClientWork, GateWork, ShardWork}
use Rattle.weaver_workers.specs.Carrying.{CarriesAtGate, CarriesAtShard, IsUpToDateBelow}
use Rattle.weaver_workers.specs.ClientWork.{WorkerEndsAs, WorkerGoesOn, HasReplies, Stand}
use Rattle.weaver_workers.specs.Keeping.{HasLanded, KeepsClient}
use Rattle.weaver_workers.specs.Phases.{phase_end, phase_start}
use Rattle.weaver_workers.specs.Turning.{stand}

-- the script has this phase, of which there is one more than there are `phase` lines; it ends among the requests
pub record HasPhase (script : Script) (phase : ℕ) : Type 0 where
  pub number : phase ≤ length script.phases
  pub within : phase_end script phase ≤ length script.requests

-- the hand came with these locks, and no transaction of it is in flight
pub record IsIdleHand (shared : Shared) (hand : Hand) : Type 0 where
  pub is_hand : IsHand shared hand
  pub landed : HasLanded hand

-- The client has the requests of one session of the script, and its hand goes on with it. Those of earlier phases have
-- their replies.
pub record IsReadyClient (shared : Shared) (script : Script) (phase : ℕ) (hand : Hand) (client : Client) : Type 0 where
  pub number : ℕ
  pub keeps : KeepsClient shared script number hand client
  pub earlier : HasReplies (phase_start script phase) client

-- a worker may do its part of the phase
abbrev pub IsReadyForPhase : Shared → Script → ℕ → Worker → Type 0
IsReadyForPhase shared script phase (ClientWork hand client) = IsReadyClient shared script phase hand client
IsReadyForPhase shared script phase (GateWork hand gate) = IsIdleHand shared hand × (gate < script.gates)
IsReadyForPhase shared script phase (ShardWork hand shard) = IsIdleHand shared hand × (shard < script.shards)

-- a client's worker went on with its session, with the requests before `upto`, and ended so
pub record ClientWorks (shared : Shared) (script : Script) (number upto : ℕ) (old new : Stand) (ended : Ended)
    : Type 0 where
  pub goes : WorkerGoesOn shared script number upto old new
  pub ends : WorkerEndsAs shared script upto new ended

-- The worker of a gatekeeper only carried, there alone. If the phase has a request, this gatekeeper has heard from the
-- hand a clock of each other one, not older than the hand had seen.
pub record GateWorks (shared : Shared) (script : Script) (phase gate : ℕ) (old new : Hand) (ended : Ended) : Type 0
  where
    pub carries : CarriesAtGate shared gate old new
    pub heard : phase_start script phase < phase_end script phase → IsUpToDateBelow script.gates gate old new
    pub landed : HasLanded new
    pub ends : ended ≡ Done

-- the worker of a shard only carried, there alone
pub record ShardWorks (shared : Shared) (shard : ℕ) (old new : Hand) (ended : Ended) : Type 0 where
  pub carries : CarriesAtShard shared shard old new
  pub landed : HasLanded new
  pub ends : ended ≡ Done

-- What a worker has done in its part of the phase: it is of the kind that it was, with the number that it had.
abbrev pub Works : Shared → Script → ℕ → Worker → Worker → Ended → Type 0
Works shared script phase (ClientWork was client) (ClientWork is left) ended =
    (number : ℕ) → KeepsClient shared script number was client
    → ClientWorks shared script number (phase_end script phase) (stand was client) (stand is left) ended
Works shared script phase (GateWork was gate) (GateWork is at) ended =
    (at ≡ gate) × GateWorks shared script phase gate was is ended
Works shared script phase (ShardWork was shard) (ShardWork is at) ended =
    (at ≡ shard) × ShardWorks shared shard was is ended
Works shared script phase (ClientWork was client) (GateWork is at) ended = ⊥
Works shared script phase (ClientWork was client) (ShardWork is at) ended = ⊥
Works shared script phase (GateWork was gate) (ClientWork is left) ended = ⊥
Works shared script phase (GateWork was gate) (ShardWork is at) ended = ⊥
Works shared script phase (ShardWork was shard) (ClientWork is left) ended = ⊥
Works shared script phase (ShardWork was shard) (GateWork is at) ended = ⊥
