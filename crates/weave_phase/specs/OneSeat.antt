-- One hand or one worker of many: what it is seated for, and what it gives back. No public contract cites this.
use Rattle.std.specs.Prelude.{◌≡◌, ℕ, ◌+◌, ◌-◌, ◌<◌, ◌≤◌, List, Option, None, Some, length, slice_get, slice_set}
use Rattle.weaver_core.specs.declared.client.Client.{Client}
use Rattle.weaver_locks.specs.declared.hand.Hand.{Hand}
use Rattle.weaver_workers.specs.declared.worker.Worker.{Worker}
use Rattle.weaver_workers.specs.declared.worker.Worker.TheVariants.{ClientWork, GateWork, ShardWork}
use Rattle.weave_phase.specs.Seats.{client_in}

-- the client of the session was taken out of its place, and the hand works for it
pub record TakesClient (session : ℕ) (hand : Hand) (old new : List (Option Client)) (worker : Worker) : Type 0 where
  pub client : Client
  pub client_is : slice_get old session ≡ Some (Some client)
  pub left : new ≡ slice_set old session None
  pub worker_is : worker ≡ ClientWork hand client

-- the hand of number k works for the k-th session, else for a gatekeeper, else for a shard
pub record IsSeated (sessions : List ℕ) (gates k : ℕ) (hand : Hand) (old new : List (Option Client)) (worker : Worker)
    : Type 0 where
  pub session : (session : ℕ) → slice_get sessions k ≡ Some session → TakesClient session hand old new worker
  pub others : length sessions ≤ k → new ≡ old
  pub gate : length sessions ≤ k → k < length sessions + gates → worker ≡ GateWork hand (k - length sessions)
  pub shard : length sessions + gates ≤ k → worker ≡ ShardWork hand (k - (length sessions + gates))

-- the client of worker number k went back into the place of the k-th session; other workers have none
pub record IsUnseated (sessions : List ℕ) (k : ℕ) (worker : Worker) (old new : List (Option Client)) : Type 0 where
  pub session : (session : ℕ) → slice_get sessions k ≡ Some session → new ≡ slice_set old session (client_in worker)
  pub others : length sessions ≤ k → new ≡ old
