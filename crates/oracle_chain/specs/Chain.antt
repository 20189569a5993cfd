-- The state of a chain of replicas (chain replication, van Renesse and Schneider 2004).
use Rattle.std.specs.Prelude.{ℕ, zero, suc, Bool, false, List, [], ◌∷◌, Option, Some, None, slice_index_or, if◌then◌else◌}
use Rattle.std.specs.List.{flat_map, count_by}
use Rattle.std.specs.Option.{option_map}
use Rattle.vector_stamp.specs.declared.clock.Stamp.{Stamp}
use Rattle.oracle_chain.specs.declared.ask.Ask.{Ask}
use Rattle.oracle_chain.specs.Replay.{ask_stamps, pairs_after}
use Rattle.vector_stamp.specs.Precedence.{GivenPair}

-- whether it is live, and its list of asks, which it also has once it has stopped
pub record ReplicaView : Type 0 where
  pub live : Bool
  pub asks : List Ask

-- a message: to which replica, and an ask with its position
pub record Message : Type 0 where
  pub addressee : ℕ
  pub position : ℕ
  pub ask : Ask

-- the replicas, numbered from 0, and all messages that were sent, numbered from 0
pub record ReplicaChainView : Type 0 where
  pub replicas : List ReplicaView
  pub messages : List Message

-- a replica that has stopped, without asks
abbrev pub no_replica : ReplicaView
no_replica = record { live = false; asks = [] }

-- the replica of a number; past the last one, one that has stopped
abbrev pub replica_at : List ReplicaView → ℕ → ReplicaView
replica_at replicas number = slice_index_or replicas number no_replica

-- whether the replica of a number is live
abbrev pub is_live : List ReplicaView → ℕ → Bool
is_live replicas number = (replica_at replicas number).live

-- its list
abbrev pub asks_at : List ReplicaView → ℕ → List Ask
asks_at replicas number = (replica_at replicas number).asks

-- the number of live replicas
abbrev pub live_count : List ReplicaView → ℕ
live_count replicas = count_by (λ (replica : ReplicaView). replica.live) replicas

-- the head: the first live replica
abbrev pub head_number : List ReplicaView → Option ℕ
head_number [] = None
head_number (replica ∷ replicas) = if replica.live then Some 0 else option_map suc (head_number replicas)

-- the first live replica after that of a number
abbrev pub number_after : List ReplicaView → ℕ → Option ℕ
number_after [] number = None
number_after (replica ∷ replicas) zero = option_map suc (head_number replicas)
number_after (replica ∷ replicas) (suc number) = option_map suc (number_after replicas number)

-- the last live one of a replica and those after it
abbrev pub last_number : ReplicaView → Option ℕ → Option ℕ
last_number replica (Some number) = Some (suc number)
last_number replica None = if replica.live then Some 0 else None

-- the tail: the last live replica
abbrev pub tail_number : List ReplicaView → Option ℕ
tail_number [] = None
tail_number (replica ∷ replicas) = last_number replica (tail_number replicas)

-- the list of a replica, if there is one
abbrev pub asks_of : List ReplicaView → Option ℕ → List Ask
asks_of replicas None = []
asks_of replicas (Some number) = asks_at replicas number

-- the list of the head
abbrev pub head_asks : List ReplicaView → List Ask
head_asks replicas = asks_of replicas (head_number replicas)

-- the list of the tail
abbrev pub tail_asks : List ReplicaView → List Ask
tail_asks replicas = asks_of replicas (tail_number replicas)

-- the stamps that the chain knows: those of the asks of all lists, also of those that have stopped
abbrev pub stamps_known : List ReplicaView → List Stamp
stamps_known replicas = flat_map (λ (replica : ReplicaView). flat_map ask_stamps replica.asks) replicas

-- the pairs of the chain as a judge: those after all asks of the head's list
abbrev pub pairs_of_chain : ReplicaChainView → List GivenPair
pairs_of_chain chain = pairs_after (head_asks chain.replicas)
