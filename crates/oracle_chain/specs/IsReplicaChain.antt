-- When a state is that of a chain, and when a call may be made.
use Rattle.std.specs.Prelude.{◌≡◌, ◌≢◌, ℕ, ◌<◌, ◌^◌, List, [], ◌∷◌, ◌++◌, length, All, Contains, IsTrue, Some, slice_get, ⊤}
use Rattle.vector_stamp.specs.Order.{id_of}
use Rattle.vector_stamp.specs.Coherence.{AreCoherent}
use Rattle.oracle_chain.specs.declared.ask.Ask.{Ask}
use Rattle.oracle_chain.specs.Chain.{ReplicaView, Message, ReplicaChainView, is_live, asks_at, live_count, stamps_known}
use Rattle.oracle_chain.specs.Calls.{Call, Accept, Forward, Deliver, Stop, Answer, Settle, after_call}

-- a list begins another one
abbrev pub IsPrefixOf : {E : Type 0} → List E → List E → Type 0
IsPrefixOf {E} list next = (more : List E) × (next ≡ list ++ more)

-- the list of each live replica is a prefix of that of each live replica before it
abbrev pub AreOrdered : List ReplicaView → Type 0
AreOrdered replicas = (i j : ℕ) → i < j → IsTrue (is_live replicas i) → IsTrue (is_live replicas j)
    → IsPrefixOf (asks_at replicas j) (asks_at replicas i)

-- each live replica before the addressee has the message's ask at its position
abbrev pub IsSent : List ReplicaView → Message → Type 0
IsSent replicas message = (i : ℕ) → i < message.addressee → IsTrue (is_live replicas i)
    → slice_get (asks_at replicas i) message.position ≡ Some message.ask

-- some list has the message's ask at its position
abbrev pub IsListed : List ReplicaView → Message → Type 0
IsListed replicas message = (i : ℕ) × (slice_get (asks_at replicas i) message.position ≡ Some message.ask)

-- an ask that any oracle may be asked: its earlier events are fewer than 2^32, and none of them is the later one
pub record IsAsk (ask : Ask) : Type 0 where
  pub few : length ask.earlier < 2 ^ 32
  pub other_ids : All (λ event. id_of event ≢ id_of ask.later) ask.earlier

-- when a state is that of a chain
pub record IsReplicaChain (chain : ReplicaChainView) : Type 0 where
  pub some_live : 0 < live_count chain.replicas
  pub ordered : AreOrdered chain.replicas
  pub sent : (message : Message) → Contains chain.messages message → IsSent chain.replicas message
  pub kept : (message : Message) → Contains chain.messages message → IsListed chain.replicas message
  pub asks : (i : ℕ) (ask : Ask) → Contains (asks_at chain.replicas i) ask → IsAsk ask
  pub coherent : AreCoherent (stamps_known chain.replicas)

-- when an ask may be accepted: an oracle may be asked it, and its stamps and all known ones are coherent
pub record MayAsk (chain : ReplicaChainView) (ask : Ask) : Type 0 where
  pub is_ask : IsAsk ask
  pub coherent : AreCoherent (ask.later ∷ ask.earlier ++ stamps_known chain.replicas)

-- when a call may be made
abbrev pub MayCall : ReplicaChainView → Call → Type 0
MayCall chain (Accept ask) = MayAsk chain ask
MayCall chain (Forward number position) = number < length chain.replicas
MayCall chain (Deliver number) = ⊤
MayCall chain (Stop number) = number < length chain.replicas
MayCall chain (Answer position) = ⊤
MayCall chain (Settle ask) = MayAsk chain ask

-- when a list of calls may be made, one after another
abbrev pub MayCallAll : ReplicaChainView → List Call → Type 0
MayCallAll chain [] = ⊤
MayCallAll chain (call ∷ calls) = MayCall chain call × MayCallAll (after_call chain call) calls
