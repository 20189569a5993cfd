-- A chain as its own crate sees it: no public contract cites it.
use Rattle.std.specs.Prelude.{ℕ, zero, suc, ◌-◌, Bool, false, not, ◌&&◌, ◌==◌, ◌<◌, ◌≤◌, List, [], ◌∷◌, ◌++◌, map, length, drop, slice_index_or, sum_by, Contains, if◌then◌else◌}
use Rattle.std.specs.List.{flat_map}
use Rattle.vector_stamp.specs.Coherence.{AreCoherent}
use Rattle.oracle_chain.specs.declared.ask.Ask.{Ask}
use Rattle.oracle_chain.specs.declared.message.Sent.{Sent}
use Rattle.oracle_chain.specs.Replay.{ask_stamps}
use Rattle.oracle_chain.specs.Chain.{ReplicaView, Message, ReplicaChainView, asks_at}
use Rattle.oracle_chain.specs.IsReplicaChain.{IsAsk}

-- whether it is live, its asks, and for how many more asks and earlier events there is memory
pub record HeldView : Type 0 where
  pub live : Bool
  pub asks : List Ask
  pub room : ℕ
  pub events : ℕ

-- the replica that callers see
abbrev pub replica_of : HeldView → ReplicaView
replica_of held = record { live = held.live; asks = held.asks }

-- an ask of nothing, where there is none
abbrev pub no_ask : Ask
no_ask = record { earlier = []; later = record { home = 0; clock = record { epoch = 0; counts = [] } }; keep = false }

-- the message that callers see
abbrev pub message_seen : List ReplicaView → Sent → Message
message_seen replicas sent = record {
  addressee = sent.addressee;
  position = sent.position;
  ask = slice_index_or (asks_at replicas sent.kept_by) sent.position no_ask;
}

-- the chain that callers see
abbrev pub chain_seen : List HeldView → List Sent → ReplicaChainView
chain_seen held sent = record {
  replicas = map replica_of held;
  messages = map (message_seen (map replica_of held)) sent;
}

-- each message's ask is in the list where it is read
abbrev pub AreKept : List ReplicaView → List Sent → Type 0
AreKept replicas messages =
    (sent : Sent) → Contains messages sent → sent.position < length (asks_at replicas sent.kept_by)

-- what a replica lacks of a list
abbrev pub lacked_by : List Ask → ReplicaView → List Ask
lacked_by list replica = if replica.live then drop (length replica.asks) list else []

-- the replicas with further asks, a list for each
abbrev pub with_more : List ReplicaView → List (List Ask) → List ReplicaView
with_more [] more = []
with_more (replica ∷ replicas) [] = replica ∷ replicas
with_more (replica ∷ replicas) (asks ∷ more) =
    record { live = replica.live; asks = replica.asks ++ asks } ∷ with_more replicas more

-- the messages with that many asks from a position on
abbrev pub sent_from : ℕ → ℕ → ℕ → ℕ → List Sent
sent_from kept_by addressee position zero = []
sent_from kept_by addressee position (suc count) =
    record { addressee = addressee; position = position; kept_by = kept_by }
    ∷ sent_from kept_by addressee (suc position) count

-- the messages that bring a replica what it lacks of a list of that length, which the head keeps
abbrev pub sent_to : ℕ → ℕ → ℕ → ReplicaView → List Sent
sent_to head many number replica =
    if replica.live && not (number == head)
    then sent_from head number (length replica.asks) (many - length replica.asks)
    else []

-- and each replica, from a number on
abbrev pub sent_to_each : ℕ → ℕ → ℕ → List ReplicaView → List Sent
sent_to_each head many number [] = []
sent_to_each head many number (replica ∷ replicas) =
    sent_to head many number replica ++ sent_to_each head many (suc number) replicas

-- a replica that has stopped, without asks and room
abbrev pub no_held : HeldView
no_held = record { live = false; asks = []; room = 0; events = 0 }

-- a replica has room for these asks
pub record HasRoomFor (held : HeldView) (asks : List Ask) : Type 0 where
  pub room : length asks ≤ held.room
  pub events : sum_by (λ (ask : Ask). length ask.earlier) asks ≤ held.events

-- each replica has room for the asks of its number
abbrev pub HaveRoom : List HeldView → List (List Ask) → Type 0
HaveRoom held more =
    (i : ℕ) → i < length more → HasRoomFor (slice_index_or held i no_held) (slice_index_or more i [])

-- a replica may append these asks
pub record MayAppend (held : HeldView) (more : List Ask) : Type 0 where
  pub are_asks : (ask : Ask) → Contains more ask → IsAsk ask
  pub coherent : AreCoherent (flat_map ask_stamps (held.asks ++ more))

-- each replica may append the asks of its number
abbrev pub EachMayAppend : List HeldView → List (List Ask) → Type 0
EachMayAppend held more =
    (i : ℕ) → i < length more → MayAppend (slice_index_or held i no_held) (slice_index_or more i [])
