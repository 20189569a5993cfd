-- What each call on a chain answers, and the chain after it.
use Rattle.std.specs.Prelude.{ℕ, suc, zero, Bool, true, false, not, ◌&&◌, ◌==◌, nat_lt, List, [], ◌∷◌, ◌++◌, map, length, drop, Option, Some, None, slice_get, slice_set, is_none, if◌then◌else◌}
use Rattle.std.specs.Option.{option_map}
use Rattle.oracle_chain.specs.declared.ask.Ask.{Ask}
use Rattle.oracle_chain.specs.declared.ask.Outcome.{Outcome}
use Rattle.oracle_chain.specs.declared.ask.Delivered.{Delivered}
use Rattle.oracle_chain.specs.declared.ask.Delivered.TheVariants.{Taken, Repeat, Gap, Gone}
use Rattle.oracle_chain.specs.declared.ask.ChainFault.{ChainFault}
use Rattle.oracle_chain.specs.declared.ask.ChainFault.TheVariants.{Halted, Tail, Unknown, Last}
use Rattle.vector_stamp.specs.declared.clock.Stamp.{Stamp}
use Rattle.oracle_chain.specs.Replay.{outcomes_of, ask_stamps}
use Rattle.oracle_chain.specs.Chain.{ReplicaView, Message, ReplicaChainView, is_live, asks_at, live_count, head_number, number_after, head_asks, tail_asks}

-- New chains

-- that many live replicas without asks
abbrev pub new_replicas : ℕ → List ReplicaView
new_replicas zero = []
new_replicas (suc number) = record { live = true; asks = [] } ∷ new_replicas number

-- a new chain
abbrev pub new_chain : ℕ → ReplicaChainView
new_chain number = record { replicas = new_replicas number; messages = [] }

-- Accepting

-- the replica has one more ask at the end of its list
abbrev pub with_ask : List ReplicaView → ℕ → Ask → List ReplicaView
with_ask replicas number ask =
    slice_set replicas number (record {
      live = is_live replicas number;
      asks = asks_at replicas number ++ ask ∷ [];
    })

-- the head, if there is one, has one more ask
abbrev pub with_ask_at : List ReplicaView → Option ℕ → Ask → List ReplicaView
with_ask_at replicas None ask = replicas
with_ask_at replicas (Some number) ask = with_ask replicas number ask

-- the chain after an ask was accepted
abbrev pub after_accept : ReplicaChainView → Ask → ReplicaChainView
after_accept chain ask = record chain { replicas = with_ask_at chain.replicas (head_number chain.replicas) ask }

-- its position
abbrev pub position_accepted : ReplicaChainView → ℕ
position_accepted chain = length (head_asks chain.replicas)

-- Forwarding

-- why nothing is forwarded, tried in this order
abbrev pub forward_fault : List ReplicaView → ℕ → ℕ → Option ChainFault
forward_fault replicas number position =
    if not (is_live replicas number) then Some Halted
    else if is_none (number_after replicas number) then Some Tail
    else if not (nat_lt position (length (asks_at replicas number))) then Some Unknown
    else None

-- a message, if there is an addressee and an ask
abbrev pub message_if : Option ℕ → ℕ → Option Ask → List Message
message_if (Some addressee) position (Some ask) =
    record { addressee = addressee; position = position; ask = ask } ∷ []
message_if (Some addressee) position None = []
message_if None position ask = []

-- the message that is sent, none if nothing is forwarded
abbrev pub messages_sent : List ReplicaView → ℕ → ℕ → List Message
messages_sent replicas number position =
    if is_live replicas number
    then message_if (number_after replicas number) position (slice_get (asks_at replicas number) position)
    else []

-- the chain after it
abbrev pub after_forward : ReplicaChainView → ℕ → ℕ → ReplicaChainView
after_forward chain number position =
    record chain { messages = chain.messages ++ messages_sent chain.replicas number position }

-- Delivering

-- what becomes of a message
abbrev pub delivery_of : List ReplicaView → Message → Delivered
delivery_of replicas message =
    if not (is_live replicas message.addressee) then Gone
    else if message.position == length (asks_at replicas message.addressee) then Taken
    else if nat_lt message.position (length (asks_at replicas message.addressee)) then Repeat
    else Gap

-- what becomes of the message of a number, if there is one
abbrev pub delivered_at : ReplicaChainView → ℕ → Option Delivered
delivered_at chain number = option_map (delivery_of chain.replicas) (slice_get chain.messages number)

-- whether the addressee appends its ask
abbrev pub is_taken : List ReplicaView → Message → Bool
is_taken replicas message =
    is_live replicas message.addressee && message.position == length (asks_at replicas message.addressee)

-- the replicas after it
abbrev pub after_message : List ReplicaView → Message → List ReplicaView
after_message replicas message =
    if is_taken replicas message then with_ask replicas message.addressee message.ask else replicas

-- the replicas after a message, if there is one
abbrev pub after_message_of : List ReplicaView → Option Message → List ReplicaView
after_message_of replicas None = replicas
after_message_of replicas (Some message) = after_message replicas message

-- the chain after a delivery
abbrev pub after_delivery : ReplicaChainView → ℕ → ReplicaChainView
after_delivery chain number =
    record chain { replicas = after_message_of chain.replicas (slice_get chain.messages number) }

-- Stopping

-- why a replica isn't stopped
abbrev pub stop_fault : List ReplicaView → ℕ → Option ChainFault
stop_fault replicas number =
    if not (is_live replicas number) then Some Halted
    else if live_count replicas == 1 then Some Last
    else None

-- the chain after a stop
abbrev pub after_stop : ReplicaChainView → ℕ → ReplicaChainView
after_stop chain number =
    if is_none (stop_fault chain.replicas number)
    then record chain {
      replicas = slice_set chain.replicas number (record { live = false; asks = asks_at chain.replicas number });
    }
    else chain

-- Answers

-- the outcome at a position: that of the tail's list
abbrev pub answer_at : ReplicaChainView → ℕ → Option Outcome
answer_at chain position = slice_get (outcomes_of (tail_asks chain.replicas)) position

-- Settling

-- all live replicas with one list
abbrev pub levelled : List Ask → List ReplicaView → List ReplicaView
levelled asks replicas =
    map (λ (replica : ReplicaView). if replica.live then record { live = true; asks = asks } else replica) replicas

-- the messages that bring a replica these asks, from a position on
abbrev pub messages_from : ℕ → ℕ → List Ask → List Message
messages_from addressee position [] = []
messages_from addressee position (ask ∷ asks) =
    record { addressee = addressee; position = position; ask = ask } ∷ messages_from addressee (suc position) asks

-- the messages that bring a replica what it lacks of a list
abbrev pub messages_lacked : List Ask → ℕ → ReplicaView → List Message
messages_lacked asks addressee replica =
    if replica.live then messages_from addressee (length replica.asks) (drop (length replica.asks) asks) else []

-- and each replica, from a number on
abbrev pub levelling_messages : List Ask → ℕ → List ReplicaView → List Message
levelling_messages asks number [] = []
levelling_messages asks number (replica ∷ replicas) =
    messages_lacked asks number replica ++ levelling_messages asks (suc number) replicas

-- each live replica has the list, by messages that are all delivered
abbrev pub after_levelling : List Ask → ReplicaChainView → ReplicaChainView
after_levelling asks chain = record {
  replicas = levelled asks chain.replicas;
  messages = chain.messages ++ levelling_messages asks 0 chain.replicas;
}

-- the chain after an ask was settled: the head has accepted it, and each live replica has the head's list
abbrev pub after_settle : ReplicaChainView → Ask → ReplicaChainView
after_settle chain ask = after_levelling (head_asks chain.replicas ++ ask ∷ []) (after_accept chain ask)

-- One step

-- the calls
pub data Call : Type 0 where
  Accept : Ask → Call
  Forward : ℕ → ℕ → Call
  Deliver : ℕ → Call
  Stop : ℕ → Call
  Answer : ℕ → Call
  Settle : Ask → Call

-- what a call answers
pub data Reply : Type 0 where
  AtPosition : ℕ → Reply
  AsMessage : ℕ → Reply
  Became : Delivered → Reply
  Stopped : Reply
  WithOutcome : Option Outcome → Reply
  Faulty : ChainFault → Reply

-- a fault if there is one
abbrev pub reply_or : Option ChainFault → Reply → Reply
reply_or (Some fault) reply = Faulty fault
reply_or None reply = reply

-- what becomes of a message, if there is one
abbrev pub reply_of_delivery : List ReplicaView → Option Message → Reply
reply_of_delivery replicas None = Faulty Unknown
reply_of_delivery replicas (Some message) = Became (delivery_of replicas message)

-- what a call answers
abbrev pub reply_of : ReplicaChainView → Call → Reply
reply_of chain (Accept ask) = AtPosition (position_accepted chain)
reply_of chain (Forward number position) =
    reply_or (forward_fault chain.replicas number position) (AsMessage (length chain.messages))
reply_of chain (Deliver number) = reply_of_delivery chain.replicas (slice_get chain.messages number)
reply_of chain (Stop number) = reply_or (stop_fault chain.replicas number) Stopped
reply_of chain (Answer position) = WithOutcome (answer_at chain position)
reply_of chain (Settle ask) = WithOutcome (answer_at (after_settle chain ask) (position_accepted chain))

-- the chain after a call
abbrev pub after_call : ReplicaChainView → Call → ReplicaChainView
after_call chain (Accept ask) = after_accept chain ask
after_call chain (Forward number position) = after_forward chain number position
after_call chain (Deliver number) = after_delivery chain number
after_call chain (Stop number) = after_stop chain number
after_call chain (Answer position) = chain
after_call chain (Settle ask) = after_settle chain ask

-- the stamps of the ask that a call brings
abbrev pub stamps_called : Call → List Stamp
stamps_called (Accept ask) = ask_stamps ask
stamps_called (Forward number position) = []
stamps_called (Deliver number) = []
stamps_called (Stop number) = []
stamps_called (Answer position) = []
stamps_called (Settle ask) = ask_stamps ask

-- the chain after a list of calls
abbrev pub after_calls : ReplicaChainView → List Call → ReplicaChainView
after_calls chain [] = chain
after_calls chain (call ∷ calls) = after_calls (after_call chain call) calls

-- what they answer, in order
abbrev pub replies_of : ReplicaChainView → List Call → List Reply
replies_of chain [] = []
replies_of chain (call ∷ calls) = reply_of chain call ∷ replies_of (after_call chain call) calls
