-- What is given out, and what a chain promises as a judge.
use Rattle.std.specs.Prelude.{◌≡◌, ℕ, suc, ◌+◌, ◌⊎◌, List, [], ◌∷◌, ◌++◌, length, drop, Some, None, Contains, slice_get, if◌then◌else◌}
use Rattle.vector_stamp.specs.declared.clock.Stamp.{Stamp}
use Rattle.vector_stamp.specs.Settling.{refused_place, additions, places_of, pairs_of}
use Rattle.oracle_chain.specs.declared.ask.Ask.{Ask}
use Rattle.oracle_chain.specs.declared.ask.Outcome.{Outcome}
use Rattle.oracle_chain.specs.declared.ask.Outcome.TheVariants.{Settled, Precedes}
use Rattle.oracle_chain.specs.Replay.{ask_stamps}
use Rattle.oracle_chain.specs.Chain.{ReplicaChainView, ReplicaView, head_asks, tail_asks, stamps_known, pairs_of_chain}
use Rattle.oracle_chain.specs.Calls.{answer_at, after_accept, position_accepted, Call, Accept, Forward, Deliver}

-- the chain gives this outcome for this ask, which its tail has at this position
pub record GivesOutcome (chain : ReplicaChainView) (position : ℕ) (ask : Ask) (outcome : Outcome) : Type 0 where
  pub asked : slice_get (tail_asks chain.replicas) position ≡ Some ask
  pub given : answer_at chain position ≡ Some outcome

-- A settled ask has this outcome at the tail, and the chain after it is this one: what a judge promises. With `Settled`
-- the call is Ok, with `Precedes` it is refused.
pub record SettlesAs (chain : ReplicaChainView) (ask : Ask) (outcome : Outcome) (next : ReplicaChainView) : Type 0 where
  pub given : GivesOutcome next (position_accepted chain) ask outcome
  pub permitted : (places : List ℕ) → outcome ≡ Settled places
      → refused_place (pairs_of_chain chain) ask.earlier ask.later ≡ None
  pub places : (places : List ℕ) → outcome ≡ Settled places
      → places ≡ places_of (additions ask.keep (pairs_of_chain chain) ask.earlier ask.later)
  pub pairs : (places : List ℕ) → outcome ≡ Settled places → pairs_of_chain next
      ≡ pairs_of_chain chain ++ pairs_of (additions ask.keep (pairs_of_chain chain) ask.earlier ask.later) ask.later
  pub refused : (place : ℕ) → outcome ≡ Precedes place
      → refused_place (pairs_of_chain chain) ask.earlier ask.later ≡ Some place
  pub no_pair : (place : ℕ) → outcome ≡ Precedes place → pairs_of_chain next ≡ pairs_of_chain chain
  pub known : (stamp : Stamp) → Contains (stamps_known next.replicas) stamp
      → Contains (stamps_known chain.replicas) stamp ⊎ Contains (ask_stamps ask) stamp
  pub stay_known : (stamp : Stamp) → Contains (stamps_known chain.replicas) stamp
      → Contains (stamps_known next.replicas) stamp

-- Settling as calls

-- the calls that bring asks from one live replica to the next, from a position on, by messages from this number on
abbrev pub bringing_calls : ℕ → ℕ → ℕ → List Ask → List Call
bringing_calls from position message [] = []
bringing_calls from position message (ask ∷ asks) =
    Forward from position ∷ Deliver message ∷ bringing_calls from (suc position) (suc message) asks

-- down the chain: each live replica gets what it lacks of a list from the live one before it
abbrev pub levelling_calls : List Ask → ℕ → ℕ → ℕ → List ReplicaView → List Call
levelling_calls asks from number message [] = []
levelling_calls asks from number message (replica ∷ replicas) =
    if replica.live
    then bringing_calls from (length replica.asks) message (drop (length replica.asks) asks)
    ++ levelling_calls asks number (suc number) (message + length (drop (length replica.asks) asks)) replicas
    else levelling_calls asks from (suc number) message replicas

-- the head accepts the ask, and then each replica gets what it lacks of the head's list
abbrev pub settle_calls : ReplicaChainView → Ask → List Call
settle_calls chain ask = Accept ask
    ∷ levelling_calls (head_asks chain.replicas ++ ask ∷ []) 0 0 (length chain.messages)
    (after_accept chain ask).replicas
