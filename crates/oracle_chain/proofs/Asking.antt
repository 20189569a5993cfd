-- The asks of all lists: none is lost, and only those that are accepted are new.
-- Used by AsJudge, Brought, Conditions, Giving, Keeping, Knowing, Levelled and SettleCalls.
use Rattle.std.proofs.Common.{◌≡◌, ℕ, List, [], ◌∷◌, ◌++◌, Contains, inl, inr, ◌⊎◌, sym, subst, ◌∙◌, flat_map}
use Rattle.std.proofs.lemmas.List.{get_or_default}
use Rattle.std.proofs.lemmas.List.Elements.{Contains-append_left, Contains-append_right}
use Rattle.weave_data.proofs.Members.{has_none, has_read, flat_has}
use Rattle.vector_stamp.specs.declared.clock.Stamp.{Stamp}
use Rattle.vector_stamp.specs.Coherence.{AreCoherent}
use Rattle.oracle_chain.specs.declared.ask.Ask.{Ask}
use Rattle.oracle_chain.specs.Replay.{ask_stamps}
use Rattle.oracle_chain.specs.Chain.{ReplicaView, replica_at, asks_at, stamps_known, no_replica}
use Rattle.oracle_chain.specs.IsReplicaChain.{IsAsk}
use Rattle.oracle_chain.specs.Joining.{known-has}
use Rattle.oracle_chain.proofs.Begins.{has-on}
use Rattle.oracle_chain.proofs.Growing.{Grows}

-- parts of coherent stamps are coherent (a law of the crate of stamps, taken as a premise)
abbrev pub PartsAreCoherent : Type 0
PartsAreCoherent = (stamps others : List Stamp) → AreCoherent others → ((stamp : Stamp) → Contains stamps stamp → Contains others stamp) → AreCoherent stamps

-- some list has the ask
abbrev pub IsAskOf : List ReplicaView → Ask → Type 0
IsAskOf rs ask = (i : ℕ) × Contains (asks_at rs i) ask

-- a known stamp is one of an ask of some list
pub known-read : (rs : List ReplicaView) (s : Stamp) → Contains (stamps_known rs) s → (ask : Ask) × IsAskOf rs ask × Contains (ask_stamps ask) s
known-read rs s h =
    let of_replica = flat_has (λ (replica : ReplicaView). flat_map ask_stamps replica.asks) rs s h in
    let of_ask = flat_has ask_stamps of_replica.0.asks s of_replica.2 in
    let place = of_replica.1 in
    let here : replica_at rs place.0 ≡ of_replica.0 = get_or_default rs place.0 no_replica of_replica.0 place.1 ∙ place.2 in
    (of_ask.0, (place.0, subst (λ (r : ReplicaView). Contains r.asks of_ask.0) (sym here) of_ask.1), of_ask.2)

-- the asks of all lists afterwards are those before, and others of a list
abbrev pub NoOthers : List ReplicaView → List ReplicaView → List Ask → Type 0
NoOthers rs next new = (j : ℕ) (one : Ask) → Contains (asks_at next j) one → Contains new one ⊎ IsAskOf rs one

-- what is known stays known
pub stay-known : (rs next : List ReplicaView) → Grows rs next → (s : Stamp) → Contains (stamps_known rs) s → Contains (stamps_known next) s
stay-known rs next grows s h =
    let read = known-read rs s h in
    known-has next read.0 s (read.1.0, has-on (asks_at rs read.1.0) (asks_at next read.1.0) (grows.begins read.1.0) read.0 read.1.1) read.2

-- with one new ask only its stamps become known
pub known-from : (rs next : List ReplicaView) (ask : Ask) → NoOthers rs next (ask ∷ []) → (s : Stamp) → Contains (stamps_known next) s → Contains (stamps_known rs) s ⊎ Contains (ask_stamps ask) s
known-from rs next ask from s h =
    let read = known-read next s h in
    elim (from read.1.0 read.0 read.1.1) [
      | inl new ↦ elim (has_read ask [] read.0 new) [
        | inl same ↦ inr (subst (λ (a : Ask). Contains (ask_stamps a) s) (sym same) read.2)
        | inr none ↦ absurd (has_none read.0 none)
      ]
      | inr old ↦ inl (known-has rs read.0 s old read.2)
    ]

-- with none, no stamp
pub known-same : (rs next : List ReplicaView) → NoOthers rs next [] → (s : Stamp) → Contains (stamps_known next) s → Contains (stamps_known rs) s
known-same rs next from s h =
    let read = known-read next s h in
    elim (from read.1.0 read.0 read.1.1) [
      | inl new ↦ absurd (has_none read.0 new)
      | inr old ↦ known-has rs read.0 s old read.2
    ]

-- so what is known stays coherent
pub coherent-on : PartsAreCoherent → (rs next : List ReplicaView) (ask : Ask) → NoOthers rs next (ask ∷ []) → AreCoherent (ask.later ∷ ask.earlier ++ stamps_known rs) → AreCoherent (stamps_known next)
coherent-on part rs next ask from coherent =
    part (stamps_known next) (ask_stamps ask ++ stamps_known rs) coherent (λ s h. elim (known-from rs next ask from s h) [
      | inl old ↦ Contains-append_right (ask_stamps ask) (stamps_known rs) s old
      | inr new ↦ Contains-append_left (ask_stamps ask) (stamps_known rs) s new
    ])

-- and so are they if no ask is new
pub coherent-same : PartsAreCoherent → (rs next : List ReplicaView) → NoOthers rs next [] → AreCoherent (stamps_known rs) → AreCoherent (stamps_known next)
coherent-same part rs next from coherent = part (stamps_known next) (stamps_known rs) coherent (known-same rs next from)

-- and each ask is one
pub asks-on : (rs next : List ReplicaView) (ask : Ask) → NoOthers rs next (ask ∷ []) → IsAsk ask → ((i : ℕ) (one : Ask) → Contains (asks_at rs i) one → IsAsk one) → (i : ℕ) (one : Ask) → Contains (asks_at next i) one → IsAsk one
asks-on rs next ask from is-ask were i one h = elim (from i one h) [
  | inl new ↦ elim (has_read ask [] one new) [
    | inl same ↦ subst (λ (a : Ask). IsAsk a) same is-ask
    | inr none ↦ absurd (has_none one none)
  ]
  | inr old ↦ were old.0 one old.1
]

-- and so if none is new
pub asks-same : (rs next : List ReplicaView) → NoOthers rs next [] → ((i : ℕ) (one : Ask) → Contains (asks_at rs i) one → IsAsk one) → (i : ℕ) (one : Ask) → Contains (asks_at next i) one → IsAsk one
asks-same rs next from were i one h = elim (from i one h) [
  | inl new ↦ absurd (has_none one new)
  | inr old ↦ were old.0 one old.1
]
