-- When a replica may append an ask: a new one at the head, or that of a message.
-- Used by `accept` and `deliver`.
use Rattle.std.proofs.Common.{ℕ, ◌<◌, List, ◌∷◌, ◌++◌, length, Contains, inl, inr}
use Rattle.std.specs.List.{flat_map}
use Rattle.std.proofs.lemmas.List.Elements.{Contains-append_left, Contains-append_right, Contains-append_cases, Contains-get_or}
use Rattle.weave_data.proofs.Members.{flat_has}
use Rattle.vector_stamp.specs.declared.clock.Stamp.{Stamp}
use Rattle.vector_stamp.specs.Coherence.{AreCoherent}
use Rattle.oracle_chain.specs.declared.ask.Ask.{Ask}
use Rattle.oracle_chain.specs.declared.message.Sent.{Sent}
use Rattle.oracle_chain.specs.Replay.{ask_stamps}
use Rattle.oracle_chain.specs.Chain.{ReplicaView, ReplicaChainView, asks_at, stamps_known}
use Rattle.oracle_chain.specs.IsReplicaChain.{IsAsk, IsReplicaChain}
use Rattle.oracle_chain.specs.Joining.{known-has}
use Rattle.oracle_chain.specs.Held.{no_ask, message_seen}
use Rattle.oracle_chain.proofs.Asking.{PartsAreCoherent}

list-known : (rs : List ReplicaView) (i : ℕ) (s : Stamp) → Contains (flat_map ask_stamps (asks_at rs i)) s → Contains (stamps_known rs) s
list-known rs i s has = let of = flat_has ask_stamps (asks_at rs i) s has in known-has rs of.0 s (i, of.1) of.2

-- an ask that may be asked may be appended to any list
pub new-coherent : PartsAreCoherent → (rs : List ReplicaView) (i : ℕ) (ask : Ask) → AreCoherent (ask.later ∷ ask.earlier ++ stamps_known rs) → AreCoherent (ask.later ∷ ask.earlier ++ flat_map ask_stamps (asks_at rs i))
new-coherent part rs i ask coherent = part _ (ask_stamps ask ++ stamps_known rs) coherent (λ s has. elim (Contains-append_cases (ask_stamps ask) (flat_map ask_stamps (asks_at rs i)) s has) [
  | inl own ↦ Contains-append_left (ask_stamps ask) (stamps_known rs) s own
  | inr old ↦ Contains-append_right (ask_stamps ask) (stamps_known rs) s (list-known rs i s old)
])

-- a message's ask is one of a list
pub sent-has : (rs : List ReplicaView) (sent : Sent) → sent.position < length (asks_at rs sent.kept_by) → Contains (asks_at rs sent.kept_by) (message_seen rs sent).ask
sent-has rs sent within = Contains-get_or (asks_at rs sent.kept_by) sent.position no_ask within

-- so it may be asked
pub sent-is-ask : (chain : ReplicaChainView) (sent : Sent) → IsReplicaChain chain → sent.position < length (asks_at chain.replicas sent.kept_by) → IsAsk (message_seen chain.replicas sent).ask
sent-is-ask chain sent is within = is.asks sent.kept_by (message_seen chain.replicas sent).ask (sent-has chain.replicas sent within)

-- and it may be appended to any list
pub sent-coherent : PartsAreCoherent → (chain : ReplicaChainView) (sent : Sent) (i : ℕ) → IsReplicaChain chain → sent.position < length (asks_at chain.replicas sent.kept_by)
    → AreCoherent ((message_seen chain.replicas sent).ask.later ∷ (message_seen chain.replicas sent).ask.earlier ++ flat_map ask_stamps (asks_at chain.replicas i))
sent-coherent part chain sent i is within =
    let ask = (message_seen chain.replicas sent).ask in
    part _ (stamps_known chain.replicas) is.coherent (λ s has. elim (Contains-append_cases (ask_stamps ask) (flat_map ask_stamps (asks_at chain.replicas i)) s has) [
      | inl own ↦ known-has chain.replicas ask s (sent.kept_by, sent-has chain.replicas sent within) own
      | inr old ↦ list-known chain.replicas i s old
    ])
