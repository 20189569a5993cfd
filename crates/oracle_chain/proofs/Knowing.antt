-- Which stamps become known by a call: those of the ask that it brings.
-- Used by `stamps_come_with_asks`.
use Rattle.std.proofs.Common.{◌≡◌, ℕ, zero, suc, Bool, true, false, not, List, [], length, Option, None, Some, IsTrue, Contains, inl, inr, ◌⊎◌, refl, sym, ap, subst, slice_get, nat_eq, is_none}
use Rattle.std.proofs.lemmas.Bool.{cases_Bool, both_ways, cond-true, cond-false, and_parts}
use Rattle.std.proofs.lemmas.Option.{slice_get_within, get_or_from_slice_get}
use Rattle.vector_stamp.specs.declared.clock.Stamp.{Stamp}
use Rattle.oracle_chain.specs.declared.ask.Ask.{Ask}
use Rattle.oracle_chain.specs.declared.ask.ChainFault.{ChainFault}
use Rattle.oracle_chain.specs.Chain.{ReplicaView, Message, ReplicaChainView, is_live, asks_at, head_number, stamps_known}
use Rattle.oracle_chain.specs.Calls.{new_replicas, with_ask_at, is_taken, after_message, after_message_of, stop_fault, after_stop, Call, Accept, Forward, Deliver, Stop, Answer, Settle, stamps_called, after_call}
use Rattle.oracle_chain.specs.IsReplicaChain.{IsReplicaChain, MayCall}
use Rattle.oracle_chain.proofs.Places.{live-within}
use Rattle.oracle_chain.proofs.Growing.{ask-from, stop-asks}
use Rattle.oracle_chain.proofs.Asking.{PartsAreCoherent, NoOthers, known-from, known-same}
use Rattle.oracle_chain.proofs.AsJudge.{accept-from, settle-from}

-- a new chain knows none
pub known-new : (n : ℕ) → stamps_known (new_replicas n) ≡ []
known-new zero = refl
known-new (suc n) = known-new n

module _ (part : PartsAreCoherent) (chain : ReplicaChainView) (is : IsReplicaChain chain) where
  message-from : (message : Message) → Contains chain.messages message → NoOthers chain.replicas (after_message chain.replicas message) []
  message-from message has j one h = elim (cases_Bool (is_taken chain.replicas message)) [
    | inl taken ↦
        let live = (and_parts (is_live chain.replicas message.addressee) (nat_eq message.position (length (asks_at chain.replicas message.addressee))) taken).0 in
        let kept = is.kept message has in
        elim (ask-from chain.replicas message.addressee message.ask (live-within chain.replicas message.addressee live) j one (subst (λ (rs : List ReplicaView). Contains (asks_at rs j) one) (cond-true _ _ _ taken) h)) [
          | inl new ↦ inr (kept.0, subst (λ (a : Ask). Contains (asks_at chain.replicas kept.0) a) (sym new) (message.position, slice_get_within (asks_at chain.replicas kept.0) message.position message.ask kept.1, get_or_from_slice_get (asks_at chain.replicas kept.0) message.position message.ask message.ask kept.1))
          | inr old ↦ inr (j, old)
        ]
    | inr left ↦ inr (j, subst (λ (rs : List ReplicaView). Contains (asks_at rs j) one) (cond-false _ _ _ left) h)
  ]

  message-of-from : (number : ℕ) (o : Option Message) → slice_get chain.messages number ≡ o → NoOthers chain.replicas (after_message_of chain.replicas o) []
  message-of-from number None e = λ j one h. inr (j, h)
  message-of-from number (Some message) e = message-from message (number, slice_get_within chain.messages number message e, get_or_from_slice_get chain.messages number message message e)

  stop-from : (i : ℕ) → NoOthers chain.replicas (after_stop chain i).replicas []
  stop-from i j one h = elim (cases_Bool (is_none (stop_fault chain.replicas i))) [
    | inl none ↦
        let live : IsTrue (is_live chain.replicas i) = live-of (is_live chain.replicas i) refl none in
        inr (j, subst (λ (l : List Ask). Contains l one) (stop-asks chain.replicas i (live-within chain.replicas i live) j) (subst (λ (c : ReplicaChainView). Contains (asks_at c.replicas j) one) (cond-true _ _ _ none) h))
    | inr fault ↦ inr (j, subst (λ (c : ReplicaChainView). Contains (asks_at c.replicas j) one) (cond-false _ _ _ fault) h)
  ]
    where
      live-of : (b : Bool) → is_live chain.replicas i ≡ b → is_none (stop_fault chain.replicas i) ≡ true → IsTrue b
      live-of true e none = refl
      live-of false e none = absurd (both_ways (is_none (stop_fault chain.replicas i)) (ap (λ (o : Option ChainFault). is_none o) (cond-true _ _ _ (ap not e))) none)

  -- no other stamp becomes known
  pub known-by-call : (call : Call) → MayCall chain call → (s : Stamp) → Contains (stamps_known (after_call chain call).replicas) s → Contains (stamps_known chain.replicas) s ⊎ Contains (stamps_called call) s
  known-by-call (Accept ask) may s h = known-from chain.replicas (with_ask_at chain.replicas (head_number chain.replicas) ask) ask (accept-from part chain ask is may (head_number chain.replicas) refl) s h
  known-by-call (Forward number position) may s h = inl h
  known-by-call (Deliver number) may s h = inl (known-same chain.replicas (after_message_of chain.replicas (slice_get chain.messages number)) (message-of-from number (slice_get chain.messages number) refl) s h)
  known-by-call (Stop number) may s h = inl (known-same chain.replicas (after_stop chain number).replicas (stop-from number) s h)
  known-by-call (Answer position) may s h = inl h
  known-by-call (Settle ask) may s h = known-from chain.replicas (after_call chain (Settle ask)).replicas ask (settle-from part chain ask is may) s h
