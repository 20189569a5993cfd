-- The chain after one replica has changed, as callers see it, and what the code keeps of it.
-- Used by `accept`, `deliver`, `settle_ask` and `stop`.
use Rattle.std.proofs.Common.{◌≡◌, ◌≢◌, ℕ, zero, suc, ◌<◌, ◌≤◌, Bool, true, false, cond, not, List, [], ◌∷◌, length, map, set, Option, Some, None, slice_get, IsTrue, inl, inr, refl, sym, ap, subst, ◌∙◌, arith, eqb-true, nat_eq, nat_lt, is_none}
use Rattle.std.specs.Option.{option_map}
use Rattle.std.proofs.lemmas.Bool.{cases_Bool, cond-true, cond-false, and_parts, and_from}
use Rattle.std.proofs.lemmas.List.{length-set}
use Rattle.std.proofs.lemmas.Option.{none-some}
use Rattle.oracle_chain.specs.declared.ask.Ask.{Ask}
use Rattle.oracle_chain.specs.declared.ask.ChainFault.{ChainFault}
use Rattle.oracle_chain.specs.declared.ask.Delivered.TheVariants.{Taken, Repeat, Gap, Gone}
use Rattle.oracle_chain.specs.declared.message.Sent.{Sent}
use Rattle.oracle_chain.specs.Chain.{ReplicaView, Message, ReplicaChainView, is_live, asks_at, head_number, live_count}
use Rattle.oracle_chain.specs.Calls.{with_ask, with_ask_at, after_accept, delivery_of, delivered_at, is_taken, after_message, after_message_of, after_delivery, stop_fault, after_stop}
use Rattle.oracle_chain.specs.IsReplicaChain.{IsReplicaChain}
use Rattle.oracle_chain.specs.Held.{HeldView, replica_of, message_seen, chain_seen, AreKept}
use Rattle.oracle_chain.proofs.Places.{live-within, head-first}
use Rattle.oracle_chain.proofs.Growing.{Grows, grows-none, ask-grows, stop-grows}
use Rattle.oracle_chain.proofs.Views.{held-length, seen-on, kept-on-seen}

get-map : {A B : Type 0} (f : A → B) (xs : List A) (k : ℕ) (x : A) → slice_get xs k ≡ Some x → slice_get (map f xs) k ≡ Some (f x)
get-map f [] k x e = absurd (none-some x e)
get-map f (y ∷ xs) zero x e = ap (option_map f) e
get-map f (y ∷ xs) (suc k) x e = get-map f xs k x e

get-none : {A B : Type 0} (f : A → B) (xs : List A) (k : ℕ) → slice_get xs k ≡ None → slice_get (map f xs) k ≡ None
get-none f [] k e = refl
get-none f (y ∷ xs) zero e = absurd (none-some y (sym e))
get-none f (y ∷ xs) (suc k) e = get-none f xs k e

-- what became of the message of a number, in the code's words
pub became-is : (held : List HeldView) (sent : List Sent) (number : ℕ) (one : Sent) → slice_get sent number ≡ Some one → delivered_at (chain_seen held sent) number ≡ Some (delivery_of (map replica_of held) (message_seen (map replica_of held) one))
became-is held sent number one at-number = ap (option_map (delivery_of (map replica_of held))) (get-map (message_seen (map replica_of held)) sent number one at-number)

-- and if there is none
pub became-none : (held : List HeldView) (sent : List Sent) (number : ℕ) → slice_get sent number ≡ None → delivered_at (chain_seen held sent) number ≡ None
became-none held sent number none = ap (option_map (delivery_of (map replica_of held))) (get-none (message_seen (map replica_of held)) sent number none)

-- When a message is taken

-- the addressee is live, and its list ends there
pub taken-live : (rs : List ReplicaView) (message : Message) → delivery_of rs message ≡ Taken → IsTrue (is_live rs message.addressee) × (nat_eq message.position (length (asks_at rs message.addressee)) ≡ true)
taken-live rs message e = at (is_live rs message.addressee) (nat_eq message.position (length (asks_at rs message.addressee))) (nat_lt message.position (length (asks_at rs message.addressee))) e
  where
    at : (live here below : Bool) → cond (not live) Gone (cond here Taken (cond below Repeat Gap)) ≡ Taken → IsTrue live × (here ≡ true)
    at true true below e = (refl, refl)
    at true false true e = absurd (cc)
    at true false false e = absurd (cc)
    at false here below e = absurd (cc)

-- so it is
pub taken-is : (rs : List ReplicaView) (message : Message) → delivery_of rs message ≡ Taken → after_message rs message ≡ with_ask rs message.addressee message.ask
taken-is rs message e = let both = taken-live rs message e in cond-true _ _ _ (and_from _ _ both.0 both.1)

-- else nothing changes
pub left-is : (rs : List ReplicaView) (message : Message) → delivery_of rs message ≢ Taken → after_message rs message ≡ rs
left-is rs message other = elim (cases_Bool (is_taken rs message)) [
  | inr left ↦ cond-false _ _ _ left
  | inl taken ↦
      let both = and_parts (is_live rs message.addressee) (nat_eq message.position (length (asks_at rs message.addressee))) taken in
      absurd (other (cond-false _ _ _ (ap not both.0) ∙ cond-true _ _ _ both.1))
]

module _ (held next : List HeldView) (sent : List Sent) (kept : AreKept (map replica_of held) sent) where
  -- what the code keeps, after each list has gone on
  pub holds-on : (rs : List ReplicaView) → map replica_of next ≡ rs → Grows (map replica_of held) rs → length rs ≡ length (map replica_of held) → length held ≤ 5 → IsReplicaChain (record (chain_seen held sent) { replicas = rs })
      → IsReplicaChain (chain_seen next sent) × AreKept (map replica_of next) sent × (length next ≤ 5)
  holds-on rs seen grows many few is = (
    subst (λ (v : ReplicaChainView). IsReplicaChain v) (sym (seen-on held next sent rs seen grows kept)) is,
    kept-on-seen held next sent rs seen grows kept,
    (let old = held-length held in
        let new = held-length next in
        let same = ap (λ (l : List ReplicaView). length l) seen in
        omega (arith, old, new, same, many, few)),
  )

  -- if nothing is seen to change
  pub same-seen : map replica_of next ≡ map replica_of held → chain_seen next sent ≡ chain_seen held sent
  same-seen seen = λ k. record { replicas = seen k; messages = map (message_seen (seen k)) sent }

  -- then the code keeps what it had to
  pub same-holds : map replica_of next ≡ map replica_of held → length held ≤ 5 → IsReplicaChain (chain_seen held sent) → IsReplicaChain (chain_seen next sent) × AreKept (map replica_of next) sent × (length next ≤ 5)
  same-holds seen few is = holds-on (map replica_of held) seen (grows-none (map replica_of held)) refl few is

  -- Accepting

  module _ (ask : Ask) (h : ℕ) (is-head : head_number (map replica_of held) ≡ Some h) (seen : map replica_of next ≡ with_ask (map replica_of held) h ask) where
    accepted : after_accept (chain_seen held sent) ask ≡ record (chain_seen held sent) { replicas = with_ask (map replica_of held) h ask }
    accepted = ap (λ o. record (chain_seen held sent) { replicas = with_ask_at (map replica_of held) o ask }) is-head

    grown : Grows (map replica_of held) (with_ask (map replica_of held) h ask)
    grown = ask-grows (map replica_of held) h ask (live-within (map replica_of held) h (head-first (map replica_of held) h is-head).0)

    -- the head has one ask more
    pub accepted-is : chain_seen next sent ≡ after_accept (chain_seen held sent) ask
    accepted-is = seen-on held next sent (with_ask (map replica_of held) h ask) seen grown kept ∙ sym accepted

    -- and the code keeps what it has to
    pub accepted-holds : length held ≤ 5 → IsReplicaChain (after_accept (chain_seen held sent) ask) → IsReplicaChain (chain_seen next sent) × AreKept (map replica_of next) sent × (length next ≤ 5)
    accepted-holds few is = holds-on (with_ask (map replica_of held) h ask) seen grown (length-set (map replica_of held) h _) few (subst (λ (v : ReplicaChainView). IsReplicaChain v) accepted is)

  -- Delivering

  module _ (number : ℕ) (one : Sent) (at-number : slice_get sent number ≡ Some one) where
    delivered : after_delivery (chain_seen held sent) number ≡ record (chain_seen held sent) { replicas = after_message (map replica_of held) (message_seen (map replica_of held) one) }
    delivered = ap (λ o. record (chain_seen held sent) { replicas = after_message_of (map replica_of held) o }) (get-map (message_seen (map replica_of held)) sent number one at-number)

    -- a message that is not taken changes nothing
    pub left-alone : delivery_of (map replica_of held) (message_seen (map replica_of held) one) ≢ Taken → after_delivery (chain_seen held sent) number ≡ chain_seen held sent
    left-alone other = delivered ∙ ap (λ (l : List ReplicaView). record (chain_seen held sent) { replicas = l }) (left-is (map replica_of held) (message_seen (map replica_of held) one) other)

    module _ (taken : delivery_of (map replica_of held) (message_seen (map replica_of held) one) ≡ Taken) (seen : map replica_of next ≡ with_ask (map replica_of held) one.addressee (message_seen (map replica_of held) one).ask) where
      after-taken : after_delivery (chain_seen held sent) number ≡ record (chain_seen held sent) { replicas = with_ask (map replica_of held) one.addressee (message_seen (map replica_of held) one).ask }
      after-taken = delivered ∙ ap (λ (l : List ReplicaView). record (chain_seen held sent) { replicas = l }) (taken-is (map replica_of held) (message_seen (map replica_of held) one) taken)

      grown-by : Grows (map replica_of held) (with_ask (map replica_of held) one.addressee (message_seen (map replica_of held) one).ask)
      grown-by = ask-grows (map replica_of held) one.addressee (message_seen (map replica_of held) one).ask (live-within (map replica_of held) one.addressee (taken-live (map replica_of held) (message_seen (map replica_of held) one) taken).0)

      -- the addressee has one ask more
      pub taken-seen : chain_seen next sent ≡ after_delivery (chain_seen held sent) number
      taken-seen = seen-on held next sent (with_ask (map replica_of held) one.addressee (message_seen (map replica_of held) one).ask) seen grown-by kept ∙ sym after-taken

      -- and the code keeps what it has to
      pub taken-holds : length held ≤ 5 → IsReplicaChain (after_delivery (chain_seen held sent) number) → IsReplicaChain (chain_seen next sent) × AreKept (map replica_of next) sent × (length next ≤ 5)
      taken-holds few is = holds-on (with_ask (map replica_of held) one.addressee (message_seen (map replica_of held) one).ask) seen grown-by (length-set (map replica_of held) one.addressee _) few (subst (λ (v : ReplicaChainView). IsReplicaChain v) after-taken is)

  -- Stopping

  -- a live replica stops if it isn't the only one
  pub may-stop : (i : ℕ) → is_live (map replica_of held) i ≡ true → live_count (map replica_of held) ≢ 1 → stop_fault (map replica_of held) i ≡ None
  may-stop i live more = cond-false _ _ _ (ap not live) ∙ (elim (cases_Bool (nat_eq (live_count (map replica_of held)) 1)) [
    | inl one ↦ absurd (more (eqb-true _ _ one))
    | inr other ↦ cond-false _ _ _ other
  ])

  module _ (i : ℕ) (within : i < length (map replica_of held)) (none : stop_fault (map replica_of held) i ≡ None) (seen : map replica_of next ≡ set (map replica_of held) i (record { live = false; asks = asks_at (map replica_of held) i })) where
    stopped : after_stop (chain_seen held sent) i ≡ record (chain_seen held sent) { replicas = set (map replica_of held) i (record { live = false; asks = asks_at (map replica_of held) i }) }
    stopped = cond-true _ _ _ (ap (λ (o : Option ChainFault). is_none o) none)

    -- the replica has stopped
    pub stopped-seen : chain_seen next sent ≡ after_stop (chain_seen held sent) i
    stopped-seen = seen-on held next sent (set (map replica_of held) i (record { live = false; asks = asks_at (map replica_of held) i })) seen (stop-grows (map replica_of held) i within) kept ∙ sym stopped

    -- and the code keeps what it has to
    pub stopped-holds : length held ≤ 5 → IsReplicaChain (after_stop (chain_seen held sent) i) → IsReplicaChain (chain_seen next sent) × AreKept (map replica_of next) sent × (length next ≤ 5)
    stopped-holds few is = holds-on (set (map replica_of held) i (record { live = false; asks = asks_at (map replica_of held) i })) seen (stop-grows (map replica_of held) i within) (length-set (map replica_of held) i _) few (subst (λ (v : ReplicaChainView). IsReplicaChain v) stopped is)
