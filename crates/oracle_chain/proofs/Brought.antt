-- A settle as the code makes it, step by step: what it makes for the replicas, and the chain after it.
-- Used by `settle_ask`.
use Rattle.std.proofs.Common.{◌≡◌, ℕ, ◌+◌, ◌≤◌, List, [], ◌∷◌, ◌++◌, length, map, take, drop, get_or, Some, slice_get, refl, sym, ap, subst, ◌∙◌, arith}
use Rattle.std.proofs.lemmas.List.{length-append}
use Rattle.oracle_chain.specs.declared.ask.Ask.{Ask}
use Rattle.oracle_chain.specs.declared.ask.Outcome.{Outcome}
use Rattle.oracle_chain.specs.declared.message.Sent.{Sent}
use Rattle.oracle_chain.specs.Replay.{outcome_by, outcomes_of}
use Rattle.oracle_chain.specs.Chain.{ReplicaView, ReplicaChainView, head_number, tail_asks, pairs_of_chain}
use Rattle.oracle_chain.specs.Calls.{after_settle}
use Rattle.oracle_chain.specs.IsReplicaChain.{IsReplicaChain, MayAsk}
use Rattle.oracle_chain.specs.Judging.{SettlesAs}
use Rattle.oracle_chain.specs.Held.{HeldView, replica_of, chain_seen, AreKept, lacked_by, with_more, sent_to_each, EachMayAppend}
use Rattle.oracle_chain.proofs.Asking.{PartsAreCoherent}
use Rattle.oracle_chain.proofs.Views.{held-length, held-read, head-here, written-is, position-is}
use Rattle.oracle_chain.proofs.Levelled.{list, each-may, lacked-is, settled-is, settled-holds, given-is}

-- as many replicas as before have further asks
pub more-length : (rs : List ReplicaView) (more : List (List Ask)) → length (with_more rs more) ≡ length rs
more-length [] more = refl
more-length (r ∷ rs) [] = refl
more-length (r ∷ rs) (m ∷ more) = let rest = more-length rs more in omega (arith, rest)

-- what the code knows once each replica has the memory for what it lacks
pub record Reserves (held : List HeldView) (sent : List Sent) (ask : Ask) (n h : ℕ) (one : HeldView) (asks : List Ask) (lacked : List (List Ask)) (reserved : List HeldView) : Type 0 where
  pub is : IsReplicaChain (chain_seen held sent)
  pub kept : AreKept (map replica_of held) sent
  pub few : length held ≤ 5
  pub may : MayAsk (chain_seen held sent) ask
  pub long : n ≡ length held
  pub is_head : head_number (map replica_of held) ≡ Some h
  pub here : one ≡ get_or held h one
  pub read : asks ≡ one.asks
  pub lacks : lacked ≡ map (λ (x : HeldView). lacked_by (asks ++ ask ∷ []) (replica_of x)) held
  pub same : map replica_of reserved ≡ map replica_of held

module _ (held : List HeldView) (sent : List Sent) (ask : Ask) (n h : ℕ) (one : HeldView) (asks : List Ask) (lacked : List (List Ask)) (reserved : List HeldView)
    (r : Reserves held sent ask n h one asks lacked reserved) where
  -- the head's list and the ask
  list-is : asks ++ ask ∷ [] ≡ list held sent ask h r.is r.is_head
  list-is = ap (λ (l : List Ask). l ++ ask ∷ []) (r.read ∙ sym (ap (λ (x : ReplicaView). x.asks) (held-read held h one (head-here held h r.is_head) r.here)))

  lacked-are : lacked ≡ map (lacked_by (list held sent ask h r.is r.is_head)) (map replica_of held)
  lacked-are = r.lacks ∙ lacked-is (list held sent ask h r.is r.is_head) (asks ++ ask ∷ []) held list-is

  reserved-seen : map replica_of (take n (reserved ++ drop (length reserved) held)) ≡ map replica_of held
  reserved-seen = written-is held reserved n (map replica_of held) r.long r.same (held-length held)

  -- each replica may append what it lacks
  pub all-may : PartsAreCoherent → (lent : List HeldView) → lent ≡ take n (reserved ++ drop (length reserved) held) → EachMayAppend lent lacked
  all-may part lent whole =
      subst (λ (more : List (List Ask)). EachMayAppend lent more) (sym lacked-are)
      (each-may held sent ask h r.is r.is_head part r.may lent (ap (λ (l : List HeldView). map replica_of l) whole ∙ reserved-seen))

  module _ (all : List Sent) (appended lent : List HeldView) (whole : lent ≡ take n (reserved ++ drop (length reserved) held)) (more : map replica_of appended ≡ with_more (map replica_of lent) lacked)
      (sends : all ≡ sent ++ sent_to_each h (length asks + 1) 0 (map replica_of held)) where
    appended-seen : map replica_of (take n (appended ++ drop (length appended) (take n (reserved ++ drop (length reserved) held)))) ≡ with_more (map replica_of held) (map (lacked_by (list held sent ask h r.is r.is_head)) (map replica_of held))
    appended-seen =
        let before = ap (λ (l : List HeldView). map replica_of l) whole ∙ reserved-seen in
        let first = held-length (take n (reserved ++ drop (length reserved) held)) in
        let seen = ap (λ (l : List ReplicaView). length l) reserved-seen in
        let old = held-length held in
        let count = more-length (map replica_of held) lacked in
        written-is (take n (reserved ++ drop (length reserved) held)) appended n (with_more (map replica_of held) lacked)
        (let l = r.long in omega (arith, l, first, seen, old))
        (more ∙ ap (λ (l : List ReplicaView). with_more l lacked) before)
        (omega (arith, first, seen, count))
        ∙ ap (λ (m : List (List Ask)). with_more (map replica_of held) m) lacked-are

    sent-are : sent_to_each h (length asks + 1) 0 (map replica_of held) ≡ sent_to_each h (length (list held sent ask h r.is r.is_head)) 0 (map replica_of held)
    sent-are =
        let long = length-append asks (ask ∷ []) in
        let same : length asks + 1 ≡ length (asks ++ ask ∷ []) = omega (arith, long) in
        ap (λ k. sent_to_each h k 0 (map replica_of held)) (same ∙ ap (λ (l : List Ask). length l) list-is)

    -- after each has appended what it lacks, the chain is as after a settle
    pub brought-is : chain_seen (take n (appended ++ drop (length appended) (take n (reserved ++ drop (length reserved) held)))) all ≡ after_settle (chain_seen held sent) ask
    brought-is =
        ap (λ (ms : List Sent). chain_seen (take n (appended ++ drop (length appended) (take n (reserved ++ drop (length reserved) held)))) ms) sends
        ∙ settled-is held sent ask h r.is r.is_head (take n (appended ++ drop (length appended) (take n (reserved ++ drop (length reserved) held)))) (sent_to_each h (length asks + 1) 0 (map replica_of held)) appended-seen sent-are r.kept

    -- and the code keeps what it has to
    pub brought-holds : IsReplicaChain (after_settle (chain_seen held sent) ask)
        → IsReplicaChain (chain_seen (take n (appended ++ drop (length appended) (take n (reserved ++ drop (length reserved) held)))) all)
        × AreKept (map replica_of (take n (appended ++ drop (length appended) (take n (reserved ++ drop (length reserved) held))))) all
        × (length (take n (appended ++ drop (length appended) (take n (reserved ++ drop (length reserved) held)))) ≤ 5)
    brought-holds after =
        subst (λ (ms : List Sent). IsReplicaChain (chain_seen (take n (appended ++ drop (length appended) (take n (reserved ++ drop (length reserved) held)))) ms)
        × AreKept (map replica_of (take n (appended ++ drop (length appended) (take n (reserved ++ drop (length reserved) held))))) ms
        × (length (take n (appended ++ drop (length appended) (take n (reserved ++ drop (length reserved) held)))) ≤ 5)) (sym sends)
        (settled-holds held sent ask h r.is r.is_head (take n (appended ++ drop (length appended) (take n (reserved ++ drop (length reserved) held)))) (sent_to_each h (length asks + 1) 0 (map replica_of held)) appended-seen sent-are r.kept r.few after)

    -- the tail has the outcome of an oracle with the head's pairs
    pub brought-gives : SettlesAs (chain_seen held sent) ask (outcome_by (pairs_of_chain (chain_seen held sent)) ask) (after_settle (chain_seen held sent) ask) → (read : List HeldView)
        → read ≡ take n (appended ++ drop (length appended) (take n (reserved ++ drop (length reserved) held)))
        → slice_get (outcomes_of (tail_asks (map replica_of read))) (length asks) ≡ Some (outcome_by (pairs_of_chain (chain_seen held sent)) ask)
    brought-gives settles read is =
        ap (λ (l : List HeldView). slice_get (outcomes_of (tail_asks (map replica_of l))) (length asks)) is
        ∙ given-is (chain_seen held sent) ask (take n (appended ++ drop (length appended) (take n (reserved ++ drop (length reserved) held)))) all (length asks) settles brought-is
        (ap (λ (l : List Ask). length l) r.read ∙ position-is held sent h one r.is_head (head-here held h r.is_head) r.here)

-- what a settle promises, of the chain and the outcome as the code has them
pub judged-is : (chain now next : ReplicaChainView) (ask : Ask) (result : Outcome) → SettlesAs chain ask (outcome_by (pairs_of_chain chain) ask) (after_settle chain ask)
    → chain ≡ now → next ≡ after_settle chain ask → result ≡ outcome_by (pairs_of_chain chain) ask → SettlesAs now ask result next
judged-is chain now next ask result settles was is given =
    subst (λ (v : ReplicaChainView). SettlesAs v ask result next) was
    (subst (λ (v : ReplicaChainView). SettlesAs chain ask result v) (sym is)
    (subst (λ (o : Outcome). SettlesAs chain ask o (after_settle chain ask)) (sym given) settles))
