-- The chain that callers see, after a change of its parts.
-- Used by `accept`, `append_at`, `deliver`, `forward`, `new`, `reserve_in_each`, `settle_ask`, `stop`, `stop_at`,
-- Brought, Changed, Levelled and Rooms.
use Rattle.std.proofs.Common.{◌≡◌, ℕ, zero, suc, ◌+◌, ◌<◌, ◌≤◌, true, false, List, [], ◌∷◌, ◌++◌, length, map, set, get_or, take, drop, IsTrue, Some, slice_get, inl, inr, refl, sym, ap, subst, ◌∙◌, arith}
use Rattle.std.proofs.lemmas.Bool.{cond-true}
use Rattle.std.proofs.lemmas.List.{map-set, map-append, get_or_append_left, length-map, append-nil, take_all, drop_all}
use Rattle.std.proofs.lemmas.List.Elements.{Contains-push_cases}
use Rattle.std.proofs.Math.ListN.{get_or-map}
use Rattle.std.proofs.Math.Seq.{map-set_same}
use Rattle.weave_data.proofs.Members.{has_head, has_tail}
use Rattle.oracle_chain.specs.declared.ask.Ask.{Ask}
use Rattle.oracle_chain.specs.declared.message.Sent.{Sent}
use Rattle.oracle_chain.specs.Chain.{ReplicaView, Message, replica_at, is_live, asks_at, asks_of, head_number, number_after}
use Rattle.oracle_chain.specs.Calls.{with_ask, new_replicas, new_chain, position_accepted, message_if, messages_sent, after_forward}
use Rattle.oracle_chain.specs.IsReplicaChain.{IsPrefixOf}
use Rattle.oracle_chain.specs.Held.{HeldView, replica_of, no_held, no_ask, message_seen, chain_seen, AreKept}
use Rattle.oracle_chain.proofs.Begins.{longer}
use Rattle.oracle_chain.proofs.Places.{live-within, head-first, next-is}
use Rattle.oracle_chain.proofs.Growing.{Grows}

-- the replica of a number
pub held-at : (held : List HeldView) (i : ℕ) → replica_at (map replica_of held) i ≡ replica_of (get_or held i no_held)
held-at held i = get_or-map replica_of held i no_held

-- a replica that is there, however it was read
pub held-read : (held : List HeldView) (i : ℕ) (one : HeldView) → i < length held → one ≡ get_or held i one → replica_at (map replica_of held) i ≡ replica_of one
held-read held i one within is = held-at held i ∙ ap replica_of (sym (read held i one within is))
  where
    read : (xs : List HeldView) (k : ℕ) (x : HeldView) → k < length xs → x ≡ get_or xs k x → x ≡ get_or xs k no_held
    read [] k x below e = absurd (omega (arith, below))
    read (y ∷ xs) zero x below e = e
    read (y ∷ xs) (suc k) x below e = read xs k x (omega (arith, below)) e

-- as many replicas are seen as there are
pub held-length : (held : List HeldView) → length (map replica_of held) ≡ length held
held-length held = length-map held replica_of

-- Messages

-- if the lists go on, each message is the one that it was
pub messages-stay : (rs next : List ReplicaView) → ((i : ℕ) → IsPrefixOf (asks_at rs i) (asks_at next i)) → (sent : List Sent) → AreKept rs sent → map (message_seen next) sent ≡ map (message_seen rs) sent
messages-stay rs next begins [] kept = refl
messages-stay rs next begins (one ∷ sent) kept =
    let on = begins one.kept_by in
    let same : get_or (asks_at next one.kept_by) one.position no_ask ≡ get_or (asks_at rs one.kept_by) one.position no_ask =
    ap (λ (asks : List Ask). get_or asks one.position no_ask) on.1 ∙ get_or_append_left (asks_at rs one.kept_by) on.0 no_ask one.position (kept one (has_head one sent)) in
    let first : message_seen next one ≡ message_seen rs one = ap (λ (ask : Ask). record { addressee = one.addressee; position = one.position; ask = ask }) same in
    let rest = messages-stay rs next begins sent (λ other h. kept other (has_tail one sent other h)) in
    λ i. first i ∷ rest i

-- and is kept as it was
pub kept-stay : (rs next : List ReplicaView) → ((i : ℕ) → IsPrefixOf (asks_at rs i) (asks_at next i)) → (sent : List Sent) → AreKept rs sent → AreKept next sent
kept-stay rs next begins sent kept one h =
    let was = kept one h in
    let more = longer (asks_at rs one.kept_by) (asks_at next one.kept_by) (begins one.kept_by) in
    omega (arith, was, more)

-- the chain that is seen if the replicas are these
pub seen-on : (held next : List HeldView) (sent : List Sent) (rs : List ReplicaView) → map replica_of next ≡ rs → Grows (map replica_of held) rs → AreKept (map replica_of held) sent
    → chain_seen next sent ≡ record (chain_seen held sent) { replicas = rs }
seen-on held next sent rs same grows kept =
    ap (λ (l : List ReplicaView). record { replicas = l; messages = map (message_seen l) sent }) same
    ∙ ap (λ (ms : List Message). record { replicas = rs; messages = ms }) (messages-stay (map replica_of held) rs grows.begins sent kept)

-- and the messages are kept in them
pub kept-on-seen : (held next : List HeldView) (sent : List Sent) (rs : List ReplicaView) → map replica_of next ≡ rs → Grows (map replica_of held) rs → AreKept (map replica_of held) sent → AreKept (map replica_of next) sent
kept-on-seen held next sent rs same grows kept = subst (λ (l : List ReplicaView). AreKept l sent) (sym same) (kept-stay (map replica_of held) rs grows.begins sent kept)

-- What is written back

-- a slice that was lent is written back whole
pub back-is : (held new : List HeldView) (n : ℕ) → n ≡ length held → length new ≡ length held → take n (new ++ drop (length new) held) ≡ new
back-is held new n long many =
    ap (λ (l : List HeldView). take n (new ++ l)) (drop_all (length new) held (omega (arith, many)))
    ∙ ap (λ (l : List HeldView). take n l) (append-nil new)
    ∙ take_all n new (omega (arith, long, many))

-- and seen as it was made
pub written-is : (held new : List HeldView) (n : ℕ) (rs : List ReplicaView) → n ≡ length held → map replica_of new ≡ rs → length rs ≡ length held → map replica_of (take n (new ++ drop (length new) held)) ≡ rs
written-is held new n rs long seen many =
    let seen-long = ap (λ (l : List ReplicaView). length l) seen in
    let new-long = held-length new in
    let over : length held ≤ length new = omega (arith, seen-long, new-long, many) in
    let under : length new ≤ n = omega (arith, seen-long, new-long, many, long) in
    ap (λ (l : List HeldView). map replica_of (take n (new ++ l))) (drop_all (length new) held over)
    ∙ ap (λ (l : List HeldView). map replica_of (take n l)) (append-nil new)
    ∙ ap (map replica_of) (take_all n new under)
    ∙ seen

-- One replica changed

module _ (held : List HeldView) (i : ℕ) (one new : HeldView) (within : i < length held) (is : one ≡ get_or held i one) where
  -- one ask more
  pub asked-is : (ask : Ask) → new.live ≡ one.live → new.asks ≡ one.asks ++ ask ∷ [] → map replica_of (set held i new) ≡ with_ask (map replica_of held) i ask
  asked-is ask live asks =
      let was = held-read held i one within is in
      let seen : replica_of new ≡ record { live = is_live (map replica_of held) i; asks = asks_at (map replica_of held) i ++ ask ∷ [] } =
      (λ k. record { live = (live ∙ ap (λ (r : ReplicaView). r.live) (sym was)) k; asks = (asks ∙ ap (λ (r : ReplicaView). r.asks ++ ask ∷ []) (sym was)) k }) in
      map-set replica_of held i new ∙ ap (λ (r : ReplicaView). set (map replica_of held) i r) seen

  -- seen as it was
  pub same-is : new.live ≡ one.live → new.asks ≡ one.asks → map replica_of (set held i new) ≡ map replica_of held
  same-is live asks = map-set_same replica_of held i new one ((λ k. record { live = live k; asks = asks k }) ∙ ap replica_of is)

  -- stopped
  pub stopped-is : new.live ≡ false → new.asks ≡ one.asks → map replica_of (set held i new) ≡ set (map replica_of held) i (record { live = false; asks = asks_at (map replica_of held) i })
  stopped-is live asks =
      let was = held-read held i one within is in
      let seen : replica_of new ≡ record { live = false; asks = asks_at (map replica_of held) i } =
      (λ k. record { live = live k; asks = (asks ∙ ap (λ (r : ReplicaView). r.asks) (sym was)) k }) in
      map-set replica_of held i new ∙ ap (λ (r : ReplicaView). set (map replica_of held) i r) seen

  -- its number is one of those that are seen
  pub within-seen : i < length (map replica_of held)
  within-seen = let long = held-length held in omega (arith, long, within)

-- What is found

-- a live replica is there
pub live-here : (held : List HeldView) (i : ℕ) → IsTrue (is_live (map replica_of held) i) → i < length held
live-here held i live = let within = live-within (map replica_of held) i live in let long = held-length held in omega (arith, within, long)

-- the head is there
pub head-here : (held : List HeldView) (h : ℕ) → head_number (map replica_of held) ≡ Some h → h < length held
head-here held h is = live-here held h (head-first (map replica_of held) h is).0

-- so is the one that comes next
pub next-here : (held : List HeldView) (i n : ℕ) → number_after (map replica_of held) i ≡ Some n → n < length held
next-here held i n is = live-here held n (next-is (map replica_of held) i n is).1

-- One message more

some-at : (xs : List Ask) (k : ℕ) → k < length xs → slice_get xs k ≡ Some (get_or xs k no_ask)
some-at [] k within = absurd (omega (arith, within))
some-at (x ∷ xs) zero within = refl
some-at (x ∷ xs) (suc k) within = some-at xs k (omega (arith, within))

module _ (held : List HeldView) (sent : List Sent) (i position n : ℕ) (live : is_live (map replica_of held) i ≡ true) (next : number_after (map replica_of held) i ≡ Some n) (within : position < length (asks_at (map replica_of held) i)) where
  sent-is : messages_sent (map replica_of held) i position ≡ message_seen (map replica_of held) (record { addressee = n; position = position; kept_by = i }) ∷ []
  sent-is =
      cond-true _ _ _ live
      ∙ ap (λ o. message_if o position (slice_get (asks_at (map replica_of held) i) position)) next
      ∙ ap (λ o. message_if (Some n) position o) (some-at (asks_at (map replica_of held) i) position within)

  -- a message more is a forward
  pub forwarded-is : chain_seen held (sent ++ record { addressee = n; position = position; kept_by = i } ∷ []) ≡ after_forward (chain_seen held sent) i position
  forwarded-is = ap (λ (ms : List Message). record { replicas = map replica_of held; messages = ms })
      (map-append (message_seen (map replica_of held)) sent _ ∙ ap (λ (ms : List Message). map (message_seen (map replica_of held)) sent ++ ms) (sym sent-is))

  -- and it is kept
  pub forwarded-kept : AreKept (map replica_of held) sent → AreKept (map replica_of held) (sent ++ record { addressee = n; position = position; kept_by = i } ∷ [])
  forwarded-kept kept one has = elim (Contains-push_cases sent _ one has) [
    | inl old ↦ kept one old
    | inr new ↦ subst (λ (s : Sent). s.position < length (asks_at (map replica_of held) s.kept_by)) new within
  ]

-- New chains

-- it is seen as a new chain
pub new-seen : (held : List HeldView) (sent : List Sent) (n : ℕ) → map replica_of held ≡ new_replicas n → sent ≡ [] → chain_seen held sent ≡ new_chain n
new-seen held sent n is none = λ k. record { replicas = is k; messages = map (message_seen (is k)) (none k) }

-- a new chain has that many replicas
pub new-length : (n : ℕ) → length (new_replicas n) ≡ n
new-length zero = refl
new-length (suc n) = ap suc (new-length n)

-- one more new replica
pub one-more-new : (n : ℕ) (held : List HeldView) (new : HeldView) → map replica_of held ≡ new_replicas n → new.live ≡ true → new.asks ≡ [] → map replica_of (held ++ new ∷ []) ≡ new_replicas (n + 1)
one-more-new n held new is live asks = push held ∙ (λ k. is k ++ one k ∷ []) ∙ at-end n ∙ ap new_replicas (let e : suc n ≡ n + 1 = omega arith in e)
  where
    one : replica_of new ≡ record { live = true; asks = [] }
    one = λ k. record { live = live k; asks = asks k }

    push : (xs : List HeldView) → map replica_of (xs ++ new ∷ []) ≡ map replica_of xs ++ replica_of new ∷ []
    push [] = refl
    push (x ∷ xs) = ap (λ (l : List ReplicaView). replica_of x ∷ l) (push xs)

    at-end : (n : ℕ) → new_replicas n ++ record { live = true; asks = [] } ∷ [] ≡ new_replicas (suc n)
    at-end zero = refl
    at-end (suc n) = ap (λ (l : List ReplicaView). record { live = true; asks = [] } ∷ l) (at-end n)

-- The position that an ask gets is where the head's list ends
pub position-is : (held : List HeldView) (sent : List Sent) (h : ℕ) (one : HeldView) → head_number (map replica_of held) ≡ Some h → h < length held → one ≡ get_or held h one → length one.asks ≡ position_accepted (chain_seen held sent)
position-is held sent h one is-head within is =
    ap (λ (r : ReplicaView). length r.asks) (sym (held-read held h one within is))
    ∙ ap (λ o. length (asks_of (map replica_of held) o)) (sym is-head)
