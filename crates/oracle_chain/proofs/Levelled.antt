-- A settle as the code makes it: each live replica appends what it lacks of the head's list and the ask.
-- Used by `settle_ask` and Brought.
use Rattle.std.proofs.Common.{◌≡◌, ℕ, suc, ◌<◌, ◌≤◌, Bool, true, false, cond, List, [], ◌∷◌, ◌++◌, length, map, get_or, slice_get, Option, Some, None, IsTrue, Contains, inl, inr, ◌⊎◌, refl, sym, ap, subst, ◌∙◌, arith}
use Rattle.std.specs.List.{flat_map}
use Rattle.std.proofs.lemmas.Bool.{cases_Bool, cond-true, cond-false}
use Rattle.std.proofs.lemmas.List.{map-append, length-set, length-map}
use Rattle.std.proofs.lemmas.List.Elements.{Contains-append_left, Contains-append_right, Contains-append_cases, Contains-push_cases}
use Rattle.std.proofs.Math.ListN.{get_or-map}
use Rattle.weave_data.proofs.Members.{has_none, flat_has, drop_has}
use Rattle.vector_stamp.specs.declared.clock.Stamp.{Stamp}
use Rattle.vector_stamp.specs.Coherence.{AreCoherent}
use Rattle.vector_stamp.specs.Precedence.{GivenPair, precedes}
use Rattle.vector_stamp.specs.Settling.{refused_place, additions_from, additions, places_of}
use Rattle.oracle_chain.specs.declared.ask.Ask.{Ask}
use Rattle.oracle_chain.specs.declared.ask.Outcome.TheVariants.{Settled}
use Rattle.oracle_chain.specs.declared.message.Sent.{Sent}
use Rattle.oracle_chain.specs.Replay.{outcome_for, outcome_by, outcomes_of, ask_stamps}
use Rattle.oracle_chain.specs.Chain.{ReplicaView, Message, ReplicaChainView, replica_at, is_live, asks_at, asks_of, head_number, tail_asks, stamps_known, pairs_of_chain, no_replica}
use Rattle.oracle_chain.specs.Calls.{with_ask, with_ask_at, levelled, levelling_messages, after_levelling, after_settle, position_accepted, answer_at}
use Rattle.oracle_chain.specs.IsReplicaChain.{IsPrefixOf, IsAsk, IsReplicaChain, MayAsk}
use Rattle.oracle_chain.specs.Judging.{SettlesAs}
use Rattle.oracle_chain.specs.Joining.{known-has}
use Rattle.oracle_chain.specs.Held.{HeldView, replica_of, no_held, message_seen, chain_seen, AreKept, lacked_by, with_more, sent_to_each, MayAppend, EachMayAppend}
use Rattle.oracle_chain.proofs.Begins.{onward, longer}
use Rattle.oracle_chain.proofs.Places.{live-within, set-other, head-first}
use Rattle.oracle_chain.proofs.Growing.{Grows, live-begins-head, ask-here, level-here, level-grows}
use Rattle.oracle_chain.proofs.Asking.{PartsAreCoherent}
use Rattle.oracle_chain.proofs.Views.{held-at, held-length, messages-stay, kept-stay}
use Rattle.oracle_chain.proofs.Lacking.{levels, level-accepted, to-each-is, to-each-kept}

module _ (held : List HeldView) (sent : List Sent) (ask : Ask) (h : ℕ) (is : IsReplicaChain (chain_seen held sent)) (is-head : head_number (map replica_of held) ≡ Some h) where
  -- the head's list and the ask
  abbrev pub list : List Ask
  list = asks_at (map replica_of held) h ++ ask ∷ []

  live-h : IsTrue (is_live (map replica_of held) h)
  live-h = (head-first (map replica_of held) h is-head).0

  within : h < length (map replica_of held)
  within = live-within (map replica_of held) h live-h

  begin : (j : ℕ) → IsTrue (is_live (map replica_of held) j) → IsPrefixOf (asks_at (map replica_of held) j) list
  begin j live = onward (asks_at (map replica_of held) j) (asks_at (map replica_of held) h) list (live-begins-head (map replica_of held) is.ordered h j is-head live) (ask ∷ [], refl)

  -- no live replica has a longer list than the head
  pub head-longest : (j : ℕ) → IsTrue (is_live (map replica_of held) j) → length (asks_at (map replica_of held) j) ≤ length (asks_at (map replica_of held) h)
  head-longest j live = longer (asks_at (map replica_of held) j) (asks_at (map replica_of held) h) (live-begins-head (map replica_of held) is.ordered h j is-head live)

  grows : Grows (map replica_of held) (levelled list (map replica_of held))
  grows = level-grows list (map replica_of held) begin

  has-list : asks_at (levelled list (map replica_of held)) h ≡ list
  has-list = level-here list (map replica_of held) h live-h

  after-is : after_settle (chain_seen held sent) ask ≡ record { replicas = levelled list (map replica_of held); messages = map (message_seen (map replica_of held)) sent ++ levelling_messages list 0 (with_ask (map replica_of held) h ask) }
  after-is =
      ap (λ o. after_levelling (asks_of (map replica_of held) o ++ ask ∷ []) (record (chain_seen held sent) { replicas = with_ask_at (map replica_of held) o ask })) is-head
      ∙ ap (λ (l : List ReplicaView). record { replicas = l; messages = map (message_seen (map replica_of held)) sent ++ levelling_messages list 0 (with_ask (map replica_of held) h ask) }) (level-accepted list (map replica_of held) h ask within live-h)

  messages-are : map (message_seen (levelled list (map replica_of held))) (sent_to_each h (length list) 0 (map replica_of held)) ≡ levelling_messages list 0 (with_ask (map replica_of held) h ask)
  messages-are =
      to-each-is (levelled list (map replica_of held)) list h 0 (map replica_of held) (with_ask (map replica_of held) h ask) has-list (length-set (map replica_of held) h _)
      (λ k n e apart. set-other (map replica_of held) h k _ (λ same. apart (omega (arith, e, same))))
      (λ k n e same below. subst (λ m. asks_at (with_ask (map replica_of held) h ask) m ≡ list) (let f : h ≡ k = omega (arith, e, same) in f) (ask-here (map replica_of held) h ask within))

  -- each replica appends what it lacks, and each is sent it: that is a settle
  pub settled-is : (next : List HeldView) (new : List Sent) → map replica_of next ≡ with_more (map replica_of held) (map (lacked_by list) (map replica_of held)) → new ≡ sent_to_each h (length list) 0 (map replica_of held) → AreKept (map replica_of held) sent
      → chain_seen next (sent ++ new) ≡ after_settle (chain_seen held sent) ask
  settled-is next new seen sends kept =
      ap (λ (l : List ReplicaView). record { replicas = l; messages = map (message_seen l) (sent ++ new) }) (seen ∙ levels list (map replica_of held) begin)
      ∙ ap (λ (ms : List Message). record { replicas = levelled list (map replica_of held); messages = ms }) (
      map-append (message_seen (levelled list (map replica_of held))) sent new
      ∙ (λ i. messages-stay (map replica_of held) (levelled list (map replica_of held)) grows.begins sent kept i ++ (ap (map (message_seen (levelled list (map replica_of held)))) sends ∙ messages-are) i))
      ∙ sym after-is

  -- and the messages are kept in the new lists
  pub settled-kept : (next : List HeldView) (new : List Sent) → map replica_of next ≡ with_more (map replica_of held) (map (lacked_by list) (map replica_of held)) → new ≡ sent_to_each h (length list) 0 (map replica_of held) → AreKept (map replica_of held) sent
      → AreKept (map replica_of next) (sent ++ new)
  settled-kept next new seen sends kept = subst (λ (l : List ReplicaView). AreKept l (sent ++ new)) (sym (seen ∙ levels list (map replica_of held) begin)) (λ one has. elim (Contains-append_cases sent new one has) [
    | inl old ↦ kept-stay (map replica_of held) (levelled list (map replica_of held)) grows.begins sent kept one old
    | inr fresh ↦
        let of = to-each-kept h (length list) 0 (map replica_of held) one (λ j live. longer (asks_at (map replica_of held) j) list (begin j live)) (subst (λ (l : List Sent). Contains l one) sends fresh) in
        subst (λ k. one.position < length (asks_at (levelled list (map replica_of held)) k)) (sym of.0) (subst (λ (l : List Ask). one.position < length l) (sym has-list) of.1)
  ])

  -- so the code keeps what it has to
  pub settled-holds : (next : List HeldView) (new : List Sent) → map replica_of next ≡ with_more (map replica_of held) (map (lacked_by list) (map replica_of held)) → new ≡ sent_to_each h (length list) 0 (map replica_of held) → AreKept (map replica_of held) sent
      → length held ≤ 5 → IsReplicaChain (after_settle (chain_seen held sent) ask) → IsReplicaChain (chain_seen next (sent ++ new)) × AreKept (map replica_of next) (sent ++ new) × (length next ≤ 5)
  settled-holds next new seen sends kept few after = (
    subst (λ (v : ReplicaChainView). IsReplicaChain v) (sym (settled-is next new seen sends kept)) after,
    settled-kept next new seen sends kept,
    (let old = held-length held in
        let now = held-length next in
        let same = ap (λ (l : List ReplicaView). length l) (seen ∙ levels list (map replica_of held) begin) in
        let level = length-map (map replica_of held) (λ (replica : ReplicaView). cond replica.live (record { live = true; asks = list }) replica) in
        omega (arith, old, now, same, level, few)),
  )

  in-list : (one : Ask) → Contains list one → (one ≡ ask) ⊎ Contains (asks_at (map replica_of held) h) one
  in-list one has = elim (Contains-push_cases (asks_at (map replica_of held) h) ask one has) [ inl old ↦ inr old | inr new ↦ inl (sym new) ]

  in-lacked : (r : ReplicaView) (one : Ask) → Contains (lacked_by list r) one → Contains list one
  in-lacked r one has = elim (cases_Bool r.live) [
    | inl live ↦ drop_has (length r.asks) list one (subst (λ (l : List Ask). Contains l one) (cond-true _ _ _ live) has)
    | inr stopped ↦ absurd (has_none one (subst (λ (l : List Ask). Contains l one) (cond-false _ _ _ stopped) has))
  ]

  -- each replica may append what it lacks
  pub each-may : PartsAreCoherent → MayAsk (chain_seen held sent) ask → (now : List HeldView) → map replica_of now ≡ map replica_of held → EachMayAppend now (map (lacked_by list) (map replica_of held))
  each-may part may now same i below =
      let r : ReplicaView = replica_at (map replica_of held) i in
      let has-asks : (get_or now i no_held).asks ≡ r.asks = ap (λ (x : ReplicaView). x.asks) (sym (held-at now i) ∙ ap (λ (l : List ReplicaView). replica_at l i) same) in
      let lacks : get_or (map (lacked_by list) (map replica_of held)) i [] ≡ lacked_by list r = get_or-map (lacked_by list) (map replica_of held) i no_replica in
      subst (λ (more : List Ask). MayAppend (get_or now i no_held) more) (sym lacks) (record {
        are_asks = λ one has. (elim (in-list one (in-lacked r one has)) [
          | inl new ↦ subst (λ (a : Ask). IsAsk a) (sym new) may.is_ask
          | inr old ↦ is.asks h one old
        ]);
        coherent = subst (λ (asks : List Ask). AreCoherent (flat_map ask_stamps (asks ++ lacked_by list r))) (sym has-asks) (part _ (ask_stamps ask ++ stamps_known (map replica_of held)) may.coherent (λ s has.
            let of = flat_has ask_stamps (r.asks ++ lacked_by list r) s has in
            elim (Contains-append_cases r.asks (lacked_by list r) of.0 of.1) [
              | inl own ↦ Contains-append_right (ask_stamps ask) (stamps_known (map replica_of held)) s (known-has (map replica_of held) of.0 s (i, own) of.2)
              | inr more ↦ elim (in-list of.0 (in-lacked r of.0 more)) [
                | inl new ↦ Contains-append_left (ask_stamps ask) (stamps_known (map replica_of held)) s (subst (λ (a : Ask). Contains (ask_stamps a) s) new of.2)
                | inr old ↦ Contains-append_right (ask_stamps ask) (stamps_known (map replica_of held)) s (known-has (map replica_of held) of.0 s (h, old) of.2)
              ]
            ]));
      })

-- what each lacks, as the code makes it
pub lacked-is : (list other : List Ask) (held : List HeldView) → other ≡ list → map (λ (one : HeldView). lacked_by other (replica_of one)) held ≡ map (lacked_by list) (map replica_of held)
lacked-is list other held same = ap (λ (l : List Ask). map (λ (one : HeldView). lacked_by l (replica_of one)) held) same ∙ each held
  where
    each : (xs : List HeldView) → map (λ (one : HeldView). lacked_by list (replica_of one)) xs ≡ map (lacked_by list) (map replica_of xs)
    each [] = refl
    each (x ∷ xs) = ap (λ (l : List (List Ask)). lacked_by list (replica_of x) ∷ l) (each xs)

-- The places of an outcome

added-few : (place : ℕ) (pairs : List GivenPair) (events : List Stamp) (later : Stamp) → length (places_of (additions_from place pairs events later)) ≤ length events
added-few place pairs [] later = omega arith
added-few place pairs (event ∷ events) later = at (precedes pairs event later) (added-few (suc place) pairs events later) (added-few (suc place) (pairs ++ (event, later) ∷ []) events later)
  where
    at : (b : Bool) → length (places_of (additions_from (suc place) pairs events later)) ≤ length events → length (places_of (additions_from (suc place) (pairs ++ (event, later) ∷ []) events later)) ≤ length events
        → length (places_of (cond b (additions_from (suc place) pairs events later) ((place, event) ∷ additions_from (suc place) (pairs ++ (event, later) ∷ []) events later))) ≤ suc (length events)
    at true one other = omega (arith, one)
    at false one other = omega (arith, other)

-- an outcome has at most as many places as the ask has earlier events
pub places-few : (pairs : List GivenPair) (ask : Ask) (places : List ℕ) → outcome_by pairs ask ≡ Settled places → length places ≤ length ask.earlier
places-few pairs ask places given = at (refused_place pairs ask.earlier ask.later) ask.keep given
  where
    at : (o : Option ℕ) (keep : Bool) → outcome_for o (additions keep pairs ask.earlier ask.later) ≡ Settled places → length places ≤ length ask.earlier
    at (Some place) keep e = absurd (cc)
    at None false e = let same : [] ≡ places = cc in let none = ap (λ (l : List ℕ). length l) same in omega (arith, none)
    at None true e =
        let same : places_of (additions_from 0 pairs ask.earlier ask.later) ≡ places = cc in
        let many = ap (λ (l : List ℕ). length l) same in
        let few = added-few 0 pairs ask.earlier ask.later in
        omega (arith, many, few)

-- What the tail gives

-- at the new position it gives what an oracle with the head's pairs answers
pub given-is : (chain : ReplicaChainView) (ask : Ask) (next : List HeldView) (messages : List Sent) (position : ℕ) → SettlesAs chain ask (outcome_by (pairs_of_chain chain) ask) (after_settle chain ask)
    → chain_seen next messages ≡ after_settle chain ask → position ≡ position_accepted chain → slice_get (outcomes_of (tail_asks (map replica_of next))) position ≡ Some (outcome_by (pairs_of_chain chain) ask)
given-is chain ask next messages position settles seen at = ap (λ (v : ReplicaChainView). answer_at v position) seen ∙ ap (λ k. answer_at (after_settle chain ask) k) at ∙ settles.given.given
