-- What is processed is what was sent, in number order.
-- Used by `channels_give_what_was_sent` and `each_number_waits_by_itself`.
use Rattle.std.proofs.Common.{append_assoc, add-one, get_or, ◌≡◌, ◌≢◌, ℕ, suc, ◌+◌, ◌-◌, ◌<◌, ◌≤◌, Bool, true, false, ◌||◌, cond, List, [], ◌∷◌, ◌++◌, take, length, Contains, inl, inr, Option, Some, None, refl, sym, ap, subst, ◌∙◌, arith}
use Rattle.std.specs.Prelude.{◌==◌, fold, nat_le, is_some}
use Rattle.std.specs.List.{list_any, slice_get}
use Rattle.std.specs.Ordering.{nat_cmp}
use Rattle.std.specs.Map.{lookup}
use Rattle.std.specs.BTreeMap.{insert_entry, is_at}
use Rattle.std.proofs.Math.Bool.{or-false}
use Rattle.std.proofs.lemmas.Bool.Decides.{eqb_tells, leb_tells}
use Rattle.std.proofs.lemmas.Bool.{le-leb, ne_eqb}
use Rattle.std.proofs.Math.Seq.{take-suc}
use Rattle.std.proofs.lemmas.List.{append-nil}
use Rattle.std.proofs.lemmas.Option.{slice_get_within, get_or_from_slice_get}
use Rattle.weave_data.proofs.Members.{has_head, has_tail}
use Rattle.vector_stamp.specs.declared.clock.Stamp.{Stamp}
use Rattle.shard_queue.specs.Outbox.{sent_as}
use Rattle.shard_queue.specs.Inbox.{Incoming, Event, Arrives, TakesHead, nothing_arrived, waiting_head, has_arrived, after_head_if, after_event, inbox_after, taken_messages, taken_by, processed_in, is_arrival_of, AreOfSent, waiting_at, WaitingLaws}
use Rattle.shard_queue.proofs.Waiting.{put-there, put-others, take-others, AllWaiting, all-put, all-take, all-found}

or-true : (b : Bool) → (b || true) ≡ true
or-true true = refl
or-true false = refl

or-assoc : (a b c : Bool) → ((a || b) || c) ≡ (a || (b || c))
or-assoc true b c = refl
or-assoc false b c = refl

le-more : (n p : ℕ) → n ≢ p + 1 → nat_le n (p + 1) ≡ nat_le n p
le-more n p other = elim (leb_tells n p) [
  | inl le ↦ le-leb n (p + 1) (omega (arith, le.1)) ∙ sym le.0
  | inr over ↦ elim (leb_tells n (p + 1)) [
    | inl le ↦ absurd (other (omega (arith, le.1, over.1)))
    | inr past ↦ past.0 ∙ sym over.0
  ]
]

module _ {M : Type 0} (stamp_of : M → Stamp) where
  -- The numbers that have arrived

  arrives_at : (n k : ℕ) (m : M) (inbox : Incoming M) (before : Bool) → has_arrived k inbox ≡ before → has_arrived n (cond before inbox (record inbox { waiting = insert_entry nat_cmp inbox.waiting k m })) ≡ (has_arrived n inbox || (n == k))
  arrives_at n k m inbox true arrived = elim (eqb_tells n k) [
    | inl same ↦ rw same.0 (subst (λ (i : ℕ). has_arrived i inbox ≡ true) (sym same.1) arrived ∙ sym (or-true (has_arrived n inbox)))
    | inr other ↦ rw other.0 (sym (or-false (has_arrived n inbox)))
  ]
  arrives_at n k m inbox false arrived = elim (eqb_tells n k) [
    | inl same ↦ rw same.0 (subst (λ (i : ℕ). (nat_le i inbox.processed || is_some (lookup (is_at (nat_cmp i)) (insert_entry nat_cmp inbox.waiting k m))) ≡ (has_arrived i inbox || true)) (sym same.1) (rw (put-there k m inbox.waiting) (or-true (nat_le k inbox.processed) ∙ sym (or-true (has_arrived k inbox)))))
    | inr other ↦ rw other.0 (rw (put-others n k m inbox.waiting other.1) (sym (or-false (has_arrived n inbox))))
  ]

  heads_at : (n : ℕ) (inbox : Incoming M) (head : Option M) → waiting_head inbox ≡ head → has_arrived n (after_head_if stamp_of head inbox) ≡ (has_arrived n inbox || false)
  heads_at n inbox None is = sym (or-false (has_arrived n inbox))
  heads_at n inbox (Some head) is = elim (eqb_tells n (inbox.processed + 1)) [
    | inl same ↦
        let now : nat_le n (inbox.processed + 1) ≡ true = le-leb n (inbox.processed + 1) (omega (arith, same.1)) in
        let was : has_arrived n inbox ≡ true = subst (λ (i : ℕ). has_arrived i inbox ≡ true) (sym same.1) (ap (λ (found : Option M). nat_le (inbox.processed + 1) inbox.processed || is_some found) is ∙ or-true (nat_le (inbox.processed + 1) inbox.processed)) in
        rw now (sym (or-false (has_arrived n inbox) ∙ was))
    | inr other ↦
        rw (le-more n inbox.processed other.1) (rw (take-others n (inbox.processed + 1) inbox.waiting other.1) (sym (or-false (has_arrived n inbox))))
  ]

  event_at : (n : ℕ) (inbox : Incoming M) (event : Event M) → has_arrived n (after_event stamp_of inbox event) ≡ (has_arrived n inbox || is_arrival_of n event)
  event_at n inbox (Arrives k m) = arrives_at n k m inbox (has_arrived k inbox) refl
  event_at n inbox TakesHead = heads_at n inbox (waiting_head inbox) refl

  arrived_on : (n : ℕ) (inbox : Incoming M) (events : List (Event M)) → has_arrived n (fold (after_event stamp_of) inbox events) ≡ (has_arrived n inbox || list_any (is_arrival_of n) events)
  arrived_on n inbox [] = sym (or-false (has_arrived n inbox))
  arrived_on n inbox (event ∷ events) =
      arrived_on n (after_event stamp_of inbox event) events
      ∙ ap (λ (b : Bool). b || list_any (is_arrival_of n) events) (event_at n inbox event)
      ∙ or-assoc (has_arrived n inbox) (is_arrival_of n event) (list_any (is_arrival_of n) events)

  -- a number from 1 has arrived after events exactly if one of them brings it
  pub has_arrived-brings : (n : ℕ) (events : List (Event M)) → 1 ≤ n → has_arrived n (inbox_after stamp_of events) ≡ list_any (is_arrival_of n) events
  has_arrived-brings n events some = elim (leb_tells n 0) [
    | inl le ↦ absurd (omega (arith, le.1))
    | inr over ↦ arrived_on n nothing_arrived events ∙ ap (λ (b : Bool). (b || false) || list_any (is_arrival_of n) events) over.0
  ]

  -- The order

  -- the inbox is one of a channel that sent these
  record IsFed (sent : List M) (inbox : Incoming M) : Type 0 where
    within : inbox.processed ≤ length sent
    waits : AllWaiting (λ n m. sent_as n sent ≡ Some m) inbox.waiting

  fed_arrival : (sent : List M) (n : ℕ) (m : M) (inbox : Incoming M) (before : Bool) → sent_as n sent ≡ Some m → IsFed sent inbox → IsFed sent (cond before inbox (record inbox { waiting = insert_entry nat_cmp inbox.waiting n m }))
  fed_arrival sent n m inbox true is fed = fed
  fed_arrival sent n m inbox false is fed = record { within = fed.within; waits = all-put _ n m inbox.waiting is fed.waits }

  sent_next : (sent : List M) (p : ℕ) → sent_as (p + 1) sent ≡ slice_get sent p
  sent_next sent p =
      let some : (p + 1 == 0) ≡ false = ne_eqb (p + 1) 0 (λ none. omega (arith, none)) in
      let back : p + 1 - 1 ≡ p = omega arith in
      rw some (ap (slice_get sent) back)

  head_sent : (sent : List M) (inbox : Incoming M) (head : M) → IsFed sent inbox → waiting_head inbox ≡ Some head → slice_get sent inbox.processed ≡ Some head
  head_sent sent inbox head fed is =
      sym (sent_next sent inbox.processed) ∙ all-found (λ n m. sent_as n sent ≡ Some m) (inbox.processed + 1) head inbox.waiting fed.waits is

  fed_head : (sent : List M) (inbox : Incoming M) (head : Option M) → IsFed sent inbox → waiting_head inbox ≡ head → IsFed sent (after_head_if stamp_of head inbox)
  fed_head sent inbox None fed is = fed
  fed_head sent inbox (Some head) fed is =
      let below : inbox.processed < length sent = slice_get_within sent inbox.processed head (head_sent sent inbox head fed is) in
      record { within = omega (arith, below); waits = all-take _ (inbox.processed + 1) inbox.waiting fed.waits }

  fed_event : (sent : List M) (inbox : Incoming M) (event : Event M) → ((n : ℕ) (m : M) → event ≡ Arrives n m → sent_as n sent ≡ Some m) → IsFed sent inbox → IsFed sent (after_event stamp_of inbox event)
  fed_event sent inbox (Arrives n m) of fed = fed_arrival sent n m inbox (has_arrived n inbox) (of n m refl) fed
  fed_event sent inbox TakesHead of fed = fed_head sent inbox (waiting_head inbox) fed refl

  processed_arrival : (n : ℕ) (m : M) (inbox : Incoming M) (before : Bool) → (cond before inbox (record inbox { waiting = insert_entry nat_cmp inbox.waiting n m })).processed ≡ inbox.processed
  processed_arrival n m inbox true = refl
  processed_arrival n m inbox false = refl

  take_next : (sent : List M) (p : ℕ) (head : M) → slice_get sent p ≡ Some head → take p sent ++ head ∷ [] ≡ take (p + 1) sent
  take_next sent p head is =
      let below : p < length sent = slice_get_within sent p head is in
      let at : get_or sent p head ≡ head = get_or_from_slice_get sent p head head is in
      rw (add-one, take-suc sent p head below, at) refl

  takes_head : (sent : List M) (inbox : Incoming M) (head : Option M) → IsFed sent inbox → waiting_head inbox ≡ head → take inbox.processed sent ++ taken_messages head ≡ take (after_head_if stamp_of head inbox).processed sent
  takes_head sent inbox None fed is = append-nil (take inbox.processed sent)
  takes_head sent inbox (Some head) fed is = take_next sent inbox.processed head (head_sent sent inbox head fed is)

  takes_event : (sent : List M) (inbox : Incoming M) (event : Event M) → IsFed sent inbox → take inbox.processed sent ++ taken_by inbox event ≡ take (after_event stamp_of inbox event).processed sent
  takes_event sent inbox (Arrives n m) fed = append-nil (take inbox.processed sent) ∙ ap (λ (p : ℕ). take p sent) (sym (processed_arrival n m inbox (has_arrived n inbox)))
  takes_event sent inbox TakesHead fed = takes_head sent inbox (waiting_head inbox) fed refl

  fed_on : (sent : List M) (inbox : Incoming M) (events : List (Event M)) → AreOfSent sent events → IsFed sent inbox → IsFed sent (fold (after_event stamp_of) inbox events)
  fed_on sent inbox [] of fed = fed
  fed_on sent inbox (event ∷ events) of fed =
      fed_on sent (after_event stamp_of inbox event) events (λ n m has. of n m (has_tail event events (Arrives n m) has)) (fed_event sent inbox event (λ n m is. of n m (subst (Contains (event ∷ events)) is (has_head event events))) fed)

  takes_on : (sent : List M) (inbox : Incoming M) (events : List (Event M)) → AreOfSent sent events → IsFed sent inbox → take inbox.processed sent ++ processed_in stamp_of inbox events ≡ take (fold (after_event stamp_of) inbox events).processed sent
  takes_on sent inbox [] of fed = append-nil (take inbox.processed sent)
  takes_on sent inbox (event ∷ events) of fed =
      sym (append_assoc (take inbox.processed sent) (taken_by inbox event) (processed_in stamp_of (after_event stamp_of inbox event) events))
      ∙ ap (λ (xs : List M). xs ++ processed_in stamp_of (after_event stamp_of inbox event) events) (takes_event sent inbox event fed)
      ∙ takes_on sent (after_event stamp_of inbox event) events (λ n m has. of n m (has_tail event events (Arrives n m) has)) (fed_event sent inbox event (λ n m is. of n m (subst (Contains (event ∷ events)) is (has_head event events))) fed)

  fed_nothing : (sent : List M) → IsFed sent nothing_arrived
  fed_nothing sent = record { within = omega arith; waits = tt }

  -- if all that arrives was sent under its number, no more messages are processed than were sent
  pub processed-within : (sent : List M) (events : List (Event M)) → AreOfSent sent events → (inbox_after stamp_of events).processed ≤ length sent
  processed-within sent events of = (fed_on sent nothing_arrived events of (fed_nothing sent)).within

  -- and those that are processed are the first ones that were sent, in order
  pub processed-sent : (sent : List M) (events : List (Event M)) → AreOfSent sent events → processed_in stamp_of nothing_arrived events ≡ take (inbox_after stamp_of events).processed sent
  processed-sent sent events of = takes_on sent nothing_arrived events of (fed_nothing sent)

module _ {M : Type 0} (stamp_of : M → Stamp) where
  -- What waits under each number

  -- the inbox after an arrival of which it is known whether its number arrived before
  abbrev arrival_if : Bool → ℕ → M → Incoming M → Incoming M
  arrival_if before number message inbox = cond before inbox (record inbox { waiting = insert_entry nat_cmp inbox.waiting number message })

  others_if : (before : Bool) (number other : ℕ) (message : M) (inbox : Incoming M) → other ≢ number → waiting_at other (arrival_if before number message inbox) ≡ waiting_at other inbox
  others_if true number other message inbox differ = refl
  others_if false number other message inbox differ = put-others other number message inbox.waiting differ

  processed_if : (before : Bool) (number : ℕ) (message : M) (inbox : Incoming M) → (arrival_if before number message inbox).processed ≡ inbox.processed
  processed_if true number message inbox = refl
  processed_if false number message inbox = refl

  last_if : (before : Bool) (number : ℕ) (message : M) (inbox : Incoming M) → (arrival_if before number message inbox).last ≡ inbox.last
  last_if true number message inbox = refl
  last_if false number message inbox = refl

  -- both change what waits under one number alone
  pub waiting_laws : WaitingLaws stamp_of
  waiting_laws = record {
    arrived = λ number message inbox new. ap (λ (before : Bool). waiting_at number (arrival_if before number message inbox)) new ∙ put-there number message inbox.waiting;
    others = λ number other message inbox differ. others_if (has_arrived number inbox) number other message inbox differ;
    processed = λ number message inbox. processed_if (has_arrived number inbox) number message inbox;
    last = λ number message inbox. last_if (has_arrived number inbox) number message inbox;
    still = λ other inbox differ. take-others other (inbox.processed + 1) inbox.waiting differ;
  }
