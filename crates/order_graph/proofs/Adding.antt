-- One more pair: which stamps then precede which, and what the chains have to hold.
-- Used by `add` and `reserve`.
use Rattle.std.proofs.Common.{◌≡◌, ◌≢◌, ℕ, ◌<◌, true, false, ◌||◌, List, [], ◌∷◌, ◌++◌, length, map, slice_index_or, slice_set, Option, Some, None, ◌⊎◌, inl, inr, sym, ap, subst, ◌∙◌, arith, Contains, IsTrue}
use Rattle.std.proofs.lemmas.Bool.{cases_Bool, cases_lt, cases_eq, or_cases, or_left, or_right, both_ways, and_from, and_parts}
use Rattle.std.proofs.lemmas.List.{get_or_past, get_or-map, length-map, get_or-set_same, get_or-set_other, length-set}
use Rattle.std.proofs.lemmas.List.Elements.{Contains-get_or, Contains-push_cases, Contains-append_left, Contains-append_right}
use Rattle.std.proofs.lemmas.Option.{same_Some}
use Rattle.vector_stamp.specs.declared.clock.Stamp.{Stamp}
use Rattle.vector_stamp.specs.Order.{stamp_before, same_stamp, id_of}
use Rattle.vector_stamp.specs.Coherence.{AreCoherent}
use Rattle.vector_stamp.specs.Precedence.{GivenPair, IsClosed, precedes}
use Rattle.order_graph.specs.declared.chain.Event.{Event}
use Rattle.order_graph.specs.Building.{ends_of, MayAdd}
use Rattle.order_graph.specs.Frontiers.{at_or_before, latest_of, empty_frontier, joined_frontiers, is_up_to_frontier, IsFrontier, StampOrderLaws}
use Rattle.order_graph.specs.Chains.{EventChainView, no_chain, events_of, IsRisingChain, IsPut, IsLedOn, leads_to, joined_event, raised_event, raised_chain, AreChains}
use Rattle.weave_data.proofs.Members.{has_none, has_read, has_head, has_tail, has_map, map_has}
use Rattle.order_graph.proofs.Stamps.{ends-append}
use Rattle.order_graph.proofs.Orders.{AreApart, at_itself, at_from, at_cases, not_at}
use Rattle.order_graph.proofs.Joining.{AreOwn, CoveredBy, covered, covers_at, length-joined, joined_reads, covered_left, covered_right}
use Rattle.order_graph.proofs.Frontiers.{at_precedes, none_there}
use Rattle.order_graph.proofs.Raising.{raised_not_led, raised_led_by_both, raised_led}

-- a is b, or precedes it
abbrev pub Leads : List GivenPair → Stamp → Stamp → Type 0
Leads pairs a b = (a ≡ b) ⊎ IsTrue (precedes pairs a b)

-- a pair at the end or at the head
abbrev pub AtTheEnd : Type 0
AtTheEnd = (pairs : List GivenPair) (pair : GivenPair) (a b : Stamp) → precedes (pairs ++ pair ∷ []) a b ≡ precedes (pair ∷ pairs) a b

-- what leads to an event
module _ (laws : StampOrderLaws) (pairs : List GivenPair) (closed : IsClosed pairs (precedes pairs)) where
  -- what leads to an event, as a frontier of it shows, is the event or precedes it
  pub led_read : (event : Event) → IsFrontier pairs event.stamp event.frontier.latest → (stamp : Stamp) → IsTrue (leads_to stamp event) → Leads pairs stamp event.stamp
  led_read event exact stamp h =
      elim (or_cases (at_or_before stamp event.stamp) _ h) [
        | inl at ↦ elim (at_cases laws stamp event.stamp at) [ inl same ↦ inl same | inr before ↦ inr (closed.has_stamps stamp event.stamp before) ]
        | inr by ↦
            let some : CoveredBy event.frontier.latest stamp = covered event.frontier.latest stamp by in
            inr (at_precedes laws pairs closed stamp some.1 event.stamp some.3 (exact.precede some.0 some.1 some.2).2)
      ]

  -- and what is the event or precedes it leads to it, as any frontier of it shows
  pub led_write : (event : Event) → IsFrontier pairs event.stamp event.frontier.latest → (stamp : Stamp) → Leads pairs stamp event.stamp → IsTrue (leads_to stamp event)
  led_write event exact stamp (inl same) = or_left _ _ (subst (λ x. IsTrue (at_or_before stamp x)) same (at_itself laws stamp))
  led_write event exact stamp (inr h) =
      elim (or_cases (stamp_before stamp event.stamp) _ (exact.all stamp h)) [
        | inl before ↦ or_left _ _ (at_from laws stamp event.stamp before)
        | inr by ↦ or_right (at_or_before stamp event.stamp) _ by
      ]

  -- along the chain of any gatekeeper, what leads to an event leads to those after it
  pub chains_lead_on : (stamps : List Stamp) (chains : List EventChainView) → AreChains pairs stamps chains → (stamp : Stamp) (gate : ℕ) → IsLedOn stamp (events_of chains gate)
  chains_lead_on stamps chains are stamp gate i j d le below h =
      elim (cases_eq i j) [
        | inl same ↦ subst (λ k. IsTrue (leads_to stamp (slice_index_or (events_of chains gate) k d))) same h
        | inr other ↦
            let a : Event = slice_index_or (events_of chains gate) i d in
            let b : Event = slice_index_or (events_of chains gate) j d in
            let exact_a = are.exact gate a (Contains-get_or (events_of chains gate) i d (omega arith)) in
            let exact_b = are.exact gate b (Contains-get_or (events_of chains gate) j d below) in
            let up : IsTrue (precedes pairs a.stamp b.stamp) = closed.has_stamps a.stamp b.stamp (are.rising gate i j d (omega (arith, other)) below) in
            led_write b exact_b stamp (elim (led_read a exact_a stamp h) [
              | inl same ↦ inr (subst (λ x. IsTrue (precedes pairs x b.stamp)) (sym same) up)
              | inr way ↦ inr (closed.transitive stamp a.stamp b.stamp way up)
            ])
      ]

-- a frontier of an event, with the event itself
pub record IsFrontierWith (pairs : List GivenPair) (event : Stamp) (frontier : List (Option Stamp)) : Type 0 where
  pub eight : length frontier ≡ 8
  pub lead : (gate : ℕ) (latest : Stamp) → latest_of frontier gate ≡ Some latest → (latest.home ≡ gate) × Contains (event ∷ ends_of pairs) latest × Leads pairs latest event
  pub all : (stamp : Stamp) → Leads pairs stamp event → IsTrue (is_up_to_frontier frontier stamp)

-- the frontier of one event alone
abbrev alone : Stamp → List (Option Stamp)
alone stamp = slice_set empty_frontier stamp.home (Some stamp)

length-alone : (stamp : Stamp) → length (alone stamp) ≡ 8
length-alone stamp = length-set empty_frontier stamp.home (Some stamp)

alone_is : (stamp : Stamp) → stamp.home < 8 → (gate : ℕ) (latest : Stamp) → latest_of (alone stamp) gate ≡ Some latest → (stamp.home ≡ gate) × (stamp ≡ latest)
alone_is stamp home gate latest is =
    elim (cases_eq gate stamp.home) [
      | inl here ↦ (sym here, same_Some stamp latest (sym (get_or-set_same empty_frontier stamp.home (Some stamp) None home) ∙ subst (λ g. latest_of (alone stamp) g ≡ Some latest) here is))
      | inr there ↦ absurd (none_there gate latest (sym (get_or-set_other empty_frontier stamp.home gate (Some stamp) None there) ∙ is))
    ]

alone_covers : (laws : StampOrderLaws) (event : Stamp) → event.home < 8 → (stamp : Stamp) → IsTrue (at_or_before stamp event) → IsTrue (is_up_to_frontier (alone event) stamp)
alone_covers laws event home stamp h = covers_at (alone event) stamp event.home event (get_or-set_same empty_frontier event.home (Some event) None home) h

-- a frontier of an event, joined with the event alone, is one with the event itself, if all stamps are coherent
pub with_itself : (laws : StampOrderLaws) (apart : AreApart) (pairs : List GivenPair) (event : Stamp) → AreCoherent (event ∷ ends_of pairs) → (frontier : List (Option Stamp)) → IsFrontier pairs event frontier → IsFrontierWith pairs event (joined_frontiers frontier (alone event))
with_itself laws apart pairs event coherent frontier exact =
    record {
      eight = length-joined frontier (alone event) exact.eight (length-alone event);
      lead = λ gate latest is. elim (joined_reads laws apart (event ∷ ends_of pairs) coherent frontier (alone event) exact.eight (length-alone event) gate latest is) [
        | inl old ↦ let h = exact.precede gate latest old in (h.0, has_tail event (ends_of pairs) latest h.1, inr h.2)
        | inr new ↦ let h = alone_is event home gate latest new in (subst (λ (x : Stamp). x.home ≡ gate) h.1 h.0, subst (Contains (event ∷ ends_of pairs)) h.1 (has_head event (ends_of pairs)), inl (sym h.1))
      ];
      all = covers_all;
    }
  where
    home : event.home < 8
    home = coherent.homes event (has_head event (ends_of pairs))

    own : AreOwn (event ∷ ends_of pairs) frontier
    own gate latest is = let h = exact.precede gate latest is in (h.0, has_tail event (ends_of pairs) latest h.1)

    own_alone : AreOwn (event ∷ ends_of pairs) (alone event)
    own_alone gate latest is = let h = alone_is event home gate latest is in (subst (λ (x : Stamp). x.home ≡ gate) h.1 h.0, subst (Contains (event ∷ ends_of pairs)) h.1 (has_head event (ends_of pairs)))

    by_itself : (stamp : Stamp) → IsTrue (at_or_before stamp event) → IsTrue (is_up_to_frontier (joined_frontiers frontier (alone event)) stamp)
    by_itself stamp h = covered_right laws apart (event ∷ ends_of pairs) coherent frontier (alone event) exact.eight (length-alone event) own own_alone stamp (alone_covers laws event home stamp h)

    covers_all : (stamp : Stamp) → Leads pairs stamp event → IsTrue (is_up_to_frontier (joined_frontiers frontier (alone event)) stamp)
    covers_all stamp (inl same) = by_itself stamp (subst (λ x. IsTrue (at_or_before stamp x)) same (at_itself laws stamp))
    covers_all stamp (inr h) =
        elim (or_cases (stamp_before stamp event) _ (exact.all stamp h)) [
          | inl before ↦ by_itself stamp (at_from laws stamp event before)
          | inr by ↦ covered_left laws apart (event ∷ ends_of pairs) coherent frontier (alone event) exact.eight (length-alone event) stamp by
        ]

-- the pair of a and b
module _ (laws : StampOrderLaws) (apart : AreApart) (at_the_end : AtTheEnd) (pairs : List GivenPair) (closed : IsClosed pairs (precedes pairs)) (a b : Stamp) (may : MayAdd pairs a b) where
  abbrev more : List GivenPair
  more = pairs ++ (a, b) ∷ []

  abbrev stamps : List Stamp
  stamps = a ∷ b ∷ ends_of pairs

  still : (x y : Stamp) → IsTrue (precedes pairs x y) → IsTrue (precedes more x y)
  still x y h = subst IsTrue (sym (at_the_end pairs (a, b) x y)) (or_left (precedes pairs x y) _ h)

  leads_test : (x y : Stamp) → Leads pairs x y → IsTrue (same_stamp x y || precedes pairs x y)
  leads_test x y (inl same) = or_left _ _ (subst (λ z. IsTrue (same_stamp x z)) same (laws.same_itself x))
  leads_test x y (inr h) = or_right (same_stamp x y) _ h

  test_leads : (x y : Stamp) → IsTrue (same_stamp x y || precedes pairs x y) → Leads pairs x y
  test_leads x y h = elim (or_cases (same_stamp x y) _ h) [ inl same ↦ inl (laws.same_is x y same) | inr way ↦ inr way ]

  by_pair : (x y : Stamp) → Leads pairs x a → Leads pairs b y → IsTrue (precedes more x y)
  by_pair x y g h = subst IsTrue (sym (at_the_end pairs (a, b) x y)) (or_right (precedes pairs x y) _ (and_from _ _ (leads_test x a g) (leads_test b y h)))

  read_more : (x y : Stamp) → IsTrue (precedes more x y) → IsTrue (precedes pairs x y) ⊎ (Leads pairs x a × Leads pairs b y)
  read_more x y h =
      elim (or_cases (precedes pairs x y) _ (subst IsTrue (at_the_end pairs (a, b) x y) h)) [
        | inl way ↦ inl way
        | inr both ↦
            let two = and_parts (same_stamp x a || precedes pairs x a) (same_stamp b y || precedes pairs b y) both in
            inr (test_leads x a two.0, test_leads b y two.1)
      ]

  ends_still : (stamp : Stamp) → Contains (ends_of pairs) stamp → Contains (ends_of more) stamp
  ends_still stamp h = subst (λ (ss : List Stamp). Contains ss stamp) (sym (ends-append pairs ((a, b) ∷ []))) (Contains-append_left (ends_of pairs) (a ∷ b ∷ []) stamp h)

  end_a : Contains (ends_of more) a
  end_a = subst (λ (ss : List Stamp). Contains ss a) (sym (ends-append pairs ((a, b) ∷ []))) (Contains-append_right (ends_of pairs) (a ∷ b ∷ []) a (has_head a (b ∷ [])))

  end_b : Contains (ends_of more) b
  end_b = subst (λ (ss : List Stamp). Contains ss b) (sym (ends-append pairs ((a, b) ∷ []))) (Contains-append_right (ends_of pairs) (a ∷ b ∷ []) b (has_tail a (b ∷ []) b (has_head b [])))

  -- the later event does not lead to the earlier one
  no_way_back : Leads pairs b a → ⊥
  no_way_back (inl same) = may.of_two (ap id_of (sym same))
  no_way_back (inr h) = may.permitted h

  -- each event of b's chain is at or before b, or after it
  pub is_in_turn : (chains : List EventChainView) → AreChains pairs (ends_of pairs) chains → (other : Event) → Contains (events_of chains b.home) other → IsTrue (at_or_before other.stamp b || stamp_before b other.stamp)
  is_in_turn chains are other has =
      elim (cases_Bool (at_or_before other.stamp b)) [
        | inl at ↦ or_left _ _ at
        | inr not_yet ↦ or_right (at_or_before other.stamp b) _ (not_at laws apart stamps may.coherent other.stamp b (has_tail a (b ∷ ends_of pairs) other.stamp (has_tail b (ends_of pairs) other.stamp (are.known b.home other has))) (has_tail a (b ∷ ends_of pairs) b (has_head b (ends_of pairs))) (are.homes b.home other has) not_yet)
      ]

  -- with the later event in its chain
  pub put_keeps : (chains next : List EventChainView) (event : Event) → event.stamp ≡ b → AreChains pairs (ends_of pairs) chains → IsFrontier pairs b event.frontier.latest → length next ≡ length chains → IsPut (events_of chains b.home) event (events_of next b.home) → ((gate : ℕ) → gate ≢ b.home → events_of next gate ≡ events_of chains gate) → AreChains pairs (b ∷ ends_of pairs) next
  put_keeps chains next event is_b are exact long put others =
      record {
        eight = long ∙ are.eight;
        rising = λ gate. at_gate gate IsRisingChain put.rising (are.rising gate);
        homes = λ gate other has. elim (of_next gate other has) [ inl old ↦ are.homes gate other old | inr new ↦ subst (λ (e : Event). e.stamp.home ≡ gate) (sym new.1) (subst (λ (s : Stamp). s.home ≡ gate) (sym is_b) (sym new.0)) ];
        known = λ gate other has. elim (of_next gate other has) [ inl old ↦ has_tail b (ends_of pairs) other.stamp (are.known gate other old) | inr new ↦ subst (λ (e : Event). Contains (b ∷ ends_of pairs) e.stamp) (sym new.1) (subst (Contains (b ∷ ends_of pairs)) (sym is_b) (has_head b (ends_of pairs))) ];
        exact = λ gate other has. elim (of_next gate other has) [ inl old ↦ are.exact gate other old | inr new ↦ subst (λ (e : Event). IsFrontier pairs e.stamp e.frontier.latest) (sym new.1) (subst (λ (s : Stamp). IsFrontier pairs s event.frontier.latest) (sym is_b) exact) ];
        found = λ earlier later has. still_there (are.found earlier later has);
      }
    where
      at_gate : (gate : ℕ) (P : List Event → Type 0) → P (events_of next b.home) → P (events_of chains gate) → P (events_of next gate)
      at_gate gate P here there =
          elim (cases_eq gate b.home) [
            | inl same ↦ subst (λ g. P (events_of next g)) (sym same) here
            | inr other ↦ subst P (sym (others gate other)) there
          ]

      still_there : {later : Stamp} → (gate : ℕ) × (other : Event) × Contains (events_of chains gate) other × (other.stamp ≡ later) → (gate : ℕ) × (other : Event) × Contains (events_of next gate) other × (other.stamp ≡ later)
      still_there (gate, other, has, is) =
          elim (cases_eq gate b.home) [
            | inl same ↦ (gate, other, subst (λ g. Contains (events_of next g) other) (sym same) (put.stay other (subst (λ g. Contains (events_of chains g) other) same has)), is)
            | inr elsewhere ↦ (gate, other, subst (λ (es : List Event). Contains es other) (sym (others gate elsewhere)) has, is)
          ]

      of_next : (gate : ℕ) (other : Event) → Contains (events_of next gate) other → Contains (events_of chains gate) other ⊎ ((gate ≡ b.home) × (other ≡ event))
      of_next gate other has =
          elim (cases_eq gate b.home) [
            | inl same ↦ elim (put.no_others other (subst (λ g. Contains (events_of next g) other) same has)) [
              | inl old ↦ inl (subst (λ g. Contains (events_of chains g) other) (sym same) old)
              | inr new ↦ inr (same, new)
            ]
            | inr elsewhere ↦ inl (subst (λ (es : List Event). Contains es other) (others gate elsewhere) has)
          ]

  -- raised over a frontier of the earlier event, with itself
  module _ (frontier : List (Option Stamp)) (with_a : IsFrontierWith pairs a frontier) where
    abbrev up : Event → Event
    up = raised_event a b frontier

    to_stamps : (stamp : Stamp) → Contains (ends_of pairs) stamp → Contains stamps stamp
    to_stamps stamp h = has_tail a (b ∷ ends_of pairs) stamp (has_tail b (ends_of pairs) stamp h)

    from_a : (stamp : Stamp) → Contains (a ∷ ends_of pairs) stamp → Contains stamps stamp
    from_a stamp h = elim (has_read a (ends_of pairs) stamp h) [ inl here ↦ subst (Contains stamps) here (has_head a (b ∷ ends_of pairs)) | inr there ↦ to_stamps stamp there ]

    a_to_ends : (stamp : Stamp) → Contains (a ∷ ends_of pairs) stamp → Contains (ends_of more) stamp
    a_to_ends stamp h = elim (has_read a (ends_of pairs) stamp h) [ inl here ↦ subst (Contains (ends_of more)) here end_a | inr there ↦ ends_still stamp there ]

    own_with : AreOwn stamps frontier
    own_with gate latest is = let h = with_a.lead gate latest is in (h.0, from_a latest h.1)

    module _ (event : Event) (exact : IsFrontier pairs event.stamp event.frontier.latest) where
      own_event : AreOwn stamps event.frontier.latest
      own_event gate latest is = let h = exact.precede gate latest is in (h.0, to_stamps latest h.1)

      old_precede : (gate : ℕ) (latest : Stamp) → latest_of event.frontier.latest gate ≡ Some latest → (latest.home ≡ gate) × Contains (ends_of more) latest × IsTrue (precedes more latest event.stamp)
      old_precede gate latest is = let h = exact.precede gate latest is in (h.0, ends_still latest h.1, still latest event.stamp h.2)

      not_led_exact : leads_to b event ≡ false → IsFrontier more event.stamp event.frontier.latest
      not_led_exact fails =
          record {
            eight = exact.eight;
            precede = old_precede;
            all = λ stamp h. elim (read_more stamp event.stamp h) [
              | inl old ↦ exact.all stamp old
              | inr new ↦ absurd (both_ways _ fails (led_write laws pairs closed event exact b new.1))
            ];
          }

      through_a : Leads pairs a event.stamp → Leads pairs b event.stamp → (stamp : Stamp) → Leads pairs stamp a → IsTrue (precedes pairs stamp event.stamp)
      through_a (inl same) from_b stamp to_a = absurd (no_way_back (subst (Leads pairs b) (sym same) from_b))
      through_a (inr way) from_b stamp (inl same) = subst (λ x. IsTrue (precedes pairs x event.stamp)) (sym same) way
      through_a (inr way) from_b stamp (inr before) = closed.transitive stamp a event.stamp before way

      both_led_exact : leads_to a event ≡ true → IsFrontier more event.stamp event.frontier.latest
      both_led_exact led =
          record {
            eight = exact.eight;
            precede = old_precede;
            all = λ stamp h. elim (read_more stamp event.stamp h) [
              | inl old ↦ exact.all stamp old
              | inr new ↦ exact.all stamp (through_a (led_read laws pairs closed event exact a led) new.1 stamp new.0)
            ];
          }

      led_exact : leads_to b event ≡ true → IsFrontier more event.stamp (joined_frontiers event.frontier.latest frontier)
      led_exact led =
          record {
            eight = length-joined event.frontier.latest frontier exact.eight with_a.eight;
            precede = λ gate latest is. elim (joined_reads laws apart stamps may.coherent event.frontier.latest frontier exact.eight with_a.eight gate latest is) [
              | inl old ↦ old_precede gate latest old
              | inr new ↦ let h = with_a.lead gate latest new in (h.0, a_to_ends latest h.1, by_pair latest event.stamp h.2 (led_read laws pairs closed event exact b led))
            ];
            all = λ stamp h. elim (read_more stamp event.stamp h) [
              | inl old ↦ elim (or_cases (stamp_before stamp event.stamp) _ (exact.all stamp old)) [
                | inl before ↦ or_left _ _ before
                | inr by ↦ or_right (stamp_before stamp event.stamp) _ (covered_left laws apart stamps may.coherent event.frontier.latest frontier exact.eight with_a.eight stamp by)
              ]
              | inr new ↦ or_right (stamp_before stamp event.stamp) _ (covered_right laws apart stamps may.coherent event.frontier.latest frontier exact.eight with_a.eight own_event own_with stamp (with_a.all stamp new.0))
            ];
          }

      raised_exact : ((up event).stamp ≡ event.stamp) × IsFrontier more event.stamp (up event).frontier.latest
      raised_exact =
          elim (cases_Bool (leads_to b event)) [
            | inr fails ↦ as_it_is (raised_not_led a b frontier event fails) (not_led_exact fails)
            | inl led ↦ elim (cases_Bool (leads_to a event)) [
              | inl both ↦ as_it_is (raised_led_by_both a b frontier event both) (both_led_exact both)
              | inr not_yet ↦
                  let is : up event ≡ joined_event frontier event = raised_led a b frontier event led not_yet in
                  (ap (λ (e : Event). e.stamp) is, subst (λ (e : Event). IsFrontier more event.stamp e.frontier.latest) (sym is) (led_exact led))
            ]
          ]
        where
          as_it_is : up event ≡ event → IsFrontier more event.stamp event.frontier.latest → ((up event).stamp ≡ event.stamp) × IsFrontier more event.stamp (up event).frontier.latest
          as_it_is is h = (ap (λ (e : Event). e.stamp) is, subst (λ (e : Event). IsFrontier more event.stamp e.frontier.latest) (sym is) h)

    module _ (chains : List EventChainView) (are : AreChains pairs (b ∷ ends_of pairs) chains) where
      abbrev raised_chains : List EventChainView
      raised_chains = map (raised_chain a b frontier) chains

      events_raised : (gate : ℕ) → events_of raised_chains gate ≡ map up (events_of chains gate)
      events_raised gate =
          elim (cases_lt gate (length chains)) [
            | inl below ↦ ap (λ (c : EventChainView). c.events) (get_or-map (raised_chain a b frontier) chains gate no_chain no_chain below)
            | inr past ↦
                ap (λ (c : EventChainView). c.events) (get_or_past raised_chains gate no_chain (omega (arith, length-map chains (raised_chain a b frontier))))
                ∙ ap (λ (c : EventChainView). map up c.events) (sym (get_or_past chains gate no_chain past))
          ]

      of_raised : (gate : ℕ) (other : Event) → Contains (events_of raised_chains gate) other → (event : Event) × Contains (events_of chains gate) event × (up event ≡ other)
      of_raised gate other has = map_has up (events_of chains gate) other (subst (λ (es : List Event). Contains es other) (events_raised gate) has)

      has_raised : (gate : ℕ) (event : Event) → Contains (events_of chains gate) event → Contains (events_of raised_chains gate) (up event)
      has_raised gate event has = subst (λ (es : List Event). Contains es (up event)) (sym (events_raised gate)) (has_map up (events_of chains gate) event has)

      stamp_stays : (gate : ℕ) (event : Event) → Contains (events_of chains gate) event → (up event).stamp ≡ event.stamp
      stamp_stays gate event has = (raised_exact event (are.exact gate event has)).0

      raised_at : (gate k : ℕ) (d : Event) → k < length (events_of raised_chains gate) → (slice_index_or (events_of raised_chains gate) k d).stamp ≡ (slice_index_or (events_of chains gate) k d).stamp
      raised_at gate k d below =
          let short : k < length (events_of chains gate) = subst (λ n. k < n) (ap (length {A = Event}) (events_raised gate) ∙ length-map (events_of chains gate) up) below in
          ap (λ (es : List Event). (slice_index_or es k d).stamp) (events_raised gate)
          ∙ ap (λ (e : Event). e.stamp) (get_or-map up (events_of chains gate) k d d short)
          ∙ stamp_stays gate (slice_index_or (events_of chains gate) k d) (Contains-get_or (events_of chains gate) k d short)

      b_to_ends : (stamp : Stamp) → Contains (b ∷ ends_of pairs) stamp → Contains (ends_of more) stamp
      b_to_ends stamp h = elim (has_read b (ends_of pairs) stamp h) [ inl here ↦ subst (Contains (ends_of more)) here end_b | inr there ↦ ends_still stamp there ]

      abbrev HasLater : Stamp → Type 0
      HasLater later = (gate : ℕ) × (event : Event) × Contains (events_of raised_chains gate) event × (event.stamp ≡ later)

      -- with the later event in its chain, the chains raised like this are right for the pairs with this one added
      pub raised_keeps : (there : Event) → Contains (events_of chains b.home) there → there.stamp ≡ b → AreChains more (ends_of more) raised_chains
      raised_keeps there has_there is_b =
          record {
            eight = length-map chains (raised_chain a b frontier) ∙ are.eight;
            rising = λ gate i j d less below.
                let long = length-map (events_of chains gate) up in
                let same : length (events_of raised_chains gate) ≡ length (events_of chains gate) = ap (length {A = Event}) (events_raised gate) ∙ long in
                rw (raised_at gate i d (omega (arith, less, below)), raised_at gate j d below) (are.rising gate i j d less (omega (arith, same, below)));
            homes = λ gate other has. let old = of_raised gate other has in subst (λ (s : Stamp). s.home ≡ gate) (new_stamp gate other old) (are.homes gate old.0 old.1);
            known = λ gate other has. let old = of_raised gate other has in subst (Contains (ends_of more)) (new_stamp gate other old) (b_to_ends old.0.stamp (are.known gate old.0 old.1));
            exact = λ gate other has.
                let old = of_raised gate other has in
                subst (λ (e : Event). IsFrontier more e.stamp e.frontier.latest) old.2 (subst (λ (s : Stamp). IsFrontier more s (up old.0).frontier.latest) (sym (stamp_stays gate old.0 old.1)) (raised_exact old.0 (are.exact gate old.0 old.1)).1);
            found = λ earlier later has. elim (Contains-push_cases pairs (a, b) (earlier, later) has) [
              | inl old ↦ still_found later (are.found earlier later old)
              | inr new ↦ still_found later (b.home, there, has_there, is_b ∙ ap (λ (p : GivenPair). p.1) new)
            ];
          }
        where
          new_stamp : (gate : ℕ) (other : Event) → (old : (event : Event) × Contains (events_of chains gate) event × (up event ≡ other)) → old.0.stamp ≡ other.stamp
          new_stamp gate other (event, has, is) = sym (stamp_stays gate event has) ∙ ap (λ (e : Event). e.stamp) is

          still_found : (later : Stamp) → ((gate : ℕ) × (event : Event) × Contains (events_of chains gate) event × (event.stamp ≡ later)) → HasLater later
          still_found later (gate, event, has, is) = (gate, up event, has_raised gate event has, stamp_stays gate event has ∙ is)

-- chains of pairs with the same events at each gatekeeper are chains of these pairs too
pub same_chains : (pairs : List GivenPair) (known : List Stamp) (chains next : List EventChainView) → length next ≡ length chains → ((gate : ℕ) → events_of next gate ≡ events_of chains gate) → AreChains pairs known chains → AreChains pairs known next
same_chains pairs known chains next long same are =
    record {
      eight = long ∙ are.eight;
      rising = λ gate. subst IsRisingChain (sym (same gate)) (are.rising gate);
      homes = λ gate event has. are.homes gate event (old gate event has);
      known = λ gate event has. are.known gate event (old gate event has);
      exact = λ gate event has. are.exact gate event (old gate event has);
      found = λ earlier later has.
          let there = are.found earlier later has in
          (there.0, there.1, subst (λ (es : List Event). Contains es there.1) (sym (same there.0)) there.2, there.3);
    }
  where
    old : (gate : ℕ) (event : Event) → Contains (events_of next gate) event → Contains (events_of chains gate) event
    old gate event has = subst (λ (es : List Event). Contains es event) (same gate) has

-- eight chains without events are chains of no pairs, whatever the stamps
pub no_events : (pairs : List GivenPair) → pairs ≡ [] → (stamps : List Stamp) (chains : List EventChainView) → length chains ≡ 8 → ((gate : ℕ) → events_of chains gate ≡ []) → AreChains pairs stamps chains
no_events pairs none stamps chains eight empty =
    record {
      eight = eight;
      rising = λ gate. subst IsRisingChain (sym (empty gate)) (λ i j d less below. absurd (omega (arith, below)));
      homes = λ gate event has. absurd (nothing gate event has);
      known = λ gate event has. absurd (nothing gate event has);
      exact = λ gate event has. absurd (nothing gate event has);
      found = λ earlier later has. absurd (has_none (earlier, later) (subst (λ (ps : List GivenPair). Contains ps (earlier, later)) none has));
    }
  where
    nothing : (gate : ℕ) (event : Event) → Contains (events_of chains gate) event → ⊥
    nothing gate event has = has_none event (subst (λ (es : List Event). Contains es event) (empty gate) has)
