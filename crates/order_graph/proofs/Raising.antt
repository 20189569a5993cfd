-- A chain raised: its first events and its last ones stay.
-- Used by `add`, `raise_all`, `raise_events` and Adding.
use Rattle.std.proofs.Common.{◌≡◌, ℕ, ◌+◌, ◌-◌, ◌<◌, ◌≤◌, true, false, not, ◌&&◌, List, [], ◌∷◌, ◌++◌, length, map, take, drop, slice_index_or, Option, inl, inr, refl, sym, ap, ◌∙◌, arith}
use Rattle.std.specs.List.{All}
use Rattle.std.proofs.lemmas.Bool.{cases_lt, and_from, and_left, and_right, not_from_true, not_from_false, cond-true, cond-false}
use Rattle.std.proofs.lemmas.List.{take-append-drop, map-append, get_or-take, get_or-drop, get_or_default, get_or-append_right, get_or-map, get_or_past, length-take, length-take-le, length-drop, length-map}
use Rattle.std.proofs.lemmas.List.Elements.{All-head, All-tail}
use Rattle.vector_stamp.specs.declared.clock.Stamp.{Stamp}
use Rattle.order_graph.specs.declared.chain.Event.{Event}
use Rattle.order_graph.specs.Chains.{EventChainView, no_chain, room_of, leads_to, joined_event, raised_event, raised_chain}

map_same : {X : Type 0} (f : X → X) (xs : List X) → All (λ x. f x ≡ x) xs → map f xs ≡ xs
map_same f [] same = refl
map_same {X} f (x ∷ xs) same = ap (λ (y : X). y ∷ map f xs) (All-head (λ y. f y ≡ y) x xs same) ∙ ap (λ ys. x ∷ ys) (map_same f xs (All-tail (λ y. f y ≡ y) x xs same))

module _ (earlier later : Stamp) (latest : List (Option Stamp)) where
  -- an event to which the later stamp doesn't lead stays as it is
  pub raised_not_led : (event : Event) → leads_to later event ≡ false → raised_event earlier later latest event ≡ event
  raised_not_led event fails = cond-false (leads_to later event && not (leads_to earlier event)) (joined_event latest event) event (and_left (leads_to later event) _ fails)

  -- and so does one to which the earlier stamp leads already
  pub raised_led_by_both : (event : Event) → leads_to earlier event ≡ true → raised_event earlier later latest event ≡ event
  raised_led_by_both event led = cond-false (leads_to later event && not (leads_to earlier event)) (joined_event latest event) event (and_right (leads_to later event) _ (not_from_true _ led))

  -- an event to which the later stamp leads, and the earlier one doesn't, gets the frontier joined to its own
  pub raised_led : (event : Event) → leads_to later event ≡ true → leads_to earlier event ≡ false → raised_event earlier later latest event ≡ joined_event latest event
  raised_led event led not_yet = cond-true (leads_to later event && not (leads_to earlier event)) (joined_event latest event) event (and_from (leads_to later event) _ led (not_from_false _ not_yet))

  -- if the later stamp leads to none of the first n events, raising these changes nothing
  pub raised_first : (events : List Event) (n : ℕ) → n ≤ length events → ((k : ℕ) (d : Event) → 0 ≤ k → k < n → leads_to later (slice_index_or events k d) ≡ false) → events ≡ map (raised_event earlier later latest) (take n events) ++ drop n events
  raised_first events n within fails =
      sym (take-append-drop n events) ∙ ap (λ es. es ++ drop n events) (sym (map_same (raised_event earlier later latest) (take n events) (λ k d below.
      let first : k < n = omega (arith, length-take n events) in
      rw (get_or-take n events k d first) (raised_not_led (slice_index_or events k d) (fails k d (omega arith) first)))))

  -- if the earlier stamp leads to all events from the n-th on, raising the first n raises them all
  pub raised_last : (events : List Event) (n : ℕ) → n ≤ length events → ((k : ℕ) (d : Event) → n ≤ k → k < length events → leads_to earlier (slice_index_or events k d) ≡ true) → map (raised_event earlier later latest) (take n events) ++ drop n events ≡ map (raised_event earlier later latest) events
  raised_last events n within led =
      ap (λ es. map (raised_event earlier later latest) (take n events) ++ es) (sym (map_same (raised_event earlier later latest) (drop n events) (λ k d below.
      rw (get_or-drop n events k d) (raised_led_by_both (slice_index_or events (n + k) d) (led (n + k) d (omega arith) (omega (arith, length-drop n events)))))))
      ∙ sym (map-append (raised_event earlier later latest) (take n events) (drop n events))
      ∙ ap (map (raised_event earlier later latest)) (take-append-drop n events)

  -- when the first n events have been raised, the event after them is still the original one
  pub raised_so_far : (events now : List Event) (n : ℕ) → n < length events → now ≡ map (raised_event earlier later latest) (take n events) ++ drop n events → (d : Event) → slice_index_or now n d ≡ slice_index_or events n d
  raised_so_far events now n below is d =
      ap (λ es. slice_index_or es n d) is
      ∙ get_or-append_right (map (raised_event earlier later latest) (take n events)) (drop n events) n n d (length-map (take n events) (raised_event earlier later latest) ∙ length-take-le n events (omega arith)) (omega arith)
      ∙ get_or-drop n events (n - n) d ∙ ap (λ k. slice_index_or events k d) same
    where
      same : n + (n - n) ≡ n
      same = omega arith

  -- when the first n chains are raised, the n-th chain is still as it was
  pub chain_so_far : (chains now : List EventChainView) (n : ℕ) → n < length chains → now ≡ map (raised_chain earlier later latest) (take n chains) ++ drop n chains → (chain : EventChainView) → slice_index_or now n chain ≡ slice_index_or chains n no_chain
  chain_so_far chains now n below is chain =
      ap (λ (cs : List EventChainView). slice_index_or cs n chain) is
      ∙ get_or-append_right (map (raised_chain earlier later latest) (take n chains)) (drop n chains) n n chain (length-map (take n chains) (raised_chain earlier later latest) ∙ length-take-le n chains (omega arith)) (omega arith)
      ∙ get_or-drop n chains (n - n) chain
      ∙ ap (λ k. slice_index_or chains k chain) same
      ∙ get_or_default chains n chain no_chain below
    where
      same : n + (n - n) ≡ n
      same = omega arith

  -- raising chains leaves the room in memory of each as it was
  pub room_raised : (chains next : List EventChainView) → next ≡ map (raised_chain earlier later latest) chains → (gate : ℕ) → room_of next gate ≡ room_of chains gate
  room_raised chains next is gate =
      ap (λ (cs : List EventChainView). room_of cs gate) is
      ∙ elim (cases_lt gate (length chains)) [
        | inl below ↦ ap (λ (c : EventChainView). c.room) (get_or-map (raised_chain earlier later latest) chains gate no_chain no_chain below)
        | inr past ↦
            ap (λ (c : EventChainView). c.room) (get_or_past (map (raised_chain earlier later latest) chains) gate no_chain (omega (arith, length-map chains (raised_chain earlier later latest))) ∙ sym (get_or_past chains gate no_chain past))
      ]
