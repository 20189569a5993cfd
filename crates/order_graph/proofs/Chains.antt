-- A chain whose stamps rise: what is at or before a stamp are its first events.
-- Used by `first_led`, `latest`, `number_until` and `put`.
use Rattle.std.proofs.Common.{◌≡◌, ℕ, ◌+◌, ◌-◌, ◌<◌, ◌≤◌, true, false, not, ◌||◌, List, length, get_or, Contains, IsTrue, ◌⊎◌, inl, inr, refl, sym, subst, ◌∙◌, arith, slice_index_or, Some, None}
use Rattle.std.specs.List.{insert}
use Rattle.std.specs.List.Sorted.{IsPartitionedBy, IsPartitionPoint}
use Rattle.std.proofs.lemmas.Bool.{cases_Bool, cases_eq, cases_lt, or_cases, both_ways, not_from_true, not_from_false}
use Rattle.std.proofs.lemmas.List.{get_or_default}
use Rattle.std.proofs.lemmas.List.Elements.{Contains-get_or}
use Rattle.std.proofs.lemmas.List.Edits.{length-insert, get_or-insert_below, get_or-insert_at, get_or-insert_above}
use Rattle.vector_stamp.specs.declared.clock.Stamp.{Stamp}
use Rattle.vector_stamp.specs.Order.{stamp_before}
use Rattle.order_graph.specs.declared.chain.Event.{Event}
use Rattle.order_graph.specs.Frontiers.{at_or_before, StampOrderLaws}
use Rattle.order_graph.specs.Chains.{IsRisingChain, IsLatestAt, IsLedOn, IsPut, leads_to}
use Rattle.order_graph.proofs.Orders.{at_itself, at_from, at_cases, then_at, at-trans}

-- what a search for a place answers
abbrev pub IsUntil : List Event → Stamp → ℕ → Type 0
IsUntil events stamp number = IsPartitionPoint (λ (event : Event). at_or_before event.stamp stamp ≡ true) (λ (event : Event). at_or_before event.stamp stamp ≡ false) events number

module _ (laws : StampOrderLaws) where
  rising_at : (events : List Event) → IsRisingChain events → (i j : ℕ) (d : Event) → i ≤ j → j < length events → IsTrue (at_or_before (slice_index_or events i d).stamp (slice_index_or events j d).stamp)
  rising_at events rising i j d le within =
      elim (cases_eq i j) [
        | inl same ↦ subst (λ k. IsTrue (at_or_before (slice_index_or events i d).stamp (slice_index_or events k d).stamp)) same (at_itself laws (slice_index_or events i d).stamp)
        | inr other ↦ at_from laws (slice_index_or events i d).stamp (slice_index_or events j d).stamp (rising i j d (omega (arith, other)) within)
      ]

  -- of a rising chain the events that are at or before a stamp are the first ones
  pub first_are_before : (events : List Event) → IsRisingChain events → (stamp : Stamp) → IsPartitionedBy (λ (event : Event). at_or_before event.stamp stamp) events
  first_are_before events rising stamp i j d le within h =
      at-trans laws (slice_index_or events i d).stamp (slice_index_or events j d).stamp stamp (rising_at events rising i j d le within) h

  -- if the search answers place 0, no event of the chain is at or before the stamp
  pub latest_none : (events : List Event) (stamp : Stamp) (number : ℕ) → IsUntil events stamp number → number ≡ 0 → IsLatestAt events stamp None
  latest_none events stamp number until none event (k, within, here) h =
      both_ways _ (subst (λ (x : Event). at_or_before x.stamp stamp ≡ false) here (until.1 k event (omega arith) within)) h

  -- if it answers a later place of a rising chain, the event below that place is the latest at or before the stamp
  pub latest_some : (events : List Event) → IsRisingChain events → (stamp : Stamp) (number : ℕ) (latest d : Event) → IsUntil events stamp number → 0 < number → number ≤ length events → latest ≡ slice_index_or events (number - 1) d → IsLatestAt events stamp (Some latest)
  latest_some events rising stamp number latest d until some within is =
      let below : number - 1 < length events = omega arith in (
        subst (Contains events) (sym is) (Contains-get_or events (number - 1) d below),
        subst (λ (x : Event). IsTrue (at_or_before x.stamp stamp)) (sym is) (until.0 (number - 1) d (omega arith) (omega arith)),
        λ event has h. elim (cases_lt has.0 number) [
          | inl before ↦
              let first : slice_index_or events has.0 d ≡ event = get_or_default events has.0 d event has.1 ∙ has.2 in
              subst (λ (x : Event). IsTrue (at_or_before event.stamp x.stamp)) (sym is) (subst (λ (x : Event). IsTrue (at_or_before x.stamp (slice_index_or events (number - 1) d).stamp)) first (rising_at events rising has.0 (number - 1) d (omega arith) below))
          | inr after ↦ absurd (both_ways _ (subst (λ (x : Event). at_or_before x.stamp stamp ≡ false) has.2 (until.1 has.0 event after has.1)) h)
        ],
      )

  -- an event put into its place
  module _ (events : List Event) (rising : IsRisingChain events) (event : Event) where
    -- a rising chain that has an event with the same stamp is, as it is, the chain with the event put in
    pub put_there : (latest : Event) → Contains events latest → latest.stamp ≡ event.stamp → IsPut events event events
    put_there latest has same =
        record { stay = λ other h. h; no_others = λ other h. inl h; there = (latest, has, same); rising = rising }

    module _ (number : ℕ) (until : IsUntil events event.stamp number) (within : number ≤ length events) (new : 0 < number → (d : Event) → (slice_index_or events (number - 1) d).stamp ≡ event.stamp → ⊥) (in_turn : (other : Event) → Contains events other → IsTrue (at_or_before other.stamp event.stamp || stamp_before event.stamp other.stamp)) where
      first_before : (k : ℕ) (d : Event) → k < number → IsTrue (stamp_before (slice_index_or events k d).stamp event.stamp)
      first_before k d below =
          elim (at_cases laws (slice_index_or events k d).stamp event.stamp (until.0 k d (omega arith) below)) [
            | inr before ↦ before
            | inl same ↦ elim (cases_eq k (number - 1)) [
              | inl last ↦ absurd (new (omega arith) d (subst (λ j. (slice_index_or events j d).stamp ≡ event.stamp) last same))
              | inr other ↦
                  let on : IsTrue (stamp_before (slice_index_or events k d).stamp (slice_index_or events (number - 1) d).stamp) = rising k (number - 1) d (omega (arith, other)) (omega arith) in
                  let end : IsTrue (at_or_before (slice_index_or events (number - 1) d).stamp event.stamp) = until.0 (number - 1) d (omega arith) (omega arith) in
                  absurd (laws.before-strict event.stamp (subst (λ x. IsTrue (stamp_before x event.stamp)) same (then_at laws (slice_index_or events k d).stamp (slice_index_or events (number - 1) d).stamp event.stamp on end)))
            ]
          ]

      rest_after : (k : ℕ) (d : Event) → number ≤ k → k < length events → IsTrue (stamp_before event.stamp (slice_index_or events k d).stamp)
      rest_after k d after below =
          elim (or_cases (at_or_before (slice_index_or events k d).stamp event.stamp) _ (in_turn (slice_index_or events k d) (Contains-get_or events k d below))) [
            | inl at ↦ absurd (both_ways _ (until.1 k d after below) at)
            | inr h ↦ h
          ]

      above : (k : ℕ) (d : Event) → number < k → get_or (insert events number event) k d ≡ get_or events (k - 1) d
      above k d after =
          let same : (k - 1) + 1 ≡ k = omega arith in
          subst (λ m. get_or (insert events number event) m d ≡ get_or events (k - 1) d) same (get_or-insert_above events number event d (k - 1) (omega arith) within)

      inserted_rise : IsRisingChain (insert events number event)
      inserted_rise i j d less below =
          let long = length-insert events number event within in
          elim (cases_lt i number) [
            | inl first ↦ rw (get_or-insert_below events number event d i first within) (
                elim (cases_lt j number) [
                  | inl both ↦ rw (get_or-insert_below events number event d j both within) (rising i j d less (omega arith))
                  | inr rest ↦ elim (cases_eq j number) [
                    | inl here ↦ subst (λ m. IsTrue (stamp_before (get_or events i d).stamp (get_or (insert events number event) m d).stamp)) (sym here) (rw (get_or-insert_at events number event d within) (first_before i d first))
                    | inr there ↦ rw (above j d (omega (arith, there))) (rising i (j - 1) d (omega (arith, there)) (omega (arith, long)))
                  ]
                ])
            | inr rest ↦
                rw (above j d (omega arith)) (
                elim (cases_eq i number) [
                  | inl here ↦ subst (λ m. IsTrue (stamp_before (get_or (insert events number event) m d).stamp (get_or events (j - 1) d).stamp)) (sym here) (rw (get_or-insert_at events number event d within) (rest_after (j - 1) d (omega arith) (omega (arith, long))))
                  | inr there ↦ rw (above i d (omega (arith, there))) (rising (i - 1) (j - 1) d (omega (arith, there)) (omega (arith, long)))
                ])
          ]

      inserted_stay : (other : Event) → Contains events other → Contains (insert events number event) other
      inserted_stay other (k, below, here) =
          let long = length-insert events number event within in
          elim (cases_lt k number) [
            | inl first ↦ (k, omega (arith, long), get_or-insert_below events number event other k first within ∙ here)
            | inr rest ↦ (k + 1, omega (arith, long), get_or-insert_above events number event other k rest within ∙ here)
          ]

      inserted_others : (other : Event) → Contains (insert events number event) other → Contains events other ⊎ (other ≡ event)
      inserted_others other (k, below, here) =
          let long = length-insert events number event within in
          elim (cases_lt k number) [
            | inl first ↦ inl (k, omega (arith, long), sym (get_or-insert_below events number event other k first within) ∙ here)
            | inr rest ↦ elim (cases_eq k number) [
              | inl at ↦ inr (sym here ∙ subst (λ m. get_or (insert events number event) m other ≡ event) (sym at) (get_or-insert_at events number event other within))
              | inr after ↦ inl (k - 1, omega (arith, long, after), sym (above k other (omega (arith, after))) ∙ here)
            ]
          ]

      -- an event whose stamp isn't there yet, inserted at the place that the search answers, is put into its place
      pub put_in : IsPut events event (insert events number event)
      put_in =
          let long = length-insert events number event within in
          record {
            stay = inserted_stay;
            no_others = inserted_others;
            there = (event, (number, omega (arith, long), get_or-insert_at events number event event within), refl);
            rising = inserted_rise;
          }

-- a stamp with `IsLedOn` leads to none of the events before some place of a chain, and to all from there on
pub first_are_not_led : (events : List Event) (stamp : Stamp) → IsLedOn stamp events → IsPartitionedBy (λ (event : Event). not (leads_to stamp event)) events
first_are_not_led events stamp led i j d le within fails =
    elim (cases_Bool (leads_to stamp (slice_index_or events i d))) [
      | inl leads ↦ absurd (both_ways _ (not_from_true _ (led i j d le within leads)) fails)
      | inr not_led ↦ not_from_false _ not_led
    ]
