-- Chains with one request more.
-- Used by `chains_of` and `put`.
use Rattle.std.proofs.Common.{◌≡◌, ℕ, ◌+◌, ◌-◌, ◌<◌, ◌≤◌, IsTrue, List, [], ◌∷◌, ◌++◌, length, inl, inr, sym, ap, ◌∙◌, subst, arith}
use Rattle.std.proofs.lemmas.Bool.{cases_eq, cases_lt}
use Rattle.std.proofs.lemmas.List.{get_or_append_left, get_or_past, length-append}
use Rattle.std.proofs.Math.Seq.{get_or-append_seam}
use Rattle.order_witness.specs.ByNumber.{list_at}
use Rattle.order_witness.specs.Heads.{item}
use Rattle.order_witness.specs.Preceding.{IsTransitive, Test}
use Rattle.run_judge.specs.declared.chains.Spot.{Spot}
use Rattle.run_judge.specs.Chains.{AreTurnChains, AreRisingBy, IsAtSpot, MayGoOn, spot_at}

-- the list with one number more
item_left : (xs : List ℕ) (r k : ℕ) → k < length xs → item (xs ++ r ∷ []) k ≡ item xs k
item_left xs r k within = get_or_append_left xs (r ∷ []) 0 k within

item_end : (xs : List ℕ) (r : ℕ) → item (xs ++ r ∷ []) (length xs) ≡ r
item_end xs r = get_or-append_seam xs r [] 0

one_longer : (xs : List ℕ) (r : ℕ) → length (xs ++ r ∷ []) ≡ length xs + 1
one_longer xs r = let long = length-append xs (r ∷ []) in omega (arith, long)

-- a list whose requests rise, with one after its last
module _ (before : Test) (transitive : IsTransitive before) (xs : List ℕ) (r : ℕ) (rising : (j k : ℕ) → j < k → k < length xs → IsTrue (before (item xs j) (item xs k))) (goes_on : MayGoOn before xs r) where
  all_before : (j : ℕ) → j < length xs → IsTrue (before (item xs j) r)
  all_before j within =
      let last : ℕ = length xs - 1 in
      let step : IsTrue (before (item xs last) r) = goes_on (omega (arith, within)) in
      elim (cases_eq j last) [
        | inl same ↦ subst (λ n. IsTrue (before (item xs n) r)) (sym same) step
        | inr other ↦ transitive (item xs j) (item xs last) r (rising j last (omega (arith, within, other)) (omega (arith, within))) step
      ]

  longer_rises : (j k : ℕ) → j < k → k < length (xs ++ r ∷ []) → IsTrue (before (item (xs ++ r ∷ []) j) (item (xs ++ r ∷ []) k))
  longer_rises j k less within =
      let long = one_longer xs r in
      elim (cases_lt k (length xs)) [
        | inl inside ↦
            subst (λ n. IsTrue (before n (item (xs ++ r ∷ []) k))) (sym (item_left xs r j (omega (arith, less, inside))))
            (subst (λ n. IsTrue (before (item xs j) n)) (sym (item_left xs r k inside)) (rising j k less inside))
        | inr past ↦
            let at_end : k ≡ length xs = omega (arith, past, within, long) in
            let early : j < length xs = omega (arith, less, at_end) in
            subst (λ n. IsTrue (before n (item (xs ++ r ∷ []) k))) (sym (item_left xs r j early))
            (subst (λ n. IsTrue (before (item xs j) (item (xs ++ r ∷ []) n))) (sym at_end)
            (subst (λ n. IsTrue (before (item xs j) n)) (sym (item_end xs r)) (all_before j early)))
      ]

-- One chain has one request more, and the others are as they were

module _ (old new : List (List ℕ)) (chain r : ℕ) (here : list_at new chain ≡ list_at old chain ++ r ∷ []) (others : (n : ℕ) → ¬ (n ≡ chain) → list_at new n ≡ list_at old n) where
  -- the stamps still rise
  pub rising_more : (before : Test) → IsTransitive before → MayGoOn before (list_at old chain) r → AreRisingBy before old → AreRisingBy before new
  rising_more before transitive goes_on rising c j k less within =
      elim (cases_eq c chain) [
        | inl same ↦
            let is : list_at new c ≡ list_at old chain ++ r ∷ [] = ap (list_at new) same ∙ here in
            subst (λ (xs : List ℕ). IsTrue (before (item xs j) (item xs k))) (sym is)
            (longer_rises before transitive (list_at old chain) r (rising chain) goes_on j k less (subst (λ (xs : List ℕ). k < length xs) is within))
        | inr other ↦
            let is = others c other in
            subst (λ (xs : List ℕ). IsTrue (before (item xs j) (item xs k))) (sym is) (rising c j k less (subst (λ (xs : List ℕ). k < length xs) is within))
      ]

  -- what was there is there
  pub spot_stays : length old ≤ length new → (spot : Spot) (a : ℕ) → IsAtSpot old spot a → IsAtSpot new spot a
  spot_stays more spot a at =
      let there = at.there in
      let some = at.some in
      let within = at.within in
      elim (cases_eq spot.chain chain) [
        | inl same ↦
            let is : list_at new spot.chain ≡ list_at old spot.chain ++ r ∷ [] = ap (list_at new) same ∙ here ∙ ap (λ n. list_at old n ++ r ∷ []) (sym same) in
            record {
              there = omega (arith, there, more);
              some = some;
              within = subst (λ (xs : List ℕ). spot.place ≤ length xs) (sym is) (let long = one_longer (list_at old spot.chain) r in omega (arith, within, long));
              event = ap (λ (xs : List ℕ). item xs (spot.place - 1)) is ∙ item_left (list_at old spot.chain) r (spot.place - 1) (omega (arith, some, within)) ∙ at.event;
            }
        | inr other ↦
            let is = others spot.chain other in
            record {
              there = omega (arith, there, more);
              some = some;
              within = subst (λ (xs : List ℕ). spot.place ≤ length xs) (sym is) within;
              event = ap (λ (xs : List ℕ). item xs (spot.place - 1)) is ∙ at.event;
            }
      ]

  -- and the new request is at the end of its chain
  pub spot_here : chain < length new → (place : ℕ) → place ≡ length (list_at old chain) + 1 → IsAtSpot new (record { chain = chain; place = place }) r
  spot_here there place last =
      let long = one_longer (list_at old chain) r in
      let before : place - 1 ≡ length (list_at old chain) = omega (arith, last) in
      record {
        there = there;
        some = omega (arith, last);
        within = subst (λ (xs : List ℕ). place ≤ length xs) (sym here) (omega (arith, long, last));
        event = ap (λ n. item (list_at new chain) n) before ∙ ap (λ (xs : List ℕ). item xs (length (list_at old chain))) here ∙ item_end (list_at old chain) r;
      }

-- One chain may be made first, and then has one request more

module _ (first old new : List (List ℕ)) (chain r : ℕ) (same : (n : ℕ) → list_at old n ≡ list_at first n) (here : list_at new chain ≡ list_at old chain ++ r ∷ []) (others : (n : ℕ) → ¬ (n ≡ chain) → list_at new n ≡ list_at old n) where
  rising_same : (before : Test) → AreRisingBy before first → AreRisingBy before old
  rising_same before rising c j k less within =
      subst (λ (xs : List ℕ). IsTrue (before (item xs j) (item xs k))) (sym (same c)) (rising c j k less (subst (λ (xs : List ℕ). k < length xs) (same c) within))

  -- the stamps rise, also if the chain was made first
  pub put_rising : (before : Test) → IsTransitive before → MayGoOn before (list_at first chain) r → AreRisingBy before first → AreRisingBy before new
  put_rising before transitive goes_on rising =
      rising_more old new chain r here others before transitive (subst (λ (xs : List ℕ). MayGoOn before xs r) (sym (same chain)) goes_on) (rising_same before rising)

  -- and what was there is there
  pub put_stay : length first ≤ length old → length new ≡ length old → (spot : Spot) (a : ℕ) → IsAtSpot first spot a → IsAtSpot new spot a
  put_stay more size spot a at =
      let there = at.there in
      spot_stays old new chain r here others (omega (arith, size)) spot a (record {
        there = omega (arith, there, more);
        some = at.some;
        within = subst (λ (xs : List ℕ). spot.place ≤ length xs) (sym (same spot.chain)) at.within;
        event = ap (λ (xs : List ℕ). item xs (spot.place - 1)) (same spot.chain) ∙ at.event;
      })

-- without turns there are no chains
pub no_chains : (before : Test) (turns : List ℕ) (spots : List Spot) → AreTurnChains before turns 0 [] spots
no_chains before turns spots = record {
  rising = λ c j k less within. absurd (let none = past_none c in omega (arith, within, none));
  placed = λ a had. let within = had.within in absurd (omega (arith, within));
}
  where
    past_none : (c : ℕ) → length (list_at [] c) ≡ 0
    past_none c = ap (λ (xs : List ℕ). length xs) (get_or_past [] c [] (omega arith))

-- with one turn more its request is at its spot
pub chains_more : (before : Test) (turns : List ℕ) (n : ℕ) (old new : List (List ℕ)) (spots then_spots : List Spot)
    → AreTurnChains before turns n old spots
    → (AreRisingBy before old → AreRisingBy before new)
    → ((spot : Spot) (a : ℕ) → IsAtSpot old spot a → IsAtSpot new spot a)
    → IsAtSpot new (spot_at then_spots (item turns n)) (item turns n)
    → ((r : ℕ) → ¬ (r ≡ item turns n) → spot_at then_spots r ≡ spot_at spots r)
    → AreTurnChains before turns (n + 1) new then_spots
chains_more before turns n old new spots then_spots are rising stay here others = record {
  rising = rising are.rising;
  placed = λ a had.
      elim (cases_eq a (item turns n)) [
        | inl same ↦ subst (λ r. IsAtSpot new (spot_at then_spots r) r) (sym same) here
        | inr other ↦
            let within = had.within in
            let earlier : had.j < n = elim (cases_eq had.j n) [ inl at_n ↦ absurd (other (sym had.event ∙ ap (item turns) at_n)) | inr not_n ↦ omega (arith, within, not_n) ] in
            subst (λ (spot : Spot). IsAtSpot new spot a) (sym (others a other)) (stay (spot_at spots a) a (are.placed a (record { j = had.j; within = earlier; event = had.event })))
      ];
}

-- at the end each request that has a turn is at its spot
pub chains_end : (before : Test) (turns : List ℕ) (n : ℕ) (chains : List (List ℕ)) (spots : List Spot) → length turns ≤ n → AreTurnChains before turns n chains spots → AreTurnChains before turns (length turns) chains spots
chains_end before turns n chains spots most are = record {
  rising = are.rising;
  placed = λ a had. are.placed a (record { j = had.j; within = (let within = had.within in omega (arith, within, most)); event = had.event });
}
