-- Maps under names of which each value is changed or goes: what a change at one key does to them.
-- Used by `add_to`, `add_to_edge`, `cut_edge_pairs`, `cut_edges`, `cut_pairs`, `cut_tracks`, `edges_at`, `values_at`,
-- Counting, Cutting, OneMore, Placing and Sequences.
use Rattle.std.proofs.Common.{◌≡◌, List, [], ◌∷◌, Bool, true, false, cond, Option, Some, None, refl, sym, ap, ◌∙◌, subst}
use Rattle.std.specs.declared.cmp.Ordering.TheVariants.{Less, Equal, Greater}
use Rattle.std.specs.Cmp.Lexicographic.{nat_list_cmp_total}
use Rattle.std.specs.FinMap.{nat_cmp-IsAntisymmetric, slice_cmp-IsAntisymmetric}
use Rattle.std.specs.Ordering.{match_ordering, is_eq}
use Rattle.std.specs.List.{AllByRecursion, retain_mut}
use Rattle.std.specs.List.Retain.{RetainsInTurn}
use Rattle.std.specs.List.Sorted.{IsStrictlySortedBy}
use Rattle.std.specs.Map.{keys_of}
use Rattle.std.specs.Option.{option_and_then}
use Rattle.std.proofs.lemmas.Map.Keys.{sorted_head, sorted_tail}
use Rattle.weave_data.specs.declared.name.Name.{Name}
use Rattle.weave_data.specs.Names.{name_cmp}
use Rattle.weave_data.specs.Pairs.{IsRising, at_key, put, without_key}
use Rattle.version_parts.specs.KeptValues.{with_value, with_change, kept_values}

weaker : {P Q : Name → Type 0} → ((k : Name) → P k → Q k) → (ks : List Name) → AllByRecursion P ks → AllByRecursion Q ks
weaker f [] all = tt
weaker f (k ∷ ks) all = (f k all.0, weaker f ks all.1)

sorted : (k : Name) (ks : List Name) → AllByRecursion (λ y. name_cmp k y ≡ Less) ks → IsStrictlySortedBy name_cmp ks → IsStrictlySortedBy name_cmp (k ∷ ks)
unfolding IsStrictlySortedBy
sorted k ks head tail = (head, tail)

none_sorted : IsStrictlySortedBy name_cmp []
unfolding IsStrictlySortedBy
none_sorted = tt

one_key : (a b : Name) → name_cmp a b ≡ Equal → a ≡ b
one_key a b equal = slice_cmp-IsAntisymmetric nat_cmp-IsAntisymmetric a b equal

-- all keys are above this one
abbrev pub AreAbove : {X : Type 0} → Name → List (Name × X) → Type 0
AreAbove key pairs = AllByRecursion (λ k. name_cmp key k ≡ Less) (keys_of pairs)

-- where keys rise, a key below the first one is below them all
pub above_less : {X : Type 0} (key : Name) (e : Name × X) (es : List (Name × X)) → IsRising (e ∷ es) → name_cmp key e.0 ≡ Less → AreAbove key (e ∷ es)
above_less key e es rising less = (less, weaker (λ k above. nat_list_cmp_total.trans key e.0 k less above) (keys_of es) (sorted_head name_cmp e.0 (keys_of es) rising))

above_equal : {X : Type 0} (key : Name) (e : Name × X) (es : List (Name × X)) → IsRising (e ∷ es) → name_cmp key e.0 ≡ Equal → AreAbove key es
above_equal key e es rising equal = subst (λ (q : Name). AreAbove q es) (sym (one_key key e.0 equal)) (sorted_head name_cmp e.0 (keys_of es) rising)

module _ {X : Type 0} (key : Name) where
  put_above : (value : X) (pairs : List (Name × X)) → AreAbove key pairs → put key value pairs ≡ (key, value) ∷ pairs
  put_above value [] above = refl
  put_above value (e ∷ es) above = ap (λ o. match_ordering o ((key, value) ∷ e ∷ es) ((e.0, value) ∷ es) (e ∷ put key value es)) above.0

  without_above : (pairs : List (Name × X)) → AreAbove key pairs → without_key key pairs ≡ pairs
  without_above [] above = refl
  without_above (e ∷ es) above = ap (λ o. cond (is_eq o) es (e ∷ without_key key es)) above.0 ∙ ap (λ rest. e ∷ rest) (without_above es above.1)

  -- at a key that is below all keys of a map there is no value
  pub none_above : (pairs : List (Name × X)) → AreAbove key pairs → at_key key pairs ≡ None
  none_above [] above = refl
  none_above (e ∷ es) above = ap (λ o. cond (is_eq o) (Some e.1) (at_key key es)) above.0 ∙ none_above es above.1

  change_above : (change : Option X) (pairs : List (Name × X)) → AreAbove key pairs → with_change key change pairs ≡ with_value key change pairs
  change_above None pairs above = without_above pairs above
  change_above (Some value) pairs above = put_above value pairs above

  change_here : (k : Name) (change old : Option X) (pairs : List (Name × X)) → name_cmp key k ≡ Equal → AreAbove key pairs → with_value k change pairs ≡ with_change key change (with_value k old pairs)
  change_here k None None pairs equal above = sym (without_above pairs above)
  change_here k None (Some was) pairs equal above = sym (ap (λ o. cond (is_eq o) pairs ((k, was) ∷ without_key key pairs)) equal)
  change_here k (Some now) None pairs equal above = ap (λ (q : Name). (q, now) ∷ pairs) (sym (one_key key k equal)) ∙ sym (put_above now pairs above)
  change_here k (Some now) (Some was) pairs equal above = sym (ap (λ o. match_ordering o ((key, now) ∷ (k, was) ∷ pairs) ((k, now) ∷ pairs) ((k, was) ∷ put key now pairs)) equal)

  change_past : (k : Name) (change old : Option X) (pairs : List (Name × X)) → name_cmp key k ≡ Greater → with_value k old (with_change key change pairs) ≡ with_change key change (with_value k old pairs)
  change_past k change None pairs greater = refl
  change_past k None (Some was) pairs greater = sym (ap (λ o. cond (is_eq o) pairs ((k, was) ∷ without_key key pairs)) greater)
  change_past k (Some now) (Some was) pairs greater = sym (ap (λ o. match_ordering o ((key, now) ∷ (k, was) ∷ pairs) ((k, now) ∷ pairs) ((k, was) ∷ put key now pairs)) greater)

  value_here : (k : Name) (value : Option X) (pairs : List (Name × X)) → name_cmp key k ≡ Equal → at_key key pairs ≡ None → at_key key (with_value k value pairs) ≡ value
  value_here k None pairs equal none = none
  value_here k (Some value) pairs equal none = ap (λ o. cond (is_eq o) (Some value) (at_key key pairs)) equal

  value_past : (k : Name) (value : Option X) (pairs : List (Name × X)) → is_eq (name_cmp key k) ≡ false → at_key key (with_value k value pairs) ≡ at_key key pairs
  value_past k None pairs other = refl
  value_past k (Some value) pairs other = ap (λ b. cond b (Some value) (at_key key pairs)) other

  -- what holds of all values holds of the one at a key
  pub of_key : (P : X → Type 0) (pairs : List (Name × X)) (value : X) → AllByRecursion (λ (pair : Name × X). P pair.1) pairs → at_key key pairs ≡ Some value → P value
  of_key P [] value all there = absurd cc
  of_key P (e ∷ es) value all there =
      elim (is_eq (name_cmp key e.0)) as (λ b. cond b (Some e.1) (at_key key es) ≡ Some value → P value) [
        | true ↦ λ h. let same : e.1 ≡ value = cc in subst P same all.0
        | false ↦ λ h. of_key P es value all.1 h
      ] there

  -- what holds of a value and of all values of a map holds of all of them when it is put in
  pub all_put : (P : X → Type 0) (value : X) (pairs : List (Name × X)) → P value → AllByRecursion (λ (pair : Name × X). P pair.1) pairs → AllByRecursion (λ (pair : Name × X). P pair.1) (put key value pairs)
  all_put P value [] here all = (here, tt)
  all_put P value (e ∷ es) here all =
      elim (name_cmp key e.0) as (λ o. AllByRecursion (λ (pair : Name × X). P pair.1) (match_ordering o ((key, value) ∷ e ∷ es) ((e.0, value) ∷ es) (e ∷ put key value es))) [
        | Less ↦ (here, all)
        | Equal ↦ (here, all.1)
        | Greater ↦ (all.0, all_put P value es here all.1)
      ]

module _ {A B : Type 0} (f : A → Option B) where
  keys_left : (P : Name → Type 0) (es : List (Name × A)) → AllByRecursion P (keys_of es) → AllByRecursion P (keys_of (kept_values f es))
  keys_left P [] all = tt
  keys_left P (e ∷ es) all =
      elim (f e.1) as (λ (o : Option B). AllByRecursion P (keys_of (with_value e.0 o (kept_values f es)))) [
        | None ↦ keys_left P es all.1
        | Some value ↦ (all.0, keys_left P es all.1)
      ]

  -- keys that rise still do
  pub rising_kept : (es : List (Name × A)) → IsRising es → IsRising (kept_values f es)
  rising_kept [] rising = none_sorted
  rising_kept (e ∷ es) rising =
      let rest : IsRising (kept_values f es) = rising_kept es (sorted_tail name_cmp e.0 (keys_of es) rising) in
      elim (f e.1) as (λ (o : Option B). IsRising (with_value e.0 o (kept_values f es))) [
        | None ↦ rest
        | Some value ↦ sorted e.0 (keys_of (kept_values f es)) (keys_left (λ k. name_cmp e.0 k ≡ Less) es (sorted_head name_cmp e.0 (keys_of es) rising)) rest
      ]

  -- a value that is put changes what it makes, and nothing else
  pub kept_put : (key : Name) (value : A) (es : List (Name × A)) → IsRising es → kept_values f (put key value es) ≡ with_change key (f value) (kept_values f es)
  kept_put key value [] rising = sym (change_above key (f value) [] tt)
  kept_put key value (e ∷ es) rising =
      elim (name_cmp key e.0) as (λ o. name_cmp key e.0 ≡ o → kept_values f (match_ordering o ((key, value) ∷ e ∷ es) ((e.0, value) ∷ es) (e ∷ put key value es)) ≡ with_change key (f value) (kept_values f (e ∷ es))) [
        | Less ↦ λ less. sym (change_above key (f value) (kept_values f (e ∷ es)) (keys_left (λ k. name_cmp key k ≡ Less) (e ∷ es) (above_less key e es rising less)))
        | Equal ↦ λ equal. change_here key e.0 (f value) (f e.1) (kept_values f es) equal (keys_left (λ k. name_cmp key k ≡ Less) es (above_equal key e es rising equal))
        | Greater ↦ λ greater. ap (with_value e.0 (f e.1)) (kept_put key value es (sorted_tail name_cmp e.0 (keys_of es) rising)) ∙ change_past key e.0 (f value) (f e.1) (kept_values f es) greater
      ] refl

  -- one that makes what the one before made changes nothing
  pub kept_same : (key : Name) (value : A) (es : List (Name × A)) → IsRising es → f value ≡ option_and_then f (at_key key es) → kept_values f (put key value es) ≡ kept_values f es
  kept_same key value [] rising same = ap (λ (o : Option B). with_value key o []) same
  kept_same key value (e ∷ es) rising same =
      elim (name_cmp key e.0) as (λ o. name_cmp key e.0 ≡ o → f value ≡ option_and_then f (cond (is_eq o) (Some e.1) (at_key key es)) → kept_values f (match_ordering o ((key, value) ∷ e ∷ es) ((e.0, value) ∷ es) (e ∷ put key value es)) ≡ kept_values f (e ∷ es)) [
        | Less ↦ λ less h. ap (λ (o : Option B). with_value key o (kept_values f (e ∷ es))) (h ∙ ap (option_and_then f) (none_above key es (above_less key e es rising less).1))
        | Equal ↦ λ equal h. ap (λ (o : Option B). with_value e.0 o (kept_values f es)) h
        | Greater ↦ λ greater h. ap (with_value e.0 (f e.1)) (kept_same key value es (sorted_tail name_cmp e.0 (keys_of es) rising) h)
      ] refl same

  -- what is at a key
  pub at_kept : (key : Name) (es : List (Name × A)) → IsRising es → at_key key (kept_values f es) ≡ option_and_then f (at_key key es)
  at_kept key [] rising = refl
  at_kept key (e ∷ es) rising =
      let rest : at_key key (kept_values f es) ≡ option_and_then f (at_key key es) = at_kept key es (sorted_tail name_cmp e.0 (keys_of es) rising) in
      elim (name_cmp key e.0) as (λ o. name_cmp key e.0 ≡ o → at_key key (with_value e.0 (f e.1) (kept_values f es)) ≡ option_and_then f (cond (is_eq o) (Some e.1) (at_key key es))) [
        | Less ↦ λ less. value_past key e.0 (f e.1) (kept_values f es) (ap is_eq less) ∙ rest
        | Equal ↦ λ equal. value_here key e.0 (f e.1) (kept_values f es) equal (none_above key (kept_values f es) (keys_left (λ k. name_cmp key k ≡ Less) es (above_equal key e es rising equal)))
        | Greater ↦ λ greater. value_past key e.0 (f e.1) (kept_values f es) (ap is_eq greater) ∙ rest
      ] refl

  -- nothing is left if nothing is made
  pub kept_none : (es : List (Name × A)) → AllByRecursion (λ (pair : Name × A). f pair.1 ≡ None) es → kept_values f es ≡ []
  kept_none [] none = refl
  kept_none (e ∷ es) none = ap (λ (o : Option B). with_value e.0 o (kept_values f es)) none.0 ∙ kept_none es none.1

  -- two functions that make the same of each value
  pub kept_agree : (g : A → Option B) (es : List (Name × A)) → AllByRecursion (λ (pair : Name × A). f pair.1 ≡ g pair.1) es → kept_values f es ≡ kept_values g es
  kept_agree g [] same = refl
  kept_agree g (e ∷ es) same = let rest : kept_values f es ≡ kept_values g es = kept_agree g es same.1 in λ i. with_value e.0 (same.0 i) (rest i)

  -- two functions that make the same of every value leave the same of every map
  pub kept_alike : (g : A → Option B) → ((value : A) → f value ≡ g value) → (es : List (Name × A)) → kept_values f es ≡ kept_values g es
  kept_alike g same [] = refl
  kept_alike g same (e ∷ es) = let rest : kept_values f es ≡ kept_values g es = kept_alike g same es in λ i. with_value e.0 (same e.1 i) (rest i)

  -- to keep values by f and then by g is to keep them by f followed by g
  pub kept_twice : {C : Type 0} (g : B → Option C) (es : List (Name × A)) → kept_values g (kept_values f es) ≡ kept_values (λ (value : A). option_and_then g (f value)) es
  kept_twice g [] = refl
  kept_twice {C} g (e ∷ es) =
      let rest : kept_values g (kept_values f es) ≡ kept_values (λ (value : A). option_and_then g (f value)) es = kept_twice g es in
      elim (f e.1) as (λ (o : Option B). kept_values g (with_value e.0 o (kept_values f es)) ≡ with_value e.0 (option_and_then g o) (kept_values (λ (value : A). option_and_then g (f value)) es)) [
        | None ↦ rest
        | Some value ↦ ap (with_value e.0 (g value)) rest
      ]

-- what a closure leaves that changes each value and answers whether it stays
pub retained_pairs : {A : Type 0} (stays : A → Bool) (change : A → A) (es : List (Name × A)) → retain_mut (λ (e : Name × A). stays e.1) (λ (e : Name × A). (e.0, change e.1)) es ≡ kept_values (λ (value : A). cond (stays value) (Some (change value)) None) es
retained_pairs stays change [] = refl
retained_pairs {A} stays change (e ∷ es) =
    let rest : retain_mut (λ (x : Name × A). stays x.1) (λ (x : Name × A). (x.0, change x.1)) es ≡ kept_values (λ (value : A). cond (stays value) (Some (change value)) None) es = retained_pairs stays change es in
    elim (stays e.1) as (λ b. cond b ((e.0, change e.1) ∷ retain_mut (λ (x : Name × A). stays x.1) (λ (x : Name × A). (x.0, change x.1)) es) (retain_mut (λ (x : Name × A). stays x.1) (λ (x : Name × A). (x.0, change x.1)) es) ≡ with_value e.0 (cond b (Some (change e.1)) None) (kept_values (λ (value : A). cond (stays value) (Some (change value)) None) es)) [
      | true ↦ ap (λ (tail : List (Name × A)). (e.0, change e.1) ∷ tail) rest
      | false ↦ rest
    ]

-- if each call of a closure answers and writes by a function, and leaves the closure as it was
pub retained_in_turn : {S X : Type 0} (R : S → X → Bool → S → X → Type 0) (f : S) (test : X → Bool) (change : X → X) → ((x : X) (b : Bool) (t : S) (y : X) → R f x b t y → (b ≡ test x) × (y ≡ change x) × (t ≡ f)) → (xs ys : List X) → RetainsInTurn R f xs ys → ys ≡ retain_mut test change xs
retained_in_turn R f test change step [] ys h = h
retained_in_turn {S} {X} R f test change step (x ∷ xs) ys h =
    let said = step x h.0 h.1 h.2 h.3 in
    let rest : h.4 ≡ retain_mut test change xs = retained_in_turn R f test change step xs h.4 (subst (λ (s : S). RetainsInTurn R s xs h.4) said.2 h.5) in
    h.6 ∙ (λ i. cond (said.0 i) (said.1 i ∷ rest i) (rest i))
