-- What a map keeps when it changes: its keys rise, and it has places for its pairs.
-- Used by `insert`, `put_back`, `remove`, `swap` and `take`.
use Rattle.std.proofs.Common.{◌≡◌, ℕ, ◌+◌, ◌-◌, ◌<◌, ◌≤◌, List, length, Some, None, is_some, false, IsTrue, inl, inr, sym, ap, ◌∙◌, subst, arith, le_trans}
use Rattle.std.proofs.lemmas.Bool.{cases_lt}
use Rattle.weave_data.specs.Changes.{places}
use Rattle.weave_data.specs.Pairs.{IsRising, at_key, has, put, without_key}
use Rattle.weave_data.proofs.Changing.{rising_put, rising_without, found_put, without_put, none_left, put_put, put_without}
use Rattle.weave_data.proofs.Enough.{no_fewer}

module _ {X : Type 0} (key : List ℕ) (es fs : List (List ℕ × X)) (n m cap after : ℕ) where
  -- if a value is put, and length and places stay as they are, the keys still rise and the places still suffice
  pub kept_written : (value : X) → IsRising es × (places n ≤ cap) → fs ≡ put key value es → m ≡ n → after ≡ cap → IsRising fs × (places m ≤ after)
  kept_written value kept is len same = (subst IsRising (sym is) (rising_put key value es kept.0), subst (λ k. places k ≤ after) (sym len) (subst (λ k. places n ≤ k) (sym same) kept.1))

  -- if a value is put, the length grows by one, and there are places for it, the keys still rise and the places suffice
  pub kept_added : (value : X) → IsRising es → fs ≡ put key value es → m ≡ n + 1 → places (n + 1) ≤ after → IsRising fs × (places m ≤ after)
  kept_added value rising is len room = (subst IsRising (sym is) (rising_put key value es rising), subst (λ k. places k ≤ after) (sym len) room)

  -- if a key is dropped, the length falls by one, and the places stay, the keys still rise and the places suffice
  pub kept_cut : IsRising es × (places n ≤ cap) → fs ≡ without_key key es → m + 1 ≡ n → after ≡ cap → IsRising fs × (places m ≤ after)
  kept_cut kept is len same = (subst IsRising (sym is) (rising_without key es kept.0), subst (λ k. places m ≤ k) (sym same) (le_trans (no_fewer m) (subst (λ k. places k ≤ cap) (sym len) kept.1)))

-- places no fewer than those before, which sufficed, and than a room that suffices to grow suffice for one pair more
pub room_for : (n room cap after : ℕ) → (places n < places (n + 1) → places (n + 1) ≤ room) → places n ≤ cap → cap ≤ after → room ≤ after → places (n + 1) ≤ after
room_for n room cap after fits now more block = elim (cases_lt (places n) (places (n + 1))) [
  | inl grows ↦ le_trans (fits grows) block
  | inr same ↦ le_trans same (le_trans now more)
]

-- what takes a change back

module _ {X : Type 0} (key : List ℕ) (value : X) (es fs now : List (List ℕ × X)) (rising : IsRising es) (is : es ≡ now) where
  -- after a value was overwritten its key is there, and to put the old value again gives the pairs from before
  pub written_back : (before : X) → at_key key es ≡ Some before → fs ≡ put key value es → IsTrue (has key fs) × (put key before fs ≡ now)
  written_back before there after = (
    ap (has key) after ∙ ap is_some (found_put key value es),
    ap (put key before) after ∙ put_put key es value before rising there ∙ is,
  )

  -- after a value was put at a new key, to drop the key gives the pairs from before
  pub dropped_back : at_key key es ≡ None → fs ≡ put key value es → Unit {0} × (without_key key fs ≡ now)
  dropped_back none after = (tt, ap (without_key key) after ∙ without_put key value es none ∙ is)

  -- after a pair was taken out its key isn't there, the room suffices to put it back, and that gives the old pairs
  pub taken_back : (n room : ℕ) → at_key key es ≡ Some value → fs ≡ without_key key es → length fs + 1 ≡ n → (places (n - 1) < places n → places n ≤ room)
      → ((has key fs ≡ false) × (places (length fs) < places (length fs + 1) → places (length fs + 1) ≤ room)) × (put key value fs ≡ now)
  taken_back n room there after len fits = (
    (
      ap (has key) after ∙ ap is_some (none_left key es rising),
      λ grows. subst (λ k. places k ≤ room) (sym len) (fits (subst (λ k. places k < places n) {x = length fs} (omega (arith, len)) (subst (λ k. places (length fs) < places k) len grows))),
    ),
    ap (put key value) after ∙ put_without key es value rising there ∙ is,
  )
