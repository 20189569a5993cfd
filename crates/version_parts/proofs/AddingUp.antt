-- The items of updates add up.
-- Used by `items_are_placed`.
use Rattle.std.proofs.Common.{◌≡◌, ◌≤◌, ◌<◌, ◌+◌, ◌==◌, inl, inr, ℕ, Bool, true, false, cond, List, [], ◌∷◌, refl, ap, ◌∙◌, arith}
use Rattle.std.specs.Prelude.{nat_le}
use Rattle.std.proofs.lemmas.Bool.{le-leb, lt-leb, eq-eqb, ne_eqb, cases_lt}
use Rattle.weave_data.specs.declared.name.Name.{Name}
use Rattle.version_parts.specs.declared.edge.EdgeItems.{EdgeItems}
use Rattle.version_parts.specs.declared.lists.Lists.{Lists}
use Rattle.version_parts.specs.declared.track.Item.{Item}
use Rattle.version_parts.specs.Counts.{total, count_items, count_edge, count_updates, count_in_lists}
use Rattle.version_parts.specs.Placed.{AreUpTo}
use Rattle.version_parts.specs.States.{Tracks}
use Rattle.version_parts.proofs.Placing.{lists_weaker, counts_agree}

-- a test that passes if one of two others does
module _ (test first second : ℕ → Bool) (parts : (n : ℕ) → cond (test n) 1 0 ≡ cond (first n) 1 0 + cond (second n) 1 0) where
  items_sum : {X : Type 0} (items : List (Item X)) → count_items test items ≡ count_items first items + count_items second items
  items_sum [] = omega arith
  items_sum (item ∷ rest) = let more = items_sum rest in let here = parts item.time.update in omega (arith, more, here)

  tracks_sum : (tracks : Tracks) → total (count_items test) tracks ≡ total (count_items first) tracks + total (count_items second) tracks
  tracks_sum [] = omega arith
  tracks_sum (pair ∷ rest) = let more = tracks_sum rest in let here = items_sum pair.1 in omega (arith, more, here)

  edges_sum : (edges : List (Name × EdgeItems)) → total (count_edge test) edges ≡ total (count_edge first) edges + total (count_edge second) edges
  edges_sum [] = omega arith
  edges_sum (pair ∷ rest) = let more = edges_sum rest in let targets = items_sum pair.1.targets in let tags = tracks_sum pair.1.tags in omega (arith, more, targets, tags)

  lists_sum : (lists : Lists) → count_updates test lists ≡ count_updates first lists + count_updates second lists
  lists_sum lists = let presence = items_sum lists.presence in let props = tracks_sum lists.props in let edges = edges_sum lists.edges in omega (arith, presence, props, edges)

none_pass : (lists : Lists) → count_updates (λ update. false) lists ≡ 0
none_pass lists = let twice = lists_sum (λ update. false) (λ update. false) (λ update. false) (λ n. refl) lists in omega (arith, twice)

-- if no item is of an update after the newest one, those of the updates up to it are all items of the vertex
pub all_counted : (newest : ℕ) (lists : Lists) → AreUpTo newest lists → count_updates (λ update. nat_le update newest) lists ≡ count_in_lists lists
all_counted newest lists within =
    counts_agree (λ update. nat_le update newest) (λ update. true) lists
    (lists_weaker (λ time. time.update ≤ newest) (λ time. nat_le time.update newest ≡ true) (λ time old. le-leb time.update newest old) lists within)

-- if no item is of an update after the newest one, a later update has no items
pub none_later : (newest update : ℕ) (lists : Lists) → newest < update → AreUpTo newest lists → count_updates (λ other. other == update) lists ≡ 0
none_later newest update lists later within =
    counts_agree (λ other. other == update) (λ other. false) lists
    (lists_weaker (λ time. time.update ≤ newest) (λ time. (time.update == update) ≡ false) (λ time old. ne_eqb time.update update (λ same. omega (arith, old, later, same))) lists within)
    ∙ none_pass lists

one_update : (update n : ℕ) → cond (nat_le n (update + 1)) 1 0 ≡ cond (nat_le n update) 1 0 + cond (n == update + 1) 1 0
one_update update n = elim (cases_lt update n) [
  | inr old ↦
      let first : cond {A = ℕ} (nat_le n (update + 1)) 1 0 ≡ 1 = ap (λ b. cond b 1 0) (le-leb n (update + 1) (omega (arith, old))) in
      let second : cond {A = ℕ} (nat_le n update) 1 0 ≡ 1 = ap (λ b. cond b 1 0) (le-leb n update old) in
      let third : cond {A = ℕ} (n == update + 1) 1 0 ≡ 0 = ap (λ b. cond b 1 0) (ne_eqb n (update + 1) (λ same. omega (arith, old, same))) in
      omega (arith, first, second, third)
  | inl new ↦
      let second : cond {A = ℕ} (nat_le n update) 1 0 ≡ 0 = ap (λ b. cond b 1 0) (lt-leb n update new) in
      elim (cases_lt (update + 1) n) [
        | inr here ↦
            let first : cond {A = ℕ} (nat_le n (update + 1)) 1 0 ≡ 1 = ap (λ b. cond b 1 0) (le-leb n (update + 1) here) in
            let third : cond {A = ℕ} (n == update + 1) 1 0 ≡ 1 = ap (λ b. cond b 1 0) (eq-eqb n (update + 1) (omega (arith, here, new))) in
            omega (arith, first, second, third)
        | inl later ↦
            let first : cond {A = ℕ} (nat_le n (update + 1)) 1 0 ≡ 0 = ap (λ b. cond b 1 0) (lt-leb n (update + 1) later) in
            let third : cond {A = ℕ} (n == update + 1) 1 0 ≡ 0 = ap (λ b. cond b 1 0) (ne_eqb n (update + 1) (λ same. omega (arith, later, same))) in
            omega (arith, first, second, third)
      ]
]

-- the items of the updates up to the next one are those of the updates up to this one and those of the next
pub one_more_update : (update : ℕ) (lists : Lists) → count_updates (λ other. nat_le other (update + 1)) lists ≡ count_updates (λ other. nat_le other update) lists + count_updates (λ other. other == update + 1) lists
one_more_update update lists = lists_sum (λ other. nat_le other (update + 1)) (λ other. nat_le other update) (λ other. other == update + 1) (one_update update) lists
