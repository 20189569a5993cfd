-- A program reads of the updates that are kept what it would read of all, if what is kept reaches back far enough.
-- Used by `kept_updates_are_read_like_all`.
use Rattle.std.proofs.Common.{◌≡◌, ℕ, zero, suc, ◌+◌, ◌≤◌, Bool, true, List, [], ◌∷◌, drop, slice_get, IsTrue, inl, inr, refl, sym, ◌∙◌, arith}
use Rattle.std.specs.Option.{IsSomeAnd}
use Rattle.std.proofs.lemmas.Bool.{cases_lt, or_left}
use Rattle.weave_data.specs.declared.name.Name.{Name}
use Rattle.vector_stamp.specs.declared.clock.Stamp.{Stamp}
use Rattle.vector_stamp.specs.Order.{stamp_before}
use Rattle.vector_stamp.specs.Precedence.{GivenPair}
use Rattle.vector_stamp.specs.Seeing.{with_front, last_place, is_seen, seen_of, last_seen}
use Rattle.vector_stamp.proofs.LastPlaces.{front-first, last-dropped}
use Rattle.weave_entries.specs.declared.shard_log.ShardEntry.{ShardEntry}
use Rattle.weave_entries.specs.ShardRules.{dropped_of, update_stamps, kept_stamps, updates_read, last_read, IsKeptFor}

-- Places in a list and in what is left of it

front-past : (front : Bool) (place : ℕ) → 1 ≤ place → with_front front place ≡ suc place
front-past front zero some = absurd (omega (arith, some))
front-past front (suc place) some = refl

-- the last element that passes is also the last one of a list of which some are dropped, if one of the rest passes
place-dropped : {A : Type 0} (test : A → Bool) (n : ℕ) (xs : List A) → 1 ≤ last_place test (drop n xs) → last_place test xs ≡ n + last_place test (drop n xs)
place-dropped test zero xs some = let same : last_place test xs ≡ 0 + last_place test xs = omega arith in same
place-dropped test (suc n) [] some = absurd (omega (arith, some))
place-dropped test (suc n) (x ∷ xs) some =
    let here : 1 ≤ last_place test (drop n xs) = some in
    let rest : last_place test xs ≡ n + last_place test (drop n xs) = place-dropped test n xs here in
    let front : last_place test (x ∷ xs) ≡ suc (last_place test xs) = front-past (test x) (last_place test xs) (omega (arith, rest, here)) in
    let both : suc (last_place test xs) ≡ suc n + last_place test (drop n xs) = omega (arith, rest) in
    front ∙ both

-- What is read

-- the oldest update is seen if it is before the program
sees-some : (pairs : List GivenPair) (program : Stamp) (updates : List Stamp) → IsSomeAnd (slice_get updates 0) (λ oldest. IsTrue (stamp_before oldest program)) → 1 ≤ seen_of pairs program updates
sees-some pairs program [] before = absurd before
sees-some pairs program (update ∷ updates) before =
    let seen : is_seen pairs program update ≡ true = or_left (stamp_before update program) _ before in
    front-first (is_seen pairs program update) (seen_of pairs program updates) seen

none-dropped : (pairs : List GivenPair) (program : Stamp) (n : ℕ) (updates : List Stamp) → n ≡ 0 → n + seen_of pairs program (drop n updates) ≡ seen_of pairs program updates
none-dropped pairs program zero updates is = let same : 0 + seen_of pairs program updates ≡ seen_of pairs program updates = omega arith in same
none-dropped pairs program (suc n) updates is = absurd (omega (arith, is))

last-none-dropped : (pairs : List GivenPair) (program : Stamp) (n : ℕ) (updates : List Stamp) → n ≡ 0 → last_seen (seen_of pairs program (drop n updates)) (drop n updates) ≡ last_seen (seen_of pairs program updates) updates
last-none-dropped pairs program zero updates is = refl
last-none-dropped pairs program (suc n) updates is = absurd (omega (arith, is))

module _ (pairs : List GivenPair) (program : Stamp) (v : Name) (log : List ShardEntry) (base : IsKeptFor program v log) where
  kept-seen : 1 ≤ dropped_of v log → 1 ≤ seen_of pairs program (kept_stamps v log)
  kept-seen dropped = sees-some pairs program (kept_stamps v log) (base dropped)

  -- if what is kept reaches back far enough, a program reads after as many updates as if all were kept
  pub read-like-all : updates_read pairs program v log ≡ seen_of pairs program (update_stamps v log)
  read-like-all = elim (cases_lt 0 (dropped_of v log)) [
    | inl dropped ↦ sym (place-dropped (is_seen pairs program) (dropped_of v log) (update_stamps v log) (kept-seen (omega (arith, dropped))))
    | inr none ↦ none-dropped pairs program (dropped_of v log) (update_stamps v log) (omega (arith, none))
  ]

  -- and the last update that it reads is the same as if all were kept
  pub last-like-all : last_read pairs program v log ≡ last_seen (seen_of pairs program (update_stamps v log)) (update_stamps v log)
  last-like-all = elim (cases_lt 0 (dropped_of v log)) [
    | inl dropped ↦ sym (last-dropped (dropped_of v log) (seen_of pairs program (kept_stamps v log)) (seen_of pairs program (update_stamps v log)) (update_stamps v log) (sym read-like-all) (kept-seen (omega (arith, dropped))))
    | inr none ↦ last-none-dropped pairs program (dropped_of v log) (update_stamps v log) (omega (arith, none))
  ]
