-- If the own entries that a log gained are known, an own entry at its place in it is one of them.
-- Used by BegunHolds and crate sessions_account.
use Rattle.std.proofs.Common.{◌≡◌, ℕ, ◌==◌, Bool, cond, List, [], ◌∷◌, ◌++◌, length, get_or, set, Contains, ◌⊎◌, inl, inr, refl, sym, ap, subst, ◌∙◌, append_assoc, arith}
use Rattle.std.specs.List.{filter}
use Rattle.std.proofs.lemmas.Bool.{cases_lt, eq-eqb}
use Rattle.std.proofs.lemmas.List.{append-nil, append_cancel_right, get_or_past, get_or-set_same, length-set}
use Rattle.std.proofs.lemmas.List.Elements.{filter-append}
use Rattle.weave_data.proofs.Members.{has_cut, has_filter, has_last, has_none}
use Rattle.weave_account.specs.GoesOn.{IsBeginningOf}
use Rattle.seen_logs.specs.Seen.{IsOwn}
use Rattle.seen_logs.proofs.Placed.{in-front}
use Rattle.hands_account.proofs.Places.{in-back, less-or}
use Rattle.workers_account.proofs.OwnSince.{own-gained}

-- a list of one has one place
only-place : {E : Type 0} (before after : List E) (e entry : E) → e ∷ [] ≡ before ++ entry ∷ after → (before ≡ []) × (entry ≡ e)
only-place [] after e entry is = (refl, cc)
only-place (b ∷ []) after e entry is = absurd cc
only-place (b ∷ (c ∷ before)) after e entry is = absurd cc

-- a list of a row that was to go on did, or it is none of the row
pub went-on : {E : Type 0} (row : List (List E)) (k : ℕ) (added : List E)
    → (get_or (set row k (get_or row k [] ++ added)) k [] ≡ get_or row k [] ++ added)
    ⊎ (get_or (set row k (get_or row k [] ++ added)) k [] ≡ get_or row k [])
went-on row k added =
    let next = get_or row k [] ++ added in
    elim (cases_lt k (length row)) [
      | inl low ↦ inl (get_or-set_same row k next [] low)
      | inr high ↦ (let long = length-set row k next in
          inr (get_or_past (set row k next) k [] (omega (arith, high, long)) ∙ sym (get_or_past row k [] high)))
    ]

module _ {E : Type 0} (author : E → ℕ) (number : ℕ) where
  abbrev own : E → Bool
  own e = author e == number

  -- an own entry that was added is one of those that were gained
  pub own-among : (log seen made gained : List E) → IsBeginningOf log seen → made ≡ filter own log
      → filter own seen ≡ made ++ gained → (before : List E) (entry : E) (after : List E) → seen ≡ before ++ entry ∷ after
      → IsOwn number log before (author entry) → Contains gained entry
  own-among log seen made gained on was is before entry after at mine =
      let back = in-back log on.0 before after entry (sym on.1 ∙ at) mine.1 in
      subst (λ (l : List E). Contains l entry)
      (own-gained own log on.0 made gained was (sym (ap (filter own) on.1) ∙ is))
      (has_filter own on.0 entry (subst (λ (l : List E). Contains l entry) (sym back.2) (has_cut back.0 entry after))
      (eq-eqb (author entry) number mine.0))

  -- A log went on by entries of others and then by an own one.
  module _ (log before made : List E) (e : E) (mine : author e ≡ number) (on : IsBeginningOf log before)
      (was : made ≡ filter own log) where
    after-log : before ++ e ∷ [] ≡ log ++ (on.0 ++ e ∷ [])
    after-log = ap (λ l. l ++ e ∷ []) on.1 ∙ append_assoc log on.0 (e ∷ [])

    -- the own entries with the new one are not those that were there before it
    pub not-none : filter own (before ++ e ∷ []) ≡ made → ⊥
    not-none is =
        has_none e (subst (λ (l : List E). Contains l e)
        (own-gained own log (on.0 ++ e ∷ []) made [] was (sym (ap (filter own) after-log) ∙ is ∙ sym (append-nil made)))
        (has_filter own (on.0 ++ e ∷ []) e (has_last on.0 e) (eq-eqb (author e) number mine)))

    module _ (is : filter own (before ++ e ∷ []) ≡ made ++ e ∷ []) where
      -- if that one alone was gained, the others' entries have none of the own
      others : filter own on.0 ≡ []
      others =
          append_cancel_right (filter own on.0) [] (e ∷ [])
          (ap (λ b. filter own on.0 ++ cond b (e ∷ []) []) (sym (eq-eqb (author e) number mine))
          ∙ sym (filter-append own on.0 (e ∷ []))
          ∙ own-gained own log (on.0 ++ e ∷ []) made (e ∷ []) was (sym (ap (filter own) after-log) ∙ is))

      -- and an own entry that was added is this one at its place
      pub one-own : (rest : List E) (entry : E) (after : List E) → before ++ e ∷ [] ≡ rest ++ entry ∷ after
          → IsOwn number log rest (author entry) → (rest ≡ before) × (entry ≡ e)
      one-own rest entry after at its =
          let back = in-back log (on.0 ++ e ∷ []) rest after entry (sym after-log ∙ at) its.1 in
          elim (less-or (length back.0) (length on.0)) [
            | inl less ↦ (let front = in-front on.0 (e ∷ []) back.0 after entry back.2 less in
                absurd (has_none entry (subst (λ (l : List E). Contains l entry) others
                (has_filter own on.0 entry (subst (λ (l : List E). Contains l entry) (sym front.1) (has_cut back.0 entry front.0))
                (eq-eqb (author entry) number its.0)))))
            | inr late ↦ (let last = in-back on.0 (e ∷ []) back.0 after entry back.2 late in
                let place = only-place last.0 after e entry last.2 in
                (back.1 ∙ ap (λ l. log ++ l) (last.1 ∙ ap (λ l. on.0 ++ l) place.0 ∙ append-nil on.0) ∙ sym on.1, place.1))
          ]
