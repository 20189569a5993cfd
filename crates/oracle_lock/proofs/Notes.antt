-- Notes and passes of gatekeepers' locks that have met, as logs by the numbers of gatekeepers.
-- Used by `meet_gates`.
use Rattle.std.proofs.Common.{◌≡◌, ◌≢◌, ◌⊎◌, ℕ, ◌<◌, ◌≤◌, List, [], length, map, get_or, inl, inr, refl, sym, ap, ◌∙◌, subst, arith}
use Rattle.std.proofs.lemmas.Bool.{cases_lt}
use Rattle.std.proofs.lemmas.List.{get_or-map, length-map, get_or_past}
use mathlib.Core.List.{IsPrefix}
use Rattle.weave_entries.specs.declared.gate_log.GateEntry.{GateEntry}
use Rattle.weave_entries.specs.declared.gate_log.GateDeed.{GateDeed}
use Rattle.weave_entries.specs.GateRules.{HearsNoMore, IsGateLog}
use Rattle.weave_account.specs.GoesOn.{IsBeginningOf}
use Rattle.seen_logs.specs.Seen.{GatesGoOn}
use Rattle.chronicle.specs.declared.chronicle.Chronicle.{Chronicle}
use Rattle.chronicle.specs.declared.pass.Pass.{Pass}
use Rattle.chronicle.specs.declared.note.Note.{Note}
use Rattle.chronicle.specs.Logs.{Log}
use Rattle.chronicle.specs.Locks.{lock_of, name_of}
use Rattle.chronicle.specs.Passes.{seen_by_pass, seen_by_note, lock_noted}
use Rattle.lock_row.specs.Rows.{names_of, AreReady}
use Rattle.lock_row.specs.Meetings.{HaveMet, CanMeet, AllMet}
use Rattle.lock_row.proofs.Meetings.{as_many}
use Rattle.lock_row.proofs.Lists.{mapped_alike, mapped_on, one_of}
use Rattle.seen_logs.specs.Entries.{gate_entry, gate_entries}
use Rattle.oracle_lock.specs.Seen.{gates_noted, gates_seen, of_gates, AreGateLogs}

-- what begins a lock's log begins it as entries
begins : (a b : Log GateDeed) → IsPrefix a b → IsBeginningOf (gate_entries a) (gate_entries b)
begins = mapped_on gate_entry

-- notes whose names are those of a row can meet passes of the row
pub all_can : {M E : Type 0} (locks : List (Chronicle M E)) (passes : List (Pass E)) (notes : List (Note E))
    → map lock_noted notes ≡ names_of locks → AreReady locks passes → CanMeet locks passes notes (length locks)
all_can {M} {E} locks passes notes named ready k c p n low other =
    let N : Chronicle M E → List ℕ = λ x. name_of (lock_of x) in
    let long = as_many locks notes named in (
      ready k c p low,
      sym (get_or-map lock_noted notes k n [] (omega (arith, low, long)))
          ∙ (ap (λ (l : List (List ℕ)). get_or l k []) named ∙ get_or-map N locks k c [] low),
    )

module _ {M : Type 0} (locks : List (Chronicle M GateDeed)) (before after : List (Pass GateDeed)) (notes later : List (Note GateDeed))
    (met : AllMet locks before after notes later (length locks)) (before_long : length before ≡ length locks)
    (after_long : length after ≡ length locks) (notes_long : length notes ≡ length locks)
    (later_long : length later ≡ length locks) where
  abbrev as_noted : Note GateDeed → List GateEntry
  as_noted note = gate_entries (seen_by_note note)

  abbrev as_seen : Pass GateDeed → List GateEntry
  as_seen pass = gate_entries (seen_by_pass pass)

  apart : (k : ℕ) → k < length locks → k ≢ length locks
  apart k low e = absurd (omega (arith, low, e))

  -- if passes and notes met at all locks, the passes are ready
  pub met_ready : AreReady locks after
  met_ready k c p low = (met k c p (one_of notes k (omega (arith, low, notes_long))) low (apart k low)).ready

  -- notes and passes have seen the same
  pub met_one : gates_noted later ≡ gates_seen after
  met_one = mapped_alike as_seen as_noted after later (later_long ∙ sym after_long)
      (λ k a b low. let within : k < length locks = omega (arith, low, after_long) in
      ap gate_entries (met k (one_of locks k within) a b within (apart k within)).one)

  module _ (k : ℕ) (low : k < length locks) where
    abbrev p : Pass GateDeed
    p = one_of before k (omega (arith, low, before_long))

    abbrev n : Note GateDeed
    n = one_of notes k (omega (arith, low, notes_long))

    here : HaveMet (lock_of (get_or locks k (one_of locks k low))) (get_or before k p) (get_or after k p) (get_or notes k n) (get_or later k n)
    here = met k (one_of locks k low) p n low (apart k low)

    noted_is : get_or (gates_noted notes) k [] ≡ gate_entries (seen_by_note (get_or notes k n))
    noted_is = get_or-map as_noted notes k n [] (omega (arith, low, notes_long))

    later_is : get_or (gates_noted later) k [] ≡ gate_entries (seen_by_note (get_or later k n))
    later_is = get_or-map as_noted later k n [] (omega (arith, low, later_long))

    seen_is : get_or (gates_seen before) k [] ≡ gate_entries (seen_by_pass (get_or before k p))
    seen_is = get_or-map as_seen before k p [] (omega (arith, low, before_long))

    after_is : get_or (gates_seen after) k [] ≡ gate_entries (seen_by_pass (get_or after k p))
    after_is = get_or-map as_seen after k p [] (omega (arith, low, after_long))

  none_past : {A : Type 0} (f : A → List GateEntry) (xs : List A) (k : ℕ) → length xs ≡ length locks → length locks ≤ k
      → get_or (map f xs) k [] ≡ []
  none_past f xs k long over = get_or_past (map f xs) k [] (omega (arith, length-map xs f, long, over))

  abbrev Begin : List GateEntry × List GateEntry → Type 0
  Begin z = IsBeginningOf z.0 z.1

  -- the notes that met go on from what they had seen
  pub notes_on : GatesGoOn (of_gates (gates_noted notes)) (of_gates (gates_noted later))
  notes_on home = elim (cases_lt home (length locks)) [
    | inl low ↦ subst Begin (λ i. (sym (noted_is home low) i, (sym (ap gate_entries (here home low).one) ∙ sym (later_is home low)) i))
        (begins _ _ (here home low).note_before)
    | inr over ↦ subst Begin (λ i. (sym (none_past as_noted notes home notes_long over) i, sym (none_past as_noted later home later_long over) i)) ([], refl)
  ]

  -- the passes that met go on from what they had seen
  pub passes_on : GatesGoOn (of_gates (gates_seen before)) (of_gates (gates_seen after))
  passes_on home = elim (cases_lt home (length locks)) [
    | inl low ↦ subst Begin (λ i. (sym (seen_is home low) i, sym (after_is home low) i)) (begins _ _ (here home low).pass_before)
    | inr over ↦ subst Begin (λ i. (sym (none_past as_seen before home before_long over) i, sym (none_past as_seen after home after_long over) i)) ([], refl)
  ]

  -- what a pass has seen then, it or the note had seen before
  either_at : (home : ℕ) → (get_or (gates_seen after) home [] ≡ get_or (gates_seen before) home [])
      ⊎ (get_or (gates_seen after) home [] ≡ get_or (gates_noted notes) home [])
  either_at home = elim (cases_lt home (length locks)) [
    | inl low ↦ elim (here home low).either [
      | inl kept ↦ inl (after_is home low ∙ (ap gate_entries kept ∙ sym (seen_is home low)))
      | inr taken ↦ inr (after_is home low ∙ (ap gate_entries taken ∙ sym (noted_is home low)))
    ]
    | inr over ↦ inl (none_past as_seen after home after_long over ∙ sym (none_past as_seen before home before_long over))
  ]

  -- if notes and passes have seen legal logs, the passes that met have too
  pub met_legal : (shards : ℕ) → AreGateLogs shards (gates_noted notes) → AreGateLogs shards (gates_seen before)
      → AreGateLogs shards (gates_seen after)
  met_legal shards theirs mine = record {
    rules = λ home. at home (IsGateLog home shards) (theirs.rules home) (mine.rules home);
    hears = λ home. at home (HearsNoMore home) (theirs.hears home) (mine.hears home);
  }
    where
      at : (home : ℕ) (P : List GateEntry → Type 0) → P (get_or (gates_noted notes) home []) → P (get_or (gates_seen before) home [])
          → P (get_or (gates_seen after) home [])
      at home P its own = elim (either_at home) [
        | inl kept ↦ subst P (sym kept) own
        | inr taken ↦ subst P (sym taken) its
      ]
