-- Passes and notes of a row of locks that meet.
use Rattle.std.specs.Prelude.{◌≡◌, ◌≢◌, ◌⊎◌, ℕ, ◌<◌, List, length, slice_index_or}
use mathlib.Core.List.{IsPrefix}
use Rattle.chronicle.specs.declared.chronicle.Chronicle.{Chronicle}
use Rattle.chronicle.specs.declared.pass.Pass.{Pass}
use Rattle.chronicle.specs.declared.note.Note.{Note}
use Rattle.chronicle.specs.Logs.{longer_of_logs}
use Rattle.chronicle.specs.Locks.{Lock, lock_of}
use Rattle.chronicle.specs.Passes.{IsReady, IsNote, number_of, seen_by_pass, own_entries, seen_by_note, lock_noted}

module _ {E : Type 0} where
  -- the pass p and the note n of a lock have met, and are now q and m: both have seen the longer list
  pub record HaveMet (lock : Lock E) (p q : Pass E) (n m : Note E) : Type 0 where
    pub ready : IsReady lock q
    pub number : number_of q ≡ number_of p
    pub own_is : own_entries q ≡ own_entries p
    pub lock_is : lock_noted m ≡ lock_noted n
    pub pass_before : IsPrefix (seen_by_pass p) (seen_by_pass q)
    pub note_before : IsPrefix (seen_by_note n) (seen_by_pass q)
    pub longer_is : seen_by_pass q ≡ longer_of_logs (seen_by_pass p) (seen_by_note n)
    pub either : (seen_by_pass q ≡ seen_by_pass p) ⊎ (seen_by_pass q ≡ seen_by_note n)
    pub one : seen_by_note m ≡ seen_by_pass q

module _ {M E : Type 0} where
  -- at each place but one, the pass and the note are of the lock there, and the pass is in no hold
  abbrev pub CanMeet : List (Chronicle M E) → List (Pass E) → List (Note E) → ℕ → Type 0
  CanMeet locks passes notes except = (k : ℕ) (c : Chronicle M E) (p : Pass E) (n : Note E) → k < length locks
      → k ≢ except → IsReady (lock_of (slice_index_or locks k c)) (slice_index_or passes k p)
      × IsNote (lock_of (slice_index_or locks k c)) (slice_index_or notes k n)

  -- at each place but one, the pass and the note there have met
  abbrev pub AllMet : List (Chronicle M E) → List (Pass E) → List (Pass E) → List (Note E) → List (Note E) → ℕ → Type 0
  AllMet locks before after notes later except = (k : ℕ) (c : Chronicle M E) (p : Pass E) (n : Note E)
      → k < length locks → k ≢ except
      → HaveMet (lock_of (slice_index_or locks k c)) (slice_index_or before k p) (slice_index_or after k p)
      (slice_index_or notes k n) (slice_index_or later k n)
