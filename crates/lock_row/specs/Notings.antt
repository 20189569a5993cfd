-- A note of each lock of a row.
use Rattle.std.specs.Prelude.{◌≡◌, ℕ, ◌<◌, List, length, slice_index_or}
use Rattle.chronicle.specs.declared.chronicle.Chronicle.{Chronicle}
use Rattle.chronicle.specs.declared.pass.Pass.{Pass}
use Rattle.chronicle.specs.declared.note.Note.{Note}
use Rattle.chronicle.specs.Locks.{Lock, lock_of}
use Rattle.chronicle.specs.Passes.{IsReady, IsNote, number_of, seen_by_pass, seen_by_note}

module _ {E : Type 0} where
  -- the note is of this lock, and has seen what the pass has
  pub record HasNoted (lock : Lock E) (p : Pass E) (n : Note E) : Type 0 where
    pub note : IsNote lock n
    pub seen_is : seen_by_note n ≡ seen_by_pass p

  -- the pass q is of this lock and in no hold, and has the number and the list of p
  pub record Stays (lock : Lock E) (p q : Pass E) : Type 0 where
    pub ready : IsReady lock q
    pub number : number_of q ≡ number_of p
    pub seen_is : seen_by_pass q ≡ seen_by_pass p

module _ {M E : Type 0} where
  -- the note at each place is of the lock there, and has seen what the pass there has
  abbrev pub HaveNoted : List (Chronicle M E) → List (Pass E) → List (Note E) → Type 0
  HaveNoted locks passes notes = (k : ℕ) (c : Chronicle M E) (p : Pass E) (n : Note E) → k < length locks
      → HasNoted (lock_of (slice_index_or locks k c)) (slice_index_or passes k p) (slice_index_or notes k n)

  -- the pass at each place is as it was
  abbrev pub AllStay : List (Chronicle M E) → List (Pass E) → List (Pass E) → Type 0
  AllStay locks before after = (k : ℕ) (c : Chronicle M E) (p : Pass E) → k < length locks
      → Stays (lock_of (slice_index_or locks k c)) (slice_index_or before k p) (slice_index_or after k p)
