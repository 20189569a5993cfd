-- What a seat learns by its steps on the word. r is the number that the step found. No public contract cites this.
use Rattle.std.specs.Prelude.{◌≡◌, ◌≢◌, ℕ, [], ◌∷◌, Option, Some, None, All}
use mathlib.Core.List.{IsPrefix}
use Rattle.atomic_table.specs.Table.{Me, Step}
use Rattle.chronicle.specs.declared.view.View.{View}
use Rattle.chronicle.specs.Frames.{Frame}
use Rattle.chronicle.specs.Logs.{Log, entries_of}
use Rattle.chronicle.specs.Seats.{unopened_view, opened_view, renewed_authors}

-- a seat: its view, and the slots that it has in hand
abbrev pub SeatState : Type 0 → Type 0 → Type 0
SeatState M E = Me (Option M) (View E)

module _ {M E : Type 0} (frame_of : M → Frame) (log_of : M → Log E) where
  -- the seat has the machine in hand. The machine's log begins with what the seat had seen
  -- Of each of the seat's authors the log has just the entries that are the author's own
  pub record TakesMachine (m n : SeatState M E) : Type 0 where
    pub machine : M
    pub seat : n ≡ (
      record m.0 { seen = log_of machine; turn = 1; authors = renewed_authors (log_of machine) m.0.authors },
      (0, Some machine) ∷ m.1,
    )
    pub frame : frame_of machine ≡ m.0.frame
    pub log : IsPrefix m.0.seen (log_of machine)
    pub own : All (λ a. entries_of a.number (log_of machine) ≡ a.own) m.0.authors

  -- it took the machine if nobody was in, otherwise nothing changed
  abbrev pub EntersLock : Step (Option M) → SeatState M E → ℕ → SeatState M E → Type 0
  EntersLock s m r n = (r ≡ 0 → TakesMachine m n) × (r ≢ 0 → n ≡ m)

module _ {M E : Type 0} (log_of : M → Log E) where
  -- the machine in hand is back, and the seat has seen its log
  abbrev pub LeavesLock : Step (Option M) → SeatState M E → ℕ → SeatState M E → Type 0
  LeavesLock s m r n = (x : M) → m.1 ≡ (0, Some x) ∷ []
      → n ≡ (record m.0 { seen = log_of x; turn = 0; authors = renewed_authors (log_of x) m.0.authors }, [])

module _ {M E : Type 0} where
  -- the shorter of two lists that were joined begins the longer one
  -- Of each of the seat's authors the log has just the entries that are the author's own
  pub record ComparesLogs (s : Step (Option M)) (m : SeatState M E) (r : ℕ) (n : SeatState M E) : Type 0 where
    pub seat : n ≡ (record m.0 { shorter = m.0.start }, m.1)
    pub after : IsPrefix m.0.start m.0.shorter
    pub shorter : IsPrefix m.0.shorter m.0.seen
    pub log : Log E
    pub seen : IsPrefix m.0.seen log
    pub own : All (λ a. entries_of a.number log ≡ a.own) m.0.authors

  -- the first seat has the empty slot in hand, and knows the frame and the log that the lock begins with
  abbrev pub OpensLock : Frame → Log E → Step (Option M) → SeatState M E → ℕ → SeatState M E → Type 0
  OpensLock frame log s m r n =
      (passes : ℕ) → m ≡ (unopened_view passes, []) → n ≡ (opened_view frame log passes, (0, None) ∷ [])
