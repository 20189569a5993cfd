-- The rule of a lock's table: what holds between any two steps. No public contract cites this.
-- The lock's word is 0 while nobody is in, 1 while somebody is, and 2 until the first seat takes the slot. It is one of
-- sixteen, so that the first, which is only looked at, is in another cache line.
use Rattle.std.specs.Prelude.{◌≡◌, ◌≢◌, ℕ, true, ◌<◌, ◌≤◌, List, length, slice_index, Option, Some, None, All}
use mathlib.Core.Option.{some}
use mathlib.Core.List.{IsPrefix}
use lib.ListN.{get_elem?}
use Rattle.atomic_table.specs.Table.{State}
use Rattle.chronicle.specs.declared.view.View.{View}
use Rattle.chronicle.specs.declared.view.Author.{Author}
use Rattle.chronicle.specs.Frames.{Frame}
use Rattle.chronicle.specs.Logs.{Log, entries_of, IsGrown}

module _ {E : Type 0} where
  -- the view has the lock's frame and start. The list seen is a beginning of the log
  -- It begins with the shorter list that was joined, and that one begins with the start
  pub record Knows (frame : Frame) (start log : Log E) (v : View E) : Type 0 where
    pub frame_is : v.frame ≡ frame
    pub start_is : v.start ≡ start
    pub after : IsPrefix start v.shorter
    pub shorter : IsPrefix v.shorter v.seen
    pub before : IsPrefix v.seen log

  -- the seat's author is that of a pass, or the first seat's. No other seat has it
  -- Its own entries are those with its number in the log
  pub record IsAuthor (passes : ℕ) (log : Log E) (owner : ℕ → ℕ) (seat : ℕ) (a : Author E) : Type 0 where
    pub low : a.number ≤ passes
    pub here : owner a.number ≡ seat
    pub own_is : entries_of a.number log ≡ a.own

  -- the seat with the turn is the holder. It has seen the whole log, and has an author
  pub record HasTurn (word : ℕ) (log : Log E) (holder seat : ℕ) (v : View E) : Type 0 where
    pub turn_is : v.turn ≡ word
    pub holder_is : seat ≡ holder
    pub seen_is : v.seen ≡ log
    pub author : 0 < length v.authors

  -- the seat has seen a part of this one history, has the turn if its view says so, and has its authors
  pub record FitsSeat (passes word : ℕ) (frame : Frame) (start log : Log E)
      (holder : ℕ) (owner : ℕ → ℕ) (seat : ℕ) (v : View E) : Type 0 where
    pub knows : Knows frame start log v
    pub turn : v.turn ≢ 0 → HasTurn word log holder seat v
    pub authors : All (IsAuthor passes log owner seat) v.authors

  -- the seat has this view, and was not joined to another
  abbrev pub Sits : List (View E) → ℕ → View E → Type 0
  Sits views seat v = (get_elem? views seat ≡ some v) × (v.live ≡ true)

-- the table's state: its words, its slot, and the views of its seats
abbrev pub Table : Type 0 → Type 0 → Type 0
Table M E = State (Option M) (View E)

module _ {M E : Type 0} where
  -- the lock's word
  abbrev pub word : Table M E → ℕ
  word s = slice_index s.words 8

  -- the rule
  pub record KeepsRule (frame_of : M → Frame) (log_of : M → Log E) (passes : ℕ) (s : Table M E) : Type 0 where
    -- the frame and the log of the machine at the start, and the log so far
    pub frame : Frame
    pub start : Log E
    pub log : Log E
    -- the seat that went in last, and the seat of each author
    pub holder : ℕ
    pub owner : ℕ → ℕ
    pub words_are : length s.words ≡ 16
    -- while nobody is in, the machine is at home
    pub free : word s ≡ 0 → (m : M) × (get_elem? s.homes 0 ≡ some (some (Some m))) × (frame_of m ≡ frame)
        × (log_of m ≡ log)
    -- while somebody is in, the holder has the turn
    pub taken : word s ≢ 0 → (v : View E) × Sits s.views holder v × (v.turn ≡ word s)
    -- until the lock is opened the slot is empty, and there is one seat
    pub unopened : word s ≡ 2 → (get_elem? s.homes 0 ≡ some (some None)) × (length s.views ≡ 1)
    -- somebody has seen the whole log
    pub whole : (seat : ℕ) × (v : View E) × Sits s.views seat v × (0 < length v.authors) × (v.seen ≡ log)
    pub grown : IsGrown passes start log
    pub seats : (seat : ℕ) (v : View E) → Sits s.views seat v
        → FitsSeat passes (word s) frame start log holder owner seat v
