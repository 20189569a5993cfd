-- What the seats at a lock's table know, as plain data, and how a split and a join change it.
use Rattle.std.specs.Prelude.{◌≡◌, ℕ, suc, true, false, List, [], ◌∷◌, ◌++◌, map, take, drop, slice_index, slice_index_or}
use Rattle.std.specs.List.{range_with_len}
use Rattle.chronicle.specs.declared.view.View.{View}
use Rattle.chronicle.specs.declared.view.Author.{Author}
use Rattle.chronicle.specs.Frames.{Frame}
use Rattle.chronicle.specs.Logs.{Log, entries_of, longer_of_logs, shorter_of_logs}

module _ {E : Type 0} where
  -- an author, with its entries in a log
  abbrev pub author_in : Log E → ℕ → Author E
  author_in log n = record { number = n; own = entries_of n log }

  -- the same authors, with their entries in a log
  abbrev pub renewed_authors : Log E → List (Author E) → List (Author E)
  renewed_authors log authors = map (λ a. author_in log a.number) authors

  -- the first seat's view in a new table. It has the authors of all passes, and one more for itself
  -- It learns the frame and the log when the lock is opened
  abbrev pub unopened_view : ℕ → View E
  unopened_view passes = record {
    live = true;
    frame = [];
    start = [];
    seen = [];
    shorter = [];
    turn = 2;
    authors = map (author_in []) (range_with_len 0 (suc passes));
  }

  -- the view of a seat that has no turn, has seen this much, and has these authors
  abbrev pub resting_view : Frame → Log E → Log E → List ℕ → View E
  resting_view frame start seen authors = record {
    live = true;
    frame = frame;
    start = start;
    seen = seen;
    shorter = start;
    turn = 0;
    authors = map (author_in seen) authors;
  }

  -- the view of a seat that is in, which has seen the whole log
  abbrev pub inside_view : Frame → Log E → Log E → ℕ → View E
  inside_view frame start log author = record (resting_view frame start log (author ∷ [])) { turn = 1 }

  -- the number of a seat's first author
  abbrev pub number_of_seat : View E → ℕ
  number_of_seat v = slice_index (map (λ a. a.number) v.authors) 0

  -- the first seat's view once it has the slot
  abbrev pub opened_view : Frame → Log E → ℕ → View E
  opened_view frame log passes = record (resting_view frame log log (range_with_len 0 (suc passes))) { turn = 1 }

  -- what is left of a view after a join
  abbrev pub spent_view : View E
  spent_view = record { live = false; frame = []; start = []; seen = []; shorter = []; turn = 0; authors = [] }

  -- the one view of a list
  abbrev pub view_in : List (View E) → View E
  view_in vs = slice_index_or vs 0 spent_view

  -- one view, with no turn and no author: a note's
  abbrev pub AreBare : List (View E) → Type 0
  AreBare vs = vs ≡ resting_view (view_in vs).frame (view_in vs).start (view_in vs).seen [] ∷ []

  -- a new seat has seen the same, and has no author
  abbrev pub copied_view : View E → View E
  copied_view v = record v { shorter = v.start; turn = 0; authors = [] }

  -- a new seat gets the first author, and has seen the same
  abbrev pub dealing : View E → View E
  dealing v = record v { authors = drop 1 v.authors }

  abbrev pub dealt_view : View E → View E
  dealt_view v = record v { shorter = v.start; turn = 0; authors = take 1 v.authors }

  -- a seat takes in the list that another has seen, and its authors
  abbrev pub gathered_view : View E → View E → View E
  gathered_view v w = record v {
    seen = longer_of_logs v.seen w.seen;
    shorter = shorter_of_logs v.seen w.seen;
    authors = v.authors ++ w.authors;
  }
