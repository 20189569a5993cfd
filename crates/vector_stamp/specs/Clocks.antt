-- How clocks change (vector clocks, Fidge and Mattern 1988; epochs, Weaver, PVLDB 9(11) 2016).
use Rattle.std.specs.Prelude.{ℕ, ◌+◌, Bool, true, ◌==◌, List, [], ◌∷◌, map, fold, max, min, nat_lt, nat_le, slice_set, if◌then◌else◌}
use Rattle.std.specs.List.{zip}
use Rattle.vector_stamp.specs.declared.clock.Clock.{Clock}
use Rattle.vector_stamp.specs.Order.{count_of}

-- the first clock of an epoch, in which no event is counted
abbrev pub first_clock : ℕ → Clock
first_clock epoch = record { epoch = epoch; counts = 0 ∷ 0 ∷ 0 ∷ 0 ∷ 0 ∷ 0 ∷ 0 ∷ 0 ∷ [] }

-- the clock of a gatekeeper that has made no event
abbrev pub start_clock : Clock
start_clock = first_clock 0

-- the clock after an event of the gatekeeper: its own count is one more, and all else stays
abbrev pub clock_after_tick : ℕ → Clock → Clock
clock_after_tick home clock = record clock { counts = slice_set clock.counts home (count_of home clock + 1) }

-- the greater of the two counts of each gatekeeper
abbrev pub greater_counts : List ℕ → List ℕ → List ℕ
greater_counts xs ys = map (λ (pair : ℕ × ℕ). max pair.0 pair.1) (zip xs ys)

-- the lesser of the two counts of each gatekeeper
abbrev pub lesser_counts : List ℕ → List ℕ → List ℕ
lesser_counts xs ys = map (λ (pair : ℕ × ℕ). min pair.0 pair.1) (zip xs ys)

-- The gatekeeper's clock after it heard another one. One of a lower epoch changes nothing. Of one of a higher epoch it
-- takes over the epoch and all counts but its own, which becomes 0. Of one of its epoch it takes each count but its own
-- where that is greater.
abbrev pub clock_after_hearing : ℕ → Clock → Clock → Clock
clock_after_hearing home clock heard =
    if nat_lt heard.epoch clock.epoch then clock
    else if nat_lt clock.epoch heard.epoch then record heard { counts = slice_set heard.counts home 0 }
    else record clock { counts = slice_set (greater_counts clock.counts heard.counts) home (count_of home clock) }

-- The heard clock counts no more events of the gatekeeper than it made itself: within its epoch at most its own count,
-- and none in a higher epoch. Of a lower epoch nothing is asked.
abbrev pub counts_no_more : ℕ → Clock → Clock → Bool
counts_no_more home clock heard =
    if nat_lt heard.epoch clock.epoch then true
    else if nat_lt clock.epoch heard.epoch then count_of home heard == 0
    else nat_le (count_of home heard) (count_of home clock)

-- of two epochs the lower clock, and within one the lesser of the two counts of each gatekeeper
abbrev pub meet_of : Clock → Clock → Clock
meet_of a b =
    if nat_lt a.epoch b.epoch then a
    else if nat_lt b.epoch a.epoch then b
    else record a { counts = lesser_counts a.counts b.counts }

-- the meet of a clock and of each one of a list
abbrev pub meet_with : Clock → List Clock → Clock
meet_with first rest = fold meet_of first rest
