-- The numbers in a tally's log.
use Rattle.std.specs.Prelude.{ℕ, List, map}
use Rattle.std.specs.List.{sum_by, range_with_len}

-- the sum of all numbers
abbrev pub total_of : List (ℕ × ℕ) → ℕ
total_of log = sum_by (λ e. e.1) log

-- `count` numbers of one author, from a number on
abbrev pub numbered_by : ℕ → ℕ → ℕ → List (ℕ × ℕ)
numbered_by author from count = map (λ value. (author, value)) (range_with_len from count)
