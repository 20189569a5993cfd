-- What was added to a tally, by one author and by all.
use Rattle.std.specs.Prelude.{◌≡◌, ℕ, ◌<◌, ◌≤◌, ◌++◌}
use Rattle.chronicle.specs.declared.pass.Pass.{Pass}
use Rattle.chronicle.specs.Logs.{Log, entries_of}
use Rattle.chronicle.specs.Passes.{number_of, own_entries}
use Rattle.chronicle_keeper.specs.Totals.{numbered_by}

-- the pass added some numbers, at most `most`: those from `from` on, each once and in rising order
pub record HasAdded (from most : ℕ) (before after : Pass ℕ) : Type 0 where
  pub number_is : number_of after ≡ number_of before
  pub count : ℕ
  pub few : count ≤ most
  pub own_is : own_entries after ≡ own_entries before ++ numbered_by (number_of before) from count

-- of each author the log has some numbers, at most `most`: those from 0 on, each once and in rising order
abbrev pub EachAdded : ℕ → ℕ → Log ℕ → Type 0
EachAdded authors most log = (author : ℕ) → author < authors → (count : ℕ) × (count ≤ most)
    × (entries_of author log ≡ numbered_by author 0 count)
