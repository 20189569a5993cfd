-- Passes that have seen more. No public contract cites this.
use Rattle.std.specs.Prelude.{◌≡◌, ℕ}
use mathlib.Core.List.{IsPrefix}
use Rattle.chronicle.specs.declared.pass.Pass.{Pass}
use Rattle.chronicle.specs.Logs.{Log, entries_of}
use Rattle.chronicle.specs.Passes.{number_of, own_entries, seen_by_pass}

module _ {E : Type 0} where
  -- what was seen of a log goes on, and nothing new there is of the author with this number.
  -- No public contract cites this.
  pub record GoesOnWithout (number : ℕ) (before after : Log E) : Type 0 where
    pub own_is : entries_of number after ≡ entries_of number before
    pub more : IsPrefix before after

  -- a pass has seen no less than it had, and has its number and its own entries as they were
  pub record OnlySees (p q : Pass E) : Type 0 where
    pub number : number_of q ≡ number_of p
    pub own_is : own_entries q ≡ own_entries p
    pub more : IsPrefix (seen_by_pass p) (seen_by_pass q)
