-- The stamps that a row of a test has. For tests: no public contract cites this.
use Rattle.std.specs.Prelude.{List, Contains}
use Rattle.vector_stamp.specs.declared.clock.Stamp.{Stamp}
use Rattle.weave_entries.specs.declared.store_log.StoreEntry.{StoreEntry}
use Rattle.backing_store.specs.Commits.{stamps_judged}

-- each of the first stamps is one of the second
abbrev pub IsAmong : List Stamp → List Stamp → Type 0
IsAmong few all = (one : Stamp) → Contains few one → Contains all one

-- among the stamps are all that the store has judged and all that the judge knows
pub record HasAllStamps (stamps : List Stamp) (log : List StoreEntry) (known : List Stamp) : Type 0 where
  pub of_store : IsAmong (stamps_judged log) stamps
  pub of_judge : IsAmong known stamps
