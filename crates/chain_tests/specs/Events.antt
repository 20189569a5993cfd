-- The events of a row of a test: no public contract cites this.
use Rattle.std.specs.Prelude.{List, Contains}
use Rattle.vector_stamp.specs.declared.clock.Stamp.{Stamp}
use Rattle.vector_stamp.specs.Coherence.{AreCoherent}
use Rattle.weave_entries.specs.declared.store_log.StoreEntry.{StoreEntry}
use Rattle.backing_store.specs.Commits.{stamps_judged}

-- each of the first stamps is one of the second
abbrev pub AreEventsOf : List Stamp → List Stamp → Type 0
AreEventsOf few events = (one : Stamp) → Contains few one → Contains events one

-- the events are coherent, and all that a judge knows are among them
pub record KnowsEvents (events : List Stamp) (known : List Stamp) : Type 0 where
  pub coherent : AreCoherent events
  pub of_judge : AreEventsOf known events
