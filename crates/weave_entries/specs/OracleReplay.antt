-- What the log of the oracle says of its state: the pairs, in the order in which they were added.
use Rattle.std.specs.Prelude.{ℕ, List, slice_get}
use Rattle.std.specs.List.{filter_map, flat_map}
use Rattle.std.specs.Option.{option_map}
use Rattle.vector_stamp.specs.declared.clock.Stamp.{Stamp}
use Rattle.vector_stamp.specs.Precedence.{GivenPair}
use Rattle.vector_stamp.specs.Settling.{SettledEntry}
use Rattle.weave_entries.specs.declared.oracle_log.OracleEntry.{OracleEntry}
use Rattle.weave_entries.specs.declared.oracle_log.OracleDeed.{OracleDeed}
use Rattle.weave_entries.specs.declared.oracle_log.OracleDeed.TheVariants.{Settled}

-- the deed of an author as an entry of a judge's log
abbrev pub settled_by : ℕ → OracleDeed → SettledEntry
settled_by author (Settled earlier later places) =
    record { author = author; earlier = earlier; later = later; places = places }

-- an entry as one of a judge's log
abbrev pub settled_entry : OracleEntry → SettledEntry
settled_entry entry = settled_by entry.author entry.deed

-- and back: an entry of a judge's log as one of the oracle's
abbrev pub oracle_entry_of : SettledEntry → OracleEntry
oracle_entry_of entry = record { author = entry.author; deed = Settled entry.earlier entry.later entry.places }

-- the pairs that an entry adds: of the earlier event at each of its places with the later one
abbrev pub pairs_of_entry : SettledEntry → List GivenPair
pairs_of_entry entry =
    filter_map (λ (place : ℕ). option_map (λ (event : Stamp). (event, entry.later)) (slice_get entry.earlier place))
    entry.places

-- the pairs that a log adds, in order
abbrev pub pairs_of_log : List OracleEntry → List GivenPair
pairs_of_log log = flat_map (λ (entry : OracleEntry). pairs_of_entry (settled_entry entry)) log
