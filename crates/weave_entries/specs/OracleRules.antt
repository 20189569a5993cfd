-- The rule that the log of the oracle keeps (timeline oracle of Kronos, EuroSys 2014), over the pairs of the entries
-- before an entry.
use Rattle.std.specs.Prelude.{◌≡◌, ◌≢◌, List, [], ◌∷◌, ◌++◌, All, None, ⊤}
use Rattle.vector_stamp.specs.Order.{id_of}
use Rattle.vector_stamp.specs.Precedence.{GivenPair}
use Rattle.vector_stamp.specs.Settling.{refused_place, additions_from, places_of, SettledEntry}
use Rattle.weave_entries.specs.declared.oracle_log.OracleEntry.{OracleEntry}
use Rattle.weave_entries.specs.OracleReplay.{settled_entry, pairs_of_entry}

-- what the oracle's rule adds to these pairs: the later event precedes none of the earlier ones, and there is at least
-- one of these that did not yet precede it; its places are all those
pub record IsRightEntry (pairs : List GivenPair) (entry : SettledEntry) : Type 0 where
  pub others : All (λ event. id_of event ≢ id_of entry.later) entry.earlier
  pub permitted : refused_place pairs entry.earlier entry.later ≡ None
  pub added : entry.places ≡ places_of (additions_from 0 pairs entry.earlier entry.later)
  pub some : entry.places ≢ []

-- each entry is right after these pairs and those of the entries before it
abbrev pub IsRightFrom : List GivenPair → List OracleEntry → Type 0
IsRightFrom pairs [] = ⊤
IsRightFrom pairs (entry ∷ log) = IsRightEntry pairs (settled_entry entry)
    × IsRightFrom (pairs ++ pairs_of_entry (settled_entry entry)) log

-- a log that keeps the oracle's rule
abbrev pub IsOracleLog : List OracleEntry → Type 0
IsOracleLog log = IsRightFrom [] log
