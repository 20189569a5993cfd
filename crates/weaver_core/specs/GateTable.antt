-- The gatekeepers of a core as contracts see them.
use Rattle.std.specs.Prelude.{◌≡◌, ℕ, Bool, not, is_some, List, [], ◌∷◌, ◌++◌, map, replicate, slice_get, slice_index_or, slice_set, Some}
use Rattle.gatekeeper.specs.Gates.{GateView}
use Rattle.weave_entries.specs.declared.gate_log.GateEntry.{GateEntry}
use Rattle.weave_entries.specs.declared.gate_log.GateDeed.{GateDeed}
use Rattle.weave_entries.specs.GateReplay.{flight_of}

-- the number of shards, and the log of each gatekeeper, in the order of numbers
pub record GateTable : Type 0 where
  pub shards : ℕ
  pub logs : List (List GateEntry)

-- the log of a gatekeeper; empty if there is none of this number
abbrev pub gate_log_at : GateTable → ℕ → List GateEntry
gate_log_at gates home = slice_index_or gates.logs home []

-- a gatekeeper's log has one more entry, of this author, and all else is as before
pub record AddsToGate (old new : GateTable) (home author : ℕ) (deed : GateDeed) : Type 0 where
  pub logs : new.logs ≡ slice_set old.logs home (gate_log_at old home ++ record { author = author; deed = deed } ∷ [])
  pub shards : new.shards ≡ old.shards

-- The table inside. No public contract cites what follows.

-- the log of a gatekeeper
abbrev pub log_of_gate : GateView → List GateEntry
log_of_gate gate = gate.log

-- whether a gatekeeper has no transaction in flight
abbrev pub has_landed : GateView → Bool
has_landed gate = not (is_some (flight_of gate.log))

-- each gatekeeper has its number as its home, and is made for these numbers of gatekeepers and shards
pub record AreGatesInOrder (count shards : ℕ) (gates : List GateView) : Type 0 where
  pub each_gates : (home : ℕ) (gate : GateView) → slice_get gates home ≡ Some gate → gate.gates ≡ count
  pub homes : (home : ℕ) (gate : GateView) → slice_get gates home ≡ Some gate → gate.home ≡ home
  pub each_shards : (home : ℕ) (gate : GateView) → slice_get gates home ≡ Some gate → gate.shards ≡ shards

-- the first gatekeepers of this number, before their first events
pub record AreFirstGates (first count shards : ℕ) (gates : List GateView) : Type 0 where
  pub in_order : AreGatesInOrder count shards gates
  pub logs : map log_of_gate gates ≡ replicate first []

-- nothing but the room of a gatekeeper may differ
pub record IsSameGate (old new : GateView) : Type 0 where
  pub log : new.log ≡ old.log
  pub home : new.home ≡ old.home
  pub gates : new.gates ≡ old.gates
  pub shards : new.shards ≡ old.shards
