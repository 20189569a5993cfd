-- A gatekeeper's log turned into pairs and back is itself, and so are pairs turned into entries and back.
-- Used by `entries_come_back`.
use Rattle.std.proofs.Common.{◌≡◌, List, [], ◌∷◌, map, refl, ap}
use Rattle.weave_entries.specs.declared.gate_log.GateDeed.{GateDeed}
use Rattle.weave_entries.specs.declared.gate_log.GateEntry.{GateEntry}
use Rattle.chronicle.specs.Logs.{Log}
use Rattle.seen_logs.specs.Entries.{gate_entries, gate_pair}

-- a gatekeeper's log, turned into pairs and back, is itself
pub entries_back : (log : List GateEntry) → gate_entries (map gate_pair log) ≡ log
entries_back [] = refl
entries_back (entry ∷ log) = ap (λ (l : List GateEntry). entry ∷ l) (entries_back log)

-- and so are pairs that are turned into entries and back
pub pairs_back : (log : Log GateDeed) → map gate_pair (gate_entries log) ≡ log
pairs_back [] = refl
pairs_back (pair ∷ log) = ap (λ (l : Log GateDeed). pair ∷ l) (pairs_back log)
