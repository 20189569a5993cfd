-- No transaction is in flight at any gatekeeper of a core.
-- Used by `none_in_flight`.
use Rattle.std.proofs.Common.{◌≡◌, ℕ, zero, suc, true, false, not, List, [], ◌∷◌, map, IsTrue, Option, None, Some, is_some, refl, ap}
use Rattle.std.specs.Prelude.{◌↔◌, slice_index_or}
use Rattle.std.specs.List.{list_all}
use Rattle.std.proofs.lemmas.Bool.{and_from, and_parts}
use Rattle.gatekeeper.specs.Gates.{GateView}
use Rattle.weave_entries.specs.GateReplay.{BegunRequest, flight_of}
use Rattle.weaver_core.specs.GateTable.{has_landed, log_of_gate}

none-there : (o : Option BegunRequest) → not (is_some o) ≡ true → o ≡ None
none-there None h = refl
none-there (Some begun) h = absurd (let e : false ≡ true = h in cc)

landed-each : (gates : List GateView) → list_all has_landed gates ≡ true → (home : ℕ) → flight_of (slice_index_or (map log_of_gate gates) home []) ≡ None
landed-each [] h home = refl
landed-each (gate ∷ gates) h zero = none-there (flight_of gate.log) (and_parts (has_landed gate) (list_all has_landed gates) h).0
landed-each (gate ∷ gates) h (suc home) = landed-each gates (and_parts (has_landed gate) (list_all has_landed gates) h).1 home

each-landed : (gates : List GateView) → ((home : ℕ) → flight_of (slice_index_or (map log_of_gate gates) home []) ≡ None) → list_all has_landed gates ≡ true
each-landed [] none = refl
each-landed (gate ∷ gates) none = and_from (has_landed gate) (list_all has_landed gates) (ap (λ (o : Option BegunRequest). not (is_some o)) (none 0)) (each-landed gates (λ home. none (suc home)))

-- the test of all gatekeepers
pub all-landed : (gates : List GateView) → IsTrue (list_all has_landed gates) ↔ ((home : ℕ) → flight_of (slice_index_or (map log_of_gate gates) home []) ≡ None)
all-landed gates = (landed-each gates, each-landed gates)
