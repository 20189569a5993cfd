-- What is left open in the log of the gatekeeper that the tests stop.
-- Used by `stop_and_return`.
use Rattle.std.proofs.Common.{◌≡◌, ◌≢◌, List, [], ◌∷◌, Contains, AllPairs, Some, inl, inr, refl, subst, arith}
use Rattle.weave_data.proofs.Members.{has_head, has_none, has_read, has_tail, only}
use Rattle.weave_data.proofs.Ordered.{pairs_cons, pairs_none}
use Rattle.vector_stamp.specs.declared.clock.Stamp.{Stamp}
use Rattle.weave_entries.specs.GateReplay.{BegunRequest}
use Rattle.gatekeeper.specs.Stopping.{AreLeftOpen, as_open}
use Rattle.gatekeeper.specs.declared.stopping.Open.{Open}
use Rattle.machine_tests.specs.OpenLog.{log_with_open}

-- the flight and the two programs that run are what the log leaves open, in whatever order the programs are given
pub left-open : (first finished second flight : Stamp) → AreLeftOpen (Some 3) (record { request = 2; stamp = second } ∷ record { request = 1; stamp = first } ∷ []) (log_with_open first finished second flight)
left-open first finished second flight = record { flight_is = refl; running_are = record { all = all-given; no_others = none-else; once = apart } }
  where
    older : BegunRequest
    older = record { author = 7; request = 1; stamp = first }

    newer : BegunRequest
    newer = record { author = 8; request = 2; stamp = second }

    given : List Open
    given = as_open newer ∷ as_open older ∷ []

    all-given : (begun : BegunRequest) → Contains (older ∷ newer ∷ []) begun → Contains given (as_open begun)
    all-given begun has = elim (has_read older (newer ∷ []) begun has) [
      | inl same ↦ subst (λ (b : BegunRequest). Contains given (as_open b)) same (has_tail (as_open newer) (as_open older ∷ []) (as_open older) (has_head (as_open older) []))
      | inr more ↦ subst (λ (b : BegunRequest). Contains given (as_open b)) (only newer begun more) (has_head (as_open newer) (as_open older ∷ []))
    ]

    none-else : (one : Open) → Contains given one → (begun : BegunRequest) × Contains (older ∷ newer ∷ []) begun × (as_open begun ≡ one)
    none-else one has = elim (has_read (as_open newer) (as_open older ∷ []) one has) [
      | inl same ↦ (newer, has_tail older (newer ∷ []) newer (has_head newer []), same)
      | inr more ↦ (older, has_head older (newer ∷ []), only (as_open older) one more)
    ]

    apart : AllPairs (λ (a b : Open). a.request ≢ b.request) given
    apart =
        pairs_cons (λ (a b : Open). a.request ≢ b.request) (as_open newer) (as_open older ∷ [])
        (λ one has. subst (λ (b : Open). 2 ≢ b.request) (only (as_open older) one has) (λ same. absurd (omega (arith, same))))
        (pairs_cons (λ (a b : Open). a.request ≢ b.request) (as_open older) [] (λ one has. absurd (has_none one has)) (pairs_none (λ (a b : Open). a.request ≢ b.request)))
