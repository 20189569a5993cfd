-- When a hand may have judged, and send, what it began.
use Rattle.std.specs.Prelude.{◌≡◌, ◌≢◌, ◌⊎◌, ℕ, All, Contains, Some}
use Rattle.vector_stamp.specs.declared.clock.Stamp.{Stamp}
use Rattle.vector_stamp.specs.Order.{id_of}
use Rattle.weave_entries.specs.GateReplay.{BegunRequest, begun_in, flight_of, programs_of, txs_of}
use Rattle.weave_entries.specs.StoreRule.{stamps_judged}
use Rattle.weave_account.specs.Account.{gate_log}
use Rattle.seen_logs.specs.Seen.{VisitsOwnPrograms, entries_since}
use Rattle.weaver_locks.specs.declared.hand.Hand.{Hand}
use Rattle.weaver_locks.specs.declared.shared.Shared.{Shared}
use Rattle.weaver_locks.specs.Hands.{hand_number, made_by, seen_by}
use Rattle.weaver_locks.specs.Locks.{start_of}

-- the hand has not begun this request
abbrev pub HasNotBegun : Hand → ℕ → Type 0
HasNotBegun hand request = (home : ℕ) (begun : BegunRequest) → Contains (begun_in (gate_log (made_by hand) home)) begun
    → begun.request ≢ request

-- the hand began this transaction, and has not had it judged
pub record MayJudge (hand : Hand) (request : ℕ) (stamp : Stamp) : Type 0 where
  pub begun : (home : ℕ) × Contains (txs_of (gate_log (seen_by hand) home))
      (record { author = hand_number hand; request = request; stamp = stamp })
  pub new : All (λ (judged : Stamp). id_of judged ≢ id_of stamp) (stamps_judged (made_by hand).store)

-- it is in flight at the gatekeeper
abbrev pub IsInFlight : Hand → ℕ → ℕ → Stamp → Type 0
IsInFlight hand gate request stamp = flight_of (gate_log (seen_by hand) gate)
    ≡ Some (record { author = hand_number hand; request = request; stamp = stamp })

-- the stamp is that of a request that the hand began, or that was begun at the start
pub record MayHear (shared : Shared) (hand : Hand) (stamp : Stamp) : Type 0 where
  pub home : ℕ
  pub begun : BegunRequest
  pub stamp_is : begun.stamp ≡ stamp
  pub there : Contains (begun_in (gate_log (made_by hand) home)) begun
      ⊎ Contains (begun_in (gate_log (start_of shared) home)) begun

-- the hand began this program at the gatekeeper since the start
abbrev pub HasBegunProgram : Shared → Hand → ℕ → ℕ → Stamp → Type 0
HasBegunProgram shared hand home request stamp =
    Contains (programs_of (entries_since (gate_log (start_of shared) home) (gate_log (seen_by hand) home)))
    (record { author = hand_number hand; request = request; stamp = stamp })

-- the hand's visits since the start are of programs that it began itself
abbrev pub VisitsItsOwnPrograms : Shared → Hand → Type 0
VisitsItsOwnPrograms shared hand = VisitsOwnPrograms (hand_number hand) (start_of shared) (seen_by hand)
