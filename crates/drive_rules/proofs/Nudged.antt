-- A gatekeeper that has heard a known clock makes its next stamp after each stamp that is at most that clock.
-- Used by `known_clocks_may_be_heard`.
use Rattle.std.proofs.Common.{ℕ, ◌<◌, Contains, IsTrue}
use Rattle.vector_stamp.specs.declared.clock.Clock.{Clock}
use Rattle.vector_stamp.specs.declared.clock.Stamp.{Stamp}
use Rattle.vector_stamp.specs.Clocks.{clock_after_hearing}
use Rattle.vector_stamp.specs.Order.{HasEightCounts, is_at_most, stamp_before}
use Rattle.program_defs.specs.declared.script.Script.{Script}
use Rattle.weave_entries.specs.GateReplay.{clock_of, next_stamp, stamps_of}
use Rattle.weave_account.specs.declared.account.Account.{Account}
use Rattle.weave_account.specs.Account.{gate_log}
use Rattle.weave_account.specs.Clocks.{IsKnown}
use Rattle.drive_rules.proofs.Basis.{below-eight}
use Rattle.weave_account.proofs.Basis.{BasisWith}
use Rattle.drive_rules.specs.LowerLaws.{LawsForReadiness}

module _ (script : Script) (account : Account) (basis : BasisWith LawsForReadiness script account) where
  eight : (home : ℕ) → home < script.gates → HasEightCounts (clock_of home (gate_log account home))
  eight home inside = basis.laws.logs.eight home script.shards (gate_log account home) (below-eight script account basis home inside) (basis.is.gatekeepers.logs home)

  -- its next stamp is after each that a known clock which it has heard is not less than
  pub after-hearing : (gate : ℕ) → gate < script.gates → (notice : Clock) → IsKnown account notice → (stamp : Stamp) → IsTrue (is_at_most stamp.clock notice)
      → IsTrue (stamp_before stamp (next_stamp gate (clock_after_hearing gate (clock_of gate (gate_log account gate)) notice)))
  after-hearing gate inside notice known stamp at-most =
      let below = below-eight script account basis gate inside in
      basis.laws.stamps.at_most_before stamp.clock notice _ at-most
      (basis.laws.stamps.then_after gate (clock_of gate (gate_log account gate)) notice below (eight gate inside) known.eight
      (basis.laws.accounts.may_be_heard script.shards gate account below (basis.is.gatekeepers.logs gate) notice known))

  -- what a gatekeeper says after it made the stamp is such a clock
  pub said-later : (home : ℕ) → home < script.gates → (stamp : Stamp) → Contains (stamps_of (gate_log account home)) stamp → IsTrue (is_at_most stamp.clock (clock_of home (gate_log account home)))
  said-later home inside stamp h = basis.laws.logs.under home script.shards (gate_log account home) (below-eight script account basis home inside) (basis.is.gatekeepers.logs home) stamp h

  -- a gatekeeper that hears the clock of a stamp's home makes its next stamp after this stamp
  pub after-its-home : (gate home : ℕ) → gate < script.gates → home < script.gates → (stamp : Stamp) → Contains (stamps_of (gate_log account home)) stamp
      → IsTrue (stamp_before stamp (next_stamp gate (clock_after_hearing gate (clock_of gate (gate_log account gate)) (clock_of home (gate_log account home)))))
  after-its-home gate home inside home-inside stamp h =
      after-hearing gate inside (clock_of home (gate_log account home)) (basis.laws.accounts.known script account basis.limits basis.is home) stamp (said-later home home-inside stamp h)

  -- a gatekeeper's next stamp is after each that it made, without hearing any clock
  pub at-home : (home : ℕ) → home < script.gates → (stamp : Stamp) → Contains (stamps_of (gate_log account home)) stamp
      → IsTrue (stamp_before stamp (next_stamp home (clock_of home (gate_log account home))))
  at-home home inside stamp h =
      basis.laws.stamps.at_most_before stamp.clock (clock_of home (gate_log account home)) _ (said-later home inside stamp h)
      (basis.laws.stamps.ticks home (clock_of home (gate_log account home)) (below-eight script account basis home inside) (eight home inside))
