-- What the clocks in the logs keep: none counts events that were not made (vector clocks, Fidge and Mattern 1988).
use Rattle.std.specs.Prelude.{◌≢◌, ℕ, ◌≤◌, Bool, false, ◌==◌, List, Contains, IsTrue}
use Rattle.std.specs.List.{list_any}
use Rattle.vector_stamp.specs.declared.clock.Clock.{Clock}
use Rattle.vector_stamp.specs.Order.{count_of, HasEightCounts}
use Rattle.weave_entries.specs.declared.gate_log.GateEntry.{GateEntry}
use Rattle.weave_entries.specs.declared.gate_log.GateDeed.{GateDeed}
use Rattle.weave_entries.specs.declared.gate_log.GateDeed.TheVariants.{Raised}
use Rattle.weave_entries.specs.GateReplay.{ticks_of, clocks_in}
use Rattle.weave_entries.specs.GateRules.{HearsNoMore}
use Rattle.weave_account.specs.declared.account.Account.{Account}
use Rattle.weave_account.specs.Account.{gate_log}

-- a deed raises the epoch to this one
abbrev pub raises_to : ℕ → GateDeed → Bool
raises_to epoch (Raised to) = to == epoch
raises_to epoch _ = false

-- some gatekeeper raised its epoch to this one
abbrev pub is_raised : Account → ℕ → Bool
is_raised account epoch =
    list_any (λ (log : List GateEntry). list_any (λ (entry : GateEntry). raises_to epoch entry.deed) log) account.gates

-- a clock of eight counts, each at most the number of that gatekeeper's ticks in the clock's epoch, so 0 past the
-- last gatekeeper; an epoch above 0 was raised by some gatekeeper
pub record IsKnown (account : Account) (clock : Clock) : Type 0 where
  pub eight : HasEightCounts clock
  pub counts : (home : ℕ) → count_of home clock ≤ ticks_of clock.epoch (gate_log account home)
  pub raised : clock.epoch ≢ 0 → IsTrue (is_raised account clock.epoch)

-- Clocks: each clock in a gatekeeper's log is known, and a clock that a gatekeeper hears counts no more of its events
-- than it made. The clocks of the other logs are copies of these, or meets of them.
pub record ClocksClause (account : Account) : Type 0 where
  pub known : (home : ℕ) (clock : Clock) → Contains (clocks_in (gate_log account home)) clock → IsKnown account clock
  pub hears_no_more : (home : ℕ) → HearsNoMore home (gate_log account home)
