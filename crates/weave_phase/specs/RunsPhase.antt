-- What a phase leaves of a core.
use Rattle.std.specs.Prelude.{◌≡◌, ℕ}
use Rattle.weave_account.specs.GoesOn.{GoesOn}
use Rattle.weaver_core.specs.Cores.{CoreView}
use Rattle.weave_account.specs.Account.{NoneInFlight}
use Rattle.workers_account.specs.Pairs.{AddsOpenPairs, AreBegunByOwnWorkers, GainBelow}
use Rattle.workers_account.specs.SessionRuns.{WasRunForSession}

-- The core is of the same script. Its logs went on: no transaction is in flight there, requests before `upto` alone
-- were begun, each session's by a worker of its own, no epoch was raised, and pairs were added to requests without a
-- reply alone. The phase was run for each session: its requests before `upto` all have their replies, or the logs show
-- why its client could stop, at a gatekeeper that was busy or at a shard that was not ready.
pub record RunsPhase (upto : ℕ) (old new : CoreView) : Type 0 where
  pub script : new.script ≡ old.script
  pub goes_on : GoesOn old.state.account new.state.account
  pub landed : NoneInFlight new.state.account
  pub begins : GainBelow upto old.state.account new.state.account
  pub workers : AreBegunByOwnWorkers old.script old.state.account new.state.account
  pub pairs : AddsOpenPairs old.script old.state.account new.state.account
  pub sessions : (session : ℕ) → WasRunForSession old.script upto session old.state.account new.state.account
