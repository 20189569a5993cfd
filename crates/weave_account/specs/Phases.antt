-- A run by phases: when a phase has ended, each request of it and of the earlier ones has its reply, and none of a
-- later one has begun.
use Rattle.std.specs.Prelude.{◌≡◌, ℕ, ◌<◌, ◌≤◌, Contains, IsTrue, Some}
use Rattle.vector_stamp.specs.declared.clock.Stamp.{Stamp}
use Rattle.program_defs.specs.declared.script.Request.{Request}
use Rattle.program_defs.specs.declared.script.Script.{Script}
use Rattle.weave_entries.specs.GateReplay.{BegunRequest}
use Rattle.weave_entries.specs.SessionReplay.{has_reply_in}
use Rattle.report_rules.specs.Lookups.{request_at}
use Rattle.report_rules.specs.Meetings.{phase_of}
use Rattle.weave_account.specs.declared.account.Account.{Account}
use Rattle.weave_account.specs.Account.{all_begun, pairs_in, session_log, stamp_of}
use Rattle.weave_account.specs.Clocks.{is_raised}
use Rattle.weave_account.specs.GoesOn.{GoesOn}
use Rattle.weave_account.specs.IsAccount.{IsAccount}

-- These logs are the account's at the end of a phase. Each request so far has its reply, none of a later phase has
-- begun, and no epoch was raised. Each pair whose later end is of a phase so far was added before.
pub record EndsPhase (script : Script) (account : Account) (phase : ℕ) (logs : Account) : Type 0 where
  pub is_account : IsAccount script logs
  pub goes_on : GoesOn logs account
  pub replied : (r : ℕ) (request : Request) → request_at script r ≡ Some request → phase_of script r ≤ phase
      → IsTrue (has_reply_in r (session_log logs request.session))
  pub begun : (begun : BegunRequest) → Contains (all_begun logs) begun → phase_of script begun.request ≤ phase
  pub epochs : (epoch : ℕ) → ¬ IsTrue (is_raised logs epoch)
  pub pairs : (earlier later : Stamp) (r : ℕ) → Contains (pairs_in account) (earlier, later)
      → stamp_of account r ≡ Some later
      → phase_of script r ≤ phase → Contains (pairs_in logs) (earlier, later)

-- the account is that of a run by phases: before a request of a later phase was begun, each phase had ended with some
-- logs
abbrev pub IsRunByPhases : Script → Account → Type 0
IsRunByPhases script account =
    (phase : ℕ) (later : BegunRequest) → Contains (all_begun account) later → phase < phase_of script later.request
    → (logs : Account) × EndsPhase script account phase logs
