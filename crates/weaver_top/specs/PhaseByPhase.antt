-- A run by phases, a part at a time: what each leaves, and how far the run has come. No public contract cites this.
use Rattle.std.specs.Prelude.{◌≡◌, ℕ, ◌<◌, ◌≤◌, length, Contains, IsTrue, Some, slice_get}
use Rattle.program_defs.specs.declared.script.Request.{Request}
use Rattle.program_defs.specs.declared.script.Script.{Script}
use Rattle.report_rules.specs.Lookups.{request_at}
use Rattle.report_rules.specs.Meetings.{phase_of}
use Rattle.weave_entries.specs.declared.gate_log.GateEntry.{GateEntry}
use Rattle.weave_entries.specs.GateReplay.{BegunRequest}
use Rattle.weave_account.specs.declared.account.Account.{Account}
use Rattle.weave_account.specs.Account.{all_begun, gate_log}
use Rattle.weave_account.specs.Clocks.{is_raised}
use Rattle.weave_account.specs.GoesOn.{GoesOn}
use Rattle.weave_account.specs.IsAccount.{IsAccount}
use Rattle.weave_account.specs.Phases.{IsRunByPhases}
use Rattle.step_rules.specs.Requests.{has_reply}
use Rattle.weave_phase.specs.Pairs.{AddsOpenPairs}
use Rattle.weave_drive.specs.Driving.{AreReplied, DrivesGates, is_driving_deed}

-- Parts of a run

-- The logs went on. They are an account; no request from the bound on began, no epoch was raised, and pairs were
-- added to requests without a reply alone.
pub record RunsBelow (script : Script) (bound : ℕ) (old new : Account) : Type 0 where
  pub is_account : IsAccount script new
  pub goes_on : GoesOn old new
  pub gates : DrivesGates bound old new
  pub pairs : AddsOpenPairs script old new

-- and each request below the bound has its reply
pub record EndsAt (script : Script) (bound : ℕ) (old new : Account) : Type 0 where
  pub runs : RunsBelow script bound old new
  pub replied : AreReplied script bound new

-- The run so far

-- A phase ended with these logs, which went on to the account. Each request so far had its reply, none of a later phase
-- had begun, and no epoch was raised.
pub record HasEnded (script : Script) (phase : ℕ) (logs account : Account) : Type 0 where
  pub is_account : IsAccount script logs
  pub goes_on : GoesOn logs account
  pub replied : (r : ℕ) (request : Request) → request_at script r ≡ Some request → phase_of script r ≤ phase
      → IsTrue (has_reply logs r request)
  pub begun : (begun : BegunRequest) → Contains (all_begun logs) begun → phase_of script begun.request ≤ phase
  pub epochs : (epoch : ℕ) → ¬ IsTrue (is_raised logs epoch)
  pub pairs : AddsOpenPairs script logs account

-- The first phases have ended, that many. Each request below the bound has its reply, and no other has begun. The
-- other phases end at the bound or later.
pub record IsRunUpTo (script : Script) (phases bound : ℕ) (account : Account) : Type 0 where
  pub is_account : IsAccount script account
  pub replied : AreReplied script bound account
  pub others : (phase end : ℕ) → phases ≤ phase → slice_get script.phases phase ≡ Some end → bound ≤ end
  pub within : bound ≤ length script.requests
  pub deeds : (home : ℕ) (entry : GateEntry) → Contains (gate_log account home) entry
      → IsTrue (is_driving_deed bound entry.deed)
  pub ended : (phase : ℕ) → phase < phases → (logs : Account) × HasEnded script phase logs account

-- the account is that of a whole run: phase by phase, each request has its reply, and no epoch was raised
pub record IsWholeRun (script : Script) (account : Account) : Type 0 where
  pub is_account : IsAccount script account
  pub by_phases : IsRunByPhases script account
  pub epochs : (epoch : ℕ) → ¬ IsTrue (is_raised account epoch)
  pub replied : AreReplied script (length script.requests) account
