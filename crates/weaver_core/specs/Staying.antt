-- The laws by which what is kept of the programs stays as the logs say. No public contract cites this.
use Rattle.std.specs.Prelude.{◌≡◌, ◌↔◌, ◌<◌, ℕ, List, map, take, AllPairs, Contains, IsTrue, Some}
use Rattle.vector_stamp.specs.declared.clock.Stamp.{Stamp}
use Rattle.program_defs.specs.Limits.{IsWithinLimits}
use Rattle.program_defs.specs.Works.{is_look}
use Rattle.program_defs.specs.declared.script.Request.{Request}
use Rattle.program_defs.specs.declared.script.Script.{Script}
use Rattle.program_defs.specs.declared.script.Step.{Step}
use Rattle.report_rules.specs.Lookups.{request_at}
use Rattle.weave_entries.specs.declared.gate_log.GateEntry.{GateEntry}
use Rattle.weave_entries.specs.declared.session_log.SessionEntry.{SessionEntry}
use Rattle.weave_entries.specs.GateRules.{EndsWhatItBegan, IsGateLog}
use Rattle.weave_entries.specs.SessionReplay.{IsSessionLog, begins_in, has_begun_in, has_reply_in, replied_count, replied_in, session_of}
use Rattle.weave_account.specs.declared.account.Account.{Account}
use Rattle.weave_account.specs.Account.{is_ended, reads_of, session_log, shard_log}
use Rattle.weave_account.specs.GoesOn.{GoesOn, visits_by}
use Rattle.weave_account.specs.IsAccount.{IsAccount}
use Rattle.weave_account.specs.Sessions.{requests_of_session}
use Rattle.step_rules.specs.CoreState.{CoreState}
use Rattle.step_rules.specs.IsCore.{IsCore, IsSmallIfDone, IsStepOf}
use Rattle.step_rules.specs.Trace.{state_after}

-- of weave_account and weave_entries
pub record StayLaws : Type 0 where
  -- facts_stay_true
  pub same_reads : (script : Script) (account next : Account) → IsWithinLimits script → IsAccount script account
      → GoesOn account next → (r : ℕ)
      → ((shard : ℕ) → visits_by r (shard_log next shard) ≡ visits_by r (shard_log account shard))
      → reads_of next r ≡ reads_of account r
  -- finished_exactly_if_replied
  pub replied : (script : Script) (account : Account) → IsWithinLimits script → IsAccount script account
      → (r : ℕ) (request : Request) → request_at script r ≡ Some request → IsTrue (is_look request.work)
      → IsTrue (is_ended account r) ↔ IsTrue (has_reply_in r (session_log account request.session))
  -- requests_end
  pub ends : (home shards : ℕ) (log : List GateEntry) → IsGateLog home shards log → EndsWhatItBegan log
  -- requests_of_a_session_rise
  pub rise : (script : Script) (session : ℕ) → AllPairs (λ (a b : ℕ). a < b) (requests_of_session script session)
  pub among : (script : Script) (r : ℕ) (request : Request) → request_at script r ≡ Some request
      → Contains (requests_of_session script request.session) r
  -- sessions_go_in_turn
  pub begun_first : (number : ℕ) (requests : List ℕ) (log : List SessionEntry) → IsSessionLog number requests log
      → map (λ (begun : ℕ × Stamp). begun.0) (begins_in log) ≡ take (session_of requests log).begun requests
  pub replied_first : (number : ℕ) (requests : List ℕ) (log : List SessionEntry) → IsSessionLog number requests log
      → replied_in log ≡ take (replied_count (session_of requests log)) requests
  -- begun_and_replied_are_decided
  pub begun_tested : (request : ℕ) (log : List SessionEntry)
      → IsTrue (has_begun_in request log) ↔ Contains (map (λ (begun : ℕ × Stamp). begun.0) (begins_in log)) request
  pub replied_tested : (request : ℕ) (log : List SessionEntry)
      → IsTrue (has_reply_in request log) ↔ Contains (replied_in log) request

-- of step_rules
pub record CoreLaws : Type 0 where
  -- steps_keep_the_core
  pub tried : (script : Script) (state : CoreState) (step : Step) → IsWithinLimits script → IsStepOf script step
      → IsSmallIfDone script state step → IsCore script state → IsCore script (state_after script state step)
  pub goes_on : (script : Script) (state : CoreState) (step : Step) → IsWithinLimits script → IsStepOf script step
      → IsCore script state → GoesOn state.account (state_after script state step).account
