-- The laws of the crates below that a run by phases relies on, in one record. No public contract cites this.
use Rattle.std.specs.Prelude.{◌≡◌, ◌≢◌, ◌↔◌, ℕ, List, Contains, IsTrue, Some}
use Rattle.vector_stamp.specs.Order.{id_of}
use Rattle.program_defs.specs.declared.script.Request.{Request}
use Rattle.program_defs.specs.declared.script.Script.{Script}
use Rattle.program_defs.specs.declared.script.Step.{Step}
use Rattle.program_defs.specs.Limits.{IsWithinLimits}
use Rattle.program_defs.specs.Works.{is_look}
use Rattle.report_rules.specs.Lookups.{request_at}
use Rattle.weave_entries.specs.declared.gate_log.GateEntry.{GateEntry}
use Rattle.weave_entries.specs.GateReplay.{BegunRequest, ended_in, flight_of, txs_of}
use Rattle.weave_entries.specs.GateRules.{BeginsEachOnce, EndsWhatItBegan, IsGateLog}
use Rattle.weave_entries.specs.SessionReplay.{has_reply_in}
use Rattle.weave_account.specs.declared.account.Account.{Account}
use Rattle.weave_account.specs.Account.{all_begun, gate_log, is_ended, session_log}
use Rattle.weave_account.specs.GoesOn.{GoesOn}
use Rattle.weave_account.specs.IsAccount.{IsAccount}
use Rattle.step_rules.specs.CoreState.{CoreState, start_state}
use Rattle.step_rules.specs.IsCore.{IsCore, IsStepOf}
use Rattle.step_rules.specs.Trace.{state_after}

pub record LawsForCommands : Type 0 where
  -- requests_end, what_has_not_ended_goes_on
  pub ends : (home shards : ℕ) (log : List GateEntry) → IsGateLog home shards log → EndsWhatItBegan log
  pub in_flight : (home shards : ℕ) (log : List GateEntry) → IsGateLog home shards log → BeginsEachOnce log
      → (tx : BegunRequest)
      → (flight_of log ≡ Some tx) ↔ (Contains (txs_of log) tx × ¬ Contains (ended_in log) tx.request)
  -- requests_end_or_go_on
  pub once : (script : Script) (account : Account) → IsWithinLimits script → IsAccount script account → (home : ℕ)
      → BeginsEachOnce (gate_log account home)
  -- begun_stamps_are_coherent
  pub differ : (script : Script) (account : Account) → IsWithinLimits script → IsAccount script account
      → (a b : BegunRequest)
      → Contains (all_begun account) a → Contains (all_begun account) b → a.request ≢ b.request
      → id_of a.stamp ≢ id_of b.stamp
  -- facts_stay_true
  pub begun : (script : Script) (account next : Account) → GoesOn account next → (begun : BegunRequest)
      → Contains (all_begun account) begun → Contains (all_begun next) begun
  -- finished_exactly_if_replied
  pub finished : (script : Script) (account : Account) → IsWithinLimits script → IsAccount script account
      → (r : ℕ) (request : Request) → request_at script r ≡ Some request → IsTrue (is_look request.work)
      → IsTrue (is_ended account r) ↔ IsTrue (has_reply_in r (session_log account request.session))
  -- steps_keep_the_core
  pub goes_on : (script : Script) (state : CoreState) (step : Step) → IsWithinLimits script → IsStepOf script step
      → IsCore script state
      → GoesOn state.account (state_after script state step).account
  -- start_is_a_core
  pub start : (script : Script) → IsCore script (start_state script)
