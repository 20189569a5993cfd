-- What was begun in one gatekeeper's log is among all that was begun. If each request begins once, two begins of one
-- request are the same.
-- Used by JudgeStep, NopStep, SendStep and VisitStep.
use Rattle.std.proofs.Common.{◌≡◌, ◌≢◌, ℕ, ◌<◌, List, [], length, Contains, Some, inl, inr, sym, arith}
use Rattle.std.proofs.lemmas.List.Elements.{Contains-get_or, Contains-append_left, Contains-append_right}
use Rattle.weave_data.proofs.Members.{flat_has, has_flat}
use Rattle.weave_data.proofs.Ordered.{pairs_cases}
use Rattle.program_defs.specs.declared.script.Script.{Script}
use Rattle.weave_entries.specs.declared.gate_log.GateEntry.{GateEntry}
use Rattle.weave_entries.specs.GateReplay.{BegunRequest, begun_by, begun_in, flight_of, tx_by, program_by, programs_of, txs_of}
use Rattle.weave_entries.proofs.OwnStamps.{tx-begun}
use Rattle.weave_account.specs.declared.account.Account.{Account}
use Rattle.weave_account.specs.Account.{gate_log, all_begun}
use Rattle.weave_account.specs.Gatekeepers.{BeginEachOnce}
use Rattle.weave_account.specs.IsAccount.{IsAccount}
use Rattle.program_defs.specs.Limits.{IsWithinLimits}
use Rattle.step_rules.specs.LowerLaws.{LawsForSteps, FurtherLowerLaws}

-- what was begun at a gatekeeper that is there is among all that was begun
pub all-in : (account : Account) (home : ℕ) (b : BegunRequest) → home < length account.gates → Contains (begun_in (gate_log account home)) b → Contains (all_begun account) b
all-in account home b within h = has_flat begun_in account.gates (gate_log account home) b (Contains-get_or account.gates home [] within) h

-- if each request begins once, two begins of one request are the same
pub one-begun : (account : Account) → BeginEachOnce account → (a b : BegunRequest) → Contains (all_begun account) a → Contains (all_begun account) b → a.request ≡ b.request → a ≡ b
one-begun account once a b ha hb same = elim (pairs_cases (λ (x y : BegunRequest). x.request ≢ y.request) (all_begun account) once a b ha hb) [
  | inl one ↦ one
  | inr (inl differ) ↦ absurd (differ same)
  | inr (inr differ) ↦ absurd (differ (sym same))
]

module _ (laws : LawsForSteps) (further : FurtherLowerLaws) (script : Script) (account : Account) (limits : IsWithinLimits script) (is : IsAccount script account) (home : ℕ) (inside : home < script.gates) where
  -- a gatekeeper of the script has its log in the account
  pub inside-log : home < length account.gates
  inside-log = let many = is.gatekeepers.as_many in omega (arith, inside, many)

  -- what is in flight was begun
  pub flight-begun : (flight : BegunRequest) → flight_of (gate_log account home) ≡ Some flight → Contains (all_begun account) flight
  flight-begun flight flies =
      let tx = (laws.logs.open_flight home script.shards (gate_log account home) (is.gatekeepers.logs home) (further.accounts.each_once script account limits is home) flight).0 flies in
      all-in account home flight inside-log (tx-begun (gate_log account home) flight tx.0)
