-- If the gatekeepers did `send` with an answer, the machines did this step, with the same answer.
-- Used by `send`.
use Rattle.std.proofs.Common.{◌≡◌, ◌⊎◌, ℕ, List, Option, None, Some, inl, inr, refl, sym, ap, ◌∙◌}
use Rattle.std.specs.Prelude.{is_some, if◌then◌else◌}
use Rattle.vector_stamp.specs.declared.clock.Clock.{Clock}
use Rattle.program_defs.specs.declared.script.Script.{Script}
use Rattle.program_defs.specs.declared.script.Step.TheVariants as step
use Rattle.report_rules.specs.declared.report.StepAnswer.{StepAnswer}
use Rattle.report_rules.specs.declared.report.StepAnswer.TheVariants as answer
use Rattle.weave_entries.specs.declared.gate_log.GateDeed.TheVariants.{Sent}
use Rattle.weave_entries.specs.declared.oracle_log.OracleEntry.{OracleEntry}
use Rattle.weaver_core.specs.ShardTable.{ShardTable}
use Rattle.weave_entries.specs.declared.store_log.StoreEntry.{StoreEntry}
use Rattle.weave_entries.specs.GateReplay.{BegunRequest, flight_of}
use Rattle.weave_entries.specs.Sending.{messages_of}
use Rattle.weave_entries.specs.StoreReplay.{Judgement}
use Rattle.weave_account.specs.declared.account.Account.{Account}
use Rattle.step_rules.specs.Answers.{answer_of_send}
use Rattle.step_rules.specs.CoreState.{with_gate_deed}
use Rattle.step_rules.specs.Entries.{after_send, judgement_in_flight}
use Rattle.weaver_core.specs.Sessions.{ClientTable}
use Rattle.weaver_core.specs.Cores.{AreOf, MachinesDo, MachinesView, machines_of}
use Rattle.weaver_core.specs.GateTable.{GateTable, gate_log_at}
use Rattle.weaver_core.specs.Sending.{IsFlightSent, IsUnjudged, SendsJudgedFlight}
use Rattle.weaver_core.proofs.Resting.{done, gate-frame, gate-gains, rests, same-gates}

module _ (script : Script) (old : GateTable) (store : List StoreEntry) (oracle : List OracleEntry) (shards : ShardTable) (was : ClientTable) (notices : List Clock)
    (are : AreOf script (machines_of old store oracle shards was notices)) (new : GateTable) (g : ℕ) where
  abbrev before : MachinesView
  before = machines_of old store oracle shards was notices

  abbrev account : Account
  account = before.state.account

  sent-done : IsFlightSent old new store g → MachinesDo script (step.Send g) before (machines_of new store oracle shards was notices) answer.Ok
  sent-done did =
      let flight = did.flight in
      let deed = Sent flight.request (messages_of old.shards (gate_log_at old g) flight did.judged.ops did.judged.verdict) in
      -- the definition takes the number of shards from the script
      let by-script : with_gate_deed account g flight.author deed ≡ after_send script account g (Some flight) (Some did.judged) =
      ap (λ (n : ℕ). with_gate_deed account g flight.author (Sent flight.request (messages_of n (gate_log_at old g) flight did.judged.ops did.judged.verdict))) are.frame.shards in
      let looked-up : after_send script account g (Some flight) (Some did.judged) ≡ after_send script account g (flight_of (gate_log_at old g)) (judgement_in_flight account (flight_of (gate_log_at old g))) =
      ap (after_send script account g (Some flight)) (sym did.is_judged) ∙ ap (λ (o : Option BegunRequest). after_send script account g o (judgement_in_flight account o)) (sym did.flies) in
      done script (step.Send g) before _
      (ap (answer_of_send account) did.flies ∙ ap (λ (o : Option Judgement). if is_some o then answer.Ok else answer.Idle) did.is_judged)
      (ap (λ (all : Account). record { account = all; notices = notices }) (gate-gains old store oracle shards was notices new g flight.author deed did.adds ∙ by-script ∙ looked-up))
      (gate-frame old store oracle shards was notices new g flight.author deed did.adds) tt

  idle-is : (flight_of (gate_log_at old g) ≡ None) ⊎ IsUnjudged old store g → answer_of_send account (flight_of (gate_log_at old g)) ≡ answer.Idle
  idle-is (inl none) = ap (answer_of_send account) none
  idle-is (inr has) = ap (answer_of_send account) has.flies ∙ ap (λ (o : Option Judgement). if is_some o then answer.Ok else answer.Idle) has.not_judged

  -- by what the gatekeepers did at `send`, the machines did this step, with the same answer
  pub send-done : (a : StepAnswer) → SendsJudgedFlight old new store g a → MachinesDo script (step.Send g) before (machines_of new store oracle shards was notices) a
  send-done answer.Ok did = sent-done did
  send-done answer.Idle did = rests script (step.Send g) before _ answer.Idle (idle-is did.1) refl (same-gates old store oracle shards was notices new did.0)
  send-done answer.Twice none = absurd none
  send-done answer.Early none = absurd none
  send-done answer.Busy none = absurd none
  send-done answer.Old none = absurd none
  send-done answer.Unknown none = absurd none
  send-done answer.Repeat none = absurd none
  send-done answer.Empty none = absurd none
  send-done (answer.Waits v) none = absurd none
  send-done (answer.Again s h) none = absurd none
