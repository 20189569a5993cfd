-- If the gatekeepers did `hear`, `epoch` or `restart` with an answer, the machines did this step, with the same answer;
-- and so for `say`, if its clock is that of the gatekeeper.
-- Used by `hear`, `raise`, `restart` and `say`.
use Rattle.std.proofs.Common.{◌≡◌, ℕ, Bool, nat_lt, List, [], ◌∷◌, ◌++◌, Option, refl, sym, ap, ◌∙◌}
use Rattle.std.specs.Prelude.{is_some, if◌then◌else◌}
use Rattle.std.proofs.lemmas.Bool.{not-false, not-true}
use Rattle.vector_stamp.specs.declared.clock.Clock.{Clock}
use Rattle.program_defs.specs.declared.script.Script.{Script}
use Rattle.program_defs.specs.declared.script.Step.TheVariants as step
use Rattle.report_rules.specs.declared.report.StepAnswer.{StepAnswer}
use Rattle.report_rules.specs.declared.report.StepAnswer.TheVariants as answer
use Rattle.weave_entries.specs.declared.gate_log.GateDeed.TheVariants.{Heard, Raised}
use Rattle.weave_entries.specs.declared.oracle_log.OracleEntry.{OracleEntry}
use Rattle.weaver_core.specs.ShardTable.{ShardTable}
use Rattle.weave_entries.specs.declared.store_log.StoreEntry.{StoreEntry}
use Rattle.weave_entries.specs.GateReplay.{clock_of}
use Rattle.weave_account.specs.declared.account.Account.{Account}
use Rattle.step_rules.specs.CoreState.{CoreState}
use Rattle.step_rules.specs.Entries.{after_hear}
use Rattle.weaver_core.specs.Sessions.{ClientTable}
use Rattle.weaver_core.specs.Clocks.{Hears, Raises}
use Rattle.weaver_core.specs.Cores.{MachinesDo, MachinesView, machines_of}
use Rattle.weaver_core.specs.GateTable.{GateTable, gate_log_at}
use Rattle.weaver_core.proofs.Resting.{done, gate-frame, gate-gains, rests, same-gates}

module _ (script : Script) (old : GateTable) (store : List StoreEntry) (oracle : List OracleEntry) (shards : ShardTable) (was : ClientTable) (notices : List Clock) where
  abbrev before : MachinesView
  before = machines_of old store oracle shards was notices

  abbrev state-of : Account → CoreState
  state-of account = record { account = account; notices = notices }

  -- the clock is the next notice
  pub say-done : (g : ℕ) (clock : Clock) → clock ≡ clock_of g (gate_log_at old g) → MachinesDo script (step.Say g) before (machines_of old store oracle shards was (notices ++ clock ∷ [])) answer.Ok
  say-done g clock is = done script (step.Say g) before _ refl (ap (λ (c : Clock). record { account = before.state.account; notices = notices ++ c ∷ [] }) is) refl tt

  -- by what the gatekeepers did at `hear`, the machines did this step, with the same answer
  pub hear-done : (new : GateTable) (g notice : ℕ) (a : StepAnswer) → Hears old new notices g notice a → MachinesDo script (step.Hear g notice) before (machines_of new store oracle shards was notices) a
  hear-done new g notice answer.Ok did =
      let there = did.notice_is in
      done script (step.Hear g notice) before _
      (ap (λ (n : Option Clock). if is_some n then answer.Ok else answer.Unknown) there)
      (ap state-of (gate-gains old store oracle shards was notices new g 0 (Heard did.clock) did.adds ∙ sym (ap (after_hear before.state.account g) there)))
      (gate-frame old store oracle shards was notices new g 0 (Heard did.clock) did.adds) tt
  hear-done new g notice answer.Unknown did =
      rests script (step.Hear g notice) before _ answer.Unknown (ap (λ (n : Option Clock). if is_some n then answer.Ok else answer.Unknown) did.1) refl (same-gates old store oracle shards was notices new did.0)
  hear-done new g notice answer.Twice none = absurd none
  hear-done new g notice answer.Early none = absurd none
  hear-done new g notice answer.Busy none = absurd none
  hear-done new g notice answer.Idle none = absurd none
  hear-done new g notice answer.Old none = absurd none
  hear-done new g notice answer.Repeat none = absurd none
  hear-done new g notice answer.Empty none = absurd none
  hear-done new g notice (answer.Waits v) none = absurd none
  hear-done new g notice (answer.Again s h) none = absurd none

  -- if the gatekeepers did `epoch` with an answer, the machines did this step with it
  pub raise-done : (new : GateTable) (g epoch : ℕ) (a : StepAnswer) → Raises old new g epoch a → MachinesDo script (step.Epoch g epoch) before (machines_of new store oracle shards was notices) a
  raise-done new g epoch answer.Ok did =
      done script (step.Epoch g epoch) before _
      (ap (λ (b : Bool). if b then answer.Ok else answer.Old) (not-false (nat_lt (clock_of g (gate_log_at old g)).epoch epoch) did.1))
      (ap state-of (gate-gains old store oracle shards was notices new g 0 (Raised epoch) did.0))
      (gate-frame old store oracle shards was notices new g 0 (Raised epoch) did.0) tt
  raise-done new g epoch answer.Old did =
      rests script (step.Epoch g epoch) before _ answer.Old (ap (λ (b : Bool). if b then answer.Ok else answer.Old) (not-true (nat_lt (clock_of g (gate_log_at old g)).epoch epoch) did.1)) refl (same-gates old store oracle shards was notices new did.0)
  raise-done new g epoch answer.Twice none = absurd none
  raise-done new g epoch answer.Early none = absurd none
  raise-done new g epoch answer.Busy none = absurd none
  raise-done new g epoch answer.Idle none = absurd none
  raise-done new g epoch answer.Unknown none = absurd none
  raise-done new g epoch answer.Repeat none = absurd none
  raise-done new g epoch answer.Empty none = absurd none
  raise-done new g epoch (answer.Waits v) none = absurd none
  raise-done new g epoch (answer.Again s h) none = absurd none

  -- and so for `restart`, which leaves the logs of `epoch`
  pub restart-done : (new : GateTable) (g epoch : ℕ) (a : StepAnswer) → Raises old new g epoch a → MachinesDo script (step.Restart g epoch) before (machines_of new store oracle shards was notices) a
  restart-done new g epoch a did = let raised = raise-done new g epoch a did in record { answer_is = raised.answer_is; state_is = raised.state_is; frame_is = raised.frame_is; small = raised.small }
