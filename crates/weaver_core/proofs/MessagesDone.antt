-- If gatekeepers or shards did `nop`, `deliver`, `apply` or `collect` with an answer, the machines did this step, with
-- the same answer.
-- Used by `apply`, `collect`, `deliver`, `kept`, `next_message` and `nop`.
use Rattle.std.proofs.Common.{◌≡◌, ℕ, ◌+◌, ◌-◌, ◌<◌, ◌^◌, ◌==◌, Bool, true, cond, List, length, Contains, Option, None, Some, inl, inr, refl, sym, ap, subst, ◌∙◌, arith}
use Rattle.std.specs.Prelude.{is_some, slice_get, if◌then◌else◌}
use Rattle.std.specs.Option.{ForSome}
use Rattle.std.proofs.lemmas.Bool.{cases_Bool}
use Rattle.std.proofs.lemmas.Option.{none-some}
use Rattle.weave_data.proofs.Images.{get-has}
use Rattle.weave_data.proofs.Members.{map_has}
use Rattle.vector_stamp.specs.declared.clock.Clock.{Clock}
use Rattle.shard_queue.specs.Outbox.{sent_as}
use Rattle.program_defs.specs.Limits.{IsWithinLimits}
use Rattle.program_defs.specs.declared.script.Script.{Script}
use Rattle.program_defs.specs.declared.script.Step.TheVariants as step
use Rattle.report_rules.specs.declared.report.StepAnswer.{StepAnswer}
use Rattle.report_rules.specs.declared.report.StepAnswer.TheVariants as answer
use Rattle.weave_entries.specs.declared.message.Addressed.{Addressed}
use Rattle.weave_entries.specs.declared.message.Message.{Message}
use Rattle.weave_entries.specs.declared.oracle_log.OracleEntry.{OracleEntry}
use Rattle.weave_entries.specs.declared.shard_log.ShardDeed.TheVariants as deed
use Rattle.weave_entries.specs.declared.store_log.StoreEntry.{StoreEntry}
use Rattle.weave_entries.specs.GateReplay.{addressed_to, channel_of}
use Rattle.weave_entries.specs.ShardReplay.{arrived_at, bound_of, processed_count}
use Rattle.weave_entries.specs.ShardRules.{IsTakable}
use Rattle.weave_account.specs.declared.account.Account.{Account}
use Rattle.weave_account.specs.Account.{commits_in, gate_log, shard_log}
use Rattle.weave_account.specs.IsAccount.{IsAccount}
use Rattle.step_rules.specs.Answers.{answer_of_apply, answer_of_deliver, waits_or_ok}
use Rattle.step_rules.specs.CoreState.{CoreState, with_shard_deed}
use Rattle.step_rules.specs.Entries.{after_deliver}
use Rattle.weaver_core.specs.Sessions.{ClientTable}
use Rattle.weaver_core.specs.Cores.{AreOf, MachinesDo, MachinesView, machines_of}
use Rattle.weaver_core.specs.GateTable.{GateTable, gate_log_at}
use Rattle.weaver_core.specs.Messages.{AppliesAtShard, DeliversToShard, DoesNop, nop_deed}
use Rattle.weaver_core.specs.ShardTable.{AddsToShard, ShardTable}
use Rattle.weaver_core.proofs.Resting.{done, gate-frame, gate-gains, rests, same-gates, same-shards, shard-frame, shard-gains}

-- what was sent with a number was sent
sent-there : {M : Type 0} (number : ℕ) (xs : List M) (m : M) → sent_as number xs ≡ Some m → slice_get xs (number - 1) ≡ Some m
sent-there number xs m e = elim (cases_Bool (number == 0)) [
  | inl none ↦ absurd (none-some m (sym (ap (λ b. cond b None (slice_get xs (number - 1))) none) ∙ e))
  | inr some ↦ sym (ap (λ b. cond b None (slice_get xs (number - 1))) some) ∙ e
]

module _ (script : Script) (old : GateTable) (store : List StoreEntry) (oracle : List OracleEntry) (shards : ShardTable) (was : ClientTable) (notices : List Clock) where
  abbrev before : MachinesView
  before = machines_of old store oracle shards was notices

  abbrev account : Account
  account = before.state.account

  abbrev state-of : Account → CoreState
  state-of all = record { account = all; notices = notices }

  -- a shard of the script is there
  pub shard-there : AreOf script before → (s : ℕ) → s < script.shards → s < length shards.logs
  shard-there are s below = let many = are.core.account.shards.as_many in omega (arith, many, below)

  -- Empty messages

  abbrev nop-answer : Bool → StepAnswer
  nop-answer busy = if busy then answer.Busy else answer.Ok

  -- by what the gatekeepers did at `nop`, the machines did this step, with the same answer
  pub nop-done : (new : GateTable) (g s : ℕ) (a : StepAnswer) → DoesNop old new g s a → MachinesDo script (step.Nop g s) before (machines_of new store oracle shards was notices) a
  nop-done new g s answer.Ok did =
      let deed = nop_deed g s (gate_log_at old g) in
      done script (step.Nop g s) before _ (ap nop-answer did.1) (ap state-of (gate-gains old store oracle shards was notices new g 0 deed did.0))
      (gate-frame old store oracle shards was notices new g 0 deed did.0) tt
  nop-done new g s answer.Busy did = rests script (step.Nop g s) before _ answer.Busy (ap nop-answer did.1) refl (same-gates old store oracle shards was notices new did.0)
  nop-done new g s answer.Twice none = absurd none
  nop-done new g s answer.Early none = absurd none
  nop-done new g s answer.Idle none = absurd none
  nop-done new g s answer.Old none = absurd none
  nop-done new g s answer.Unknown none = absurd none
  nop-done new g s answer.Repeat none = absurd none
  nop-done new g s answer.Empty none = absurd none
  nop-done new g s (answer.Waits v) none = absurd none
  nop-done new g s (answer.Again t h) none = absurd none

  -- Arrivals

  -- what was sent can be taken
  pub can-be-taken : ((one : Script) (all : Account) → IsWithinLimits one → IsAccount one all → length (commits_in all) < 2 ^ 64 - 1 → (shard home : ℕ) (addressed : Addressed)
      → Contains (addressed_to shard (gate_log all home)) addressed → IsTakable addressed.message)
      → AreOf script before → length (commits_in account) < 2 ^ 64 - 1 → (g s n : ℕ) → ForSome (sent_as n (channel_of s (gate_log_at old g))) IsTakable
  can-be-taken takable are few g s n message is =
      let among = get-has (channel_of s (gate_log_at old g)) (n - 1) message (sent-there n (channel_of s (gate_log_at old g)) message is) in
      let from = map_has (λ (addressed : Addressed). addressed.message) (addressed_to s (gate_log_at old g)) message among in
      subst IsTakable from.2 (takable script account are.limits are.core.account few s g from.0 from.1)

  -- the answer by the message that was sent and the one that arrived before
  deliver-answer : (sent arrived : Option Message) (message : Message) → sent ≡ Some message → answer_of_deliver sent arrived ≡ (if is_some arrived then answer.Repeat else answer.Ok)
  deliver-answer None arrived message is = absurd (none-some message is)
  deliver-answer (Some one) None message is = refl
  deliver-answer (Some one) (Some earlier) message is = refl

  unknown-answer : (sent arrived : Option Message) → sent ≡ None → answer_of_deliver sent arrived ≡ answer.Unknown
  unknown-answer None arrived is = refl
  unknown-answer (Some one) arrived is = absurd (none-some one (sym is))

  -- by what the shards did at `deliver`, the machines did this step, with the same answer
  pub deliver-done : (new : ShardTable) (g s n : ℕ) (a : StepAnswer) → DeliversToShard old shards new g s n a → MachinesDo script (step.Deliver g s n) before (machines_of old store oracle new was notices) a
  deliver-done new g s n answer.Ok did =
      let sent = sent_as n (channel_of s (gate_log account g)) in
      let arrived = arrived_at g n (shard_log account s) in
      let fresh : arrived ≡ None = did.arrives.0 in
      done script (step.Deliver g s n) before _
      (deliver-answer sent arrived did.message did.is_sent ∙ ap (λ (o : Option Message). if is_some o then answer.Repeat else answer.Ok) fresh)
      (ap state-of (shard-gains old store oracle shards was notices new s (deed.Arrived g n did.message) did.arrives.1 ∙ sym (ap (after_deliver account g s n) did.is_sent)))
      (shard-frame old store oracle shards was notices new s (deed.Arrived g n did.message) did.arrives.1) tt
  deliver-done new g s n answer.Repeat did =
      let sent = sent_as n (channel_of s (gate_log account g)) in
      let arrived = arrived_at g n (shard_log account s) in
      let earlier : is_some arrived ≡ true = did.arrives.0 in
      rests script (step.Deliver g s n) before _ answer.Repeat
      (deliver-answer sent arrived did.message did.is_sent ∙ ap (λ (b : Bool). if b then answer.Repeat else answer.Ok) earlier) refl (same-shards old store oracle shards was notices new did.arrives.1)
  deliver-done new g s n answer.Unknown did =
      rests script (step.Deliver g s n) before _ answer.Unknown
      (unknown-answer (sent_as n (channel_of s (gate_log account g))) (arrived_at g n (shard_log account s)) did.1) refl (same-shards old store oracle shards was notices new did.0)
  deliver-done new g s n answer.Twice none = absurd none
  deliver-done new g s n answer.Early none = absurd none
  deliver-done new g s n answer.Busy none = absurd none
  deliver-done new g s n answer.Idle none = absurd none
  deliver-done new g s n answer.Old none = absurd none
  deliver-done new g s n answer.Empty none = absurd none
  deliver-done new g s n (answer.Waits v) none = absurd none
  deliver-done new g s n (answer.Again t h) none = absurd none

  -- Heads

  abbrev apply-answer : ℕ → Option Message → StepAnswer
  apply-answer s head = answer_of_apply account s head

  -- if the shards did `apply` with an answer, the machines did this step with it
  pub apply-done : (new : ShardTable) (s g : ℕ) (a : StepAnswer) → AppliesAtShard shards new s g a → MachinesDo script (step.Apply s g) before (machines_of old store oracle new was notices) a
  apply-done new s g answer.Ok did =
      let applied = deed.Applied g (processed_count g (shard_log account s) + 1) in
      done script (step.Apply s g) before _ (ap (apply-answer s) did.next.is ∙ ap waits_or_ok did.next.waits) (ap state-of (shard-gains old store oracle shards was notices new s applied did.adds))
      (shard-frame old store oracle shards was notices new s applied did.adds) tt
  apply-done new s g answer.Empty did = rests script (step.Apply s g) before _ answer.Empty (ap (apply-answer s) did.1) refl (same-shards old store oracle shards was notices new did.0)
  apply-done new s g (answer.Waits v) did =
      rests script (step.Apply s g) before _ (answer.Waits v) (ap (apply-answer s) did.1.is ∙ ap waits_or_ok did.1.waits) refl (same-shards old store oracle shards was notices new did.0)
  apply-done new s g answer.Twice none = absurd none
  apply-done new s g answer.Early none = absurd none
  apply-done new s g answer.Busy none = absurd none
  apply-done new s g answer.Idle none = absurd none
  apply-done new s g answer.Old none = absurd none
  apply-done new s g answer.Unknown none = absurd none
  apply-done new s g answer.Repeat none = absurd none
  apply-done new s g (answer.Again t h) none = absurd none

  -- Collections

  abbrev collected : Account → ℕ → ℕ → Account
  collected all s gates = with_shard_deed all s (deed.Collected (bound_of gates (shard_log all s)))

  -- if a shard's log gained the entry of its collection, the machines did `collect`, with answer `ok`
  pub collect-done : AreOf script before → (new : ShardTable) (s : ℕ) → AddsToShard shards new s (deed.Collected (bound_of shards.gates (shard_log account s))) → MachinesDo script (step.Collect s) before (machines_of old store oracle new was notices) answer.Ok
  collect-done are new s adds =
      let entry = deed.Collected (bound_of shards.gates (shard_log account s)) in
      done script (step.Collect s) before _ refl
      (ap state-of (shard-gains old store oracle shards was notices new s entry adds ∙ ap (collected account s) are.frame.senders))
      (shard-frame old store oracle shards was notices new s entry adds) tt
