-- `deliver`, `apply` and `collect` keep a core.
-- Used by Stepping.
use Rattle.std.proofs.Common.{◌≡◌, ℕ, zero, suc, ◌+◌, ◌-◌, ◌<◌, ◌≤◌, ◌==◌, Bool, true, false, cond, List, [], ◌∷◌, map, length, Contains, Option, None, Some, inl, inr, refl, sym, ap, subst, ◌∙◌, arith}
use Rattle.std.specs.Prelude.{slice_get}
use Rattle.std.specs.List.{range_with_len}
use Rattle.std.proofs.lemmas.Bool.{both_ways, cases_eq, eq-eqb, eqb-true}
use Rattle.std.proofs.lemmas.Option.{none-some}
use Rattle.weave_data.proofs.Members.{filter_has, flat_has, has_head, has_tail}
use Rattle.weave_data.specs.declared.name.Name.{Name}
use Rattle.shard_queue.specs.Outbox.{sent_as}
use Rattle.program_defs.specs.declared.script.Script.{Script}
use Rattle.program_defs.specs.declared.script.Step.TheVariants.{Deliver, Apply, Collect}
use Rattle.report_rules.specs.declared.report.StepAnswer.TheVariants.{Ok, Unknown, Repeat, Empty, Waits}
use Rattle.weave_entries.specs.declared.gate_log.GateEntry.{GateEntry}
use Rattle.weave_entries.specs.declared.message.Addressed.{Addressed}
use Rattle.weave_entries.specs.declared.message.Message.{Message}
use Rattle.weave_entries.specs.declared.shard_log.ShardDeed.TheVariants as shard
use Rattle.weave_entries.specs.GateReplay.{addressed_to, channel_of, messages_by, to_shard}
use Rattle.weave_entries.specs.GateRules.{IsChannel}
use Rattle.weave_entries.specs.ShardReplay.{arrived_at, bound_of, head_of, processed_count, waits_at}
use Rattle.weave_account.specs.Account.{gate_log, shard_log}
use Rattle.step_rules.specs.CoreState.{CoreState}
use Rattle.step_rules.specs.Answers.{answer_of, answer_of_apply, answer_of_deliver, waits_or_ok}
use Rattle.step_rules.specs.Entries.{after_deliver, state_with}
use Rattle.step_rules.specs.IsCore.{IsCore}
use Rattle.step_rules.proofs.Basis.{Basis}
use Rattle.step_rules.proofs.Clashes.{not-ok}
use Rattle.step_rules.proofs.ShardStep.{quiet-keeps}

module _ (script : Script) (state : CoreState) (basis : Basis script state) where
  -- a `collect` at a shard of the script keeps a core
  pub collect-keeps : (s : ℕ) → s < script.shards → IsCore script (state_with script state (Collect s))
  collect-keeps s inside = quiet-keeps script state basis s inside (shard.Collected (bound_of script.gates (shard_log state.account s))) refl refl

  -- an `apply` that is done at a shard of the script keeps a core
  pub apply-keeps : (s g : ℕ) → s < script.shards → answer_of script state (Apply s g) ≡ Ok → IsCore script (state_with script state (Apply s g))
  apply-keeps s g inside ok = at (head_of g (shard_log state.account s)) refl ok
    where
      at : (o : Option Message) → head_of g (shard_log state.account s) ≡ o → answer_of_apply state.account s o ≡ Ok → IsCore script (state_with script state (Apply s g))
      at None e ok = not-ok Empty refl ok
      at (Some head) e ok = waiting (waits_at head (shard_log state.account s)) refl ok
        where
          waiting : (w : Option Name) → waits_at head (shard_log state.account s) ≡ w → waits_or_ok w ≡ Ok → IsCore script (state_with script state (Apply s g))
          waiting None is ok = quiet-keeps script state basis s inside (shard.Applied g (processed_count g (shard_log state.account s) + 1)) refl (record { number_is = refl; message = head; head = e; in_turn = is })
          waiting (Some v) is ok = not-ok (Waits v) refl ok

-- What was sent with a number is addressed so

get-range : (a n i k : ℕ) → slice_get (range_with_len a n) i ≡ Some k → k ≡ a + i
get-range a zero i k e = cc
get-range a (suc n) zero k e = let same : a ≡ k = cc in omega (arith, same)
get-range a (suc n) (suc i) k e = let rest = get-range (a + 1) n i k e in omega (arith, rest)

get-sent : (xs : List Addressed) (i : ℕ) (m : Message) → slice_get (map (λ (a : Addressed). a.message) xs) i ≡ Some m
    → (a : Addressed) × Contains xs a × (a.message ≡ m) × (slice_get (map (λ (a : Addressed). a.number) xs) i ≡ Some a.number)
get-sent [] i m e = cc
get-sent (x ∷ xs) zero m e = let same : x.message ≡ m = cc in (x, has_head x xs, same, refl)
get-sent (x ∷ xs) (suc i) m e = let rest = get-sent xs i m e in (rest.0, has_tail x xs rest.0 rest.1, rest.2, rest.3)

sent-there : {M : Type 0} (number : ℕ) (xs : List M) (m : M) → sent_as number xs ≡ Some m → (1 ≤ number) × (slice_get xs (number - 1) ≡ Some m)
sent-there number xs m e = at (number == 0) refl e
  where
    at : (b : Bool) → (number == 0) ≡ b → cond b None (slice_get xs (number - 1)) ≡ Some m → (1 ≤ number) × (slice_get xs (number - 1) ≡ Some m)
    at true is e = absurd (none-some m e)
    at false is e = elim (cases_eq number 0) [
      | inl none ↦ absurd (both_ways (number == 0) is (eq-eqb number 0 none))
      | inr other ↦ (omega (arith, other), e)
    ]

sent-addressed : (shard : ℕ) (log : List GateEntry) → IsChannel shard log → (number : ℕ) (message : Message) → sent_as number (channel_of shard log) ≡ Some message
    → Contains (addressed_to shard log) (record { shard = shard; number = number; message = message })
sent-addressed shard log channel number message e =
    let there = sent-there number (channel_of shard log) message e in
    let n = number - 1 in
    let got = get-sent (addressed_to shard log) n message there.1 in
    let number-is : got.0.number ≡ 1 + n = get-range 1 (length (channel_of shard log)) n got.0.number (ap (λ ns. slice_get ns n) (sym channel.numbers) ∙ got.3) in
    let low = there.0 in
    let same : got.0.number ≡ number = omega (arith, number-is, low) in
    let from = flat_has (λ (e : GateEntry). to_shard shard (messages_by e.deed)) log got.0 got.1 in
    let to : got.0.shard ≡ shard = eqb-true got.0.shard shard (filter_has (λ (a : Addressed). a.shard == shard) (messages_by from.0.deed) got.0 from.2).1 in
    subst (λ (a : Addressed). Contains (addressed_to shard log) a) (λ i. record { shard = to i; number = same i; message = got.2 i }) got.1

module _ (script : Script) (state : CoreState) (basis : Basis script state) where
  -- a `deliver` that is done, from a gatekeeper to a shard of the script, keeps a core
  pub deliver-keeps : (g s n : ℕ) → g < script.gates → s < script.shards → answer_of script state (Deliver g s n) ≡ Ok → IsCore script (state_with script state (Deliver g s n))
  deliver-keeps g s n inside shard-inside ok = at (sent_as n (channel_of s (gate_log state.account g))) refl (arrived_at g n (shard_log state.account s)) refl ok
    where
      at : (o : Option Message) → sent_as n (channel_of s (gate_log state.account g)) ≡ o → (a : Option Message) → arrived_at g n (shard_log state.account s) ≡ a → answer_of_deliver o a ≡ Ok
          → IsCore script (record { account = after_deliver state.account g s n o; notices = state.notices })
      at None e a is ok = not-ok Unknown refl ok
      at (Some message) e (Some earlier) is ok = not-ok Repeat refl ok
      at (Some message) e None is ok =
          let few = basis.limits.few_gates in
          let below : g < 8 = omega (arith, few, inside) in
          quiet-keeps script state basis s shard-inside (shard.Arrived g n message) refl (record {
            sent = sent-addressed s (gate_log state.account g) (basis.laws.logs.channels_channel g script.shards s (gate_log state.account g) below (basis.core.account.gatekeepers.logs g)) n message e;
            new = is;
          })
