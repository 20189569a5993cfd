-- Steps `apply` lead to a state in which all that arrived at a shard is processed.
-- Used by `apply`, `apply_all`, `apply_channel` and `apply_round`.
use Rattle.std.proofs.Common.{◌≡◌, ℕ, zero, suc, ◌+◌, ◌<◌, ◌≤◌, Bool, true, false, cond, nat_eq, ◌==◌, ◌||◌, List, [], ◌∷◌, ◌++◌, length, count_by, Contains, IsTrue, Option, Some, None, inl, inr, refl, sym, ap, subst, ◌∙◌, arith}
use Rattle.std.specs.Prelude.{slice_index_or}
use Rattle.std.proofs.lemmas.Bool.{cases_eq, eq-eqb}
use Rattle.std.proofs.lemmas.List.Concat.{flat_map-append}
use Rattle.std.proofs.lemmas.List.Sums.{fold-append}
use Rattle.program_defs.specs.declared.script.Script.{Script}
use Rattle.program_defs.specs.declared.script.Step.TheVariants.{Apply}
use Rattle.program_defs.specs.Limits.{IsWithinLimits}
use Rattle.report_rules.specs.declared.report.StepAnswer.{StepAnswer}
use Rattle.weave_entries.specs.declared.gate_log.GateEntry.{GateEntry}
use Rattle.weave_entries.specs.declared.message.Message.{Message}
use Rattle.weave_entries.specs.declared.shard_log.ShardEntry.{ShardEntry}
use Rattle.weave_entries.specs.declared.shard_log.ShardDeed.TheVariants.{Applied}
use Rattle.weave_entries.specs.GateReplay.{addressed_to, channel_of}
use Rattle.weave_entries.specs.ShardReplay.{head_of, processed_by, processed_count, processed_of}
use Rattle.weave_account.specs.declared.account.Account.{Account}
use Rattle.weave_account.specs.Account.{gate_log, shard_log, NoneInFlight}
use Rattle.weave_account.specs.GoesOn.{GoesOn}
use Rattle.step_rules.specs.CoreState.{CoreState, with_shard_deed}
use Rattle.step_rules.specs.Answers.{answer_of, answer_of_apply, waits_or_ok}
use Rattle.step_rules.specs.Entries.{account_with}
use Rattle.step_rules.specs.IsCore.{IsCore}
use Rattle.step_rules.specs.Trace.{is_ok}
use Rattle.weaver_core.specs.Cores.{CoreView, DoesStep}
use Rattle.drive_rules.specs.Heads.{AllArrived, AllProcessed, CanApply}
use Rattle.weave_drive.specs.Driving.{Drives}
use Rattle.weave_drive.specs.LowerLaws.{LawsForDriving}
use Rattle.weave_drive.specs.Loops.{AppliesBelow, IsApplying, IsCatchingUp}
use Rattle.weave_drive.specs.Progress.{AreCores, AppliesChannel, AppliesAll, AppliesRound, left_of}
use Rattle.weave_drive.proofs.After.{account-after, not-done, set-there, still-message}
use Rattle.weave_drive.proofs.Driven.{drives-core, drives-none, drives-on, drives-through}
use Rattle.weave_drive.proofs.Quiet.{drives-quiet}

-- Messages left

count-longer : {A : Type 0} (p : A → Bool) (xs : List A) (x : A) → count_by p (xs ++ x ∷ []) ≡ count_by p xs + cond {A = ℕ} (p x) 1 0
count-longer p xs x = fold-append (λ a y. a + cond {A = ℕ} (p y) 1 0) 0 xs (x ∷ [])

processed-longer : (log : List ShardEntry) (home number g : ℕ) → processed_count g (log ++ record { author = 0; deed = Applied home number } ∷ []) ≡ processed_count g log + cond {A = ℕ} (nat_eq home g) 1 0
processed-longer log home number g =
    ap (count_by (λ (of : ℕ × ℕ). of.0 == g)) (flat_map-append (λ (entry : ShardEntry). processed_by entry.deed) log (record { author = 0; deed = Applied home number } ∷ []))
    ∙ count-longer (λ (of : ℕ × ℕ). of.0 == g) (processed_of log) (home, number)

module _ (old new : Account) (shard home : ℕ) (same-gates : new.gates ≡ old.gates)
    (counts : (g : ℕ) → processed_count g (shard_log new shard) ≡ processed_count g (shard_log old shard) + cond {A = ℕ} (nat_eq home g) 1 0)
    (within : processed_count home (shard_log old shard) + 1 ≤ length (channel_of shard (gate_log old home))) where
  long : (g : ℕ) → length (channel_of shard (gate_log new g)) ≡ length (channel_of shard (gate_log old g))
  long g = ap (λ (gs : List (List GateEntry)). length (channel_of shard (slice_index_or gs g []))) same-gates

  left-no-more : (n : ℕ) → left_of n new shard ≤ left_of n old shard
  left-no-more zero = omega arith
  left-no-more (suc n) = let rest = left-no-more n in let count = counts n in let l = long n in omega (arith, rest, count, l)

  left-less : (n : ℕ) → home < n → left_of n new shard < left_of n old shard
  left-less zero below = absurd (omega (arith, below))
  left-less (suc n) below = elim (cases_eq home n) [
    | inl same ↦
        let rest = left-no-more n in
        let one : cond {A = ℕ} (nat_eq home n) 1 0 ≡ 1 = ap (λ b. cond {A = ℕ} b 1 0) (eq-eqb home n same) in
        let count = counts n in
        let l = long n in
        let room : processed_count n (shard_log old shard) + 1 ≤ length (channel_of shard (gate_log old n)) = subst (λ k. processed_count k (shard_log old shard) + 1 ≤ length (channel_of shard (gate_log old k))) same within in
        omega (arith, rest, one, count, l, room)
    | inr other ↦
        let rest = left-less n (omega (arith, below, other)) in
        let count = counts n in
        let l = long n in
        omega (arith, rest, count, l)
  ]

-- One step

module _ (account : Account) (shard gate : ℕ) where
  abbrev applied-account : Option Message → Account
  applied-account head = cond (is_ok (answer_of_apply account shard head)) (with_shard_deed account shard (Applied gate (processed_count gate (shard_log account shard) + 1))) account

  gates-are : (b : Bool) → (cond {A = Account} b (with_shard_deed account shard (Applied gate (processed_count gate (shard_log account shard) + 1))) account).gates ≡ account.gates
  gates-are true = refl
  gates-are false = refl

  -- a step that was done had a head
  head-there : (o : Option Message) → is_ok (answer_of_apply account shard o) ≡ true → (m : Message) × (o ≡ Some m)
  head-there None ok = cc
  head-there (Some m) ok = (m, refl)

-- an `apply` that is done leaves fewer messages to process; else nothing changes, and the channel was stuck
pub apply-done : (laws : LawsForDriving) (old new : CoreView) (shard gate : ℕ) (answer : StepAnswer) → AreCores old new → gate < old.script.gates → shard < old.script.shards → DoesStep (Apply shard gate) old new answer → AppliesChannel old.script.gates shard gate old.state new.state (is_ok answer)
apply-done laws old new shard gate answer cores gate-inside inside did = record {
  same_gates = ap (λ (a : Account). a.gates) is ∙ gates-are old.state.account shard gate (is_ok (answer_of_apply old.state.account shard (head_of gate (shard_log old.state.account shard))));
  fewer = λ ok. fewer (sym (ap is_ok did.answer_is) ∙ ok);
  same = λ no. did.state_is ∙ not-done old.script old.state (Apply shard gate) (sym (ap is_ok did.answer_is) ∙ no);
  stuck = λ no can. (let clash : true ≡ false = sym (ap is_ok (ap (answer_of_apply old.state.account shard) can.1 ∙ ap waits_or_ok can.2)) ∙ sym (ap is_ok did.answer_is) ∙ no in cc);
}
  where
    is : new.state.account ≡ cond (is_ok (answer_of old.script old.state (Apply shard gate))) (account_with old.script old.state (Apply shard gate)) old.state.account
    is = ap (λ (s : CoreState). s.account) did.state_is ∙ account-after old.script old.state (Apply shard gate)

    fewer : is_ok (answer_of old.script old.state (Apply shard gate)) ≡ true → left_of old.script.gates new.state.account shard < left_of old.script.gates old.state.account shard
    fewer ok =
        let account = old.state.account in
        let head = head-there account shard gate (head_of gate (shard_log account shard)) ok in
        let sent = laws.arrived old.script account cores.limits cores.before.account shard gate (processed_count gate (shard_log account shard) + 1) head.0 head.1 in
        let numbers = laws.numbers old.script account cores.limits cores.before.account shard gate _ sent in
        let goes : new.state.account ≡ with_shard_deed account shard (Applied gate (processed_count gate (shard_log account shard) + 1)) = is ∙ ap (λ b. cond {A = Account} b (with_shard_deed account shard (Applied gate (processed_count gate (shard_log account shard) + 1))) account) ok in
        let many = cores.before.account.shards.as_many in
        let log = ap (λ (a : Account). shard_log a shard) goes ∙ set-there account.shards shard _ (omega (arith, many, inside)) in
        left-less account new.state.account shard gate (ap (λ (a : Account). a.gates) goes)
        (λ g. ap (processed_count g) log ∙ processed-longer (shard_log account shard) gate _ g)
        numbers.1 old.script.gates gate-inside

-- applying a channel, by the script at the middle of a drive, is doing so by the script at its start
pub applied-at : (shard gate : ℕ) (old middle new : CoreView) (moved : Bool) → Drives 0 old middle → AppliesChannel middle.script.gates shard gate middle.state new.state moved → AppliesChannel old.script.gates shard gate middle.state new.state moved
applied-at shard gate old middle new moved d a = subst (λ (s : Script). AppliesChannel s.gates shard gate middle.state new.state moved) d.script_is a

-- a round of a shard's channels, by the script at the middle of a drive, is one by the script at its start
pub round-at : (shard : ℕ) (old middle new : CoreView) (moved : Bool) → Drives 0 old middle → AppliesRound middle.script.gates shard middle.script.gates middle.state new.state moved → AppliesRound old.script.gates shard old.script.gates middle.state new.state moved
round-at shard old middle new moved d a = subst (λ (s : Script). AppliesRound s.gates shard s.gates middle.state new.state moved) d.script_is a

-- A channel

-- before any head is processed nothing has changed
pub applying-none : (gates shard : ℕ) (old : CoreView) → IsApplying gates shard old old false
applying-none gates shard old = record { drives = drives-none 0 old; same_gates = refl; fewer = λ t. cc; same = λ f. refl }

-- nothing gets more
no-more : (gates shard : ℕ) (old new : CoreState) (moved : Bool) → (IsTrue moved → left_of gates new.account shard < left_of gates old.account shard) → (moved ≡ false → new ≡ old) → left_of gates new.account shard ≤ left_of gates old.account shard
no-more gates shard old new true fewer same = let less = fewer refl in omega (arith, less)
no-more gates shard old new false fewer same = let is = ap (λ (s : CoreState). left_of gates s.account shard) (same refl) in omega (arith, is)

-- after one more channel fewer messages are left, if something moved in it or before, and else nothing has changed
pub applying-next : (gates shard gate : ℕ) (old middle new : CoreView) (before moved : Bool) → IsApplying gates shard old middle before → Drives 0 middle new → AppliesChannel gates shard gate middle.state new.state moved → IsApplying gates shard old new (before || moved)
applying-next gates shard gate old middle new before moved a drives b = record {
  drives = drives-through 0 old middle new a.drives drives;
  same_gates = b.same_gates ∙ a.same_gates;
  fewer = fewer before moved a b;
  same = same before moved a b;
}
  where
    fewer : (x y : Bool) → IsApplying gates shard old middle x → AppliesChannel gates shard gate middle.state new.state y → x || y ≡ true → left_of gates new.state.account shard < left_of gates old.state.account shard
    fewer true y p q t =
        let less = p.fewer refl in
        let most = no-more gates shard middle.state new.state y q.fewer q.same in
        omega (arith, less, most)
    fewer false true p q t =
        let less = q.fewer refl in
        let is = ap (λ (s : CoreState). left_of gates s.account shard) (p.same refl) in
        omega (arith, less, is)
    fewer false false p q t = cc

    same : (x y : Bool) → IsApplying gates shard old middle x → AppliesChannel gates shard gate middle.state new.state y → x || y ≡ false → new.state ≡ old.state
    same true y p q f = cc
    same false true p q f = cc
    same false false p q f = q.same refl ∙ p.same refl

-- one that was done makes it true
pub applying-on : (gates shard gate : ℕ) (old middle new : CoreView) (before : Bool) → IsApplying gates shard old middle before → Drives 0 middle new → AppliesChannel gates shard gate middle.state new.state true → IsApplying gates shard old new true
applying-on gates shard gate old middle new before a drives b = subst (IsApplying gates shard old new) (or-true before) (applying-next gates shard gate old middle new before true a drives b)
  where
    or-true : (x : Bool) → x || true ≡ true
    or-true true = refl
    or-true false = refl

-- when a channel is stuck, there are fewer messages left, or it was stuck from the start and nothing has changed
pub applying-end : (gates shard gate : ℕ) (old middle new : CoreView) (moved : Bool) → IsApplying gates shard old middle moved → AppliesChannel gates shard gate middle.state new.state false → AppliesChannel gates shard gate old.state new.state moved
applying-end gates shard gate old middle new moved a b = record {
  same_gates = b.same_gates ∙ a.same_gates;
  fewer = λ t. (let less = a.fewer t in let is = ap (λ (s : CoreState). left_of gates s.account shard) (b.same refl) in omega (arith, less, is));
  same = λ f. b.same refl ∙ a.same f;
  stuck = λ f. subst (λ (s : CoreState). ¬ CanApply s.account shard gate) (a.same f) (b.stuck refl);
}

-- A round

-- before the first channel of a round nothing has changed
pub round-none : (gates shard : ℕ) (old : CoreView) → AppliesBelow gates shard 0 old old false
round-none gates shard old = record { applying = applying-none gates shard old; stuck = λ f gate below. absurd (omega (arith, below)) }

-- with the next channel tried one more is known to have been stuck, if nothing has changed
pub round-next : (gates shard n m : ℕ) (old middle new : CoreView) (before moved : Bool) → m ≡ n + 1 → AppliesBelow gates shard n old middle before → Drives 0 middle new → AppliesChannel gates shard n middle.state new.state moved → AppliesBelow gates shard m old new (before || moved)
round-next gates shard n m old middle new before moved next a drives b = record {
  applying = applying-next gates shard n old middle new before moved a.applying drives b;
  stuck = stuck before moved a b;
}
  where
    stuck : (x y : Bool) → AppliesBelow gates shard n old middle x → AppliesChannel gates shard n middle.state new.state y → x || y ≡ false → (gate : ℕ) → gate < m → ¬ CanApply old.state.account shard gate
    stuck true y p q f gate below = cc
    stuck false true p q f gate below = cc
    stuck false false p q f gate below = elim (cases_eq gate n) [
      | inl same ↦ subst (λ k. ¬ CanApply old.state.account shard k) (sym same) (subst (λ (s : CoreState). ¬ CanApply s.account shard n) (p.applying.same refl) (q.stuck refl))
      | inr other ↦ p.stuck refl gate (omega (arith, below, other, next))
    ]

-- when the channels of all gatekeepers were tried, it is a round
pub round-end : (gates shard n : ℕ) (old new : CoreView) (moved : Bool) → gates ≤ n → AppliesBelow gates shard n old new moved → AppliesRound gates shard gates old.state new.state moved
round-end gates shard n old new moved all a = record {
  same_gates = a.applying.same_gates;
  fewer = a.applying.fewer;
  same = a.applying.same;
  stuck = λ f gate below. a.stuck f gate (omega (arith, below, all));
}

-- All

-- before the first round the core is as it was
pub catching-none : (shard : ℕ) (old : CoreView) → IsCatchingUp shard old old
catching-none shard old = record { drives = drives-none 0 old; same_gates = refl }

-- after one more round the core was driven still, and the gatekeepers' logs are as before
pub catching-next : (gates shard n : ℕ) (old middle new : CoreView) (moved : Bool) → IsCatchingUp shard old middle → Drives 0 middle new → AppliesRound gates shard n middle.state new.state moved → IsCatchingUp shard old new
catching-next gates shard n old middle new moved a drives b = record { drives = drives-through 0 old middle new a.drives drives; same_gates = b.same_gates ∙ a.same_gates }

-- what arrived stays, while nothing more is sent
pub still-all-arrived : (old new : Account) → GoesOn old new → new.gates ≡ old.gates → (shard : ℕ) → AllArrived old shard → AllArrived new shard
still-all-arrived old new on same shard arrived home addressed h =
    still-message old new on shard home addressed.number addressed.message (arrived home addressed (subst (λ (gs : List (List GateEntry)). Contains (addressed_to shard (slice_index_or gs home [])) addressed) same h))

-- if no transaction was in flight and all had arrived, all is processed once a round has changed nothing
pub catching-end : (laws : LawsForDriving) (shard : ℕ) (old middle new : CoreView) → IsWithinLimits old.script → IsCore old.script old.state → NoneInFlight old.state.account → AllArrived old.state.account shard
    → IsCatchingUp shard old middle → AppliesRound old.script.gates shard old.script.gates middle.state new.state false → AppliesAll shard old.state.account new.state.account
catching-end laws shard old middle new limits core quiet arrived a b = record {
  same_gates = b.same_gates ∙ a.same_gates;
  processed = subst (λ (s : CoreState). AllProcessed s.account shard) (sym (b.same refl))
      (laws.all_processed old.script middle.state.account limits middle-core.account (drives-quiet old middle a.drives quiet) shard
      (still-all-arrived old.state.account middle.state.account (drives-on 0 laws old middle limits core a.drives) a.same_gates shard arrived)
      (λ home can. b.stuck refl home (head-below home can) can));
}
  where
    middle-core : IsCore old.script middle.state
    middle-core = drives-core 0 old middle core a.drives

    head-below : (home : ℕ) → CanApply middle.state.account shard home → home < old.script.gates
    head-below home can = laws.gatekeepers old.script middle.state.account limits middle-core.account shard home _ (laws.arrived old.script middle.state.account limits middle-core.account shard home _ can.0 can.1)
