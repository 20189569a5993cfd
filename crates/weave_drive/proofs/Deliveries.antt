-- Steps `deliver` lead to a state in which all that was sent to a shard has arrived.
-- Used by `deliver`, `deliver_all` and `deliver_to`.
use Rattle.std.proofs.Common.{◌≡◌, ℕ, zero, suc, ◌+◌, ◌-◌, ◌<◌, ◌≤◌, Bool, true, false, cond, is_some, ◌==◌, ◌&&◌, List, [], ◌∷◌, length, Contains, IsTrue, Option, Some, None, inl, inr, refl, sym, ap, subst, ◌∙◌, arith}
use Rattle.std.specs.Prelude.{slice_get, slice_index_or}
use Rattle.std.specs.List.{find}
use Rattle.std.specs.Option.{option_map, option_or}
use Rattle.std.proofs.lemmas.Bool.{and_from, cases_eq, eq-eqb, ne_eqb}
use Rattle.std.proofs.lemmas.List.Concat.{flat_map-append}
use Rattle.std.proofs.lemmas.List.Folds.{find-append}
use Rattle.shard_queue.specs.Outbox.{sent_as}
use Rattle.program_defs.specs.declared.script.Step.TheVariants.{Deliver}
use Rattle.program_defs.specs.Limits.{IsWithinLimits}
use Rattle.report_rules.specs.declared.report.StepAnswer.{StepAnswer}
use Rattle.weave_entries.specs.declared.gate_log.GateEntry.{GateEntry}
use Rattle.weave_entries.specs.declared.message.Addressed.{Addressed}
use Rattle.weave_entries.specs.declared.message.Message.{Message}
use Rattle.weave_entries.specs.declared.shard_log.ShardEntry.{ShardEntry}
use Rattle.weave_entries.specs.GateReplay.{addressed_to, channel_of}
use Rattle.weave_entries.specs.ShardReplay.{Arrival, arrival_by, arrivals_of, arrived_at}
use Rattle.weave_account.specs.declared.account.Account.{Account}
use Rattle.weave_account.specs.Account.{gate_log, shard_log}
use Rattle.weave_account.specs.GoesOn.{GoesOn}
use Rattle.step_rules.specs.CoreState.{CoreState}
use Rattle.step_rules.specs.Answers.{answer_of_deliver}
use Rattle.step_rules.specs.Entries.{after_deliver}
use Rattle.step_rules.specs.IsCore.{IsCore}
use Rattle.step_rules.specs.Trace.{is_ok}
use Rattle.weaver_core.specs.Cores.{CoreView, DoesStep}
use Rattle.weave_drive.specs.Driving.{Drives}
use Rattle.weave_drive.specs.LowerLaws.{LawsForDriving}
use Rattle.weave_drive.specs.Loops.{DeliversBelow, IsDelivering}
use Rattle.weave_drive.specs.Progress.{AreCores, DeliversMessage, DeliversAll, DeliversTo, HaveArrived, is_known}
use Rattle.weave_drive.proofs.After.{account-after, set-there, still-arrived}
use Rattle.weave_drive.proofs.Driven.{drives-none, drives-through}

-- What a channel has under a number

get-some : {A : Type 0} (xs : List A) (i : ℕ) → is_some (slice_get xs i) ≡ true → i < length xs
get-some [] i e = cc
get-some (x ∷ xs) zero e = omega arith
get-some (x ∷ xs) (suc i) e = let less = get-some xs i e in omega (arith, less)

get-none : {A : Type 0} (xs : List A) (i : ℕ) → is_some (slice_get xs i) ≡ false → length xs ≤ i
get-none [] i e = omega arith
get-none (x ∷ xs) zero e = cc
get-none (x ∷ xs) (suc i) e = let over = get-none xs i e in omega (arith, over)

sent-is : {A : Type 0} (n : ℕ) (xs : List A) → 1 ≤ n → sent_as n xs ≡ slice_get xs (n - 1)
sent-is n xs low = ap (λ b. cond b None (slice_get xs (n - 1))) (ne_eqb n 0 (λ e. omega (arith, e, low)))

sent-within : {A : Type 0} (n : ℕ) (xs : List A) → 1 ≤ n → is_some (sent_as n xs) ≡ true → n ≤ length xs
sent-within n xs low some = let less = get-some xs (n - 1) (ap is_some (sym (sent-is n xs low)) ∙ some) in omega (arith, less, low)

sent-past : {A : Type 0} (n : ℕ) (xs : List A) → 1 ≤ n → is_some (sent_as n xs) ≡ false → length xs ≤ n - 1
sent-past n xs low none = get-none xs (n - 1) (ap is_some (sym (sent-is n xs low)) ∙ none)

-- One step

module _ (account : Account) (gate shard number : ℕ) (within : shard < length account.shards) where
  abbrev delivered : Option Message → Option Message → Account
  delivered sent here = cond (is_ok (answer_of_deliver sent here)) (after_deliver account gate shard number sent) account

  record IsDelivered (sent here : Option Message) : Type 0 where
    pub same_gates : (delivered sent here).gates ≡ account.gates
    pub known : is_known (answer_of_deliver sent here) ≡ is_some sent
    pub arrived : is_some sent ≡ true → is_some (arrived_at gate number (shard_log (delivered sent here) shard)) ≡ true

  none-or : (o : Option Arrival) (one : Arrival) (b : Bool) → option_map (λ (a : Arrival). a.message) o ≡ None → b ≡ true → is_some (option_map (λ (a : Arrival). a.message) (option_or o (cond b (Some one) None))) ≡ true
  none-or None one b none same = ap (λ b. is_some (option_map (λ (a : Arrival). a.message) (cond b (Some one) None))) same
  none-or (Some x) one b none same = cc

  deliver-by : (sent here : Option Message) → arrived_at gate number (shard_log account shard) ≡ here → IsDelivered sent here
  deliver-by None here e = record { same_gates = refl; known = refl; arrived = λ some. cc }
  deliver-by (Some m) (Some k) e = record { same_gates = refl; known = refl; arrived = λ some. ap is_some e }
  deliver-by (Some m) None e =
      let one : Arrival = record { gate = gate; number = number; message = m } in
      record {
        same_gates = refl;
        known = refl;
        arrived = λ some.
            ap (λ log. is_some (arrived_at gate number log)) (set-there account.shards shard _ within)
            ∙ ap (λ all. is_some (option_map (λ (a : Arrival). a.message) (find (λ (a : Arrival). (a.gate == gate) && (a.number == number)) all))) (flat_map-append (λ (e : ShardEntry). arrival_by e.deed) (shard_log account shard) _)
            ∙ ap (λ o. is_some (option_map (λ (a : Arrival). a.message) o)) (find-append (λ (a : Arrival). (a.gate == gate) && (a.number == number)) (arrivals_of (shard_log account shard)) (one ∷ []))
            ∙ none-or (find (λ (a : Arrival). (a.gate == gate) && (a.number == number)) (arrivals_of (shard_log account shard))) one ((gate == gate) && (number == number)) e (and_from _ _ (eq-eqb gate gate refl) (eq-eqb number number refl));
      }

-- after `deliver` the message of that number is at the shard, if it was sent, and the answer says whether it was
pub deliver-done : (old new : CoreView) (gate shard number : ℕ) (answer : StepAnswer) → AreCores old new → shard < old.script.shards → DoesStep (Deliver gate shard number) old new answer → DeliversMessage gate shard number old.state.account new.state.account (is_known answer)
deliver-done old new gate shard number answer cores inside did =
    let account = old.state.account in
    let sent = sent_as number (channel_of shard (gate_log account gate)) in
    let here = arrived_at gate number (shard_log account shard) in
    let many = cores.before.account.shards.as_many in
    let d = deliver-by account gate shard number (omega (arith, many, inside)) sent here refl in
    let is = ap (λ (s : CoreState). s.account) did.state_is ∙ account-after old.script old.state (Deliver gate shard number) in
    let known = ap is_known did.answer_is ∙ d.known in
    record {
      same_gates = ap (λ (a : Account). a.gates) is ∙ d.same_gates;
      sent_is = known;
      arrived = λ some. ap (λ (a : Account). is_some (arrived_at gate number (shard_log a shard))) is ∙ d.arrived (sym known ∙ some);
    }

-- A channel

-- the deliveries of a channel may start at any number from 1 on, if all messages before it have arrived
pub delivering-none : (old : CoreView) (gate shard number : ℕ) → 1 ≤ number → HaveArrived old.state.account shard gate number → IsDelivering gate shard number old old
delivering-none old gate shard number some arrived = record { drives = drives-none 0 old; same_gates = refl; some = some; arrived = arrived }

-- if the message of a number was sent and is delivered, those before the next number have arrived
pub delivering-next : (old middle new : CoreView) (gate shard number next : ℕ) → next ≡ number + 1 → GoesOn middle.state.account new.state.account → IsDelivering gate shard number old middle → Drives 0 middle new
    → DeliversMessage gate shard number middle.state.account new.state.account true → IsDelivering gate shard next old new
delivering-next old middle new gate shard number next after on before drives d = record {
  drives = drives-through 0 old middle new before.drives drives;
  same_gates = d.same_gates ∙ before.same_gates;
  some = omega (arith, after);
  arrived = λ n low high. elim (cases_eq n number) [
    | inl same ↦ subst (λ k. IsTrue (is_some (arrived_at gate k (shard_log new.state.account shard)))) (sym same) (d.arrived refl)
    | inr other ↦ still-arrived middle.state.account new.state.account on shard gate n (before.arrived n low (omega (arith, after, high, other)))
  ];
}

-- there are fewer messages from the next number on
pub delivering-less : (old new : Account) (gate shard number next : ℕ) → next ≡ number + 1 → 1 ≤ number → DeliversMessage gate shard number old new true
    → length (channel_of shard (gate_log new gate)) + 1 - next < length (channel_of shard (gate_log old gate)) + 1 - number
delivering-less old new gate shard number next after some d =
    let long = ap (λ (gs : List (List GateEntry)). length (channel_of shard (slice_index_or gs gate []))) d.same_gates in
    let within = sent-within number (channel_of shard (gate_log old gate)) some (sym d.sent_is) in
    omega (arith, after, long, within)

-- if no message of the next number was sent, all messages of the channel have arrived
pub delivering-all : (old middle new : CoreView) (gate shard number : ℕ) → GoesOn middle.state.account new.state.account → IsDelivering gate shard number old middle
    → DeliversMessage gate shard number middle.state.account new.state.account false → DeliversAll gate shard old.state.account new.state.account
delivering-all old middle new gate shard number on before d = record {
  same_gates = d.same_gates ∙ before.same_gates;
  arrived = λ n low high. (
      let some = before.some in
      let past = sent-past number (channel_of shard (gate_log middle.state.account gate)) some (sym d.sent_is) in
      let long = ap (λ (gs : List (List GateEntry)). length (channel_of shard (slice_index_or gs gate []))) d.same_gates in
      still-arrived middle.state.account new.state.account on shard gate n (before.arrived n low (omega (arith, some, past, long, high)))
      );
}

-- All channels

-- to begin with, the messages of the first 0 gatekeepers have arrived
pub below-none : (shard : ℕ) (old : CoreView) → DeliversBelow 0 shard old old
below-none shard old = record { drives = drives-none 0 old; same_gates = refl; arrived = λ gate below. absurd (omega (arith, below)) }

-- once those of gatekeeper n are delivered, too, the messages of one gatekeeper more have arrived
pub below-next : (old middle new : CoreView) (n m shard : ℕ) → m ≡ n + 1 → GoesOn middle.state.account new.state.account → DeliversBelow n shard old middle → Drives 0 middle new → DeliversAll n shard middle.state.account new.state.account → DeliversBelow m shard old new
below-next old middle new n m shard after on before drives d = record {
  drives = drives-through 0 old middle new before.drives drives;
  same_gates = d.same_gates ∙ before.same_gates;
  arrived = λ gate below. elim (cases_eq gate n) [
    | inl same ↦ subst (λ k. HaveArrived new.state.account shard k (length (channel_of shard (gate_log new.state.account k)) + 1)) (sym same) d.arrived
    | inr other ↦ λ k low high. (
        let long = ap (λ (gs : List (List GateEntry)). length (channel_of shard (slice_index_or gs gate []))) d.same_gates in
        still-arrived middle.state.account new.state.account on shard gate k (before.arrived gate (omega (arith, below, other, after)) k low (omega (arith, high, long)))
        )
  ];
}

-- when those of all gatekeepers have arrived, all that was sent to the shard is there as it was sent
pub below-all : (laws : LawsForDriving) (old new : CoreView) (n shard : ℕ) → IsWithinLimits old.script → IsCore old.script new.state → old.script.gates ≤ n → DeliversBelow n shard old new → DeliversTo shard old.state.account new.state.account
below-all laws old new n shard limits core all d = record {
  same_gates = d.same_gates;
  arrived = λ home addressed h. (
      let below = laws.gatekeepers old.script account limits core.account shard home addressed h in
      let numbers = laws.numbers old.script account limits core.account shard home addressed h in
      let within = numbers.1 in
      at home addressed h (arrived_at home addressed.number (shard_log account shard)) refl (d.arrived home (omega (arith, below, all)) addressed.number numbers.0 (omega (arith, within)))
      );
}
  where
    account : Account
    account = new.state.account

    at : (home : ℕ) (addressed : Addressed) → Contains (addressed_to shard (gate_log new.state.account home)) addressed → (o : Option Message) → arrived_at home addressed.number (shard_log new.state.account shard) ≡ o → is_some o ≡ true → arrived_at home addressed.number (shard_log new.state.account shard) ≡ Some addressed.message
    at home addressed h None e some = cc
    at home addressed h (Some m) e some =
        let sent = laws.arrived old.script new.state.account limits core.account shard home addressed.number m e in
        e ∙ sym (laws.numbered old.script new.state.account limits core.account shard home (record { shard = shard; number = addressed.number; message = m }) sent) ∙ laws.numbered old.script new.state.account limits core.account shard home addressed h
