-- A gatekeeper that heard what a program's home says, and then sends an empty message, has sent one after the program's
-- stamp. Once all is delivered and applied the shard is ready.
-- Used by `make_ready`, `nudge`, `nudge_all` and Reading.
use Rattle.std.proofs.Common.{◌≡◌, ℕ, ◌+◌, ◌-◌, ◌<◌, is_some, cond, ◌==◌, List, [], ◌∷◌, ◌++◌, length, Contains, IsTrue, Some, None, inl, inr, refl, sym, ap, subst, ◌∙◌, arith}
use Rattle.std.specs.Prelude.{slice_get, slice_index_or}
use Rattle.std.proofs.lemmas.Bool.{cases_eq, eq-eqb, ne_eqb}
use Rattle.std.proofs.lemmas.List.{length-append, length-set}
use Rattle.std.proofs.lemmas.List.Concat.{flat_map-append}
use Rattle.std.proofs.lemmas.List.Elements.{Contains-append_left, Contains-append_right}
use Rattle.std.proofs.lemmas.List.Sums.{fold-append}
use Rattle.weave_data.proofs.Members.{has_filter, has_head}
use Rattle.shard_queue.specs.Outbox.{sent_as}
use Rattle.vector_stamp.specs.declared.clock.Clock.{Clock}
use Rattle.vector_stamp.specs.declared.clock.Stamp.{Stamp}
use Rattle.vector_stamp.specs.Order.{stamp_before}
use Rattle.vector_stamp.specs.Clocks.{clock_after_hearing}
use Rattle.program_defs.specs.declared.script.Script.{Script}
use Rattle.program_defs.specs.declared.script.Step.TheVariants.{Say, Hear, Nop}
use Rattle.program_defs.specs.Limits.{IsWithinLimits}
use Rattle.report_rules.specs.declared.report.StepAnswer.{StepAnswer}
use Rattle.report_rules.specs.declared.report.StepAnswer.TheVariants.{Ok, Unknown, Busy}
use Rattle.weave_entries.specs.declared.gate_log.GateEntry.{GateEntry}
use Rattle.weave_entries.specs.declared.gate_log.GateDeed.TheVariants as gate
use Rattle.weave_entries.specs.declared.message.Addressed.{Addressed}
use Rattle.weave_entries.specs.GateReplay.{addressed_to, clock_after, clock_of, flight_of, low_mark, messages_by, next_number, next_stamp, nop_message, running_of, stamps_by, stamps_of, to_shard}
use Rattle.weave_account.specs.declared.account.Account.{Account}
use Rattle.weave_account.specs.Account.{gate_log, NoneInFlight}
use Rattle.weave_account.specs.GoesOn.{GoesOn}
use Rattle.weave_account.specs.IsAccount.{IsAccount}
use Rattle.step_rules.specs.CoreState.{CoreState, with_gate_deed}
use Rattle.step_rules.specs.Entries.{after_hear, with_nop}
use Rattle.step_rules.specs.IsCore.{IsCore}
use Rattle.step_rules.specs.Trace.{is_ok, state_after}
use Rattle.weaver_core.specs.Cores.{CoreView, DoesStep}
use Rattle.drive_rules.specs.Readiness.{IsPassed}
use Rattle.weave_drive.specs.Driving.{Drives}
use Rattle.weave_drive.specs.LowerLaws.{LawsForDriving}
use Rattle.weave_drive.specs.Loops.{NudgesBelow}
use Rattle.weave_drive.specs.Progress.{AppliesAll, AreCores, DeliversTo, IsSentAfter, MakesReady, Nudges}
use Rattle.weave_drive.proofs.After.{account-after, set-there}
use Rattle.weave_drive.proofs.Deeds.{after-step}
use Rattle.weave_drive.proofs.Driven.{drives-none, drives-through}
use Rattle.weave_drive.proofs.Quiet.{stays-quiet}

-- What stays at a gatekeeper

-- a stamp that a gatekeeper has made is one of its stamps still when the account goes on
pub still-stamped : (old new : Account) → GoesOn old new → (home : ℕ) (p : Stamp) → Contains (stamps_of (gate_log old home)) p → Contains (stamps_of (gate_log new home)) p
still-stamped old new on home p h =
    let more = on.gates home in
    subst (λ stamps. Contains stamps p) (sym (ap stamps_of more.1 ∙ flat_map-append (λ (entry : GateEntry). stamps_by entry.deed) (gate_log old home) more.0)) (Contains-append_left (stamps_of (gate_log old home)) (stamps_of more.0) p h)

still-sent : (old new : Account) → GoesOn old new → (shard : ℕ) (p : Stamp) (home : ℕ) → IsSentAfter old shard p home → IsSentAfter new shard p home
still-sent old new on shard p home s =
    let more = on.gates home in
    record {
      addressed = s.addressed;
      sent = subst (λ sent. Contains sent s.addressed) (sym (ap (addressed_to shard) more.1 ∙ flat_map-append (λ (entry : GateEntry). to_shard shard (messages_by entry.deed)) (gate_log old home) more.0)) (Contains-append_left (addressed_to shard (gate_log old home)) (addressed_to shard more.0) s.addressed s.sent);
      later = s.later;
    }

-- Say, hear, nop

last-sent : {A : Type 0} (xs : List A) (x : A) (n : ℕ) → n ≡ length (xs ++ x ∷ []) → sent_as n (xs ++ x ∷ []) ≡ Some x
last-sent {A = A} xs x n is =
    let long : length (xs ++ x ∷ []) ≡ length xs + 1 = length-append xs (x ∷ []) in
    ap (λ b. cond b None (slice_get (xs ++ x ∷ []) (n - 1))) (ne_eqb n 0 (λ e. omega (arith, e, is, long)))
    ∙ ap (slice_get (xs ++ x ∷ [])) {x = n - 1} {y = length xs} (omega (arith, is, long)) ∙ at-end xs x
  where
    at-end : (xs : List A) (x : A) → slice_get (xs ++ x ∷ []) (length xs) ≡ Some x
    at-end [] x = refl
    at-end (y ∷ xs) x = at-end xs x

module _ (laws : LawsForDriving) (script : Script) (limits : IsWithinLimits script) (old : CoreState) (core : IsCore script old) (quiet : NoneInFlight old.account)
    (home g shard notice : ℕ) (home-inside : home < script.gates) (g-inside : g < script.gates)
    (notice-is : notice ≡ length (old.notices ++ clock_of home (gate_log old.account home) ∷ [])) where
  said : Clock
  said = clock_of home (gate_log old.account home)

  abbrev first : CoreState
  first = state_after script old (Say home)

  abbrev second : CoreState
  second = state_after script first (Hear g notice)

  abbrev third : CoreState
  third = state_after script second (Nop g shard)

  gates-many : g < length old.account.gates
  gates-many = let many = core.account.gatekeepers.as_many in omega (arith, many, g-inside)

  found : sent_as notice (old.notices ++ clock_of home (gate_log old.account home) ∷ []) ≡ Some (clock_of home (gate_log old.account home))
  found = last-sent old.notices (clock_of home (gate_log old.account home)) notice notice-is

  second-is : second.account ≡ with_gate_deed old.account g 0 (gate.Heard (clock_of home (gate_log old.account home)))
  second-is = account-after script first (Hear g notice) ∙ ap (λ o. cond {A = Account} (is_ok (cond (is_some o) Ok Unknown)) (after_hear old.account g o) old.account) found

  log-second : gate_log second.account g ≡ gate_log old.account g ++ record { author = 0; deed = gate.Heard (clock_of home (gate_log old.account home)) } ∷ []
  log-second = ap (λ (a : Account). gate_log a g) second-is ∙ set-there old.account.gates g _ gates-many

  clock-second : clock_of g (gate_log second.account g) ≡ clock_after_hearing g (clock_of g (gate_log old.account g)) (clock_of home (gate_log old.account home))
  clock-second = ap (clock_of g) log-second ∙ fold-append (λ clock (entry : GateEntry). clock_after g clock entry.deed) _ (gate_log old.account g) _

  quiet-second : flight_of (gate_log second.account g) ≡ None
  quiet-second = stays-quiet old.account second.account (after-step 0 script first (Hear g notice) refl) g (quiet g)

  third-is : third.account ≡ with_nop second.account g shard (next_stamp g (clock_of g (gate_log second.account g)))
  third-is = account-after script second (Nop g shard) ∙ ap (λ o. cond {A = Account} (is_ok (cond (is_some o) Busy Ok)) (with_nop second.account g shard (next_stamp g (clock_of g (gate_log second.account g)))) second.account) quiet-second

  entry : GateEntry
  entry = record { author = 0; deed = gate.Nop shard (next_number shard (gate_log second.account g)) (next_stamp g (clock_of g (gate_log second.account g))) (low_mark (next_stamp g (clock_of g (gate_log second.account g))) (running_of (gate_log second.account g))) }

  one : Addressed
  one = record { shard = shard; number = next_number shard (gate_log second.account g); message = nop_message (next_stamp g (clock_of g (gate_log second.account g))) (low_mark (next_stamp g (clock_of g (gate_log second.account g))) (running_of (gate_log second.account g))) }

  log-third : gate_log third.account g ≡ gate_log second.account g ++ entry ∷ []
  unfolding entry
  log-third = ap (λ (a : Account). gate_log a g) third-is ∙ set-there second.account.gates g _ (let many = ap (λ (a : Account). length a.gates) second-is in let long = length-set old.account.gates g (gate_log old.account g ++ record { author = 0; deed = gate.Heard (clock_of home (gate_log old.account home)) } ∷ []) in omega (arith, many, long, gates-many))

  sent-third : Contains (addressed_to shard (gate_log third.account g)) one
  unfolding one entry
  sent-third = subst (λ sent. Contains sent one) (sym (ap (addressed_to shard) log-third ∙ flat_map-append (λ (e : GateEntry). to_shard shard (messages_by e.deed)) (gate_log second.account g) (entry ∷ [])))
      (Contains-append_right (addressed_to shard (gate_log second.account g)) (addressed_to shard (entry ∷ [])) one
      (Contains-append_left (to_shard shard (one ∷ [])) [] one (has_filter (λ (a : Addressed). a.shard == shard) (one ∷ []) one (has_head one []) (eq-eqb shard shard refl))))

  -- in a quiet core, after `say` of a home, and `hear` and `nop` of g, g has sent after each stamp of that home
  pub nudged : Nudges home g shard old.account third.account
  unfolding one
  nudged p begun = record {
    addressed = one;
    sent = sent-third;
    later = subst (λ (c : Clock). IsTrue (stamp_before p (next_stamp g c))) (sym clock-second) (laws.after_its_home script old.account limits core.account g home g-inside home-inside p begun);
  }

-- if a quiet core does `say` of a home, then `hear` and `nop` of g, g has sent after each stamp of that home
pub nudge-done : (laws : LawsForDriving) (old first second third : CoreView) (home g shard notice : ℕ) (a b c : StepAnswer) → AreCores old first → NoneInFlight old.state.account → home < old.script.gates → g < old.script.gates
    → notice ≡ length first.state.notices → DoesStep (Say home) old first a → DoesStep (Hear g notice) first second b → DoesStep (Nop g shard) second third c → Nudges home g shard old.state.account third.state.account
nudge-done laws old first second third home g shard notice a b c cores quiet home-inside g-inside notice-is said heard sent =
    let first-is : first.state ≡ state_after old.script old.state (Say home) = said.state_is in
    let second-is : second.state ≡ state_after old.script (state_after old.script old.state (Say home)) (Hear g notice) = heard.state_is ∙ ap (λ s. state_after s first.state (Hear g notice)) said.script_is ∙ ap (λ s. state_after old.script s (Hear g notice)) first-is in
    let third-is : third.state ≡ state_after old.script (state_after old.script (state_after old.script old.state (Say home)) (Hear g notice)) (Nop g shard) = sent.state_is ∙ ap (λ s. state_after s second.state (Nop g shard)) (heard.script_is ∙ said.script_is) ∙ ap (λ s. state_after old.script s (Nop g shard)) second-is in
    subst (λ (s : CoreState). Nudges home g shard old.state.account s.account) (sym third-is)
    (nudged laws old.script cores.limits old.state cores.before quiet home g shard notice home-inside g-inside (notice-is ∙ ap (λ (s : CoreState). length s.notices) first-is))

-- All gatekeepers

-- to begin with, the first 0 gatekeepers have sent later messages
pub nudges-none : (home shard : ℕ) (old : CoreView) → NudgesBelow 0 home shard old old
nudges-none home shard old = record { drives = drives-none 0 old; nudges = λ gate below. absurd (omega (arith, below)) }

-- after gatekeeper n has sent later messages, one gatekeeper more has
pub nudges-next : (home shard n m : ℕ) (old middle new : CoreView) → m ≡ n + 1 → GoesOn old.state.account middle.state.account → GoesOn middle.state.account new.state.account → NudgesBelow n home shard old middle → Drives 0 middle new → Nudges home n shard middle.state.account new.state.account → NudgesBelow m home shard old new
nudges-next home shard n m old middle new next on further before drives here = record {
  drives = drives-through 0 old middle new before.drives drives;
  nudges = λ gate below p begun. elim (cases_eq gate n) [
    | inl same ↦ subst (IsSentAfter new.state.account shard p) (sym same) (here p (still-stamped old.state.account middle.state.account on home p begun))
    | inr other ↦ still-sent middle.state.account new.state.account further shard p gate (before.nudges gate (omega (arith, below, other, next)) p begun)
  ];
}

-- The shard

-- if all gatekeepers sent later messages, and all is delivered and applied, the shard is ready for the home's stamps
pub ready-made : (laws : LawsForDriving) (script : Script) (old nudged brought new : Account) (home shard : ℕ) → IsWithinLimits script → (core : CoreState) → core.account ≡ new → IsCore script core
    → ((gate : ℕ) → gate < script.gates → Nudges home gate shard old nudged) → DeliversTo shard nudged brought → AppliesAll shard brought new → MakesReady script home shard old new
ready-made laws script old nudged brought new home shard limits state state-is core nudges d a p begun =
    let gates-are : new.gates ≡ nudged.gates = a.same_gates ∙ d.same_gates in
    let passed : (g : ℕ) → g < script.gates → IsPassed new shard p g = λ g below. (
    let s = nudges g below p begun in
    let there : Contains (addressed_to shard (gate_log new g)) s.addressed = subst (λ (gs : List (List GateEntry)). Contains (addressed_to shard (slice_index_or gs g [])) s.addressed) (sym gates-are) s.sent in
    record { addressed = s.addressed; sent = there; later = s.later; done = a.processed g s.addressed there }
    ) in
    laws.reached script new limits (subst (IsAccount script) state-is core.account) shard p passed
