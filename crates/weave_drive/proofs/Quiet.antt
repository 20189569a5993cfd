-- `judge` and `send` end the flight, and no driving step but the begin of a transaction makes one.
-- Used by `answer`, `end_flight`, `end_flights`, `look`, `make_ready`, `nudge_all`, `visit`, Applications, Nudging and
-- Replied.
use Rattle.std.proofs.Common.{◌≡◌, ℕ, zero, suc, ◌+◌, ◌<◌, ◌≤◌, Bool, true, false, cond, nat_eq, is_some, ◌==◌, List, [], ◌∷◌, fold, length, Contains, IsTrue, Option, Some, None, inl, inr, refl, sym, ap, subst, ◌∙◌, arith}
use Rattle.std.specs.Prelude.{slice_index_or}
use Rattle.std.specs.List.{find}
use Rattle.std.specs.Option.{option_or}
use Rattle.std.proofs.lemmas.Bool.{cases_eq, cases_lt, eq-eqb, ltb-true}
use Rattle.std.proofs.lemmas.List.{map-append}
use Rattle.std.proofs.lemmas.List.Folds.{find-append}
use Rattle.std.proofs.lemmas.List.Sums.{fold-append}
use Rattle.weave_data.proofs.Members.{has_head, has_tail}
use Rattle.graph_ops.specs.declared.op.Op.{Op}
use Rattle.program_defs.specs.declared.script.Script.{Script}
use Rattle.program_defs.specs.declared.script.Step.TheVariants.{Judge, Send}
use Rattle.report_rules.specs.Lookups.{request_at}
use Rattle.report_rules.specs.declared.report.StepAnswer.{StepAnswer}
use Rattle.report_rules.specs.declared.report.StepAnswer.TheVariants.{Ok, Idle}
use Rattle.weave_entries.specs.declared.gate_log.GateEntry.{GateEntry}
use Rattle.weave_entries.specs.declared.gate_log.GateDeed.{GateDeed}
use Rattle.weave_entries.specs.declared.gate_log.GateDeed.TheVariants as gate
use Rattle.weave_entries.specs.declared.store_log.StoreEntry.{StoreEntry}
use Rattle.weave_entries.specs.GateReplay.{BegunRequest, flight_after, flight_of}
use Rattle.weave_entries.specs.StoreReplay.{Judgement, judged_by, judgement_of, judgements_of}
use Rattle.weave_account.specs.declared.account.Account.{Account}
use Rattle.weave_account.specs.Account.{gate_log, NoneInFlight}
use Rattle.step_rules.specs.CoreState.{CoreState}
use Rattle.step_rules.specs.Answers.{answer_of_judge, answer_of_send}
use Rattle.step_rules.specs.Entries.{after_judge, after_send, judgement_in_flight, with_judgement}
use Rattle.step_rules.specs.IsCore.{IsCore}
use Rattle.step_rules.specs.Requests.{is_judged, ops_in}
use Rattle.step_rules.specs.Trace.{is_ok, state_after}
use Rattle.weaver_core.specs.Cores.{CoreView, DoesStep}
use Rattle.weave_drive.specs.Driving.{Drives, DrivesGates, is_driving_deed}
use Rattle.weave_drive.specs.Loops.{EndsBelow}
use Rattle.weave_drive.specs.Progress.{AreCores}
use Rattle.weave_drive.proofs.After.{account-after, set-there}
use Rattle.weave_drive.proofs.Deeds.{driven-gates}
use Rattle.weave_drive.proofs.Driven.{drives-none, drives-through}

module _ (script : Script) (g : ℕ) where
  -- after `judge` the flight has its verdict, and the gatekeepers' logs are as before
  record IsJudgedFlight (old new : Account) : Type 0 where
    pub same : new.gates ≡ old.gates
    pub judged : (flight : BegunRequest) → flight_of (gate_log old g) ≡ Some flight → is_judged new flight.request ≡ true

  some-last : (o : Option Judgement) (last : Judgement) (b : Bool) → b ≡ true → is_some (option_or o (cond b (Some last) None)) ≡ true
  some-last None last b same = ap (λ b. is_some (cond b (Some last) None)) same
  some-last (Some j) last b same = refl

  judged-now : (account : Account) (flight : BegunRequest) (ops : List Op) → is_judged (with_judgement account flight ops) flight.request ≡ true
  judged-now account flight ops =
      ap is_some (ap (find (λ (j : Judgement). j.request == flight.request)) (map-append (λ (entry : StoreEntry). judged_by entry.author entry.deed) account.store _) ∙ find-append (λ (j : Judgement). j.request == flight.request) (judgements_of account.store) _)
      ∙ some-last (judgement_of flight.request account.store) _ (nat_eq flight.request flight.request) (eq-eqb flight.request flight.request refl)

  abbrev judged-account : Account → Option BegunRequest → Account
  judged-account account o = cond (is_ok (answer_of_judge account o)) (after_judge script account o) account

  judges-by : (account : Account) (o : Option BegunRequest) → flight_of (gate_log account g) ≡ o → IsJudgedFlight account (judged-account account o)
  judges-by account None e = record { same = refl; judged = λ flight is. (let clash : None ≡ Some flight = sym e ∙ is in cc) }
  judges-by account (Some f) e = at (is_judged account f.request) refl
    where
      one : (flight : BegunRequest) → flight_of (gate_log account g) ≡ Some flight → f ≡ flight
      one flight is = let same : Some f ≡ Some flight = sym e ∙ is in cc

      at : (b : Bool) → is_judged account f.request ≡ b → IsJudgedFlight account (cond (is_ok (cond b Idle Ok)) (with_judgement account f (ops_in (request_at script f.request))) account)
      at true done = record { same = refl; judged = λ flight is. subst (λ (k : BegunRequest). is_judged account k.request ≡ true) (one flight is) done }
      at false without = record { same = refl; judged = λ flight is. subst (λ (k : BegunRequest). is_judged (with_judgement account f (ops_in (request_at script f.request))) k.request ≡ true) (one flight is) (judged-now account f (ops_in (request_at script f.request))) }

  judges : (state : CoreState) → IsJudgedFlight state.account (state_after script state (Judge g)).account
  judges state = subst (IsJudgedFlight state.account) (sym (account-after script state (Judge g))) (judges-by state.account (flight_of (gate_log state.account g)) refl)

  abbrev sent-account : Account → Option BegunRequest → Account
  sent-account account o = cond (is_ok (answer_of_send account o)) (after_send script account g o (judgement_in_flight account o)) account

  -- after `send` none is in flight, if it had its verdict
  sends-by : (account : Account) → g < length account.gates → ((flight : BegunRequest) → flight_of (gate_log account g) ≡ Some flight → is_judged account flight.request ≡ true)
      → (o : Option BegunRequest) → flight_of (gate_log account g) ≡ o → flight_of (gate_log (sent-account account o) g) ≡ None
  sends-by account inside judged None e = e
  sends-by account inside judged (Some f) e =
      ap (λ b. flight_of (gate_log (cond (is_ok (cond b Ok Idle)) (after_send script account g (Some f) (judgement_of f.request account.store)) account) g)) (judged f e)
      ∙ by (judgement_of f.request account.store) (judged f e)
    where
      by : (o : Option Judgement) → is_some o ≡ true → flight_of (gate_log (after_send script account g (Some f) o) g) ≡ None
      by None none = cc
      by (Some j) some = ap flight_of (set-there account.gates g _ inside) ∙ fold-append (λ flight (entry : GateEntry). flight_after flight entry.author entry.deed) None (gate_log account g) _

  -- so `judge` and `send` end the flight, whatever they answer
  pub ends-flight : (state : CoreState) → g < length state.account.gates → flight_of (gate_log (state_after script (state_after script state (Judge g)) (Send g)).account g) ≡ None
  ends-flight state inside =
      let j = judges state in
      let middle = state_after script state (Judge g) in
      ap (λ (a : Account). flight_of (gate_log a g)) (account-after script middle (Send g))
      ∙ sends-by middle.account (subst (λ (gs : List (List GateEntry)). g < length gs) (sym j.same) inside)
      (λ flight is. j.judged flight (ap (λ (gs : List (List GateEntry)). flight_of (slice_index_or gs g [])) (sym j.same) ∙ is)) (flight_of (gate_log middle.account g)) refl

-- a core that did `judge` and then `send` at a gatekeeper has no transaction in flight there
pub flight-ended : (old middle new : CoreView) (g : ℕ) (a b : StepAnswer) → AreCores old middle → g < old.script.gates → DoesStep (Judge g) old middle a → DoesStep (Send g) middle new b → flight_of (gate_log new.state.account g) ≡ None
flight-ended old middle new g a b cores inside judged sent =
    ap (λ (s : CoreState). flight_of (gate_log s.account g)) (sent.state_is ∙ ap (λ s. state_after s middle.state (Send g)) judged.script_is ∙ ap (λ s. state_after old.script s (Send g)) judged.state_is)
    ∙ ends-flight old.script g old.state (let many = cores.before.account.gatekeepers.as_many in omega (arith, many, inside))

-- No other driving step makes one

-- where no transaction is in flight, none is when the log goes on with driving deeds that begin no request
pub stays-quiet : (old new : Account) → DrivesGates 0 old new → (home : ℕ) → flight_of (gate_log old home) ≡ None → flight_of (gate_log new home) ≡ None
stays-quiet old new drives home quiet =
    let more = drives home in
    ap flight_of more.1 ∙ fold-append _ None (gate_log old home) more.0 ∙ ap (λ o. fold (λ flight (entry : GateEntry). flight_after flight entry.author entry.deed) o more.0) quiet ∙ none more.0 more.2
  where
    one : (author : ℕ) (deed : GateDeed) → IsTrue (is_driving_deed 0 deed) → flight_after None author deed ≡ None
    one author (gate.BeganTx r stamp) fine = absurd (let less = ltb-true r 0 fine in omega (arith, less))
    one author (gate.BeganProgram r stamp) fine = refl
    one author (gate.Sent r messages) fine = refl
    one author (gate.Nop shard number stamp low) fine = refl
    one author (gate.Heard clock) fine = refl
    one author (gate.Raised epoch) fine = refl
    one author (gate.Finished r) fine = refl

    none : (log : List GateEntry) → ((entry : GateEntry) → Contains log entry → IsTrue (is_driving_deed 0 entry.deed)) → fold (λ flight (entry : GateEntry). flight_after flight entry.author entry.deed) None log ≡ None
    none [] fine = refl
    none (entry ∷ log) fine = ap (λ o. fold (λ flight (entry : GateEntry). flight_after flight entry.author entry.deed) o log) (one entry.author entry.deed (fine entry (has_head entry log))) ∙ none log (λ k h. fine k (has_tail entry log k h))

-- if nothing is in flight at a gatekeeper, nothing is after the core is driven without begins
pub drives-quiet-at : (old new : CoreView) → Drives 0 old new → (home : ℕ) → flight_of (gate_log old.state.account home) ≡ None → flight_of (gate_log new.state.account home) ≡ None
drives-quiet-at old new d = stays-quiet old.state.account new.state.account (driven-gates 0 old.script old.state new.state d.driven)

-- a quiet core that is driven and begins no request stays quiet at all gatekeepers
pub drives-quiet : (old new : CoreView) → Drives 0 old new → NoneInFlight old.state.account → NoneInFlight new.state.account
drives-quiet old new d quiet home = drives-quiet-at old new d home (quiet home)

-- The gatekeepers in turn

-- to begin with, the first 0 gatekeepers have no transaction in flight
pub ends-none : (old : CoreView) → EndsBelow 0 old old
ends-none old = record { drives = drives-none 0 old; none = λ gate below. absurd (omega (arith, below)) }

-- once gatekeeper n has none in flight either, one gatekeeper more has none
pub ends-next : (old middle new : CoreView) (n m : ℕ) → m ≡ n + 1 → EndsBelow n old middle → Drives 0 middle new → flight_of (gate_log new.state.account n) ≡ None → EndsBelow m old new
ends-next old middle new n m next before drives here = record {
  drives = drives-through 0 old middle new before.drives drives;
  none = λ gate below. elim (cases_eq gate n) [
    | inl same ↦ subst (λ k. flight_of (gate_log new.state.account k) ≡ None) (sym same) here
    | inr other ↦ drives-quiet-at middle new drives gate (before.none gate (omega (arith, below, other, next)))
  ];
}

-- when all gatekeepers of the script have none, no transaction is in flight
pub ends-all : (old new : CoreView) (n : ℕ) → IsCore old.script new.state → old.script.gates ≤ n → EndsBelow n old new → NoneInFlight new.state.account
ends-all old new n core all ends home = elim (cases_lt home n) [
  | inl below ↦ ends.none home below
  | inr over ↦ ap flight_of (past new.state.account.gates home (let many = core.account.gatekeepers.as_many in omega (arith, many, over, all)))
]
  where
    past : (logs : List (List GateEntry)) (k : ℕ) → length logs ≤ k → slice_index_or logs k [] ≡ []
    past [] k over = refl
    past (x ∷ logs) zero over = absurd (omega (arith, over))
    past (x ∷ logs) (suc k) over = past logs k (omega (arith, over))
