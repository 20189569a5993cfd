-- Fewer than 2^64 steps give stamps of 64 bits: each step makes at most one entry at a gatekeeper, and raises its
-- epoch to at most 1,000,000.
-- Used by `trace_is_a_core`.
use Rattle.std.proofs.Common.{◌≡◌, ℕ, zero, suc, ◌+◌, ◌^◌, ◌<◌, ◌≤◌, ◌==◌, Bool, true, false, cond, List, [], ◌∷◌, ◌++◌, length, get_or, Contains, IsTrue, Option, None, Some, ◌⊎◌, inl, inr, refl, sym, ap, subst, ◌∙◌, get_or-set_same, get_or-set_other, arith}
use Rattle.std.specs.Prelude.{count_by, nat_lt, slice_index, slice_set}
use Rattle.std.specs.List.{list_all, list_any}
use Rattle.std.specs.Option.{ForSome}
use Rattle.std.proofs.lemmas.Bool.{and_from, both_ways, cases_eq, eqb-true, lt-ltb}
use Rattle.std.proofs.lemmas.List.{length-append}
use Rattle.std.proofs.lemmas.List.Elements.{Contains-append_cases}
use Rattle.weave_data.proofs.Ends.{by_last, count_push, flat_push}
use Rattle.weave_data.proofs.Members.{any_has, has_head, has_none, has_read, has_tail, map_has, only}
use Rattle.weave_data.specs.declared.name.Name.{Name}
use Rattle.vector_stamp.specs.declared.clock.Clock.{Clock}
use Rattle.vector_stamp.specs.declared.clock.Stamp.{Stamp}
use Rattle.vector_stamp.specs.Clocks.{clock_after_tick}
use Rattle.vector_stamp.specs.Order.{count_of, has_64_bits}
use Rattle.shard_queue.specs.Outbox.{sent_as}
use Rattle.program_defs.specs.declared.script.Request.{Request}
use Rattle.program_defs.specs.declared.script.Script.{Script}
use Rattle.program_defs.specs.declared.script.Step.{Step}
use Rattle.program_defs.specs.declared.script.Step.TheVariants.{Begin, Judge, Send, Say, Hear, Nop, Deliver, Apply, Visit, Reply, Collect, Epoch, Restart}
use Rattle.program_defs.specs.declared.script.Work.{Work}
use Rattle.program_defs.specs.declared.script.Work.TheVariants.{Change, Look}
use Rattle.program_defs.specs.Limits.{IsWithinLimits}
use Rattle.report_rules.specs.Lookups.{request_at}
use Rattle.weave_entries.specs.declared.gate_log.GateEntry.{GateEntry}
use Rattle.weave_entries.specs.declared.gate_log.GateDeed.{GateDeed}
use Rattle.weave_entries.specs.declared.gate_log.GateDeed.TheVariants.{BeganTx, BeganProgram, Sent, Nop as Empty, Heard, Raised, Finished}
use Rattle.weave_entries.specs.declared.message.Message.{Message}
use Rattle.weave_entries.specs.GateReplay.{BegunRequest, channel_of, clock_after_last, clock_of, flight_of, low_mark, next_number, next_stamp, program_begun, running_of, stamps_by, stamps_of, ticks_of}
use Rattle.weave_entries.specs.Sending.{messages_of}
use Rattle.weave_entries.specs.StoreReplay.{Judgement}
use Rattle.weave_account.specs.declared.account.Account.{Account}
use Rattle.weave_account.specs.Account.{all_begun, gate_log}
use Rattle.weave_account.specs.Clocks.{IsKnown, is_raised, raises_to}
use Rattle.weave_account.specs.NoLogs.{no_logs}
use Rattle.step_rules.specs.CoreState.{CoreState, start_state, with_gate_deed}
use Rattle.step_rules.specs.Answers.{answer_of}
use Rattle.step_rules.specs.Entries.{account_with, after_begin, after_deliver, after_hear, after_judge, after_reply, after_send, after_visit, after_work, at_request, begin_deed, judgement_in_flight, stamp_to_begin, state_with, with_finish}
use Rattle.step_rules.specs.IsCore.{AreSteps, IsCore, IsSmall, IsStepOf}
use Rattle.step_rules.specs.LowerLaws.{LawsForSteps, FurtherLowerLaws}
use Rattle.step_rules.specs.Requests.{has_ended, last_begun, next_vertex}
use Rattle.step_rules.specs.Trace.{is_ok, state_after}
use Rattle.step_rules.proofs.Starting.{start-is-core}
use Rattle.step_rules.proofs.Stepping.{step-keeps}
use Rattle.step_rules.proofs.Within.{gate-within, home-within}
use Rattle.weave_account.proofs.Starting.{none-at}

-- Logs

-- if a deed raises the epoch, then to at most 1,000,000
abbrev RaisesLittle : GateDeed → Type 0
RaisesLittle deed = (epoch : ℕ) → IsTrue (raises_to epoch deed) → epoch ≤ 1000000

-- a log is as it was, or has one more entry, which raises the epoch a little
abbrev AddsOne : List GateEntry → List GateEntry → Type 0
AddsOne log next = (next ≡ log) ⊎ ((entry : GateEntry) × (next ≡ log ++ entry ∷ []) × RaisesLittle entry.deed)

-- the same holds of the log of each gatekeeper
abbrev AddsFew : Account → Account → Type 0
AddsFew account next = (home : ℕ) → AddsOne (gate_log account home) (gate_log next home)

-- the gatekeepers have at most n entries each, which raise the epoch a little
pub record IsFew (n : ℕ) (account : Account) : Type 0 where
  pub few : (home : ℕ) → length (gate_log account home) ≤ n
  pub little : (home : ℕ) (entry : GateEntry) → Contains (gate_log account home) entry → RaisesLittle entry.deed

few-at-first : (script : Script) → IsFew 0 (no_logs script)
few-at-first script = record {
  few = λ home. let none = ap length (none-at {A = GateEntry} script.gates home) in omega (arith, none);
  little = λ home entry h. absurd (has_none entry (subst (λ log. Contains log entry) (none-at {A = GateEntry} script.gates home) h));
}

few-with : (log next : List GateEntry) (n : ℕ) → AddsOne log next → length log ≤ n → length next ≤ n + 1
few-with log next n (inl same) few = let long = ap length same in omega (arith, few, long)
few-with log next n (inr (entry, is, little)) few = let long = ap length is in omega (arith, few, long, length-append log (entry ∷ []))

little-with : (log next : List GateEntry) → AddsOne log next → ((entry : GateEntry) → Contains log entry → RaisesLittle entry.deed) → (entry : GateEntry) → Contains next entry → RaisesLittle entry.deed
little-with log next (inl same) each entry h = each entry (subst (λ l. Contains l entry) same h)
little-with log next (inr (new, is, little)) each entry h = elim (Contains-append_cases log (new ∷ []) entry (subst (λ l. Contains l entry) is h)) [
  | inl before ↦ each entry before
  | inr last ↦ subst (λ (e : GateEntry). RaisesLittle e.deed) (only new entry last) little
]

few-after : (n : ℕ) (account next : Account) → IsFew n account → AddsFew account next → IsFew (n + 1) next
few-after n account next few adds = record {
  few = λ home. few-with (gate_log account home) (gate_log next home) n (adds home) (few.few home);
  little = λ home. little-with (gate_log account home) (gate_log next home) (adds home) (few.little home);
}

-- Ticks

stamps-few : (deed : GateDeed) → length (stamps_by deed) ≤ 1
stamps-few (BeganTx r stamp) = omega arith
stamps-few (BeganProgram r stamp) = omega arith
stamps-few (Sent r messages) = omega arith
stamps-few (Empty to number stamp low) = omega arith
stamps-few (Heard clock) = omega arith
stamps-few (Raised epoch) = omega arith
stamps-few (Finished r) = omega arith

stamps-within : (log : List GateEntry) → length (stamps_of log) ≤ length log
stamps-within =
    by_last (λ log. length (stamps_of log) ≤ length log) (omega arith)
    (λ log entry so_far.
    let pushed = ap length (flat_push (λ (e : GateEntry). stamps_by e.deed) log entry) in
    let both = length-append (stamps_of log) (stamps_by entry.deed) in
    let longer = length-append log (entry ∷ []) in
    let one = stamps-few entry.deed in
    omega (arith, so_far, pushed, both, longer, one))

one-at-most : (b : Bool) → cond b 1 0 ≤ 1
one-at-most true = omega arith
one-at-most false = omega arith

count-within : {A : Type 0} (p : A → Bool) (xs : List A) → count_by p xs ≤ length xs
count-within p =
    by_last (λ xs. count_by p xs ≤ length xs) (omega arith)
    (λ xs x so_far.
    let pushed = count_push p xs x in
    let one = one-at-most (p x) in
    let longer = length-append xs (x ∷ []) in
    omega (arith, so_far, pushed, one, longer))

-- a gatekeeper has at most n ticks in an epoch
ticks-few : (n : ℕ) (account : Account) → IsFew n account → (epoch home : ℕ) → ticks_of epoch (gate_log account home) ≤ n
ticks-few n account few epoch home =
    let ticks = count-within (λ (stamp : Stamp). stamp.clock.epoch == epoch) (stamps_of (gate_log account home)) in
    let stamps = stamps-within (gate_log account home) in
    let entries = few.few home in
    omega (arith, ticks, stamps, entries)

-- Clocks

-- a list is at some place of the lists
list-at : {A : Type 0} (xss : List (List A)) (xs : List A) → Contains xss xs → (i : ℕ) × (get_or xss i [] ≡ xs)
list-at [] xs h = absurd (has_none xs h)
list-at (ys ∷ xss) xs h = elim (has_read ys xss xs h) [
  | inl same ↦ (zero, same)
  | inr more ↦ (let at = list-at xss xs more in (suc at.0, at.1))
]

-- an epoch that was raised is at most 1,000,000
raised-little : (n : ℕ) (account : Account) → IsFew n account → (epoch : ℕ) → IsTrue (is_raised account epoch) → epoch ≤ 1000000
raised-little n account few epoch raised =
    let log = any_has (λ (log : List GateEntry). list_any (λ (entry : GateEntry). raises_to epoch entry.deed) log) account.gates raised in
    let entry = any_has (λ (entry : GateEntry). raises_to epoch entry.deed) log.0 log.2 in
    let home = list-at account.gates log.0 log.1 in
    few.little home.0 entry.0 (subst (λ l. Contains l entry.0) (sym home.1) entry.1) epoch entry.2

epoch-little : (n : ℕ) (account : Account) → IsFew n account → (clock : Clock) → IsKnown account clock → clock.epoch ≤ 1000000
epoch-little n account few clock known = elim (cases_eq clock.epoch 0) [
  | inl first ↦ omega (arith, first)
  | inr above ↦ raised-little n account few clock.epoch (known.raised above)
]

-- all numbers of a list are below a bound
all-below : (bound : ℕ) (xs : List ℕ) → ((i : ℕ) → slice_index xs i < bound) → IsTrue (list_all (λ count. nat_lt count bound) xs)
all-below bound [] each = refl
all-below bound (x ∷ xs) each = and_from (nat_lt x bound) (list_all (λ count. nat_lt count bound) xs) (lt-ltb x bound (each 0)) (all-below bound xs (λ i. each (suc i)))

-- and still if one of them is put below it
all-below-set : (bound : ℕ) (xs : List ℕ) (i x : ℕ) → x < bound → ((j : ℕ) → slice_index xs j < bound) → IsTrue (list_all (λ count. nat_lt count bound) (slice_set xs i x))
all-below-set bound [] zero x below each = refl
all-below-set bound [] (suc i) x below each = refl
all-below-set bound (y ∷ xs) zero x below each = and_from (nat_lt x bound) (list_all (λ count. nat_lt count bound) xs) (lt-ltb x bound below) (all-below bound xs (λ j. each (suc j)))
all-below-set bound (y ∷ xs) (suc i) x below each =
    and_from (nat_lt y bound) (list_all (λ count. nat_lt count bound) (slice_set xs i x)) (lt-ltb y bound (each 0)) (all-below-set bound xs i x below (λ j. each (suc j)))

-- a tick of a known clock has 64 bits
tick-small : (n : ℕ) (account : Account) → IsFew n account → n + 1 < 2 ^ 64 → (home : ℕ) (clock : Clock) → IsKnown account clock → IsTrue (has_64_bits (clock_after_tick home clock))
tick-small n account few below home clock known =
    let little = epoch-little n account few clock known in
    let count : (gate : ℕ) → count_of gate clock ≤ n = λ gate. (let was = known.counts gate in let ticks = ticks-few n account few clock.epoch gate in omega (arith, was, ticks)) in
    let own = count home in
    and_from (nat_lt clock.epoch (2 ^ 64)) (list_all (λ count. nat_lt count (2 ^ 64)) (slice_set clock.counts home (count_of home clock + 1)))
    (lt-ltb clock.epoch (2 ^ 64) (omega (arith, little)))
    (all-below-set (2 ^ 64) clock.counts home (count_of home clock + 1) (omega (arith, own, below)) (λ gate. (let at = count gate in omega (arith, at, below))))

-- Steps

adds-none : (account : Account) → AddsFew account account
adds-none account = λ home. inl refl

-- one of the logs has one more entry
module _ (logs : List (List GateEntry)) (g : ℕ) (within : g < length logs) (entry : GateEntry) (little : RaisesLittle entry.deed) where
  abbrev set-logs : List (List GateEntry)
  set-logs = slice_set logs g (get_or logs g [] ++ entry ∷ [])

  set-few : (home : ℕ) → AddsOne (get_or logs home []) (get_or set-logs home [])
  set-few home = elim (cases_eq home g) [
    | inl same ↦ inr (entry, ap (λ n. get_or set-logs n []) same ∙ get_or-set_same logs g (get_or logs g [] ++ entry ∷ []) [] within ∙ ap (λ n. get_or logs n [] ++ entry ∷ []) (sym same), little)
    | inr other ↦ inl (get_or-set_other logs g home (get_or logs g [] ++ entry ∷ []) [] other)
  ]

adds-deed : (account : Account) (g author : ℕ) (deed : GateDeed) → g < length account.gates → RaisesLittle deed → AddsFew account (with_gate_deed account g author deed)
adds-deed account g author deed within little = set-few account.gates g within (record { author = author; deed = deed }) little

-- of a deed that raises nothing the test is false at each epoch
nothing-raised : (epoch : ℕ) → IsTrue false → epoch ≤ 1000000
nothing-raised epoch h = absurd (both_ways false refl h)

-- a begin raises nothing
begins-little : (r : ℕ) (stamp : Stamp) (work : Work) → RaisesLittle (begin_deed r stamp work)
begins-little r stamp (Change ops) = nothing-raised
begins-little r stamp (Look program) = nothing-raised

-- what a step leaves if it is done
module _ (script : Script) (state : CoreState) (limits : IsWithinLimits script) (core : IsCore script state) where
  abbrev account : Account
  account = state.account

  begins-few : (r : ℕ) (q : Option Request) → request_at script r ≡ q → AddsFew account (at_request (after_begin account r) account q)
  begins-few r None at = adds-none account
  begins-few r (Some request) at =
      adds-deed account request.gate 0 (begin_deed r (stamp_to_begin account request) request.work) (home-within limits core r request at) (begins-little r (stamp_to_begin account request) request.work)

  judges-few : (flight : Option BegunRequest) → AddsFew account (after_judge script account flight)
  judges-few None = adds-none account
  judges-few (Some flight) = λ home. inl refl

  sends-few : (home : ℕ) → home < script.gates → (flight : Option BegunRequest) (judged : Option Judgement) → AddsFew account (after_send script account home flight judged)
  sends-few home inside None judged = adds-none account
  sends-few home inside (Some flight) None = adds-none account
  sends-few home inside (Some flight) (Some judged) =
      adds-deed account home flight.author (Sent flight.request (messages_of script.shards (gate_log account home) flight judged.ops judged.verdict)) (gate-within core.account home inside) nothing-raised

  hears-few : (home : ℕ) → home < script.gates → (notice : Option Clock) → AddsFew account (after_hear account home notice)
  hears-few home inside None = adds-none account
  hears-few home inside (Some notice) = adds-deed account home 0 (Heard notice) (gate-within core.account home inside) nothing-raised

  delivers-few : (home shard number : ℕ) (message : Option Message) → AddsFew account (after_deliver account home shard number message)
  delivers-few home shard number None = adds-none account
  delivers-few home shard number (Some message) = λ other. inl refl

  visits-few : (r : ℕ) (begun : Option BegunRequest) (next : Option Name) → AddsFew account (after_visit script account r begun next)
  visits-few r None next = adds-none account
  visits-few r (Some begun) None = adds-none account
  visits-few r (Some begun) (Some v) = λ home. inl refl

  at-visit : (r : ℕ) (q : Option Request) → AddsFew account (at_request (λ request. after_visit script account r (program_begun r (gate_log account request.gate)) (next_vertex account r request.work)) account q)
  at-visit r None = adds-none account
  at-visit r (Some request) = visits-few r (program_begun r (gate_log account request.gate)) (next_vertex account r request.work)

  finishes-few : (r : ℕ) (request : Request) → request_at script r ≡ Some request → (begun : Option BegunRequest) → AddsFew account (with_finish account r request.gate begun)
  finishes-few r request at None = adds-none account
  finishes-few r request at (Some begun) = adds-deed account request.gate begun.author (Finished r) (home-within limits core r request at) nothing-raised

  work-few : (r : ℕ) (request : Request) → request_at script r ≡ Some request → (work : Work) → AddsFew account (after_work account r request work)
  work-few r request at (Change ops) = adds-none account
  work-few r request at (Look program) = by-end (has_ended account r request)
    where
      by-end : (b : Bool) → AddsFew account (cond b account (with_finish account r request.gate (program_begun r (gate_log account request.gate))))
      by-end true = adds-none account
      by-end false = finishes-few r request at (program_begun r (gate_log account request.gate))

  replies-few : (r : ℕ) (q : Option Request) → request_at script r ≡ q → AddsFew account (at_request (after_reply account r) account q)
  replies-few r None at = adds-none account
  replies-few r (Some request) at = work-few r request at request.work

  step-few : (step : Step) → IsStepOf script step → AddsFew account (account_with script state step)
  step-few (Begin r) range = begins-few r (request_at script r) refl
  step-few (Judge g) range = judges-few (flight_of (gate_log account g))
  step-few (Send g) range = sends-few g range (flight_of (gate_log account g)) (judgement_in_flight account (flight_of (gate_log account g)))
  step-few (Say g) range = adds-none account
  step-few (Hear g n) range = hears-few g range.0 (sent_as n state.notices)
  step-few (Nop g s) range =
      let stamp = next_stamp g (clock_of g (gate_log account g)) in
      adds-deed account g 0 (Empty s (next_number s (gate_log account g)) stamp (low_mark stamp (running_of (gate_log account g)))) (gate-within core.account g range.0) nothing-raised
  step-few (Deliver g s n) range = delivers-few g s n (sent_as n (channel_of s (gate_log account g)))
  step-few (Apply s g) range = λ home. inl refl
  step-few (Visit r) range = at-visit r (request_at script r)
  step-few (Reply r) range = replies-few r (request_at script r) refl
  step-few (Collect s) range = λ home. inl refl
  step-few (Epoch g epoch) range = adds-deed account g 0 (Raised epoch) (gate-within core.account g range.0) (λ other h. (let same = eqb-true epoch other h in let most = range.2 in omega (arith, same, most)))
  step-few (Restart g epoch) range = adds-deed account g 0 (Raised epoch) (gate-within core.account g range.0) (λ other h. (let same = eqb-true epoch other h in let most = range.2 in omega (arith, same, most)))

  -- whatever a step answers, each gatekeeper has at most one entry more
  pub after-few : (step : Step) → IsStepOf script step → AddsFew account (state_after script state step).account
  after-few step range = at (is_ok (answer_of script state step))
    where
      at : (b : Bool) → AddsFew account (cond b (state_with script state step) state).account
      at true = step-few step range
      at false = adds-none account

  module _ (laws : LawsForSteps) (further : FurtherLowerLaws) (n : ℕ) (few : IsFew n account) (below : n + 1 < 2 ^ 64) where
    known-last : (session : ℕ) → ForSome (last_begun account session) (λ one. IsKnown account one.clock)
    known-last session old e =
        let begun = map_has (λ (b : BegunRequest). b.stamp) (all_begun account) old (further.accounts.last script account limits core.account session old e) in
        subst (λ (t : Stamp). IsKnown account t.clock) begun.2 (laws.accounts.known_begun script account limits core.account begun.0 begun.1)

    heard-known : (g : ℕ) → g < 8 → (last : Option Stamp) → ForSome last (λ one. IsKnown account one.clock) → IsKnown account (clock_after_last g (clock_of g (gate_log account g)) last)
    heard-known g eight None known = laws.accounts.known_gatekeepers script account limits core.account g
    heard-known g eight (Some one) known =
        laws.accounts.known_heard script account limits core.account g eight (clock_of g (gate_log account g)) one.clock (laws.accounts.known_gatekeepers script account limits core.account g) (known one refl)

    stamp-small : (r : ℕ) (request : Request) → request_at script r ≡ Some request → IsTrue (has_64_bits (stamp_to_begin account request).clock)
    stamp-small r request at =
        let inside = limits.homes r request at in
        let gates = limits.few_gates in
        tick-small n account few below request.gate (clock_after_last request.gate (clock_of request.gate (gate_log account request.gate)) (last_begun account request.session))
        (heard-known request.gate (omega (arith, inside, gates)) (last_begun account request.session) (known-last request.session))

    -- a request begun now has a stamp of 64 bits if gatekeepers made few entries, none to an epoch past 1,000,000
    pub step-small : (step : Step) → IsSmall script state step
    step-small (Begin r) = stamp-small r
    step-small (Judge g) = tt
    step-small (Send g) = tt
    step-small (Say g) = tt
    step-small (Hear g notice) = tt
    step-small (Nop g s) = tt
    step-small (Deliver g s number) = tt
    step-small (Apply s g) = tt
    step-small (Visit r) = tt
    step-small (Reply r) = tt
    step-small (Collect s) = tt
    step-small (Epoch g epoch) = tt
    step-small (Restart g epoch) = tt

-- All steps

module _ (laws : LawsForSteps) (further : FurtherLowerLaws) (script : Script) (limits : IsWithinLimits script) where
  are-steps : (steps : List Step) (n : ℕ) (state : CoreState) → IsCore script state → IsFew n state.account → n + length steps < 2 ^ 64 → ((step : Step) → Contains steps step → IsStepOf script step) → AreSteps script state steps
  are-steps [] n state core few below each = tt
  are-steps (step ∷ steps) n state core few below each =
      let range = each step (has_head step steps) in
      let small = step-small script state limits core laws further n few (omega (arith, below)) step in
      let next = step-keeps laws further script limits state step range (λ ok. small) core in (
        range,
        (λ ok. small),
        are-steps steps (n + 1) (state_after script state step) next
            (few-after n state.account (state_after script state step).account few (after-few script state limits core step range)) (omega (arith, below)) (λ one h. each one (has_tail step steps one h)),
      )

  -- steps of a script, fewer than 2 to the 64, give stamps of 64 bits one after another from the empty logs
  pub few-are-steps : (steps : List Step) → ((step : Step) → Contains steps step → IsStepOf script step) → length steps < 2 ^ 64 → AreSteps script (start_state script) steps
  few-are-steps steps each below = are-steps steps 0 (start_state script) (start-is-core laws.accounts.empty script) (few-at-first script) (omega (arith, below)) each
