-- A request begins unless it has begun, and has its reply once it was sent or read.
-- Used by `answer`, `drive_all` and `visit`.
use Rattle.std.proofs.Common.{◌≡◌, ℕ, zero, suc, ◌+◌, ◌<◌, ◌≤◌, Bool, true, false, not, nat_lt, is_some, cond, ◌==◌, ◌&&◌, ◌||◌, List, [], ◌∷◌, ◌++◌, length, Contains, IsTrue, Option, Some, None, inl, inr, refl, sym, ap, subst, ◌∙◌, arith}
use Rattle.std.specs.Prelude.{slice_get, slice_index_or}
use Rattle.std.specs.List.{find, list_any, range_with_len}
use Rattle.std.specs.Option.{option_map}
use Rattle.std.proofs.lemmas.Bool.{and_parts, cases_eq, eq-eqb, eqb-true, lt-ltb, ltb-true}
use Rattle.std.proofs.lemmas.List.Concat.{flat_map-append}
use Rattle.std.proofs.lemmas.List.Elements.{Contains-append_cases}
use Rattle.std.proofs.lemmas.List.Sums.{fold-append}
use Rattle.weave_data.proofs.Members.{any_has, cut_at, filter_has, find_has, find_lacks, flat_has, has_flat, has_head, has_none, has_read, only}
use Rattle.vector_stamp.specs.declared.clock.Stamp.{Stamp}
use Rattle.program_defs.specs.declared.program.Program.{Program}
use Rattle.program_defs.specs.declared.script.Request.{Request}
use Rattle.program_defs.specs.declared.script.Script.{Script}
use Rattle.program_defs.specs.declared.script.Step.TheVariants.{Begin, Reply}
use Rattle.program_defs.specs.declared.script.Work.{Work}
use Rattle.program_defs.specs.declared.script.Work.TheVariants.{Change, Look}
use Rattle.program_defs.specs.Limits.{IsWithinLimits}
use Rattle.program_defs.specs.Works.{is_change, is_look}
use Rattle.report_rules.specs.Lookups.{is_some_and, request_at}
use Rattle.report_rules.specs.declared.report.StepAnswer.{StepAnswer}
use Rattle.report_rules.specs.declared.report.StepAnswer.TheVariants.{Ok, Twice, Early, Busy, Idle}
use Rattle.weave_entries.specs.declared.gate_log.GateEntry.{GateEntry}
use Rattle.weave_entries.specs.declared.gate_log.GateDeed.{GateDeed}
use Rattle.weave_entries.specs.declared.gate_log.GateDeed.TheVariants.{BeganTx, BeganProgram, Sent, Nop, Heard, Raised, Finished}
use Rattle.weave_entries.specs.declared.session_log.SessionEntry.{SessionEntry}
use Rattle.weave_entries.specs.GateReplay.{BegunRequest, begun_by, begun_in, flight_after, flight_of, has_ended_in, program_begun, program_by, programs_of, stamps_by, stamps_of, tx_by}
use Rattle.weave_entries.specs.SessionReplay.{begin_by, begins_in, has_begun_in, has_reply_in, replied_in, reply_by}
use Rattle.weave_account.specs.declared.account.Account.{Account}
use Rattle.weave_account.specs.Account.{all_begun, gate_log, session_log, NoneInFlight}
use Rattle.weave_account.specs.Gatekeepers.{BeginsAs}
use Rattle.weave_account.specs.GoesOn.{GoesOn}
use Rattle.weave_account.specs.IsAccount.{IsAccount}
use Rattle.weave_account.specs.Sessions.{requests_of_session}
use Rattle.step_rules.specs.CoreState.{CoreState}
use Rattle.step_rules.specs.Answers.{answer_of, answer_of_begin, answer_of_reply, for_request}
use Rattle.step_rules.specs.Entries.{account_with, after_begin, after_reply, after_work, at_request, begin_deed, stamp_to_begin, with_finish}
use Rattle.step_rules.specs.IsCore.{IsCore}
use Rattle.step_rules.specs.Requests.{finds_flight, has_begun, has_ended, has_reply, is_answered, waits_for_earlier}
use Rattle.step_rules.specs.Trace.{is_ok, state_after}
use Rattle.weaver_core.specs.Cores.{CoreView, DoesStep}
use Rattle.weave_drive.specs.Driving.{AreReplied, Drives, is_driving}
use Rattle.weave_drive.specs.LowerLaws.{LawsForDriving}
use Rattle.weave_drive.specs.Loops.{AnswersBelow}
use Rattle.weave_drive.specs.Progress.{AreCores, AreAnsweredBelow, IsReading, HasNoNextVertex}
use Rattle.weave_drive.proofs.After.{account-after, set-other, set-there}
use Rattle.weave_drive.proofs.Driven.{drives-core, drives-on, drives-through}
use Rattle.weave_drive.proofs.Quiet.{drives-quiet, drives-quiet-at}

-- if a list has something at a place, the place is below its length
pub get-inside : {A : Type 0} (xs : List A) (n : ℕ) (x : A) → slice_get xs n ≡ Some x → n < length xs
get-inside [] n x e = cc
get-inside (y ∷ xs) zero x e = omega arith
get-inside (y ∷ xs) (suc n) x e = let less = get-inside xs n x e in omega (arith, less)

-- Sessions

any-more : {A : Type 0} (p : A → Bool) (xs ys : List A) → list_any p xs ≡ true → list_any p (xs ++ ys) ≡ true
any-more p [] ys h = cc
any-more p (x ∷ xs) ys h = at (p x) (any-more p xs ys) h
  where
    at : (b : Bool) → (list_any p xs ≡ true → list_any p (xs ++ ys) ≡ true) → b || list_any p xs ≡ true → b || list_any p (xs ++ ys) ≡ true
    at true more h = refl
    at false more h = more h

any-last : {A : Type 0} (p : A → Bool) (xs : List A) (x : A) → p x ≡ true → list_any p (xs ++ x ∷ []) ≡ true
any-last p [] x h = ap (λ b. b || false) h
any-last p (y ∷ xs) x h = at (p y) (any-last p xs x h)
  where
    at : (b : Bool) → list_any p (xs ++ x ∷ []) ≡ true → b || list_any p (xs ++ x ∷ []) ≡ true
    at true more = refl
    at false more = more

begun-longer : (r : ℕ) (log more : List SessionEntry) → has_begun_in r log ≡ true → has_begun_in r (log ++ more) ≡ true
begun-longer r log more h = ap (list_any (λ (begun : ℕ × Stamp). begun.0 == r)) (flat_map-append (λ (entry : SessionEntry). begin_by entry.deed) log more) ∙ any-more _ (begins_in log) (begins_in more) h

replied-longer : (r : ℕ) (log more : List SessionEntry) → has_reply_in r log ≡ true → has_reply_in r (log ++ more) ≡ true
replied-longer r log more h = ap (list_any (λ replied. replied == r)) (flat_map-append (λ (entry : SessionEntry). reply_by entry.deed) log more) ∙ any-more _ (replied_in log) (replied_in more) h

-- a request that has begun has begun still when the account goes on
pub still-begun : (old new : Account) → GoesOn old new → (r : ℕ) (request : Request) → has_begun old r request ≡ true → has_begun new r request ≡ true
still-begun old new on r request h = let more = on.sessions request.session in ap (has_begun_in r) more.1 ∙ begun-longer r (session_log old request.session) more.0 h

still-replied : (old new : Account) → GoesOn old new → (r : ℕ) (request : Request) → has_reply old r request ≡ true → has_reply new r request ≡ true
still-replied old new on r request h = let more = on.sessions request.session in ap (has_reply_in r) more.1 ∙ replied-longer r (session_log old request.session) more.0 h

session-inside : (script : Script) → IsWithinLimits script → (state : CoreState) → IsCore script state → (r : ℕ) (request : Request) → request_at script r ≡ Some request → request.session < length state.account.sessions
session-inside script limits state core r request is = let many = core.sessions in let low = limits.sessions r request is in omega (arith, many, low)

-- Begin

module _ (laws : LawsForDriving) (script : Script) (limits : IsWithinLimits script) (r : ℕ) (request : Request) (request-is : request_at script r ≡ Some request) where
  none-any : {A : Type 0} (p : A → Bool) (xs : List A) → ((x : A) → Contains xs x → IsTrue (p x) → ⊥) → list_any p xs ≡ false
  none-any p xs none = at (list_any p xs) refl
    where
      at : (b : Bool) → list_any p xs ≡ b → list_any p xs ≡ false
      at false e = e
      at true e = let x = any_has p xs e in absurd (none x.0 x.1 x.2)

  none-waits : (account : Account) → AreReplied script r account → waits_for_earlier script account r request ≡ false
  none-waits account replied = none-any _ (requests_of_session script request.session) (λ q h t. (
      let parts = and_parts (nat_lt q r) (not (has_reply_in q (session_log account request.session))) t in
      let own = (filter_has (λ k. is_some_and (λ (other : Request). other.session == request.session) (request_at script k)) (range_with_len 0 (length script.requests)) q h).1 in
      at q (request_at script q) refl own (ltb-true q r parts.0) parts.1
      ))
    where
      at : (q : ℕ) (o : Option Request) → request_at script q ≡ o → IsTrue (is_some_and (λ (k : Request). k.session == request.session) o) → q < r → IsTrue (not (has_reply_in q (session_log account request.session))) → ⊥
      at q None e own less waits = cc
      at q (Some k) e own less waits =
          let has : has_reply_in q (session_log account request.session) ≡ true = subst (λ s. has_reply_in q (session_log account s) ≡ true) (eqb-true k.session request.session own) (replied q k less e) in
          let clash : not true ≡ true = sym (ap not has) ∙ waits in cc

  -- after `begin` it has begun, and nothing is in flight but at its own gatekeeper; nor there, if it is a program
  pub record Begins (new : Account) : Type 0 where
    pub has : has_begun new r request ≡ true
    pub others : (g : ℕ) → (g ≡ request.gate → ⊥) → flight_of (gate_log new g) ≡ None
    pub program : (program : Program) → request.work ≡ Look program → flight_of (gate_log new request.gate) ≡ None

  -- of a request that hadn't begun
  begins-new : (state : CoreState) → IsCore script state → NoneInFlight state.account → Begins (after_begin state.account r request)
  begins-new state core quiet = record {
    has = ap (has_begun_in r) (set-there account.sessions request.session _ (session-inside script limits state core r request request-is))
        ∙ ap (list_any (λ (begun : ℕ × Stamp). begun.0 == r)) (flat_map-append (λ (entry : SessionEntry). begin_by entry.deed) (session_log account request.session) _)
        ∙ any-last (λ (begun : ℕ × Stamp). begun.0 == r) (begins_in (session_log account request.session)) (r, stamp) (eq-eqb r r refl);
    others = λ g differ. ap flight_of (set-other account.gates request.gate g _ differ) ∙ quiet g;
    program = λ program work-is. (
        ap flight_of (set-there account.gates request.gate _ (let many = core.account.gatekeepers.as_many in let low = limits.homes r request request-is in omega (arith, many, low)))
        ∙ fold-append (λ flight (entry : GateEntry). flight_after flight entry.author entry.deed) None (gate_log account request.gate) _
        ∙ ap (λ w. flight_after (flight_of (gate_log account request.gate)) 0 (begin_deed r stamp w)) work-is
        ∙ quiet request.gate
        );
  }
    where
      account : Account
      account = state.account

      stamp : Stamp
      stamp = stamp_to_begin state.account request

  begins-by : (state : CoreState) → IsCore script state → NoneInFlight state.account → AreReplied script r state.account → (b : Bool) → has_begun state.account r request ≡ b → Begins (state_after script state (Begin r)).account
  begins-by state core quiet replied true e =
      let twice : answer_of script state (Begin r) ≡ Twice = ap (for_request (answer_of_begin script state.account r)) request-is ∙ ap (λ b. cond b Twice (cond (waits_for_earlier script state.account r request) Early (cond (finds_flight state.account request) Busy Ok))) e in
      let stays : (state_after script state (Begin r)).account ≡ state.account = account-after script state (Begin r) ∙ ap (λ a. cond {A = Account} (is_ok a) (account_with script state (Begin r)) state.account) twice in
      subst Begins (sym stays) (record { has = e; others = λ g differ. quiet g; program = λ program work-is. quiet request.gate })
  begins-by state core quiet replied false e =
      let ok : answer_of script state (Begin r) ≡ Ok =
      ap (for_request (answer_of_begin script state.account r)) request-is
      ∙ ap (λ b. cond b Twice (cond (waits_for_earlier script state.account r request) Early (cond (finds_flight state.account request) Busy Ok))) e
      ∙ ap (λ b. cond b Early (cond (finds_flight state.account request) Busy Ok)) (none-waits state.account replied)
      ∙ ap (λ o. cond (is_change request.work && is_some o) Busy Ok) (quiet request.gate)
      ∙ no-flight (is_change request.work) in
      let goes : (state_after script state (Begin r)).account ≡ after_begin state.account r request = account-after script state (Begin r) ∙ ap (λ a. cond {A = Account} (is_ok a) (account_with script state (Begin r)) state.account) ok ∙ ap (at_request (after_begin state.account r) state.account) request-is in
      subst Begins (sym goes) (begins-new state core quiet)
    where
      no-flight : (b : Bool) → cond (b && false) Busy Ok ≡ Ok
      no-flight true = refl
      no-flight false = refl

  -- in a quiet core where all requests before one have replies, `begin` leaves it begun, and no other in flight
  pub begun-now : (state : CoreState) → IsCore script state → NoneInFlight state.account → AreReplied script r state.account → Begins (state_after script state (Begin r)).account
  begun-now state core quiet replied = begins-by state core quiet replied (has_begun state.account r request) refl

  -- Reply

  same-sessions : (account : Account) (work : Work) → (after_work account r request work).sessions ≡ account.sessions
  same-sessions account (Change ops) = refl
  same-sessions account (Look program) = at (has_ended account r request) (program_begun r (gate_log account request.gate))
    where
      at : (b : Bool) (o : Option BegunRequest) → (cond {A = Account} b account (with_finish account r request.gate o)).sessions ≡ account.sessions
      at true o = refl
      at false None = refl
      at false (Some begun) = refl

  -- it is done, if the request was sent or read
  may-reply : (account : Account) → has_begun account r request ≡ true → is_answered account r request request.work ≡ true → has_reply account r request ≡ false → answer_of_reply account r request ≡ Ok
  may-reply account begun ended none =
      ap (λ b. cond (not b || has_reply account r request || not (is_answered account r request request.work)) Idle Ok) begun
      ∙ ap (λ b. cond (b || not (is_answered account r request request.work)) Idle Ok) none
      ∙ ap (λ b. cond (not b) Idle Ok) ended

  -- after `reply` a request that has begun, and was sent or read, has its reply
  pub replied-now : (state : CoreState) → IsCore script state → has_begun state.account r request ≡ true → is_answered state.account r request request.work ≡ true → (on : GoesOn state.account (state_after script state (Reply r)).account) → has_reply (state_after script state (Reply r)).account r request ≡ true
  replied-now state core begun ended on = at (has_reply state.account r request) refl
    where
      at : (b : Bool) → has_reply state.account r request ≡ b → has_reply (state_after script state (Reply r)).account r request ≡ true
      at true e = still-replied state.account (state_after script state (Reply r)).account on r request e
      at false e =
          let ok : answer_of script state (Reply r) ≡ Ok = ap (for_request (answer_of_reply state.account r)) request-is ∙ may-reply state.account begun ended e in
          let goes : (state_after script state (Reply r)).account ≡ after_reply state.account r request = account-after script state (Reply r) ∙ ap (λ a. cond {A = Account} (is_ok a) (account_with script state (Reply r)) state.account) ok ∙ ap (at_request (after_reply state.account r) state.account) request-is in
          let middle = after_work state.account r request request.work in
          ap (λ (a : Account). has_reply a r request) goes
          ∙ ap (has_reply_in r) (set-there middle.sessions request.session _ (let same = ap (λ (ss : List (List SessionEntry)). length ss) (same-sessions state.account request.work) in let low = session-inside script limits state core r request request-is in omega (arith, same, low)))
          ∙ ap (list_any (λ replied. replied == r)) (flat_map-append (λ (entry : SessionEntry). reply_by entry.deed) (session_log middle request.session) _)
          ∙ any-last (λ replied. replied == r) (replied_in (session_log middle request.session)) r (eq-eqb r r refl)

  -- in a quiet core a begun transaction was sent
  pub sent-when-quiet : (state : CoreState) → IsCore script state → NoneInFlight state.account → IsTrue (is_change request.work) → has_begun state.account r request ≡ true → is_answered state.account r request request.work ≡ true
  sent-when-quiet state core quiet change begun = by request.work change (laws.sent script state.account limits core.account r request request-is change begun ∙ ap (λ o. not (is_some_and (λ (flight : BegunRequest). flight.request == r) o)) (quiet request.gate))
    where
      by : (work : Work) → IsTrue (is_change work) → has_ended_in r (gate_log state.account request.gate) ≡ true → is_answered state.account r request work ≡ true
      by (Change ops) t e = e
      by (Look program) t e = cc

  -- and a program that has no next vertex was read
  pub read-when-whole : (account : Account) → HasNoNextVertex script r account → is_change request.work ≡ false → is_answered account r request request.work ≡ true
  read-when-whole account whole look = by request.work refl look
    where
      by : (work : Work) → request.work ≡ work → is_change work ≡ false → is_answered account r request work ≡ true
      by (Change ops) e f = cc
      by (Look program) e f = ap (λ o. not (is_some o)) (whole request program request-is e)

  -- A begun program

  -- the request is one of this gatekeeper, and of this kind
  abbrev IsOwn : (Work → Bool) → ℕ → ℕ → Type 0
  IsOwn is_kind home q = IsTrue (is_some_and (λ (other : Request). (other.gate == home) && is_kind other.work) (request_at script q))

  module _ (account : Account) (home : ℕ) (before : List GateEntry) where
    tx-own : (author : ℕ) (deed : GateDeed) (b : BegunRequest) → BeginsAs script account home before deed → Contains (tx_by author deed) b → IsOwn is_change home b.request
    tx-own author (BeganTx q stamp) b begins h = subst (λ (c : BegunRequest). IsOwn is_change home c.request) (only (record { author = author; request = q; stamp = stamp }) b h) begins.own
    tx-own author (BeganProgram q stamp) b begins h = absurd (has_none b h)
    tx-own author (Sent q messages) b begins h = absurd (has_none b h)
    tx-own author (Nop to number stamp low) b begins h = absurd (has_none b h)
    tx-own author (Heard clock) b begins h = absurd (has_none b h)
    tx-own author (Raised epoch) b begins h = absurd (has_none b h)
    tx-own author (Finished q) b begins h = absurd (has_none b h)

    program-own : (author : ℕ) (deed : GateDeed) (b : BegunRequest) → BeginsAs script account home before deed → Contains (program_by author deed) b → IsOwn is_look home b.request
    program-own author (BeganProgram q stamp) b begins h = subst (λ (c : BegunRequest). IsOwn is_look home c.request) (only (record { author = author; request = q; stamp = stamp }) b h) begins.own
    program-own author (BeganTx q stamp) b begins h = absurd (has_none b h)
    program-own author (Sent q messages) b begins h = absurd (has_none b h)
    program-own author (Nop to number stamp low) b begins h = absurd (has_none b h)
    program-own author (Heard clock) b begins h = absurd (has_none b h)
    program-own author (Raised epoch) b begins h = absurd (has_none b h)
    program-own author (Finished q) b begins h = absurd (has_none b h)

  -- a list of lists has each of its members at some place
  list-place : {A : Type 0} (xss : List (List A)) (xs : List A) → Contains xss xs → (i : ℕ) × (slice_index_or xss i [] ≡ xs)
  list-place [] xs h = absurd (has_none xs h)
  list-place (ys ∷ xss) xs h = elim (has_read ys xss xs h) [
    | inl same ↦ (0, same)
    | inr more ↦ (let rest = list-place xss xs more in (suc rest.0, rest.1))
  ]

  stamp-by : (author : ℕ) (deed : GateDeed) (b : BegunRequest) → Contains (program_by author deed) b → Contains (stamps_by deed) b.stamp
  stamp-by author (BeganProgram q stamp) b k = subst (λ (x : BegunRequest). Contains (stamp ∷ []) x.stamp) (only (record { author = author; request = q; stamp = stamp }) b k) (has_head stamp [])
  stamp-by author (BeganTx q stamp) b k = absurd (has_none b k)
  stamp-by author (Sent q messages) b k = absurd (has_none b k)
  stamp-by author (Nop to number stamp low) b k = absurd (has_none b k)
  stamp-by author (Heard clock) b k = absurd (has_none b k)
  stamp-by author (Raised epoch) b k = absurd (has_none b k)
  stamp-by author (Finished q) b k = absurd (has_none b k)

  program-stamp : (log : List GateEntry) (b : BegunRequest) → Contains (programs_of log) b → Contains (stamps_of log) b.stamp
  program-stamp log b h =
      let from = flat_has (λ (e : GateEntry). program_by e.author e.deed) log b h in
      has_flat (λ (e : GateEntry). stamps_by e.deed) log from.0 b.stamp from.1 (stamp-by from.0.author from.0.deed b from.2)

  module _ (account : Account) (is : IsAccount script account) (program : Program) (look : request.work ≡ Look program) where
    at-its-own : (b : BegunRequest) (home : ℕ) → IsTrue (b.request == r) → Contains (begun_in (gate_log account home)) b → Contains (programs_of (gate_log account request.gate)) b
    at-its-own b home same h =
        let from = flat_has (λ (e : GateEntry). begun_by e.author e.deed) (gate_log account home) b h in
        let cut = cut_at (gate_log account home) from.0 from.1 in
        let begins = is.gatekeepers.begins home cut.before from.0 cut.after cut.is in
        let at : request_at script b.request ≡ Some request = ap (request_at script) (eqb-true b.request r same) ∙ request-is in
        elim (Contains-append_cases (tx_by from.0.author from.0.deed) (program_by from.0.author from.0.deed) b from.2) [
          | inl tx ↦ no-change home b (subst (λ o. IsTrue (is_some_and (λ (q : Request). (q.gate == home) && is_change q.work) o)) at (tx-own account home cut.before from.0.author from.0.deed b begins tx))
          | inr one ↦
              let own = subst (λ o. IsTrue (is_some_and (λ (q : Request). (q.gate == home) && is_look q.work) o)) at (program-own account home cut.before from.0.author from.0.deed b begins one) in
              let gate : request.gate ≡ home = eqb-true request.gate home (and_parts (request.gate == home) (is_look request.work) own).0 in
              subst (λ n. Contains (programs_of (gate_log account n)) b) (sym gate) (has_flat (λ (e : GateEntry). program_by e.author e.deed) (gate_log account home) from.0 b from.1 one)
        ]
      where
        no-change : (home : ℕ) (b : BegunRequest) → IsTrue ((request.gate == home) && is_change request.work) → Contains (programs_of (gate_log account request.gate)) b
        no-change home b h = absurd (let change : IsTrue (is_change (Look program)) = subst (λ w. IsTrue (is_change w)) look (and_parts (request.gate == home) (is_change request.work) h).1 in cc)

    reading-of : (b : BegunRequest) → IsTrue (b.request == r) → Contains (programs_of (gate_log account request.gate)) b → IsReading script r request.gate account
    reading-of b same there = at (program_begun r (gate_log account request.gate)) refl
      where
        at : (o : Option BegunRequest) → program_begun r (gate_log account request.gate) ≡ o → IsReading script r request.gate account
        at None e = absurd (find_lacks (λ (k : BegunRequest). k.request == r) (programs_of (gate_log account request.gate)) b e there same)
        at (Some k) e = record {
          request = request;
          program = program;
          begun = k;
          request_is = request-is;
          gate_is = refl;
          work_is = look;
          begun_is = e;
          stamped = program-stamp (gate_log account request.gate) k (find_has (λ (q : BegunRequest). q.request == r) (programs_of (gate_log account request.gate)) k e).0;
        }

    -- a program that has begun in its session has begun at its gatekeeper, with a stamp that this one made
    pub is-reading : has_begun account r request ≡ true → IsReading script r request.gate account
    is-reading begun =
        let some = any_has (λ (b : ℕ × Stamp). b.0 == r) (begins_in (session_log account request.session)) begun in
        by (find (λ (b : ℕ × Stamp). b.0 == r) (begins_in (session_log account request.session))) refl some.0 some.1 some.2
      where
        at : (o : Option BegunRequest) → find (λ (b : BegunRequest). b.request == r) (all_begun account) ≡ o → (s : Stamp) → option_map (λ (b : BegunRequest). b.stamp) o ≡ Some s → IsReading script r request.gate account
        at None e s some = cc
        at (Some b) e s some =
            let found = find_has (λ (k : BegunRequest). k.request == r) (all_begun account) b e in
            let log = flat_has begun_in account.gates b found.0 in
            let home = list-place account.gates log.0 log.1 in
            reading-of b found.1 (at-its-own b home.0 found.1 (subst (λ l. Contains (begun_in l) b) (sym home.1) log.2))

        by : (o : Option (ℕ × Stamp)) → find (λ (b : ℕ × Stamp). b.0 == r) (begins_in (session_log account request.session)) ≡ o → (x : ℕ × Stamp) → Contains (begins_in (session_log account request.session)) x → IsTrue (x.0 == r) → IsReading script r request.gate account
        by None e x has same = absurd (find_lacks (λ (b : ℕ × Stamp). b.0 == r) (begins_in (session_log account request.session)) x e has same)
        by (Some b) e x has same =
            at (find (λ (k : BegunRequest). k.request == r) (all_begun account)) refl b.1
            (sym (is.sessions.stamps r request request-is) ∙ ap (option_map (λ (begun : ℕ × Stamp). begun.1)) e)

  -- Answered

  -- if it has its reply, as all before it had, and none is in flight, all below the next number are answered
  pub answered-next : (old new : Account) → GoesOn old new → AreReplied script r old → NoneInFlight new → has_reply new r request ≡ true → (n : ℕ) → n ≡ r + 1 → AreAnsweredBelow script n new
  answered-next old new on replied quiet has n n-is = record {
    quiet = quiet;
    replied = λ q asked below asked-is. elim (cases_eq q r) [
      | inl same ↦
          let one : Some request ≡ Some asked = sym request-is ∙ ap (request_at script) (sym same) ∙ asked-is in
          let is : request ≡ asked = cc in
          subst (λ k. has_reply new k asked ≡ true) (sym same) (subst (λ (k : Request). has_reply new r k ≡ true) is has)
      | inr other ↦ still-replied old new on q asked (replied q asked (omega (arith, below, other, n-is)) asked-is)
    ];
  }

-- One request in its turn

module _ (laws : LawsForDriving) (old first : CoreView) (r : ℕ) (request : Request) (request-is : request_at old.script r ≡ Some request) (cores : AreCores old first) (a : StepAnswer) (did : DoesStep (Begin r) old first a)
    (answered : AreAnsweredBelow old.script r old.state.account) where
  -- after `begin` in its turn the request has begun, and no transaction but this one is in flight
  pub first-begins : Begins laws old.script cores.limits r request request-is first.state.account
  first-begins = subst (λ (s : CoreState). Begins laws old.script cores.limits r request request-is s.account) (sym did.state_is)
      (begun-now laws old.script cores.limits r request request-is old.state cores.before answered.quiet answered.replied)

  -- a program's begin leaves the core quiet
  pub first-quiet : is_change request.work ≡ false → NoneInFlight first.state.account
  first-quiet look g = elim (cases_eq g request.gate) [
    | inl same ↦ subst (λ k. flight_of (gate_log first.state.account k) ≡ None) (sym same) (by request.work refl look)
    | inr other ↦ first-begins.others g other
  ]
    where
      by : (work : Work) → request.work ≡ work → is_change work ≡ false → flight_of (gate_log first.state.account request.gate) ≡ None
      by (Change ops) e f = cc
      by (Look program) e f = first-begins.program program e

  -- after a program's begin, the program is to be read at its gatekeeper
  pub first-reading : is_change request.work ≡ false → IsReading first.script r request.gate first.state.account
  first-reading look = subst (λ s. IsReading s r request.gate first.state.account) (sym did.script_is) (by request.work refl look)
    where
      by : (work : Work) → request.work ≡ work → is_change work ≡ false → IsReading old.script r request.gate first.state.account
      by (Change ops) e f = cc
      by (Look program) e f = is-reading laws old.script cores.limits r request request-is first.state.account cores.after.account program e first-begins.has

  -- after `begin` in its turn the logs go on from those before
  pub first-on : GoesOn old.state.account first.state.account
  first-on = subst (λ (s : CoreState). GoesOn old.state.account s.account) (sym did.state_is) (laws.goes_on old.script old.state (Begin r) cores.limits (get-inside old.script.requests r request request-is) cores.before)

  module _ (middle : CoreView) (drives : Drives 0 first middle) where
    middle-on : GoesOn first.state.account middle.state.account
    middle-on = drives-on 0 laws first middle (subst IsWithinLimits (sym did.script_is) cores.limits) (subst (λ s. IsCore s first.state) (sym did.script_is) cores.after) drives

    middle-core : IsCore old.script middle.state
    middle-core = subst (λ s. IsCore s middle.state) did.script_is (drives-core 0 first middle (subst (λ s. IsCore s first.state) (sym did.script_is) cores.after) drives)

    -- once the flight at its gatekeeper has ended there is none
    pub middle-quiet : flight_of (gate_log middle.state.account request.gate) ≡ None → NoneInFlight middle.state.account
    middle-quiet ended g = elim (cases_eq g request.gate) [
      | inl same ↦ subst (λ k. flight_of (gate_log middle.state.account k) ≡ None) (sym same) ended
      | inr other ↦ drives-quiet-at first middle drives g (first-begins.others g other)
    ]

    middle-begun : has_begun middle.state.account r request ≡ true
    middle-begun = still-begun first.state.account middle.state.account middle-on r request first-begins.has

    -- once the core is quiet, a begun transaction counts as answered
    pub middle-sent : IsTrue (is_change request.work) → NoneInFlight middle.state.account → is_answered middle.state.account r request request.work ≡ true
    middle-sent change quiet = sent-when-quiet laws old.script cores.limits r request request-is middle.state middle-core quiet change middle-begun

    -- a program that has no next vertex to read counts as answered
    pub middle-read : is_change request.work ≡ false → HasNoNextVertex middle.script r middle.state.account → is_answered middle.state.account r request request.work ≡ true
    middle-read look whole = read-when-whole laws old.script cores.limits r request request-is middle.state.account (subst (λ s. HasNoNextVertex s r middle.state.account) (drives.script_is ∙ did.script_is) whole) look

    -- in a quiet core, once a request counts as answered, `reply` leaves all requests up to it answered
    pub last-answered : (last : CoreView) (b : StepAnswer) → NoneInFlight middle.state.account → is_answered middle.state.account r request request.work ≡ true
        → DoesStep (Reply r) middle last b → Drives 0 middle last → AreAnsweredBelow old.script (r + 1) last.state.account
    last-answered last b quiet ended replied on-drives =
        let same : middle.script ≡ old.script = drives.script_is ∙ did.script_is in
        let last-is : last.state ≡ state_after old.script middle.state (Reply r) = replied.state_is ∙ ap (λ s. state_after s middle.state (Reply r)) same in
        let step-goes = laws.goes_on old.script middle.state (Reply r) cores.limits (get-inside old.script.requests r request request-is) middle-core in
        let on : GoesOn middle.state.account last.state.account = subst (λ (s : CoreState). GoesOn middle.state.account s.account) (sym last-is) step-goes in
        answered-next laws old.script cores.limits r request request-is middle.state.account last.state.account on
        (λ q asked below asked-is. still-replied first.state.account middle.state.account middle-on q asked (still-replied old.state.account first.state.account first-on q asked (answered.replied q asked below asked-is)))
        (drives-quiet middle last on-drives quiet)
        (subst (λ (s : CoreState). has_reply s.account r request ≡ true) (sym last-is) (replied-now laws old.script cores.limits r request request-is middle.state middle-core middle-begun ended step-goes))
        (r + 1) refl

-- a begin of this request is one below the next
pub begins-below : (r : ℕ) → IsTrue (is_driving (r + 1) (Begin r))
begins-below r = lt-ltb r (r + 1) (omega arith)

-- The loop

-- a core driven to where none is in flight and the first n requests have replies has answered these requests
pub answers-from : (upto n : ℕ) (old new : CoreView) → Drives upto old new → NoneInFlight new.state.account → AreReplied new.script n new.state.account → AnswersBelow upto n old new
answers-from upto n old new drives quiet replied = record {
  drives = drives;
  answered = record { quiet = quiet; replied = subst (λ (s : Script). AreReplied s n new.state.account) drives.script_is replied };
}

-- and if it is driven on to where the first m requests are answered, it has answered these
pub answers-next : (upto n : ℕ) (old middle new : CoreView) (m : ℕ) → AnswersBelow upto n old middle → Drives upto middle new → AreAnsweredBelow middle.script m new.state.account → AnswersBelow upto m old new
answers-next upto n old middle new m before drives answered = record {
  drives = drives-through upto old middle new before.drives drives;
  answered = subst (λ (s : Script). AreAnsweredBelow s m new.state.account) before.drives.script_is answered;
}

-- if these are all requests below the bound, each request below it has its reply
pub answers-all : (upto n : ℕ) (old new : CoreView) → upto ≤ n → AnswersBelow upto n old new → AreReplied old.script upto new.state.account
answers-all upto n old new all a r request below is = a.answered.replied r request (omega (arith, below, all)) is
