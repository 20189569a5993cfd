-- A program that is begun has read nothing, and is running.
-- Used by `begin_program`, AfterSteps, StepValues and Waiting.
use Rattle.std.proofs.Common.{◌≡◌, ◌≢◌, ℕ, ◌<◌, ◌≤◌, ◌-◌, Bool, true, false, List, [], ◌∷◌, ◌++◌, map, take, filter, AllPairs, Contains, None, Some, inl, inr, refl, sym, ap, subst, ◌∙◌, arith}
use Rattle.std.specs.Prelude.{◌==◌, cond, if◌then◌else◌}
use Rattle.std.specs.List.{find, flat_map, list_any}
use Rattle.std.specs.Option.{option_map}
use Rattle.std.proofs.lemmas.Bool.{both_ways, cases_Bool, eq-eqb, eqb-true, le-ltb, ltb-false}
use Rattle.std.proofs.lemmas.Grind.{fold-append}
use Rattle.std.proofs.lemmas.List.{append-nil, get_or-set_same}
use Rattle.std.proofs.lemmas.List.Concat.{flat_map-append}
use Rattle.std.proofs.lemmas.Option.{get_or_from_slice_get, none-some}
use Rattle.weave_data.proofs.Members.{cut_at, flat_has, has_head, has_none, has_tail, only}
use Rattle.weave_data.proofs.Ordered.{find_by_key}
use Rattle.weave_data.specs.declared.name.Name.{Name}
use Rattle.vector_stamp.specs.declared.clock.Stamp.{Stamp}
use Rattle.graph_ops.specs.Operations.{State}
use Rattle.program_defs.specs.Works.{is_look}
use Rattle.program_defs.specs.declared.program.Program.{Program}
use Rattle.program_defs.specs.declared.script.Request.{Request}
use Rattle.program_defs.specs.declared.script.Script.{Script}
use Rattle.program_defs.specs.declared.script.Step.TheVariants.{Begin}
use Rattle.program_defs.specs.declared.script.Work.{Work}
use Rattle.report_rules.specs.Lookups.{request_at}
use Rattle.report_rules.specs.declared.report.StepAnswer.{StepAnswer}
use Rattle.report_rules.specs.declared.report.StepAnswer.TheVariants.{Ok, Twice, Early, Busy, Idle, Old, Unknown, Repeat, Empty, Waits, Again}
use Rattle.weave_entries.specs.declared.gate_log.GateEntry.{GateEntry}
use Rattle.weave_entries.specs.declared.gate_log.GateDeed.TheVariants.{BeganProgram}
use Rattle.weave_entries.specs.declared.session_log.SessionEntry.{SessionEntry}
use Rattle.weave_entries.specs.declared.session_log.SessionDeed.TheVariants.{Begun as BegunDeed}
use Rattle.weave_entries.specs.declared.shard_log.ShardEntry.{ShardEntry}
use Rattle.weave_entries.specs.declared.shard_log.ShardDeed.{ShardDeed}
use Rattle.weave_entries.specs.declared.shard_log.ShardDeed.TheVariants.{Arrived, Applied, Visited, Collected}
use Rattle.weave_entries.specs.GateReplay.{BegunRequest, program_begun, program_by, programs_of}
use Rattle.weave_entries.specs.SessionReplay.{SessionState, begin_by, begins_in, has_reply_in, replied_count, replied_in, reply_by, session_after, session_of, session_start, session_stamp_of}
use Rattle.weave_entries.specs.ShardReplay.{Visit, reads_in, state_of_updates, updates_of, visit_by, visits_of}
use Rattle.weave_account.specs.declared.account.Account.{Account}
use Rattle.weave_account.specs.Account.{all_begun, gate_log, is_ended, reads_of, session_log, shard_log, stamp_of}
use Rattle.weave_account.specs.IsAccount.{IsAccount}
use Rattle.weave_account.specs.Sessions.{requests_of_session}
use Rattle.weave_account.specs.Shards.{ShardFitsAs}
use Rattle.step_rules.specs.Answers.{answer_of, answer_of_begin, for_request}
use Rattle.step_rules.specs.CoreState.{CoreState}
use Rattle.step_rules.specs.Entries.{after_begin, at_request, begin_deed, stamp_to_begin, state_with}
use Rattle.step_rules.specs.Requests.{finds_flight, has_begun, last_begun, waits_for_earlier}
use Rattle.step_rules.specs.Trace.{is_ok, state_after}
use Rattle.path_program.specs.AnyPrograms.{HasRead, any_of}
use Rattle.path_program.specs.declared.any.AnyProgram.{AnyProgram}
use Rattle.program_defs.specs.Agreement.{AreSameReads}
use Rattle.weaver_core.specs.Cores.{AreOf, MachinesDo, MachinesView}
use Rattle.weaver_core.specs.Staying.{StayLaws}
use Rattle.weaver_core.specs.Walks.{IsLookAt, IsRunningIn}
use Rattle.weaver_core.proofs.CanVisit.{inside}
use Rattle.weaver_core.proofs.Idle.{not-begun}
use Rattle.weaver_core.proofs.NoStamp.{any-none}
use Rattle.weaver_core.proofs.Turns.{SessionLaws, begun-is, place-of, reply-is}

-- Lists

-- if none of a list passes a test, but an element added at its end does, this one is found
pub find-last : {A : Type 0} (p : A → Bool) (xs : List A) (x : A) → find p xs ≡ None → p x ≡ true → find p (xs ++ x ∷ []) ≡ Some x
find-last p [] x none is = ap (λ b. cond b (Some x) None) is
find-last p (y ∷ xs) x none is = elim (p y) as (λ b. cond b (Some y) (find p xs) ≡ None → cond b (Some y) (find p (xs ++ x ∷ [])) ≡ Some x) [
  | true ↦ λ h. absurd (none-some y (sym h))
  | false ↦ λ h. find-last p xs x h is
] none

none-left : {A : Type 0} (p : A → Bool) (xs : List A) → ((x : A) → Contains xs x → p x ≡ false) → filter p xs ≡ []
none-left p [] none = refl
none-left p (x ∷ xs) none =
    ap (λ b. cond b (x ∷ filter p xs) (filter p xs)) (none x (has_head x xs)) ∙ none-left p xs (λ y h. none y (has_tail x xs y h))

flat-none : {A B : Type 0} (f : A → List B) (xs : List A) → ((x : A) → Contains xs x → f x ≡ []) → flat_map f xs ≡ []
flat-none f [] none = refl
flat-none f (x ∷ xs) none = (λ i. none x (has_head x xs) i ++ flat-none f xs (λ y h. none y (has_tail x xs y h)) i)

-- A request that has no stamp was read for by no one

-- a session has at most as many replies as begun requests
pub few-replied : (session : SessionState) → replied_count session ≤ session.begun
few-replied s = by s.waits
  where
    by : (b : Bool) → (if b then s.begun - 1 else s.begun) ≤ s.begun
    by true = omega arith
    by false = omega arith

module _ (script : Script) (account : Account) (is : IsAccount script account) (r : ℕ) (none : stamp_of account r ≡ None) where
  -- a program that was begun has a stamp
  begun-not : (home : ℕ) (b : BegunRequest) → Contains (programs_of (gate_log account home)) b → b.request ≢ r
  begun-not home b h same = stamped (inside b account.gates home h)
    where
      stamped : Contains (all_begun account) b → ⊥
      stamped there =
          let known : stamp_of account b.request ≡ Some b.stamp = ap (option_map (λ (one : BegunRequest). one.stamp)) (find_by_key (λ (one : BegunRequest). one.request) (all_begun account) b is.gatekeepers.once there) in
          none-some b.stamp (sym none ∙ ap (stamp_of account) (sym same) ∙ known)

  visit-not : (shard : ℕ) (before : List ShardEntry) (author : ℕ) (deed : ShardDeed) (visit : Visit) → ShardFitsAs script account shard before deed → Contains (visit_by author deed) visit → (visit.request == r) ≡ false
  visit-not shard before author (Arrived home number message) visit fits h = absurd (has_none visit h)
  visit-not shard before author (Applied home number) visit fits h = absurd (has_none visit h)
  visit-not shard before author (Collected bound) visit fits h = absurd (has_none visit h)
  visit-not shard before author (Visited q stamp v updates settled) visit fits h = elim (cases_Bool (visit.request == r)) [
    | inl same ↦
        let one = only (record { author = author; request = q; stamp = stamp; vertex = v; updates = updates; settled = settled }) visit h in
        absurd (begun-not fits.home (record { author = fits.author; request = q; stamp = stamp }) fits.begun (ap (λ (w : Visit). w.request) one ∙ eqb-true visit.request r same))
    | inr differ ↦ differ
  ]

  none-in : (log : List ShardEntry) → Contains account.shards log → reads_in r log ≡ []
  none-in log h =
      let place = place-of account.shards log h in
      let log-is : shard_log account place.0 ≡ log = get_or_from_slice_get account.shards place.0 log [] place.1 in
      ap (map (λ (visit : Visit). (visit.vertex, state_of_updates (take visit.updates (updates_of visit.vertex log))))) (none-left (λ (visit : Visit). visit.request == r) (visits_of log) (λ visit has.
      let from = flat_has (λ (entry : ShardEntry). visit_by entry.author entry.deed) log visit has in
      let cut = cut_at log from.0 from.1 in
      visit-not place.0 cut.before from.0.author from.0.deed visit (is.shards.deeds place.0 cut.before from.0 cut.after (log-is ∙ cut.is)) from.2))

  -- a request that has no stamp has read nothing
  pub none-read : reads_of account r ≡ []
  none-read = flat-none (reads_in r) account.shards none-in

-- The begin of a program

module _ (stay : StayLaws) (sessions : SessionLaws) (rise : (script : Script) (session : ℕ) → AllPairs (λ (a b : ℕ). a < b) (requests_of_session script session))
    (among : (script : Script) (q : ℕ) (asked : Request) → request_at script q ≡ Some asked → Contains (requests_of_session script asked.session) q)
    (script : Script) (old : MachinesView) (are : AreOf script old) (r : ℕ) (program : Program) (look : IsLookAt script r program) (ok : answer_of script old.state (Begin r) ≡ Ok) where
  abbrev account : Account
  account = old.state.account

  abbrev request : Request
  request = look.request

  abbrev session : List SessionEntry
  session = session_log account request.session

  abbrev stamp : Stamp
  stamp = stamp_to_begin account request

  abbrev next : Account
  next = after_begin account r request

  -- it has not begun
  new : has_begun account r request ≡ false
  new = by (has_begun account r request) refl (sym (ap (for_request (answer_of_begin script account r)) look.request_is) ∙ ok)
    where
      by : (b : Bool) → has_begun account r request ≡ b → (if b then Twice else (if waits_for_earlier script account r request then Early else (if finds_flight account request then Busy else Ok))) ≡ Ok → has_begun account r request ≡ false
      by true e h = absurd (let f : Twice ≡ Ok = h in cc)
      by false e h = e

  no-begin : find (λ (begun : ℕ × Stamp). begun.0 == r) (begins_in session) ≡ None
  no-begin = any-none (λ (begun : ℕ × Stamp). begun.0 == r) (begins_in session) new

  unstamped : stamp_of account r ≡ None
  unstamped = sym (are.core.account.sessions.stamps r request look.request_is) ∙ ap (option_map (λ (begun : ℕ × Stamp). begun.1)) no-begin

  -- so it has no reply
  no-reply : has_reply_in r session ≡ false
  no-reply =
      let requests = requests_of_session script request.session in
      let right = are.core.account.sessions.logs request.session in
      let place = place-of requests r (among script r request look.request_is) in
      let state = session_of requests session in
      let past = ltb-false place.0 state.begun (sym (begun-is sessions request.session requests session right (rise script request.session) place.0 r place.1) ∙ new) in
      let less = few-replied state in
      reply-is sessions request.session requests session right (rise script request.session) place.0 r place.1 ∙ le-ltb place.0 (replied_count state) (omega (arith, past, less))

  module _ (is-next : IsAccount script next) where
    session-next : session_log next request.session ≡ session ++ record { author = request.session; deed = BegunDeed r stamp } ∷ []
    session-next = let below = are.limits.sessions r request look.request_is in let all = are.core.sessions in
        get_or-set_same account.sessions request.session (session ++ record { author = request.session; deed = BegunDeed r stamp } ∷ []) [] (omega (arith, below, all))

    -- after the begin of a program its stamp is the one that its session began last
    pub last-is : last_begun next request.session ≡ Some stamp
    last-is = ap (λ (log : List SessionEntry). (session_of [] log).last) session-next
        ∙ ap (λ (s : SessionState). s.last) (fold-append (λ s (entry : SessionEntry). session_after s entry.deed) (session_start []) session (record { author = request.session; deed = BegunDeed r stamp } ∷ []))

    stamped : stamp_of next r ≡ Some stamp
    stamped = sym (is-next.sessions.stamps r request look.request_is) ∙ ap (session_stamp_of r) session-next
        ∙ ap (λ (begins : List (ℕ × Stamp)). option_map (λ (begun : ℕ × Stamp). begun.1) (find (λ (begun : ℕ × Stamp). begun.0 == r) begins))
        (flat_map-append (λ (entry : SessionEntry). begin_by entry.deed) session (record { author = request.session; deed = BegunDeed r stamp } ∷ []))
        ∙ ap (option_map (λ (begun : ℕ × Stamp). begun.1)) (find-last (λ (begun : ℕ × Stamp). begun.0 == r) (begins_in session) (r, stamp) no-begin (eq-eqb r r refl))

    begun-at-gate : program_begun r (gate_log next request.gate) ≡ Some (record { author = 0; request = r; stamp = stamp })
    begun-at-gate =
        let log = gate_log account request.gate in
        let home = are.limits.homes r request look.request_is in
        let many = are.core.account.gatekeepers.as_many in
        let b : BegunRequest = record { author = 0; request = r; stamp = stamp } in
        ap (program_begun r) (get_or-set_same account.gates request.gate (log ++ record { author = 0; deed = begin_deed r stamp request.work } ∷ []) [] (omega (arith, home, many)))
        ∙ ap (λ (work : Work). program_begun r (log ++ record { author = 0; deed = begin_deed r stamp work } ∷ [])) look.work_is
        ∙ ap (find (λ (one : BegunRequest). one.request == r)) (flat_map-append (λ (entry : GateEntry). program_by entry.author entry.deed) log (record { author = 0; deed = BeganProgram r stamp } ∷ []))
        ∙ find-last (λ (one : BegunRequest). one.request == r) (programs_of log) b (not-begun script account are.limits are.core.account r request look.request_is unstamped) (eq-eqb r r refl)

    runs : is_ended next r ≡ false
    runs = elim (cases_Bool (is_ended next r)) [
      | inl ended ↦
          let replied = (stay.replied script next are.limits is-next r request look.request_is (ap is_look look.work_is)).0 ended in
          let now : has_reply_in r (session_log next request.session) ≡ false = ap (has_reply_in r) session-next
          ∙ ap (list_any (λ one. one == r)) (flat_map-append (λ (entry : SessionEntry). reply_by entry.deed) session (record { author = request.session; deed = BegunDeed r stamp } ∷ []) ∙ append-nil (replied_in session)) ∙ no-reply in
          absurd (both_ways (has_reply_in r (session_log next request.session)) now replied)
      | inr on ↦ on
    ]

    -- with a walk of it that has read nothing, the program is running then
    pub running-begun : (walk : AnyProgram) → any_of walk ≡ program → HasRead walk [] → IsRunningIn script next r (record { request = r; stamp = stamp; walk = walk })
    running-begun walk program-is has = record {
      program = program;
      look = look;
      runs = record {
        request_is = refl;
        author = 0;
        begun = begun-at-gate;
        stamped = stamped;
        runs = runs;
        walk = record {
          program_is = program-is;
          reads = [];
          has_read = has;
          same = subst (λ (reads : List (Name × State)). AreSameReads [] reads) (sym (none-read script account are.core.account r unstamped)) (record { vertices = λ v. refl; states = λ v. refl });
        };
      };
    }

-- what a begin that was done leaves
pub begun-account : (script : Script) (state : CoreState) (r : ℕ) (asked : Request) → request_at script r ≡ Some asked → answer_of script state (Begin r) ≡ Ok → (state_after script state (Begin r)).account ≡ after_begin state.account r asked
begun-account script state r asked at ok = ap (λ (a : StepAnswer). (if is_ok a then state_with script state (Begin r) else state).account) ok ∙ ap (at_request (after_begin state.account r) state.account) at

-- the answers that are done
pub ok-is : (a : StepAnswer) → is_ok a ≡ true → a ≡ Ok
ok-is Ok e = refl
ok-is Twice e = absurd (let f : false ≡ true = e in cc)
ok-is Early e = absurd (let f : false ≡ true = e in cc)
ok-is Busy e = absurd (let f : false ≡ true = e in cc)
ok-is Idle e = absurd (let f : false ≡ true = e in cc)
ok-is Old e = absurd (let f : false ≡ true = e in cc)
ok-is Unknown e = absurd (let f : false ≡ true = e in cc)
ok-is Repeat e = absurd (let f : false ≡ true = e in cc)
ok-is Empty e = absurd (let f : false ≡ true = e in cc)
ok-is (Waits v) e = absurd (let f : false ≡ true = e in cc)
ok-is (Again s g) e = absurd (let f : false ≡ true = e in cc)

-- a `begin` that was not done leaves the state as it was
pub not-done : (script : Script) (old left : MachinesView) (r : ℕ) (a : StepAnswer) → MachinesDo script (Begin r) old left a → is_ok a ≡ false → left.state ≡ old.state
not-done script old left r a did fails = did.state_is ∙ ap (λ b. if b then state_with script old.state (Begin r) else old.state) (ap is_ok (sym did.answer_is) ∙ fails)
