-- After `begin`, `visit` and `reply` the values of the sessions are still those of the logs.
-- Used by `begin_change`, `begin_program`, `reply_to_change`, `reply_to_program` and VisitWith.
use Rattle.std.proofs.Common.{◌≡◌, ◌≢◌, ℕ, ◌<◌, Bool, true, false, List, [], ◌∷◌, ◌++◌, length, Some, inl, inr, refl, sym, ap, subst, ◌∙◌}
use Rattle.std.specs.Prelude.{◌&&◌, ◌||◌, not, slice_index_or, if◌then◌else◌}
use Rattle.std.proofs.lemmas.Bool.{cases_Bool}
use Rattle.std.proofs.lemmas.Option.{same_Some}
use Rattle.weave_data.specs.declared.name.Name.{Name}
use Rattle.graph_ops.specs.Operations.{State}
use Rattle.program_defs.specs.Agreement.{AreSameReads}
use Rattle.program_defs.specs.PlainAnswer.{IsPlainAnswer}
use Rattle.program_defs.specs.Visits.{graph_read}
use Rattle.program_defs.specs.Works.{is_change, is_look}
use Rattle.program_defs.specs.declared.program.Answer.{Answer}
use Rattle.program_defs.specs.declared.program.Program.{Program}
use Rattle.program_defs.specs.declared.script.Request.{Request}
use Rattle.program_defs.specs.declared.script.Script.{Script}
use Rattle.program_defs.specs.declared.script.Step.{Step}
use Rattle.program_defs.specs.declared.script.Step.TheVariants.{Begin, Visit, Reply}
use Rattle.program_defs.specs.declared.script.Work.TheVariants.{Look}
use Rattle.report_rules.specs.Lookups.{request_at}
use Rattle.report_rules.specs.declared.report.StepAnswer.{StepAnswer}
use Rattle.report_rules.specs.declared.report.StepAnswer.TheVariants as answer
use Rattle.weave_entries.specs.declared.session_log.SessionEntry.{SessionEntry}
use Rattle.weave_entries.specs.declared.session_log.SessionDeed.TheVariants.{Begun, Replied}
use Rattle.weave_account.specs.declared.account.Account.{Account}
use Rattle.weave_account.specs.Account.{reads_of, session_log}
use Rattle.weave_account.specs.GoesOn.{GoesOn}
use Rattle.weave_account.specs.IsAccount.{IsAccount}
use Rattle.step_rules.specs.Answers.{answer_of, answer_of_reply, for_request}
use Rattle.step_rules.specs.CoreState.{CoreState}
use Rattle.step_rules.specs.Entries.{after_begin, after_reply, at_request, stamp_to_begin, state_with}
use Rattle.step_rules.specs.Requests.{has_begun, has_reply, is_answered, last_begun}
use Rattle.step_rules.specs.Trace.{is_ok, state_after}
use Rattle.weaver_core.specs.Sessions.{SessionValues, is_open_in, values_at, with_reply_at, with_running}
use Rattle.weaver_core.specs.Cores.{AreOf, MachinesDo, MachinesView}
use Rattle.weaver_core.specs.GivingReplies.{reply_of_change}
use Rattle.weaver_core.specs.Splitting.{AreAllByLog, FinishesProgram, ValuesAfterFinish}
use Rattle.weaver_core.specs.Staying.{CoreLaws, StayLaws}
use Rattle.weaver_core.specs.Walks.{IsRunningIn}
use Rattle.weaver_core.specs.declared.walks.Running.{Running}
use Rattle.weaver_core.proofs.BegunProgram.{begun-account, ok-is}
use Rattle.weaver_core.proofs.OpenRuns.{open-runs}
use Rattle.weaver_core.proofs.ProgramsSet.{step-cases}
use Rattle.weaver_core.proofs.ProgramsStay.{StaysAt}
use Rattle.weaver_core.proofs.StepStays.{begin-log, begin-other, begin-others, reply-log, reply-other, reply-others, reply-parts, visit-others, visit-session}
use Rattle.weaver_core.proofs.StepValues.{change-begun, change-right, program-begun, program-right, program-visited, replied-values}
use Rattle.weaver_core.proofs.ValuesStay.{all-same}
use Rattle.weaver_core.proofs.VisitAfter.{account-after, request-below}

-- a step that wasn't done left the state as it was
pub rested : (script : Script) (old new : MachinesView) (step : Step) (a : StepAnswer) → MachinesDo script step old new a → is_ok a ≡ false → new.state ≡ old.state
rested script old new step a did fails = did.state_is ∙ ap (λ b. if b then state_with script old.state step else old.state) (ap is_ok (sym did.answer_is) ∙ fails)

-- the logs after a reply that was done
pub replied-account : (script : Script) (state : CoreState) (r : ℕ) (asked : Request) → request_at script r ≡ Some asked → answer_of script state (Reply r) ≡ answer.Ok → (state_after script state (Reply r)).account ≡ after_reply state.account r asked
replied-account script state r asked at ok = ap (λ (a : StepAnswer). (if is_ok a then state_with script state (Reply r) else state).account) ok ∙ ap (at_request (after_reply state.account r) state.account) at

module _ (stay : StayLaws) (core : CoreLaws) (script : Script) (old new : MachinesView) (are : AreOf script old) (r : ℕ) (request : Request) (at : request_at script r ≡ Some request)
    (values : List SessionValues) (all : AreAllByLog script old.state.account values) where
  abbrev s : ℕ
  s = request.session

  below : r < length script.requests
  below = request-below script r request at

  -- what a step that was not done leaves
  left-as-it-was : (step : Step) (a : StepAnswer) → MachinesDo script step old new a → is_ok a ≡ false → AreAllByLog script new.state.account values
  left-as-it-was step a did fails = all-same script old.state.account new.state.account (ap (λ (state : CoreState). state.account) (rested script old new step a did fails)) values all

  -- `begin`
  module _ (a : StepAnswer) (did : MachinesDo script (Begin r) old new a) where
    begun-is : is_ok a ≡ true → new.state.account ≡ after_begin old.state.account r request
    begun-is ok = ap (λ (state : CoreState). state.account) did.state_is ∙ begun-account script old.state r request at (sym did.answer_is ∙ ok-is a ok)

    begun-after : IsAccount script new.state.account × GoesOn old.state.account new.state.account
    begun-after = account-after core script old new (Begin r) are below a did

    begun-others : (q : ℕ) (one : Request) → request_at script q ≡ Some one → q ≢ r → StaysAt old.state.account new.state.account q one
    begun-others q one here other = subst (λ (state : CoreState). StaysAt old.state.account state.account q one) (sym did.state_is)
        (begin-others script old.state are.limits are.core.account are.core.sessions r request at q one other)

    begun-log : is_ok a ≡ true → session_log new.state.account s ≡ session_log old.state.account s ++ record { author = s; deed = Begun r (stamp_to_begin old.state.account request) } ∷ []
    begun-log ok = ap (λ (logs : Account). session_log logs s) (begun-is ok) ∙ begin-log script old.state are.limits are.core.account are.core.sessions r request at

    begun-other : is_ok a ≡ true → (t : ℕ) → t ≢ s → session_log new.state.account t ≡ session_log old.state.account t
    begun-other ok t other = ap (λ (logs : Account). session_log logs t) (begun-is ok) ∙ begin-other script old.state are.limits are.core.account are.core.sessions r request at t other

    -- after `begin` of a transaction the values stay those of the logs
    pub change-values : is_look request.work ≡ false → AreAllByLog script new.state.account values
    change-values changes = elim (cases_Bool (is_ok a)) [
      | inl ok ↦
          change-begun stay script old.state.account new.state.account are.limits are.core.account begun-after.0 begun-after.1 r request at values all begun-others (begun-other ok) (stamp_to_begin old.state.account request) (begun-log ok) changes
      | inr fails ↦ left-as-it-was (Begin r) a did fails
    ]

    -- after `begin` of a program they are so with the program running
    pub program-values : is_look request.work ≡ true → is_ok a ≡ true → (one : Running) → one.stamp ≡ stamp_to_begin old.state.account request → IsRunningIn script new.state.account r one → AreAllByLog script new.state.account (with_running values s (Some one))
    program-values looks ok one stamp-is runs =
        program-begun stay script old.state.account new.state.account are.limits are.core.account begun-after.0 begun-after.1 r request at values all begun-others (begun-other ok) (stamp_to_begin old.state.account request) (begun-log ok) looks one stamp-is runs

    -- if the `begin` wasn't done, values that were those of the logs are so still
    pub not-begun-values : is_ok a ≡ false → AreAllByLog script new.state.account values
    not-begun-values fails = left-as-it-was (Begin r) a did fails

  -- `visit`
  module _ (a : StepAnswer) (did : MachinesDo script (Visit r) old new a) where
    visited-after : IsAccount script new.state.account × GoesOn old.state.account new.state.account
    visited-after = account-after core script old new (Visit r) are below a did

    visited-others : (q : ℕ) (one : Request) → request_at script q ≡ Some one → q ≢ r → StaysAt old.state.account new.state.account q one
    visited-others q one here other = subst (λ (state : CoreState). StaysAt old.state.account state.account q one) (sym did.state_is)
        (visit-others script old.state are.limits are.core.account are.core.sessions r request at q one other)

    visited-log : (t : ℕ) → session_log new.state.account t ≡ session_log old.state.account t
    visited-log t = ap (λ (state : CoreState). session_log state.account t) did.state_is ∙ elim (step-cases script old.state (Visit r)) [
      | inl same ↦ ap (λ (state : CoreState). session_log state.account t) same
      | inr done ↦ ap (λ (state : CoreState). session_log state.account t) done
          ∙ ap (λ (sessions : List (List SessionEntry)). slice_index_or sessions t []) (visit-session script old.state are.limits are.core.account are.core.sessions r request at)
    ]

    -- if its session waited for it, the values with the program as it runs after `visit` are those of the logs
    pub visit-values : is_open_in r (session_log old.state.account s) ≡ true → (was one : Running) → (values_at values s).running ≡ Some was → was.request ≡ r → one.stamp ≡ was.stamp → IsRunningIn script new.state.account r one → AreAllByLog script new.state.account (with_running values s (Some one))
    visit-values waits was one was-is was-request stamp-is runs =
        program-visited stay script old.state.account new.state.account are.limits are.core.account visited-after.0 visited-after.1 r request at values all visited-others (λ t other. visited-log t) (visited-log s) waits was one was-is was-request stamp-is runs

  -- `reply`
  module _ (a : StepAnswer) (did : MachinesDo script (Reply r) old new a) where
    replied-after : IsAccount script new.state.account × GoesOn old.state.account new.state.account
    replied-after = account-after core script old new (Reply r) are below a did

    replied-others : (q : ℕ) (one : Request) → request_at script q ≡ Some one → q ≢ r → StaysAt old.state.account new.state.account q one
    replied-others q one here other = subst (λ (state : CoreState). StaysAt old.state.account state.account q one) (sym did.state_is)
        (reply-others script old.state are.limits are.core.account are.core.sessions r request at q one other)

    replied-is : is_ok a ≡ true → new.state.account ≡ after_reply old.state.account r request
    replied-is ok = ap (λ (state : CoreState). state.account) did.state_is ∙ replied-account script old.state r request at (sym did.answer_is ∙ ok-is a ok)

    replied-log : is_ok a ≡ true → session_log new.state.account s ≡ session_log old.state.account s ++ record { author = s; deed = Replied r } ∷ []
    replied-log ok = ap (λ (logs : Account). session_log logs s) (replied-is ok) ∙ reply-log script old.state are.limits are.core.account are.core.sessions r request at

    replied-other : is_ok a ≡ true → (t : ℕ) → t ≢ s → session_log new.state.account t ≡ session_log old.state.account t
    replied-other ok t other = ap (λ (logs : Account). session_log logs t) (replied-is ok) ∙ reply-other script old.state are.limits are.core.account are.core.sessions r request at t other

    -- it waited for it
    waited : is_ok a ≡ true → is_open_in r (session_log old.state.account s) ≡ true
    waited ok = by (has_begun old.state.account r request) (has_reply old.state.account r request) (is_answered old.state.account r request request.work) told
      where
        told : (if (not (has_begun old.state.account r request) || has_reply old.state.account r request || not (is_answered old.state.account r request request.work)) then answer.Idle else answer.Ok) ≡ answer.Ok
        told = sym (ap (for_request (answer_of_reply old.state.account r)) at) ∙ sym did.answer_is ∙ ok-is a ok

        by : (b w e : Bool) → (if (not b || w || not e) then answer.Idle else answer.Ok) ≡ answer.Ok → (b && not w) ≡ true
        by true false e h = refl
        by true true e h = absurd (let f : answer.Idle ≡ answer.Ok = h in cc)
        by false w e h = absurd (let f : answer.Idle ≡ answer.Ok = h in cc)

    -- after `reply` of a transaction they are so with its reply
    pub change-replied : is_change request.work ≡ true → new.values ≡ (if is_ok a then with_reply_at values s (reply_of_change old.state.account.store (last_begun old.state.account s) r) else values) → AreAllByLog script new.state.account new.values
    change-replied changes is = elim (cases_Bool (is_ok a)) [
      | inl ok ↦
          let right = change-right stay script old.state.account new.state.account are.limits are.core.account replied-after.0 replied-after.1 r request at values all replied-others (replied-other ok) (waited ok) (replied-log ok) changes
          (ap (λ (logs : Account). logs.store) (replied-is ok) ∙ (reply-parts script old.state are.limits are.core.account are.core.sessions r request).0) in
          subst (AreAllByLog script new.state.account) (sym (is ∙ ap (λ b. if b then with_reply_at values s (reply_of_change old.state.account.store (last_begun old.state.account s) r) else values) ok))
          (replied-values stay script old.state.account new.state.account are.limits are.core.account replied-after.0 replied-after.1 r request at values all replied-others (replied-other ok) (waited ok) (replied-log ok)
          (reply_of_change old.state.account.store (last_begun old.state.account s) r) refl right)
      | inr fails ↦
          subst (AreAllByLog script new.state.account) (sym (is ∙ ap (λ b. if b then with_reply_at values s (reply_of_change old.state.account.store (last_begun old.state.account s) r) else values) fails)) (left-as-it-was (Reply r) a did fails)
    ]

    -- of a program
    module _ (program : Program) (looks : request.work ≡ Look program) (plain-free : (x y : List (Name × State)) (one : Program) (result : Answer) → AreSameReads x y → IsPlainAnswer (graph_read x) one result → IsPlainAnswer (graph_read y) one result) where
      -- if the `reply` was done and finished the program, the values are those of the logs
      pub finished-values : values ≡ old.values → a ≡ answer.Ok → FinishesProgram old new s r → AreAllByLog script new.state.account new.values
      finished-values same ok-a did-it =
          let ok : is_ok a ≡ true = ap is_ok ok-a in
          let one = open-runs stay script old.state.account are.limits are.core.account values all r request at (are.limits.sessions r request at) program looks (waited ok) in
          let run-is : one.running ≡ did-it.running = same_Some one.running did-it.running (sym one.running_is ∙ ap (λ (v : List SessionValues). (values_at v s).running) same ∙ did-it.running_is) in
          let runs = subst (IsRunningIn script old.state.account r) run-is one.runs in
          let shards = ap (λ (logs : Account). reads_of logs r) (replied-is ok) ∙ (reply-parts script old.state are.limits are.core.account are.core.sessions r request).1 in
          let right = program-right stay script old.state.account new.state.account are.limits are.core.account replied-after.0 replied-after.1 r request at values all replied-others (replied-other ok) (waited ok) (replied-log ok) program looks did-it.running runs did-it.reply did-it.is_reply shards plain-free in
          subst (AreAllByLog script new.state.account) (sym (did-it.values ∙ ap (λ (v : List SessionValues). with_reply_at v s did-it.reply) (sym same)))
          (replied-values stay script old.state.account new.state.account are.limits are.core.account replied-after.0 replied-after.1 r request at values all replied-others (replied-other ok) (waited ok) (replied-log ok)
          did-it.reply (did-it.is_reply.request_is ∙ did-it.request_is) right)

      unfinished-values : is_ok a ≡ false → new.values ≡ values → AreAllByLog script new.state.account new.values
      unfinished-values fails is = subst (AreAllByLog script new.state.account) (sym is) (left-as-it-was (Reply r) a did fails)

      by-answer : (b : StepAnswer) → a ≡ b → values ≡ old.values → ValuesAfterFinish old new s r b → AreAllByLog script new.state.account new.values
      by-answer answer.Ok is same after = finished-values same is after
      by-answer answer.Idle is same after = unfinished-values (ap is_ok is) (after ∙ sym same)
      by-answer answer.Twice is same after = unfinished-values (ap is_ok is) (after ∙ sym same)
      by-answer answer.Early is same after = unfinished-values (ap is_ok is) (after ∙ sym same)
      by-answer answer.Busy is same after = unfinished-values (ap is_ok is) (after ∙ sym same)
      by-answer answer.Old is same after = unfinished-values (ap is_ok is) (after ∙ sym same)
      by-answer answer.Unknown is same after = unfinished-values (ap is_ok is) (after ∙ sym same)
      by-answer answer.Repeat is same after = unfinished-values (ap is_ok is) (after ∙ sym same)
      by-answer answer.Empty is same after = unfinished-values (ap is_ok is) (after ∙ sym same)
      by-answer (answer.Waits v) is same after = unfinished-values (ap is_ok is) (after ∙ sym same)
      by-answer (answer.Again x y) is same after = unfinished-values (ap is_ok is) (after ∙ sym same)

      -- whatever the `reply` answered, the values that it leaves are those of the logs
      pub program-replied : values ≡ old.values → ValuesAfterFinish old new s r a → AreAllByLog script new.state.account new.values
      program-replied same after = by-answer a refl same after
