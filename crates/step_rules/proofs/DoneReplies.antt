-- A request has its reply exactly if a `reply` of it was done.
-- Used by `replies_finish_programs` and ReportedReplies.
use Rattle.std.proofs.Common.{◌≡◌, ◌≢◌, ℕ, ◌+◌, ◌<◌, Bool, true, false, cond, List, [], ◌∷◌, ◌++◌, length, Contains, IsTrue, Option, None, Some, ◌⊎◌, inl, inr, refl, sym, ap, subst, ◌∙◌, get_or, get_or-set_same, get_or-set_other, arith}
use Rattle.std.specs.Prelude.{◌↔◌, slice_set}
use Rattle.std.specs.List.{zip}
use Rattle.std.proofs.lemmas.Bool.{both_ways, cases_eq}
use Rattle.std.proofs.lemmas.Option.{none-some, same_Some}
use Rattle.std.proofs.lemmas.List.{length-append, length-replicate, length-set}
use Rattle.std.proofs.lemmas.List.Elements.{Contains-append_left, Contains-append_right, Contains-append_cases}
use Rattle.std.proofs.lemmas.List.Sums.{fold-append}
use Rattle.weave_data.proofs.Ends.{by_last, flat_push}
use Rattle.weave_data.proofs.Members.{has_head, has_last, has_none, only}
use Rattle.weave_data.specs.declared.name.Name.{Name}
use Rattle.vector_stamp.specs.declared.clock.Clock.{Clock}
use Rattle.shard_queue.specs.Outbox.{sent_as}
use Rattle.program_defs.specs.declared.script.Request.{Request}
use Rattle.program_defs.specs.declared.script.Script.{Script}
use Rattle.program_defs.specs.declared.script.Step.{Step}
use Rattle.program_defs.specs.declared.script.Step.TheVariants.{Begin, Judge, Send, Say, Hear, Nop, Deliver, Apply, Visit, Reply, Collect, Epoch, Restart}
use Rattle.program_defs.specs.declared.script.Work.{Work}
use Rattle.program_defs.specs.declared.script.Work.TheVariants.{Change, Look}
use Rattle.program_defs.specs.Limits.{IsWithinLimits}
use Rattle.report_rules.specs.Lookups.{request_at}
use Rattle.report_rules.specs.declared.report.StepAnswer.{StepAnswer}
use Rattle.report_rules.specs.declared.report.StepAnswer.TheVariants.{Ok}
use Rattle.weave_entries.specs.declared.message.Message.{Message}
use Rattle.weave_entries.specs.declared.session_log.SessionEntry.{SessionEntry}
use Rattle.weave_entries.specs.declared.session_log.SessionDeed.TheVariants as session
use Rattle.weave_entries.specs.GateReplay.{BegunRequest, channel_of, flight_of, program_begun}
use Rattle.weave_entries.specs.SessionReplay.{has_reply_in, replied_in, reply_by}
use Rattle.weave_entries.specs.StoreReplay.{Judgement}
use Rattle.weave_account.specs.declared.account.Account.{Account}
use Rattle.weave_account.specs.Account.{gate_log, session_log}
use Rattle.step_rules.specs.CoreState.{CoreState}
use Rattle.step_rules.specs.Answers.{answer_of}
use Rattle.step_rules.specs.Entries.{account_with, after_begin, after_deliver, after_hear, after_judge, after_reply, after_send, after_visit, after_work, at_request, judgement_in_flight, stamp_to_begin, state_with, with_finish}
use Rattle.step_rules.specs.Finishing.{IsReplyDone}
use Rattle.step_rules.specs.LowerLaws.{LawsForSteps}
use Rattle.step_rules.specs.Requests.{has_ended, has_reply, next_vertex}
use Rattle.step_rules.specs.Trace.{TraceState, is_ok, state_after, trace_of, trace_start, traced_after}
use Rattle.step_rules.proofs.Stepping.{ok-is}
use Rattle.weave_account.proofs.Starting.{none-at}

-- The logs of sessions, of which one has one more entry

module _ (laws : LawsForSteps) (sessions : List (List SessionEntry)) (s : ℕ) (within : s < length sessions) (entry : SessionEntry) where
  abbrev log : List SessionEntry
  log = get_or sessions s []

  abbrev more : List (List SessionEntry)
  more = slice_set sessions s (log ++ entry ∷ [])

  -- in that log the entry may make a reply
  pushed-has : (q : ℕ) → IsTrue (has_reply_in q (log ++ entry ∷ [])) → IsTrue (has_reply_in q log) ⊎ Contains (reply_by entry.deed) q
  pushed-has q h =
      elim (Contains-append_cases (replied_in log) (reply_by entry.deed) q
      (subst (λ rs. Contains rs q) (flat_push (λ (e : SessionEntry). reply_by e.deed) log entry) ((laws.logs.session_replied q (log ++ entry ∷ [])).0 h))) [
        | inl before ↦ inl ((laws.logs.session_replied q log).1 before)
        | inr new ↦ inr new
      ]

  has-pushed : (q : ℕ) → Contains (replied_in log ++ reply_by entry.deed) q → IsTrue (has_reply_in q (log ++ entry ∷ []))
  has-pushed q h = (laws.logs.session_replied q (log ++ entry ∷ [])).1 (subst (λ rs. Contains rs q) (sym (flat_push (λ (e : SessionEntry). reply_by e.deed) log entry)) h)

  here : get_or more s [] ≡ log ++ entry ∷ []
  here = get_or-set_same sessions s (log ++ entry ∷ []) [] within

  -- and in each log a reply is there if it was there, or is the entry's
  more-has : (q i : ℕ) → IsTrue (has_reply_in q (get_or more i [])) → IsTrue (has_reply_in q (get_or sessions i [])) ⊎ ((i ≡ s) × Contains (reply_by entry.deed) q)
  more-has q i h = elim (cases_eq i s) [
    | inr other ↦ inl (subst (λ l. IsTrue (has_reply_in q l)) (get_or-set_other sessions s i (log ++ entry ∷ []) [] other) h)
    | inl same ↦ elim (pushed-has q (subst (λ l. IsTrue (has_reply_in q l)) (ap (λ n. get_or more n []) same ∙ here) h)) [
      | inl before ↦ inl (subst (λ n. IsTrue (has_reply_in q (get_or sessions n []))) (sym same) before)
      | inr new ↦ inr (same, new)
    ]
  ]

  has-more : (q i : ℕ) → IsTrue (has_reply_in q (get_or sessions i [])) ⊎ ((i ≡ s) × Contains (reply_by entry.deed) q) → IsTrue (has_reply_in q (get_or more i []))
  has-more q i (inr new) = subst (λ n. IsTrue (has_reply_in q (get_or more n []))) (sym new.0) (subst (λ l. IsTrue (has_reply_in q l)) (sym here) (has-pushed q (Contains-append_right (replied_in log) (reply_by entry.deed) q new.1)))
  has-more q i (inl before) = elim (cases_eq i s) [
    | inr other ↦ subst (λ l. IsTrue (has_reply_in q l)) (sym (get_or-set_other sessions s i (log ++ entry ∷ []) [] other)) before
    | inl same ↦ subst (λ n. IsTrue (has_reply_in q (get_or more n []))) (sym same) (subst (λ l. IsTrue (has_reply_in q l)) (sym here)
        (has-pushed q (Contains-append_left (replied_in log) (reply_by entry.deed) q ((laws.logs.session_replied q log).0 (subst (λ n. IsTrue (has_reply_in q (get_or sessions n []))) same before)))))
  ]

-- Steps

-- there are as many sessions as before; a request has its reply if and only if it had it, or this is so of it
record AddsReplies (script : Script) (account next : Account) (IsNew : ℕ → Type 0) : Type 0 where
  pub many : length next.sessions ≡ length account.sessions
  pub has : (q : ℕ) (request : Request) → request_at script q ≡ Some request → IsTrue (has_reply next q request) → IsTrue (has_reply account q request) ⊎ IsNew q
  pub from : (q : ℕ) (request : Request) → request_at script q ≡ Some request → IsTrue (has_reply account q request) ⊎ IsNew q → IsTrue (has_reply next q request)

-- the sessions' logs are as they were
adds-none : (script : Script) (account next : Account) (IsNew : ℕ → Type 0) → next.sessions ≡ account.sessions
    → ((q : ℕ) (request : Request) → request_at script q ≡ Some request → ¬ IsNew q) → AddsReplies script account next IsNew
adds-none script account next IsNew same none = record {
  many = ap length same;
  has = λ q request at h. inl (subst (λ ss. IsTrue (has_reply_in q (get_or ss request.session []))) same h);
  from = λ q request at h. elim h [
    | inl before ↦ subst (λ ss. IsTrue (has_reply_in q (get_or ss request.session []))) (sym same) before
    | inr new ↦ absurd (none q request at new)
  ];
}

module _ (laws : LawsForSteps) (script : Script) (account next : Account) (s : ℕ) (entry : SessionEntry) (IsNew : ℕ → Type 0) where
  -- one of them has one more entry
  adds-entry : s < length account.sessions
      → next.sessions ≡ slice_set account.sessions s (session_log account s ++ entry ∷ [])
      → ((q : ℕ) (request : Request) → request_at script q ≡ Some request → Contains (reply_by entry.deed) q → IsNew q)
      → ((q : ℕ) (request : Request) → request_at script q ≡ Some request → IsNew q → (request.session ≡ s) × Contains (reply_by entry.deed) q)
      → AddsReplies script account next IsNew
  adds-entry within same new its = record {
    many = ap length same ∙ length-set account.sessions s (session_log account s ++ entry ∷ []);
    has = λ q request at h.
        elim (more-has laws account.sessions s within entry q request.session (subst (λ ss. IsTrue (has_reply_in q (get_or ss request.session []))) same h)) [
          | inl before ↦ inl before
          | inr more ↦ inr (new q request at more.1)
        ];
    from = λ q request at h. subst (λ ss. IsTrue (has_reply_in q (get_or ss request.session []))) (sym same) (has-more laws account.sessions s within entry q request.session (elim h [
      | inl before ↦ inl before
      | inr one ↦ inr (its q request at one)
    ]));
  }

-- a step that is no `reply` is not the reply of a request
abbrev is_reply : Step → Bool
is_reply (Reply r) = true
is_reply _ = false

no-reply : (step : Step) → is_reply step ≡ false → (q : ℕ) → step ≢ Reply q
no-reply step other q same = both_ways (is_reply step) other (ap is_reply same)

-- the number of a `reply`
same-number : (r q : ℕ) → Reply r ≡ Reply q → r ≡ q
same-number r q same = cc

-- what a step leaves if it is done
module _ (laws : LawsForSteps) (script : Script) (limits : IsWithinLimits script) (state : CoreState) (many : length state.account.sessions ≡ 64) where
  abbrev account : Account
  account = state.account

  abbrev IsStep : Step → ℕ → Type 0
  IsStep step q = step ≡ Reply q

  session-within : (r : ℕ) (request : Request) → request_at script r ≡ Some request → request.session < length account.sessions
  session-within r request at = let less = limits.sessions r request at in omega (arith, less, many)

  -- a step that is no `reply`, and leaves the sessions' logs as they were
  quiet : (step : Step) (next : Account) → next.sessions ≡ account.sessions → is_reply step ≡ false → AddsReplies script account next (IsStep step)
  quiet step next same other = adds-none script account next (IsStep step) same (λ q request at. no-reply step other q)

  begins : (r : ℕ) (q : Option Request) → request_at script r ≡ q → AddsReplies script account (at_request (after_begin account r) account q) (IsStep (Begin r))
  begins r None at = quiet (Begin r) account refl refl
  begins r (Some request) at =
      adds-entry laws script account (after_begin account r request) request.session (record { author = request.session; deed = session.Begun r (stamp_to_begin account request) }) (IsStep (Begin r)) (session-within r request at) refl
      (λ q other there h. absurd (has_none q h)) (λ q other there same. absurd (no-reply (Begin r) refl q same))

  judges : (flight : Option BegunRequest) → (after_judge script account flight).sessions ≡ account.sessions
  judges None = refl
  judges (Some flight) = refl

  sends : (home : ℕ) (flight : Option BegunRequest) (judged : Option Judgement) → (after_send script account home flight judged).sessions ≡ account.sessions
  sends home None judged = refl
  sends home (Some flight) None = refl
  sends home (Some flight) (Some judged) = refl

  hears : (home : ℕ) (notice : Option Clock) → (after_hear account home notice).sessions ≡ account.sessions
  hears home None = refl
  hears home (Some notice) = refl

  delivers : (home s number : ℕ) (message : Option Message) → (after_deliver account home s number message).sessions ≡ account.sessions
  delivers home s number None = refl
  delivers home s number (Some message) = refl

  visits : (r : ℕ) (begun : Option BegunRequest) (next : Option Name) → (after_visit script account r begun next).sessions ≡ account.sessions
  visits r None next = refl
  visits r (Some begun) None = refl
  visits r (Some begun) (Some v) = refl

  at-visit : (r : ℕ) (q : Option Request) → (at_request (λ request. after_visit script account r (program_begun r (gate_log account request.gate)) (next_vertex account r request.work)) account q).sessions ≡ account.sessions
  at-visit r None = refl
  at-visit r (Some request) = visits r (program_begun r (gate_log account request.gate)) (next_vertex account r request.work)

  finishes : (r home : ℕ) (begun : Option BegunRequest) → (with_finish account r home begun).sessions ≡ account.sessions
  finishes r home None = refl
  finishes r home (Some begun) = refl

  works : (r : ℕ) (request : Request) (work : Work) → (after_work account r request work).sessions ≡ account.sessions
  works r request (Change ops) = refl
  works r request (Look program) = by-end (has_ended account r request)
    where
      by-end : (b : Bool) → (cond b account (with_finish account r request.gate (program_begun r (gate_log account request.gate)))).sessions ≡ account.sessions
      by-end true = refl
      by-end false = finishes r request.gate (program_begun r (gate_log account request.gate))

  replies : (r : ℕ) (q : Option Request) → request_at script r ≡ q → AddsReplies script account (at_request (after_reply account r) account q) (IsStep (Reply r))
  replies r None at = adds-none script account account (IsStep (Reply r)) refl
      (λ q request there same. none-some request (sym at ∙ ap (request_at script) (same-number r q same) ∙ there))
  replies r (Some request) at =
      adds-entry laws script account (after_reply account r request) request.session (record { author = request.session; deed = session.Replied r }) (IsStep (Reply r)) (session-within r request at)
      (ap (λ (ss : List (List SessionEntry)). slice_set ss request.session (get_or ss request.session [] ++ record { author = request.session; deed = session.Replied r } ∷ [])) (works r request request.work))
      (λ q other there h. ap Reply (only r q h))
      (λ q other there same.
      (let number = same-number r q same in
      let one = same_Some other request (sym there ∙ ap (request_at script) (sym number) ∙ at) in
      (ap (λ (o : Request). o.session) one, subst (λ n. Contains (r ∷ []) n) number (has_head r []))))

  done-adds : (step : Step) → AddsReplies script account (account_with script state step) (IsStep step)
  done-adds (Begin r) = begins r (request_at script r) refl
  done-adds (Judge g) = quiet (Judge g) (account_with script state (Judge g)) (judges (flight_of (gate_log account g))) refl
  done-adds (Send g) = quiet (Send g) (account_with script state (Send g)) (sends g (flight_of (gate_log account g)) (judgement_in_flight account (flight_of (gate_log account g)))) refl
  done-adds (Say g) = quiet (Say g) (account_with script state (Say g)) refl refl
  done-adds (Hear g n) = quiet (Hear g n) (account_with script state (Hear g n)) (hears g (sent_as n state.notices)) refl
  done-adds (Nop g s) = quiet (Nop g s) (account_with script state (Nop g s)) refl refl
  done-adds (Deliver g s n) = quiet (Deliver g s n) (account_with script state (Deliver g s n)) (delivers g s n (sent_as n (channel_of s (gate_log account g)))) refl
  done-adds (Apply s g) = quiet (Apply s g) (account_with script state (Apply s g)) refl refl
  done-adds (Visit r) = quiet (Visit r) (account_with script state (Visit r)) (at-visit r (request_at script r)) refl
  done-adds (Reply r) = replies r (request_at script r) refl
  done-adds (Collect s) = quiet (Collect s) (account_with script state (Collect s)) refl refl
  done-adds (Epoch g epoch) = quiet (Epoch g epoch) (account_with script state (Epoch g epoch)) refl refl
  done-adds (Restart g epoch) = quiet (Restart g epoch) (account_with script state (Restart g epoch)) refl refl

  -- whatever a step answers: it is a `reply` of the request, and is done
  abbrev IsDone : Step → StepAnswer → ℕ → Type 0
  IsDone step answer q = (step ≡ Reply q) × (answer ≡ Ok)

  with-answer : (step : Step) (next : Account) (answer : StepAnswer) → answer ≡ Ok → AddsReplies script account next (IsStep step) → AddsReplies script account next (IsDone step answer)
  with-answer step next answer ok adds = record {
    many = adds.many;
    has = λ q request at h. elim (adds.has q request at h) [ inl before ↦ inl before | inr new ↦ inr (new, ok) ];
    from = λ q request at h. adds.from q request at (elim h [ inl before ↦ inl before | inr new ↦ inr new.0 ]);
  }

  step-adds : (step : Step) → AddsReplies script account (state_after script state step).account (IsDone step (answer_of script state step))
  step-adds step = at (is_ok (answer_of script state step)) refl
    where
      at : (b : Bool) → is_ok (answer_of script state step) ≡ b → AddsReplies script account (cond b (state_with script state step) state).account (IsDone step (answer_of script state step))
      at true e = with-answer step (account_with script state step) (answer_of script state step) (ok-is (answer_of script state step) e) (done-adds step)
      at false e = adds-none script account account (IsDone step (answer_of script state step)) refl
          (λ q request there done. both_ways (is_ok (answer_of script state step)) e (ap is_ok done.1))

-- Lists of steps

-- two lists side by side, with one more element each
zip-push : {A B : Type 0} (xs : List A) (ys : List B) (x : A) (y : B) → length ys ≡ length xs → zip (xs ++ x ∷ []) (ys ++ y ∷ []) ≡ zip xs ys ++ (x, y) ∷ []
zip-push [] [] x y e = refl
zip-push [] (b ∷ ys) x y e = absurd (omega (arith, e))
zip-push (a ∷ xs) [] x y e = absurd (omega (arith, e))
zip-push {A} {B} (a ∷ xs) (b ∷ ys) x y e = ap (λ (zs : List (A × B)). (a, b) ∷ zs) (zip-push xs ys x y (omega (arith, e)))

-- a reply is done among the steps with one more
done-push : (steps : List Step) (answers : List StepAnswer) (step : Step) (answer : StepAnswer) (q : ℕ) → length answers ≡ length steps
    → IsReplyDone (steps ++ step ∷ []) (answers ++ answer ∷ []) q ↔ (IsReplyDone steps answers q ⊎ ((step ≡ Reply q) × (answer ≡ Ok)))
done-push steps answers step answer q as_many = (has, from)
  where
    both : zip (steps ++ step ∷ []) (answers ++ answer ∷ []) ≡ zip steps answers ++ (step, answer) ∷ []
    both = zip-push steps answers step answer as_many

    has : IsReplyDone (steps ++ step ∷ []) (answers ++ answer ∷ []) q → IsReplyDone steps answers q ⊎ ((step ≡ Reply q) × (answer ≡ Ok))
    has h = elim (Contains-append_cases (zip steps answers) ((step, answer) ∷ []) (Reply q, Ok) (subst (λ (zs : List (Step × StepAnswer)). Contains zs (Reply q, Ok)) both h)) [
      | inl before ↦ inl before
      | inr new ↦ (let same = only (step, answer) (Reply q, Ok) new in inr (ap (λ (p : Step × StepAnswer). p.0) same, ap (λ (p : Step × StepAnswer). p.1) same))
    ]

    from : IsReplyDone steps answers q ⊎ ((step ≡ Reply q) × (answer ≡ Ok)) → IsReplyDone (steps ++ step ∷ []) (answers ++ answer ∷ []) q
    from (inl before) = subst (λ (zs : List (Step × StepAnswer)). Contains zs (Reply q, Ok)) (sym both) (Contains-append_left (zip steps answers) ((step, answer) ∷ []) (Reply q, Ok) before)
    from (inr new) =
        subst (λ (zs : List (Step × StepAnswer)). Contains zs (Reply q, Ok)) (sym both)
        (subst (λ (s : Step). Contains (zip steps answers ++ (step, answer) ∷ []) (s, Ok)) new.0 (subst (λ (a : StepAnswer). Contains (zip steps answers ++ (step, answer) ∷ []) (step, a)) new.1 (has_last (zip steps answers) (step, answer))))

module _ (laws : LawsForSteps) (script : Script) (limits : IsWithinLimits script) where
  -- each step has an answer, and a request has its reply exactly if a `reply` of it was done
  record IsReplied (steps : List Step) (trace : TraceState) : Type 0 where
    pub sessions : length trace.state.account.sessions ≡ 64
    pub as_many : length trace.answers ≡ length steps
    pub has : (q : ℕ) (request : Request) → request_at script q ≡ Some request → IsTrue (has_reply trace.state.account q request) → IsReplyDone steps trace.answers q
    pub from : (q : ℕ) (request : Request) → request_at script q ≡ Some request → IsReplyDone steps trace.answers q → IsTrue (has_reply trace.state.account q request)

  at-first : IsReplied [] (trace_start script)
  at-first = record {
    sessions = length-replicate {A = List SessionEntry} 64 [];
    as_many = refl;
    has = λ q request at h. absurd (both_ways false refl (ap (has_reply_in q) (sym (none-at {A = SessionEntry} 64 request.session)) ∙ h));
    from = λ q request at h. absurd (has_none {A = Step × StepAnswer} (Reply q, Ok) h);
  }

  one-more : (steps : List Step) (trace : TraceState) (step : Step) → IsReplied steps trace → IsReplied (steps ++ step ∷ []) (traced_after script trace step)
  one-more steps trace step so_far =
      let adds = step-adds laws script limits trace.state so_far.sessions step in
      let answer = answer_of script trace.state step in
      record {
        sessions = adds.many ∙ so_far.sessions;
        as_many = length-append trace.answers (answer ∷ []) ∙ ap (λ n. n + 1) so_far.as_many ∙ sym (length-append steps (step ∷ []));
        has = λ q request at h. (done-push steps trace.answers step answer q so_far.as_many).1 (elim (adds.has q request at h) [
          | inl before ↦ inl (so_far.has q request at before)
          | inr new ↦ inr new
        ]);
        from = λ q request at h. adds.from q request at (elim ((done-push steps trace.answers step answer q so_far.as_many).0 h) [
          | inl before ↦ inl (so_far.from q request at before)
          | inr new ↦ inr new
        ]);
      }

  all-replied : (steps : List Step) → IsReplied steps (trace_of script steps)
  all-replied = by_last (λ steps. IsReplied steps (trace_of script steps)) at-first
      (λ steps step so_far. subst (IsReplied (steps ++ step ∷ [])) (sym (fold-append (traced_after script) (trace_start script) steps (step ∷ []))) (one-more steps (trace_of script steps) step so_far))

  -- after steps from the empty logs a request has its reply exactly if a `reply` of it was done among them
  pub replied-exactly : (steps : List Step) (r : ℕ) (request : Request) → request_at script r ≡ Some request
      → IsTrue (has_reply (trace_of script steps).state.account r request) ↔ IsReplyDone steps (trace_of script steps).answers r
  replied-exactly steps r request at = let all = all-replied steps in (all.has r request at, all.from r request at)
