-- What each step of a request leaves of others.
-- Used by AfterSteps and VisitWith.
use Rattle.std.proofs.Common.{◌≡◌, ◌≢◌, ℕ, ◌<◌, Bool, true, false, List, [], ◌∷◌, ◌++◌, length, filter, Option, None, Some, inl, inr, refl, sym, ap, subst, ◌∙◌, arith}
use Rattle.std.specs.Prelude.{◌==◌, slice_index_or, slice_set, if◌then◌else◌}
use Rattle.std.specs.List.{flat_map}
use Rattle.std.proofs.Math.Nat.{mod-lt}
use Rattle.std.proofs.lemmas.Bool.{cases_eq, ne_eqb}
use Rattle.std.proofs.lemmas.List.{append-nil, get_or-set_other, get_or-set_same}
use Rattle.std.proofs.lemmas.List.Elements.{filter-append}
use Rattle.weave_data.specs.Names.{shard_of}
use Rattle.weave_data.specs.declared.name.Name.{Name}
use Rattle.program_defs.specs.Limits.{IsWithinLimits}
use Rattle.program_defs.specs.declared.script.Request.{Request}
use Rattle.program_defs.specs.declared.script.Script.{Script}
use Rattle.program_defs.specs.declared.script.Step.TheVariants.{Begin, Visit, Reply}
use Rattle.program_defs.specs.declared.script.Work.{Work}
use Rattle.program_defs.specs.declared.script.Work.TheVariants.{Change, Look}
use Rattle.report_rules.specs.Lookups.{request_at}
use Rattle.weave_entries.specs.declared.session_log.SessionEntry.{SessionEntry}
use Rattle.weave_entries.specs.declared.session_log.SessionDeed.{SessionDeed}
use Rattle.weave_entries.specs.declared.session_log.SessionDeed.TheVariants.{Begun as BegunDeed, Replied}
use Rattle.weave_entries.specs.declared.shard_log.ShardEntry.{ShardEntry}
use Rattle.weave_entries.specs.declared.shard_log.ShardDeed.TheVariants.{Visited}
use Rattle.weave_entries.specs.GateReplay.{BegunRequest, program_begun}
use Rattle.weave_entries.specs.ShardReplay.{Visit as AVisit, reads_in, visits_of}
use Rattle.weave_entries.specs.StoreRule.{entries_of_settling}
use Rattle.vector_stamp.specs.Seeing.{last_seen}
use Rattle.weave_account.specs.declared.account.Account.{Account}
use Rattle.weave_account.specs.Account.{gate_log, pairs_in, reads_of, session_log, shard_log}
use Rattle.weave_account.specs.GoesOn.{visits_by}
use Rattle.weave_account.specs.IsAccount.{IsAccount}
use Rattle.step_rules.specs.CoreState.{CoreState}
use Rattle.step_rules.specs.Entries.{after_begin, after_reply, after_visit, state_with, after_work, at_request, made_entry, seen_in, stamp_to_begin, update_stamps_at, with_finish}
use Rattle.step_rules.specs.Requests.{has_ended, next_vertex}
use Rattle.step_rules.specs.Trace.{state_after}
use Rattle.step_rules.proofs.VisitLogs.{visits-push}
use Rattle.weaver_core.proofs.ProgramsSet.{log-more, log-other, request_of, session-stays, step-cases}
use Rattle.weaver_core.proofs.ProgramsStay.{StaysAt}

-- What a step of a request leaves of others

-- if the logs stay, they say the same of each request
pub same-stays : (account : Account) (q : ℕ) (request : Request) → StaysAt account account q request
same-stays _ q request = record { stamps = refl; replies = refl; visits = λ shard. refl }

module _ (script : Script) (state : CoreState) (limits : IsWithinLimits script) (is : IsAccount script state.account) (sixty-four : length state.account.sessions ≡ 64) (r : ℕ) where
  abbrev logs : Account
  logs = state.account

  -- another request's visits are the same
  pub visit-stays : (o : Option BegunRequest) (next : Option Name) (q : ℕ) (request : Request) → q ≢ r → StaysAt logs (after_visit script logs r o next) q request
  visit-stays None None q request other = same-stays logs q request
  visit-stays None (Some v) q request other = same-stays logs q request
  visit-stays (Some begun) None q request other = same-stays logs q request
  visit-stays (Some begun) (Some v) q request other =
      let s = shard_of v script.shards in
      let log = shard_log logs s in
      let updates = update_stamps_at logs s v in
      let k = seen_in logs begun.stamp updates in
      let entries = entries_of_settling 0 (pairs_in logs) (last_seen k updates) begun.stamp in
      let entry : ShardEntry = record { author = 0; deed = Visited r begun.stamp v k (made_entry entries) } in
      let read : AVisit = record { author = 0; request = r; stamp = begun.stamp; vertex = v; updates = k; settled = made_entry entries } in
      let some = limits.some_shard in
      let many = is.shards.as_many in
      let below : s < script.shards = mod-lt _ (omega (arith, some)) in
      record {
        stamps = refl;
        replies = refl;
        visits = λ shard. elim (cases_eq shard s) [
          | inl same ↦
              ap (λ n. visits_by q (slice_index_or (slice_set logs.shards s (log ++ entry ∷ [])) n [])) same
              ∙ ap (visits_by q) (get_or-set_same logs.shards s (log ++ entry ∷ []) [] (omega (arith, below, many)))
              ∙ ap (filter (λ (visit : AVisit). visit.request == q)) (visits-push log r begun.stamp v k (made_entry entries))
              ∙ filter-append (λ (visit : AVisit). visit.request == q) (visits_of log) (read ∷ [])
              ∙ ap (λ (b : Bool). visits_by q log ++ (if b then read ∷ [] else [])) (ne_eqb r q (λ e. other (sym e)))
              ∙ append-nil (visits_by q log)
              ∙ ap (λ n. visits_by q (shard_log logs n)) (sym same)
          | inr differ ↦ ap (visits_by q) (get_or-set_other logs.shards s shard (log ++ entry ∷ []) [] differ)
        ];
      }

  -- a request's end or begin adds one entry to its own session, and changes no visit
  record SessionStep (next : Account) (s : ℕ) (deed : SessionDeed) : Type 0 where
    sessions_are : next.sessions ≡ slice_set logs.sessions s (session_log logs s ++ record { author = s; deed = deed } ∷ [])
    shards_are : next.shards ≡ logs.shards

  begin-step : (request : Request) → SessionStep (after_begin logs r request) request.session (BegunDeed r (stamp_to_begin logs request))
  begin-step request = record { sessions_are = refl; shards_are = refl }

  -- the gatekeeper's part of a reply
  record SameBut (next : Account) : Type 0 where
    sessions_are : next.sessions ≡ logs.sessions
    shards_are : next.shards ≡ logs.shards
    store_is : next.store ≡ logs.store

  finish-same : (home : ℕ) (o : Option BegunRequest) → SameBut (with_finish logs r home o)
  finish-same home None = record { sessions_are = refl; shards_are = refl; store_is = refl }
  finish-same home (Some begun) = record { sessions_are = refl; shards_are = refl; store_is = refl }

  work-same : (request : Request) (work : Work) → SameBut (after_work logs r request work)
  work-same request (Change ops) = record { sessions_are = refl; shards_are = refl; store_is = refl }
  work-same request (Look program) = by (has_ended logs r request)
    where
      by : (b : Bool) → SameBut (if b then logs else with_finish logs r request.gate (program_begun r (gate_log logs request.gate)))
      by true = record { sessions_are = refl; shards_are = refl; store_is = refl }
      by false = finish-same request.gate (program_begun r (gate_log logs request.gate))

  reply-step : (request : Request) → SessionStep (after_reply logs r request) request.session (Replied r)
  reply-step request =
      let work = work-same request request.work in
      record {
        sessions_are = ap (λ (all : List (List SessionEntry)). slice_set all request.session (slice_index_or all request.session [] ++ record { author = request.session; deed = Replied r } ∷ [])) work.sessions_are;
        shards_are = work.shards_are;
      }

  step-stays : (next : Account) (s : ℕ) (deed : SessionDeed) → s < 64 → request_of deed ≡ r → SessionStep next s deed → (q : ℕ) (request : Request) → q ≢ r → StaysAt logs next q request
  step-stays next s deed within is-r step q request other =
      session-stays logs next s deed (omega (arith, within, sixty-four)) step.sessions_are (λ n shard. ap (λ (all : List (List ShardEntry)). visits_by n (slice_index_or all shard [])) step.shards_are) q request (λ e. other (e ∙ is-r))

  -- the session's log then, and the others'
  step-log : (next : Account) (s : ℕ) (deed : SessionDeed) → s < 64 → SessionStep next s deed → session_log next s ≡ session_log logs s ++ record { author = s; deed = deed } ∷ []
  step-log next s deed within step = log-more logs next s deed (omega (arith, within, sixty-four)) step.sessions_are (λ n shard. ap (λ (all : List (List ShardEntry)). visits_by n (slice_index_or all shard [])) step.shards_are)

  step-other : (next : Account) (s : ℕ) (deed : SessionDeed) → s < 64 → SessionStep next s deed → (t : ℕ) → t ≢ s → session_log next t ≡ session_log logs t
  step-other next s deed within step = log-other logs next s deed (omega (arith, within, sixty-four)) step.sessions_are (λ n shard. ap (λ (all : List (List ShardEntry)). visits_by n (slice_index_or all shard [])) step.shards_are)

  -- after `begin` the log of the request's session has one more entry, the begin with its stamp
  pub begin-log : (request : Request) → request_at script r ≡ Some request → session_log (after_begin logs r request) request.session ≡ session_log logs request.session ++ record { author = request.session; deed = BegunDeed r (stamp_to_begin logs request) } ∷ []
  begin-log request at = step-log (after_begin logs r request) request.session _ (limits.sessions r request at) (begin-step request)

  -- after `begin` the log of each other session is as before
  pub begin-other : (request : Request) → request_at script r ≡ Some request → (t : ℕ) → t ≢ request.session → session_log (after_begin logs r request) t ≡ session_log logs t
  begin-other request at = step-other (after_begin logs r request) request.session _ (limits.sessions r request at) (begin-step request)

  -- after `reply` the log of the request's session has one more entry, the reply
  pub reply-log : (request : Request) → request_at script r ≡ Some request → session_log (after_reply logs r request) request.session ≡ session_log logs request.session ++ record { author = request.session; deed = Replied r } ∷ []
  reply-log request at = step-log (after_reply logs r request) request.session _ (limits.sessions r request at) (reply-step request)

  -- after `reply` the log of each other session is as before
  pub reply-other : (request : Request) → request_at script r ≡ Some request → (t : ℕ) → t ≢ request.session → session_log (after_reply logs r request) t ≡ session_log logs t
  reply-other request at = step-other (after_reply logs r request) request.session _ (limits.sessions r request at) (reply-step request)

  -- a visit changes no session's log
  pub visit-sessions : (o : Option BegunRequest) (next : Option Name) → (after_visit script logs r o next).sessions ≡ logs.sessions
  visit-sessions None None = refl
  visit-sessions None (Some v) = refl
  visit-sessions (Some begun) None = refl
  visit-sessions (Some begun) (Some v) = refl

  -- neither does a step `visit` that is done
  pub visit-session : (request : Request) → request_at script r ≡ Some request → (state_with script state (Visit r)).account.sessions ≡ logs.sessions
  visit-session request at = ap (λ (all : Account). all.sessions) (ap (at_request (λ (asked : Request). after_visit script logs r (program_begun r (gate_log logs asked.gate)) (next_vertex logs r asked.work)) logs) at)
      ∙ visit-sessions (program_begun r (gate_log logs request.gate)) (next_vertex logs r request.work)

  -- a reply changes neither the store nor what was read
  pub reply-parts : (request : Request) → ((after_reply logs r request).store ≡ logs.store) × (reads_of (after_reply logs r request) r ≡ reads_of logs r)
  reply-parts request = ((work-same request request.work).store_is, ap (flat_map (reads_in r)) (work-same request request.work).shards_are)

  -- after `visit`, done or not, the sessions and the visits say the same of any other request
  pub visit-others : (request : Request) → request_at script r ≡ Some request → (q : ℕ) (one : Request) → q ≢ r → StaysAt logs (state_after script state (Visit r)).account q one
  visit-others request at q one other = elim (step-cases script state (Visit r)) [
    | inl same ↦ subst (λ (all : CoreState). StaysAt logs all.account q one) (sym same) (same-stays logs q one)
    | inr done ↦ subst (λ (all : CoreState). StaysAt logs all.account q one) (sym done)
        (subst (λ (all : Account). StaysAt logs all q one) (sym (ap (at_request (λ (asked : Request). after_visit script logs r (program_begun r (gate_log logs asked.gate)) (next_vertex logs r asked.work)) logs) at))
        (visit-stays (program_begun r (gate_log logs request.gate)) (next_vertex logs r request.work) q one other))
  ]

  -- after `begin`, done or not, its session and the visits say the same of any other request
  pub begin-others : (request : Request) → request_at script r ≡ Some request → (q : ℕ) (one : Request) → q ≢ r → StaysAt logs (state_after script state (Begin r)).account q one
  begin-others request at q one other = elim (step-cases script state (Begin r)) [
    | inl same ↦ subst (λ (all : CoreState). StaysAt logs all.account q one) (sym same) (same-stays logs q one)
    | inr done ↦ subst (λ (all : CoreState). StaysAt logs all.account q one) (sym done)
        (subst (λ (all : Account). StaysAt logs all q one) (sym (ap (at_request (after_begin logs r) logs) at))
        (step-stays (after_begin logs r request) request.session _ (limits.sessions r request at) refl (begin-step request) q one other))
  ]

  -- after `reply`, done or not, its session and the visits say the same of any other request
  pub reply-others : (request : Request) → request_at script r ≡ Some request → (q : ℕ) (one : Request) → q ≢ r → StaysAt logs (state_after script state (Reply r)).account q one
  reply-others request at q one other = elim (step-cases script state (Reply r)) [
    | inl same ↦ subst (λ (all : CoreState). StaysAt logs all.account q one) (sym same) (same-stays logs q one)
    | inr done ↦ subst (λ (all : CoreState). StaysAt logs all.account q one) (sym done)
        (subst (λ (all : Account). StaysAt logs all q one) (sym (ap (at_request (after_reply logs r) logs) at))
        (step-stays (after_reply logs r request) request.session _ (limits.sessions r request at) refl (reply-step request) q one other))
  ]
