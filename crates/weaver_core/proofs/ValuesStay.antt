-- The values of sessions stay as their logs say, while other logs go on.
-- Used by AfterSteps, HandedIn, OpenRuns, OtherSteps, StepValues, VisitWith and crate workers_account.
use Rattle.std.proofs.Common.{◌≡◌, ◌≢◌, ℕ, ◌<◌, Bool, true, false, List, length, Contains, IsTrue, Option, None, Some, inl, inr, refl, sym, ap, subst, ◌∙◌, arith}
use Rattle.std.specs.Prelude.{◌==◌, IsSomeAnd, slice_set, if◌then◌else◌}
use Rattle.std.specs.List.{find, range_with_len}
use Rattle.std.specs.Option.{option_and_then, option_map}
use Rattle.std.proofs.lemmas.Bool.{cases_eq, eqb-true}
use Rattle.std.proofs.lemmas.List.{get_or-set_other, get_or-set_same, length-set, map-append}
use Rattle.std.proofs.lemmas.Option.{none-some, same_Some}
use Rattle.weave_data.proofs.Members.{filter_has, has_map}
use Rattle.vector_stamp.specs.declared.clock.Stamp.{Stamp}
use Rattle.program_defs.specs.Limits.{IsWithinLimits}
use Rattle.program_defs.specs.PlainAnswer.{IsPlainAnswer}
use Rattle.program_defs.specs.Visits.{graph_read}
use Rattle.program_defs.specs.Works.{is_change, is_look}
use Rattle.program_defs.specs.declared.program.Program.{Program}
use Rattle.program_defs.specs.declared.script.Request.{Request}
use Rattle.program_defs.specs.declared.script.Script.{Script}
use Rattle.program_defs.specs.declared.script.Work.{Work}
use Rattle.program_defs.specs.declared.script.Work.TheVariants.{Change, Look}
use Rattle.report_rules.specs.Lookups.{is_some_and, request_at}
use Rattle.report_rules.specs.declared.report.Reply.{Reply}
use Rattle.report_rules.specs.declared.report.ReplyState.{ReplyState}
use Rattle.report_rules.specs.declared.report.ReplyState.TheVariants.{Unbegun, Begun as Running-on, Committed, Conflict, Refused, Finished}
use Rattle.weave_data.specs.declared.name.Name.{Name}
use Rattle.graph_ops.specs.Operations.{State}
use Rattle.weave_entries.specs.declared.session_log.SessionEntry.{SessionEntry}
use Rattle.weave_entries.specs.SessionReplay.{has_reply_in, replied_count, replied_in, session_of}
use Rattle.weave_entries.specs.StoreReplay.{Judgement, judgement_of, judgements_of, judged_by}
use Rattle.weave_entries.specs.declared.store_log.StoreEntry.{StoreEntry}
use Rattle.weave_account.specs.declared.account.Account.{Account}
use Rattle.weave_account.specs.Account.{is_ended, session_log, stamp_of}
use Rattle.weave_account.specs.GoesOn.{GoesOn}
use Rattle.weave_account.specs.IsAccount.{IsAccount}
use Rattle.weave_account.specs.Report.{IsReplyInAccount, IsStateOf, IsStateOfProgram, state_of_tx}
use Rattle.weave_account.specs.Sessions.{requests_of_session}
use Rattle.weaver_core.specs.Sessions.{SessionValues, no_values, values_at}
use Rattle.weaver_core.specs.Splitting.{AreAllByLog, AreRepliesByLog, AreValuesByLog, IsRunningByLog, program_waiting, waiting_in}
use Rattle.weaver_core.specs.Staying.{StayLaws}
use Rattle.weaver_core.specs.declared.walks.Running.{Running}
use Rattle.weaver_core.proofs.ProgramsStay.{StaysAt, ended-stays, find-more, read-stays}
use Rattle.weaver_core.proofs.Replied.{ended-judged, replied-ended}
use Rattle.weaver_core.proofs.Waiting.{session-laws, waits-open}
use Rattle.step_rules.proofs.SessionTurns.{at-place}
use Rattle.step_rules.proofs.VisitLogs.{in-take}

-- The request that waits, if it is a program

-- a program of the script
pub record IsProgram (script : Script) (r : ℕ) : Type 0 where
  pub request : Request
  pub request_is : request_at script r ≡ Some request
  pub looks : is_look request.work ≡ true

abbrev pub if-program : Script → ℕ × Stamp → Option (ℕ × Stamp)
if-program script begun = if is_some_and (λ (request : Request). is_look request.work) (request_at script begun.0) then Some begun else None

program-of : (script : Script) (begun : ℕ × Stamp) (r : ℕ) (stamp : Stamp) → if-program script begun ≡ Some (r, stamp) → IsProgram script r × (begun ≡ (r, stamp))
program-of script begun r stamp is = by (request_at script begun.0) refl is
  where
    at-last : (request : Request) → request_at script begun.0 ≡ Some request → (b : Bool) → is_look request.work ≡ b → (if b then Some begun else None) ≡ Some (r, stamp) → IsProgram script r × (begun ≡ (r, stamp))
    at-last request at true looks e =
        let same = same_Some begun (r, stamp) e in
        (subst (λ (one : ℕ × Stamp). IsProgram script one.0) same (record { request = request; request_is = at; looks = looks }), same)
    at-last request at false looks e = absurd (none-some (r, stamp) e)

    by : (o : Option Request) → request_at script begun.0 ≡ o → (if is_some_and (λ (request : Request). is_look request.work) o then Some begun else None) ≡ Some (r, stamp) → IsProgram script r × (begun ≡ (r, stamp))
    by None at e = absurd (none-some (r, stamp) e)
    by (Some request) at e = at-last request at (is_look request.work) refl e

-- the program that waits in a log, if one does, is a program of the script, and is what waits there
pub program-waits : (script : Script) (log : List SessionEntry) (r : ℕ) (stamp : Stamp) → program_waiting script log ≡ Some (r, stamp) → IsProgram script r × (waiting_in log ≡ Some (r, stamp))
program-waits script log r stamp is = by (waiting_in log) refl
  where
    by : (o : Option (ℕ × Stamp)) → waiting_in log ≡ o → IsProgram script r × (waiting_in log ≡ Some (r, stamp))
    by None e = absurd (none-some (r, stamp) (sym (ap (option_and_then (if-program script)) e) ∙ is))
    by (Some begun) e =
        let one = program-of script begun r stamp (sym (ap (option_and_then (if-program script)) e) ∙ is) in
        (one.0, e ∙ ap Some one.1)

-- The session of a request

-- each of a session's requests is a request of the script whose session it is
pub in-session : (script : Script) (t q : ℕ) → Contains (requests_of_session script t) q → (request : Request) × (request_at script q ≡ Some request) × (request.session ≡ t)
in-session script t q has = by (request_at script q) refl (filter_has (λ (r : ℕ). is_some_and (λ (one : Request). one.session == t) (request_at script r)) (range_with_len 0 (length script.requests)) q has).1
  where
    by : (o : Option Request) → request_at script q ≡ o → is_some_and (λ (one : Request). one.session == t) o ≡ true → (request : Request) × (request_at script q ≡ Some request) × (request.session ≡ t)
    by None e h = absurd (let f : false ≡ true = h in cc)
    by (Some request) e h = (request, e, eqb-true request.session t h)

-- What stays

module _ (laws : StayLaws) (script : Script) (account next : Account) (limits : IsWithinLimits script) (is : IsAccount script account) (is-next : IsAccount script next) (goes : GoesOn account next) where
  judgements-more : (r : ℕ) (judged : Judgement) → judgement_of r account.store ≡ Some judged → judgement_of r next.store ≡ Some judged
  judgements-more r judged at =
      ap (judgement_of r) goes.store.1
      ∙ ap (find (λ (one : Judgement). one.request == r)) (map-append (λ (entry : StoreEntry). judged_by entry.author entry.deed) account.store goes.store.0)
      ∙ find-more (λ (one : Judgement). one.request == r) (judgements_of account.store) (judgements_of goes.store.0) judged at

  -- the state of a request that has ended
  module _ (r : ℕ) (request : Request) (at : request_at script r ≡ Some request) (stays : StaysAt account next r request) (ended : IsTrue (is_ended account r)) where
    program-stays : (program : Program) → is_look request.work ≡ true → (state : ReplyState) → IsStateOfProgram account r program state → IsStateOfProgram next r program state
    program-stays program looks (Finished answer) h = (
      ended-stays laws script account next limits is is-next goes r request at looks stays.replies ∙ h.0,
      subst (λ (reads : List (Name × State)). IsPlainAnswer (graph_read reads) program answer) (sym (laws.same_reads script account next limits is goes r stays.visits)) h.1,
    )
    program-stays program looks Unbegun h = absurd (let f : true ≡ false = sym ended ∙ h.0 in cc)
    program-stays program looks Running-on h = absurd (let f : true ≡ false = sym ended ∙ h.0 in cc)
    program-stays program looks (Committed number answers) h = absurd (let f : true ≡ false = sym ended ∙ h.0 in cc)
    program-stays program looks (Conflict v newer) h = absurd (let f : true ≡ false = sym ended ∙ h.0 in cc)
    program-stays program looks (Refused op reason place) h = absurd (let f : true ≡ false = sym ended ∙ h.0 in cc)

    state-stays : (work : Work) → request.work ≡ work → (stamp : Option Stamp) (state : ReplyState) → IsStateOf account r stamp work state → IsStateOf next r stamp work state
    state-stays work work-is None state h = h
    state-stays (Change ops) work-is (Some stamp) state h =
        let judged = ended-judged laws script account is r request at (ap is_change work-is) ended in
        h ∙ ap state_of_tx (judged.1 ∙ sym (judgements-more r judged.0 judged.1))
    state-stays (Look program) work-is (Some stamp) state h = program-stays program (ap is_look work-is) state h

    stamp-stays : stamp_of account r ≡ stamp_of next r
    stamp-stays = sym (is.sessions.stamps r request at) ∙ sym stays.stamps ∙ is-next.sessions.stamps r request at

  reply-stays : (reply : Reply) (request : Request) → request_at script reply.request ≡ Some request → StaysAt account next reply.request request → IsTrue (is_ended account reply.request) → IsReplyInAccount script account reply → IsReplyInAccount script next reply
  reply-stays reply request at stays ended h = record {
    stamp_is = h.stamp_is ∙ stamp-stays reply.request request at stays ended;
    state_is = subst (λ (o : Option Request). IsSomeAnd o (λ (one : Request). IsStateOf next reply.request reply.stamp one.work reply.state)) (sym at)
        (state-stays reply.request request at stays ended request.work refl reply.stamp reply.state
        (subst (λ (o : Option Request). IsSomeAnd o (λ (one : Request). IsStateOf account reply.request reply.stamp one.work reply.state)) at h.state_is));
  }

  -- a request that has its reply is one of the session's
  module _ (t : ℕ) where
    abbrev log : List SessionEntry
    log = session_log account t

    replied-here : (q : ℕ) → Contains (replied_in log) q → (request : Request) × (request_at script q ≡ Some request) × (request.session ≡ t)
    replied-here q has =
        in-session script t q (in-take (replied_count (session_of (requests_of_session script t) log)) (requests_of_session script t) q
        (subst (λ (rs : List ℕ). Contains rs q) (laws.replied_first t (requests_of_session script t) log (is.sessions.logs t)) has))

    -- the replies of a session stay, if the logs say the same of each request that has one
    pub replies-stay : (replies : List Reply) → AreRepliesByLog script account log replies
        → ((q : ℕ) (request : Request) → request_at script q ≡ Some request → request.session ≡ t → IsTrue (has_reply_in q log) → StaysAt account next q request)
        → (reply : Reply) → Contains replies reply → IsReplyInAccount script next reply
    replies-stay replies are stays reply has =
        let q = reply.request in
        let there : Contains (replied_in log) q = subst (λ (rs : List ℕ). Contains rs q) are.requests (has_map (λ (one : Reply). one.request) replies reply has) in
        let replied = (laws.replied_tested q log).1 there in
        let one = replied-here q there in
        reply-stays reply one.0 one.1 (stays q one.0 one.1 one.2 replied) (replied-ended script account is q t replied) (are.each reply has)

    -- the program that is running is one of the session's
    pub running-here : (one : Running) (running : Option Running) → running ≡ Some one → IsRunningByLog script account log running → (request : Request) × (request_at script one.request ≡ Some request) × (request.session ≡ t)
    running-here one running at has =
        let waits = program-waits script log one.request one.stamp (sym has.waits ∙ ap (option_map (λ (o : Running). (o.request, o.stamp))) at) in
        let place = (waits-open (session-laws laws) t (requests_of_session script t) log (is.sessions.logs t) (laws.rise script t) one.request one.stamp waits.1).1 in
        in-session script t one.request (at-place (requests_of_session script t) _ one.request place)

    running-stays : (running : Option Running) → IsRunningByLog script account log running
        → ((q : ℕ) (request : Request) → request_at script q ≡ Some request → request.session ≡ t → StaysAt account next q request) → IsRunningByLog script next log running
    running-stays running has stays = record {
      waits = has.waits;
      fed = λ one at program look.
          let here = running-here one running at has in
          read-stays one program account next one.request (laws.same_reads script account next limits is goes one.request (stays one.request here.0 here.1 here.2).visits) (has.fed one at program look);
    }

    -- the values of a session stay right if its log does, and the logs say the same of each of its requests
    pub values-stay : session_log next t ≡ log → ((q : ℕ) (request : Request) → request_at script q ≡ Some request → request.session ≡ t → StaysAt account next q request)
        → (values : SessionValues) → AreValuesByLog script account log values → AreValuesByLog script next (session_log next t) values
    values-stay same stays values are = subst (λ (l : List SessionEntry). AreValuesByLog script next l values) (sym same) (record {
      running = running-stays values.running are.running stays;
      replies = record { requests = are.replies.requests; each = replies-stay values.replies are.replies (λ q request at own replied. stays q request at own) };
    })

  -- the values of all sessions stay right if their logs do, and the logs say the same of each request
  pub all-stay : ((t : ℕ) → session_log next t ≡ session_log account t) → ((q : ℕ) (request : Request) → request_at script q ≡ Some request → StaysAt account next q request)
      → (values : List SessionValues) → AreAllByLog script account values → AreAllByLog script next values
  all-stay same stays values are = record {
    many = are.many;
    each = λ t below. values-stay t (same t) (λ q request at own. stays q request at) (values_at values t) (are.each t below);
  }

  -- if all sessions but one stay as they are, the values are right with right ones put in for that one
  pub values-set : (s : ℕ) → s < 64 → ((t : ℕ) → t ≢ s → session_log next t ≡ session_log account t) → ((q : ℕ) (request : Request) → request_at script q ≡ Some request → request.session ≢ s → StaysAt account next q request)
      → (values : List SessionValues) → AreAllByLog script account values → (one : SessionValues) → AreValuesByLog script next (session_log next s) one → AreAllByLog script next (slice_set values s one)
  values-set s within same stays values are one now = record {
    many = length-set values s one ∙ are.many;
    each = λ t below. elim (cases_eq t s) [
      | inl it ↦
          subst (λ n. AreValuesByLog script next (session_log next n) (values_at (slice_set values s one) n)) (sym it)
          (subst (λ (v : SessionValues). AreValuesByLog script next (session_log next s) v) (sym (get_or-set_same values s one no_values (let many = are.many in omega (arith, within, many)))) now)
      | inr other ↦
          subst (λ (v : SessionValues). AreValuesByLog script next (session_log next t) v) (sym (get_or-set_other values s t one no_values other))
          (values-stay t (same t other) (λ q request at own. stays q request at (λ e. other (sym own ∙ e))) (values_at values t) (are.each t below))
    ];
  }

-- logs that are the same leave all as it was
pub all-same : (script : Script) (account next : Account) → next ≡ account → (values : List SessionValues) → AreAllByLog script account values → AreAllByLog script next values
all-same script account next same values are = subst (λ (all : Account). AreAllByLog script all values) (sym same) are
