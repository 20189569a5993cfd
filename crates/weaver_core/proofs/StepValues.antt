-- After `begin`, `visit` and `reply` of a request the values of the sessions agree with the logs, if they did before,
-- and if the program or reply put in is right.
-- Used by AfterSteps and VisitWith.
use Rattle.std.proofs.Common.{◌≡◌, ◌≢◌, ℕ, ◌-◌, ◌<◌, ◌≤◌, Bool, true, false, List, [], ◌∷◌, ◌++◌, Contains, IsTrue, Option, None, Some, inl, inr, refl, sym, ap, subst, ◌∙◌, arith}
use Rattle.std.specs.Prelude.{◌==◌, ◌&&◌, not, IsSomeAnd, slice_get, slice_set, if◌then◌else◌}
use Rattle.std.specs.List.{list_any}
use Rattle.std.specs.Option.{option_and_then, option_map}
use Rattle.std.proofs.lemmas.Bool.{both_ways, eq-eqb, le-ltb, not-true}
use Rattle.std.proofs.lemmas.List.{append-nil, map-append, set-get_or}
use Rattle.std.proofs.lemmas.List.Concat.{flat_map-append}
use Rattle.std.proofs.lemmas.List.Elements.{Contains-append_cases}
use Rattle.std.proofs.lemmas.Option.{none-some, same_Some}
use Rattle.weave_data.proofs.Entries.{each_last}
use Rattle.weave_data.proofs.Members.{any_from, has_last, only}
use Rattle.vector_stamp.specs.declared.clock.Stamp.{Stamp}
use Rattle.weave_data.specs.declared.name.Name.{Name}
use Rattle.graph_ops.specs.Operations.{State}
use Rattle.program_defs.specs.Agreement.{AreSameReads}
use Rattle.program_defs.specs.Limits.{IsWithinLimits}
use Rattle.program_defs.specs.PlainAnswer.{IsPlainAnswer}
use Rattle.program_defs.specs.Visits.{graph_read}
use Rattle.program_defs.specs.Works.{is_change, is_look}
use Rattle.program_defs.specs.declared.program.Answer.{Answer}
use Rattle.program_defs.specs.declared.program.Program.{Program}
use Rattle.program_defs.specs.declared.script.Request.{Request}
use Rattle.program_defs.specs.declared.script.Script.{Script}
use Rattle.program_defs.specs.declared.script.Work.{Work}
use Rattle.program_defs.specs.declared.script.Work.TheVariants.{Change, Look}
use Rattle.report_rules.specs.Lookups.{is_some_and, request_at}
use Rattle.report_rules.specs.declared.report.Reply.{Reply}
use Rattle.report_rules.specs.declared.report.ReplyState.{ReplyState}
use Rattle.weave_entries.specs.declared.session_log.SessionEntry.{SessionEntry}
use Rattle.weave_entries.specs.declared.session_log.SessionDeed.TheVariants.{Begun, Replied}
use Rattle.weave_entries.specs.SessionReplay.{SessionState, has_begun_in, has_reply_in, replied_count, replied_in, reply_by, session_of, session_stamp_of}
use Rattle.weave_entries.specs.StoreReplay.{judgement_of}
use Rattle.weave_account.specs.declared.account.Account.{Account}
use Rattle.weave_account.specs.Account.{is_ended, reads_of, session_log, stamp_of}
use Rattle.weave_account.specs.GoesOn.{GoesOn}
use Rattle.weave_account.specs.IsAccount.{IsAccount}
use Rattle.weave_account.specs.Report.{IsReplyInAccount, IsStateOf, state_of_tx}
use Rattle.weave_account.specs.Sessions.{requests_of_session}
use Rattle.weaver_core.specs.Sessions.{SessionValues, is_open_in, no_values, values_at, values_with_reply, with_running}
use Rattle.weaver_core.specs.Finishing.{IsReplyOfProgram}
use Rattle.weaver_core.specs.GivingReplies.{reply_of_change}
use Rattle.weaver_core.specs.Splitting.{AreAllByLog, AreRepliesByLog, AreValuesByLog, IsRunningByLog, begun_by_session, program_waiting, waiting_in}
use Rattle.weaver_core.specs.Staying.{StayLaws}
use Rattle.weaver_core.specs.Walks.{HasReadAll, IsLookAt, IsRunningIn}
use Rattle.weaver_core.specs.declared.walks.Running.{Running}
use Rattle.weaver_core.proofs.OpenRuns.{begun-as}
use Rattle.weaver_core.proofs.ProgramsStay.{StaysAt}
use Rattle.weaver_core.proofs.ProgramsSet.{stamp-replied}
use Rattle.weaver_core.proofs.Turns.{Rule, place-of, reply-is}
use Rattle.weaver_core.proofs.ValuesStay.{if-program, replies-stay, values-set}
use Rattle.weaver_core.proofs.Waiting.{last-waits, none-waits, open-waits, session-laws, stamp-waits, waits-more}
use Rattle.weaver_core.proofs.BegunProgram.{few-replied}
use Rattle.step_rules.proofs.SessionTurns.{requests-same}

-- a program waits after its begin, and a transaction doesn't
program-after : (script : Script) (log : List SessionEntry) (entry : SessionEntry) (r : ℕ) (stamp : Stamp) (request : Request) → entry.deed ≡ Begun r stamp → request_at script r ≡ Some request → program_waiting script (log ++ entry ∷ []) ≡ (if is_look request.work then Some (r, stamp) else None)
program-after script log entry r stamp request deed at =
    ap (option_and_then (if-program script)) (waits-more log entry ∙ ap begun_by_session deed)
    ∙ ap (λ (o : Option Request). if is_some_and (λ (one : Request). is_look one.work) o then Some (r, stamp) else None) at

none-after : (script : Script) (log : List SessionEntry) (entry : SessionEntry) (r : ℕ) → entry.deed ≡ Replied r → program_waiting script (log ++ entry ∷ []) ≡ None
none-after script log entry r deed = ap (option_and_then (if-program script)) (waits-more log entry ∙ ap begun_by_session deed)

-- what runs if nothing waits
none-runs : (o : Option Running) → option_map begun-as o ≡ None → o ≡ None
none-runs None e = refl
none-runs (Some one) e = absurd (none-some (one.request, one.stamp) (sym e))

module _ (laws : StayLaws) (script : Script) (account next : Account) (limits : IsWithinLimits script) (is : IsAccount script account) (is-next : IsAccount script next) (goes : GoesOn account next)
    (r : ℕ) (request : Request) (at : request_at script r ≡ Some request) (values : List SessionValues) (all : AreAllByLog script account values)
    (stays : (q : ℕ) (one : Request) → request_at script q ≡ Some one → q ≢ r → StaysAt account next q one) (others : (t : ℕ) → t ≢ request.session → session_log next t ≡ session_log account t) where
  abbrev s : ℕ
  s = request.session

  abbrev log : List SessionEntry
  log = session_log account s

  abbrev requests : List ℕ
  requests = requests_of_session script s

  within : s < 64
  within = limits.sessions r request at

  mine : AreValuesByLog script account log (values_at values s)
  mine = all.each s within

  -- the requests of other sessions are others
  others-stay : (q : ℕ) (one : Request) → request_at script q ≡ Some one → one.session ≢ s → StaysAt account next q one
  others-stay q one here differ = stays q one here (λ e. differ (ap (λ (k : Request). k.session) (same_Some one request (sym here ∙ ap (request_at script) e ∙ at))))

  -- those of its own session that have replies are others, if it has none
  own-replies : has_reply_in r log ≡ false → (reply : Reply) → Contains (values_at values s).replies reply → IsReplyInAccount script next reply
  own-replies none = replies-stay laws script account next limits is is-next goes s (values_at values s).replies mine.replies
      (λ q one here own replied. stays q one here (λ e. both_ways (has_reply_in r log) none (subst (λ n. has_reply_in n log ≡ true) e replied)))

  set-values : (one : SessionValues) → AreValuesByLog script next (session_log next s) one → AreAllByLog script next (slice_set values s one)
  set-values = values-set laws script account next limits is is-next goes s within others others-stay values all

  -- A begin

  module _ (stamp : Stamp) (begun : session_log next s ≡ log ++ record { author = s; deed = Begun r stamp } ∷ []) where
    abbrev entry : SessionEntry
    entry = record { author = s; deed = Begun r stamp }

    rule : Rule s requests log entry
    rule = each_last (Rule s requests) log entry (subst (λ (l : List SessionEntry). (before : List SessionEntry) (e : SessionEntry) (after : List SessionEntry) → l ≡ before ++ e ∷ after → Rule s requests before e) begun (is-next.sessions.logs s))

    no-reply : has_reply_in r log ≡ false
    no-reply =
        let state = session_of requests log in
        let place : slice_get requests state.begun ≡ Some r = ap (λ (rs : List ℕ). slice_get rs state.begun) (sym (requests-same requests log)) ∙ rule.1.next in
        let few = few-replied state in
        reply-is (session-laws laws) s requests log (is.sessions.logs s) (laws.rise script s) state.begun r place ∙ le-ltb state.begun (replied_count state) few

    replies-then : AreRepliesByLog script next (session_log next s) (values_at values s).replies
    replies-then = subst (λ (l : List SessionEntry). AreRepliesByLog script next l (values_at values s).replies) (sym begun) (record {
      requests = mine.replies.requests ∙ sym (flat_map-append (λ (e : SessionEntry). reply_by e.deed) log (entry ∷ []) ∙ append-nil (replied_in log));
      each = own-replies no-reply;
    })

    -- after a program's begin the values agree with the logs if the program is put in as running
    pub program-begun : is_look request.work ≡ true → (one : Running) → one.stamp ≡ stamp → IsRunningIn script next r one → AreAllByLog script next (with_running values s (Some one))
    program-begun looks one stamp-is runs = set-values (record { running = Some one; replies = (values_at values s).replies }) (record {
      running = record {
        waits = (λ i. Some (runs.runs.request_is i, stamp-is i)) ∙ sym (ap (program_waiting script) begun ∙ program-after script log entry r stamp request refl at ∙ ap (λ (b : Bool). if b then Some (r, stamp) else None) looks);
        fed = λ other here program look.
            let same : one ≡ other = same_Some one other here in
            subst (λ (x : Running). HasReadAll x.walk program (reads_of next x.request)) same
            (subst (λ n. HasReadAll one.walk program (reads_of next n)) (sym runs.runs.request_is)
            (subst (λ (p : Program). HasReadAll one.walk p (reads_of next r)) (same-program runs.program program r runs.look (subst (λ n. IsLookAt script n program) (ap (λ (x : Running). x.request) (sym same) ∙ runs.runs.request_is) look)) runs.runs.walk));
      };
      replies = replies-then;
    })
      where
        same-program : (a b : Program) (n : ℕ) → IsLookAt script n a → IsLookAt script n b → a ≡ b
        same-program a b n x y =
            let one = same_Some x.request y.request (sym x.request_is ∙ y.request_is) in
            let both : Look a ≡ Look b = sym x.work_is ∙ ap (λ (k : Request). k.work) one ∙ y.work_is in
            cc

    -- after a transaction's begin the same values agree with the logs
    pub change-begun : is_look request.work ≡ false → AreAllByLog script next values
    change-begun changes =
        subst (AreAllByLog script next) (set-get_or values s no_values) (set-values (values_at values s) (record { running = then_running; replies = replies-then }))
      where
        none : (values_at values s).running ≡ None
        none = none-runs (values_at values s).running (mine.running.waits ∙ ap (option_and_then (if-program script)) (none-waits s requests log (is.sessions.logs s) rule.1.replied))

        then_running : IsRunningByLog script next (session_log next s) (values_at values s).running
        then_running = record {
          waits = ap (option_map begun-as) none ∙ sym (ap (program_waiting script) begun ∙ program-after script log entry r stamp request refl at ∙ ap (λ (b : Bool). if b then Some (r, stamp) else None) changes);
          fed = λ one here program look. absurd (none-some one (sym none ∙ here));
        }

  -- A visit

  -- the session's log is as before, and its program is running on
  pub program-visited : session_log next s ≡ log → is_open_in r log ≡ true → (was one : Running) → (values_at values s).running ≡ Some was → was.request ≡ r → one.stamp ≡ was.stamp → IsRunningIn script next r one → AreAllByLog script next (with_running values s (Some one))
  program-visited same waits was one was-is was-request stamp-is runs = set-values (record { running = Some one; replies = (values_at values s).replies }) (subst (λ (l : List SessionEntry). AreValuesByLog script next l (record { running = Some one; replies = (values_at values s).replies })) (sym same) (record {
    running = record {
      waits = (λ i. Some ((runs.runs.request_is ∙ sym was-request) i, stamp-is i)) ∙ sym (ap (option_map begun-as) was-is) ∙ mine.running.waits;
      fed = λ other here program look.
          let eq : one ≡ other = same_Some one other here in
          subst (λ (x : Running). HasReadAll x.walk program (reads_of next x.request)) eq
          (subst (λ n. HasReadAll one.walk program (reads_of next n)) (sym runs.runs.request_is)
          (subst (λ (p : Program). HasReadAll one.walk p (reads_of next r)) (its-program runs.program program r runs.look (subst (λ n. IsLookAt script n program) (ap (λ (x : Running). x.request) (sym eq) ∙ runs.runs.request_is) look)) runs.runs.walk));
    };
    replies = record { requests = mine.replies.requests; each = own-replies (not-true (has_reply_in r log) (and-second (has_begun_in r log) (not (has_reply_in r log)) waits)) };
  }))
    where
      its-program : (a b : Program) (n : ℕ) → IsLookAt script n a → IsLookAt script n b → a ≡ b
      its-program a b n x y =
          let eq = same_Some x.request y.request (sym x.request_is ∙ y.request_is) in
          let both : Look a ≡ Look b = sym x.work_is ∙ ap (λ (k : Request). k.work) eq ∙ y.work_is in
          cc

      and-second : (a b : Bool) → (a && b) ≡ true → b ≡ true
      and-second true b e = e
      and-second false b e = absurd (let f : false ≡ true = e in cc)

  -- A reply

  module _ (waits : is_open_in r log ≡ true) (replied : session_log next s ≡ log ++ record { author = s; deed = Replied r } ∷ []) where
    abbrev last : SessionEntry
    last = record { author = s; deed = Replied r }

    and-parts : (a b : Bool) → (a && b) ≡ true → (a ≡ true) × (b ≡ true)
    and-parts true b e = (refl, e)
    and-parts false b e = absurd (let f : false ≡ true = e in cc)

    unreplied : has_reply_in r log ≡ false
    unreplied = not-true (has_reply_in r log) (and-parts (has_begun_in r log) (not (has_reply_in r log)) waits).1

    -- the request that is replied to waits at the end of its session's log, with a stamp
    pub waiting : (stamp : Stamp) × (waiting_in log ≡ Some (r, stamp))
    waiting =
        let place = place-of requests r (laws.among script r request at) in
        open-waits (session-laws laws) s requests log (is.sessions.logs s) (laws.rise script s) place.0 r place.1 waits

    stamp-log : session_stamp_of r log ≡ Some waiting.0
    stamp-log = stamp-waits (session-laws laws) s requests log (is.sessions.logs s) (laws.rise script s) r waiting.0 waiting.1

    -- after the reply the account has that stamp for the request
    pub stamp-then : stamp_of next r ≡ Some waiting.0
    stamp-then = sym (is-next.sessions.stamps r request at) ∙ ap (session_stamp_of r) replied ∙ stamp-replied log s r ∙ stamp-log

    -- before the reply, too, the account has that stamp for the request
    pub stamp-now : stamp_of account r ≡ Some waiting.0
    stamp-now = sym (is.sessions.stamps r request at) ∙ stamp-log

    -- and it is the stamp that the session began last
    pub last-now : (session_of [] log).last ≡ Some waiting.0
    last-now = last-waits [] log r waiting.0 waiting.1

    -- with a right reply, the values are right
    pub replied-values : (reply : Reply) → reply.request ≡ r → IsReplyInAccount script next reply → AreAllByLog script next (slice_set values s (values_with_reply (values_at values s) reply))
    replied-values reply number right = set-values (values_with_reply (values_at values s) reply) (subst (λ (l : List SessionEntry). AreValuesByLog script next l (values_with_reply (values_at values s) reply)) (sym replied) (record {
      running = record { waits = sym (none-after script log last r refl); fed = λ one here program look. absurd (none-some one here) };
      replies = record {
        requests = map-append (λ (one : Reply). one.request) (values_at values s).replies (reply ∷ [])
            ∙ (λ i. mine.replies.requests i ++ number i ∷ []) ∙ sym (flat_map-append (λ (e : SessionEntry). reply_by e.deed) log (last ∷ []));
        each = λ one has. elim (Contains-append_cases (values_at values s).replies (reply ∷ []) one has) [
          | inl old ↦ own-replies unreplied one old
          | inr new ↦ subst (IsReplyInAccount script next) (only reply one new) right
        ];
      };
    }))

    -- a transaction's reply from the store's log is right in the account, if that log stayed
    pub change-right : is_change request.work ≡ true → next.store ≡ account.store → IsReplyInAccount script next (reply_of_change account.store (session_of [] log).last r)
    change-right changes store = record {
      stamp_is = last-now ∙ sym stamp-then;
      state_is = subst (λ (o : Option Request). IsSomeAnd o (λ (one : Request). IsStateOf next r (session_of [] log).last one.work (state_of_tx (judgement_of r account.store)))) (sym at)
          (subst (λ (o : Option Stamp). IsStateOf next r o request.work (state_of_tx (judgement_of r account.store))) (sym last-now) (by request.work changes));
    }
      where
        by : (work : Work) → is_change work ≡ true → IsStateOf next r (Some waiting.0) work (state_of_tx (judgement_of r account.store))
        by (Change ops) e = ap (λ store. state_of_tx (judgement_of r store)) (sym store)
        by (Look program) e = absurd (let f : false ≡ true = e in cc)

    -- a program's reply is right in the account, if it is from what its walk has read and its reads stayed
    pub program-right : (program : Program) → request.work ≡ Look program → (running : Running) → IsRunningIn script account r running → (reply : Reply) → IsReplyOfProgram running reply → reads_of next r ≡ reads_of account r
        → ((a b : List (Name × State)) (one : Program) (result : Answer) → AreSameReads a b → IsPlainAnswer (graph_read a) one result → IsPlainAnswer (graph_read b) one result) → IsReplyInAccount script next reply
    program-right program looks running runs reply is-reply reads plain-free = record {
      stamp_is = is-reply.stamp_is ∙ sym runs.runs.stamped ∙ stamp-now ∙ sym stamp-then ∙ ap (stamp_of next) (sym number);
      state_is = subst (λ n. IsSomeAnd (request_at script n) (λ (one : Request). IsStateOf next n reply.stamp one.work reply.state)) (sym number)
          (subst (λ (o : Option Request). IsSomeAnd o (λ (one : Request). IsStateOf next r reply.stamp one.work reply.state)) (sym at)
          (subst (λ (o : Option Stamp). IsStateOf next r o request.work reply.state) (sym is-reply.stamp_is)
          (subst (λ (work : Work). IsStateOf next r (Some running.stamp) work reply.state) (sym looks)
          (subst (λ (state : ReplyState). IsStateOf next r (Some running.stamp) (Look program) state) (sym is-reply.state_is) (ended, plain)))));
    }
      where
        number : reply.request ≡ r
        number = is-reply.request_is ∙ runs.runs.request_is

        ended : IsTrue (is_ended next r)
        ended = (laws.replied script next limits is-next r request at (ap is_look looks)).1
            (subst (λ (l : List SessionEntry). IsTrue (has_reply_in r l)) (sym replied)
            (subst (λ (rs : List ℕ). IsTrue (list_any (λ one. one == r) rs)) (sym (flat_map-append (λ (e : SessionEntry). reply_by e.deed) log (last ∷ [])))
            (any_from (λ one. one == r) (replied_in log ++ r ∷ []) r (has_last (replied_in log) r) (eq-eqb r r refl))))

        same-program : runs.program ≡ program
        same-program =
            let one = same_Some runs.look.request request (sym runs.look.request_is ∙ at) in
            let both : Look runs.program ≡ Look program = sym runs.look.work_is ∙ ap (λ (k : Request). k.work) one ∙ looks in
            cc

        plain : IsPlainAnswer (graph_read (reads_of next r)) program is-reply.answer
        plain =
            let walk = runs.runs.walk in
            subst (λ (rs : List (Name × State)). IsPlainAnswer (graph_read rs) program is-reply.answer) (sym reads)
            (plain-free walk.reads (reads_of account r) program is-reply.answer walk.same
            (subst (λ (one : Program). IsPlainAnswer (graph_read walk.reads) one is-reply.answer) (walk.program_is ∙ same-program) (is-reply.plain walk.reads walk.has_read)))
