-- The values of each session after a phase are those of its log in the closed logs.
-- Used by HowFar, OpenPairs and PhaseEnds.
use Rattle.std.proofs.Common.{◌≡◌, ℕ, ◌-◌, ◌<◌, ◌≤◌, ◌==◌, Bool, true, false, cond, List, [], ◌∷◌, ◌++◌, length, map, Contains, IsTrue, Option, None, Some, inl, inr, refl, sym, ap, subst, ◌∙◌, append_assoc, arith}
use Rattle.std.specs.Prelude.{is_some, slice_get, IsSomeAnd, if◌then◌else◌}
use Rattle.std.specs.List.{filter}
use Rattle.std.specs.Option.{option_and_then, option_map}
use Rattle.std.proofs.lemmas.Bool.{cases_Bool, eqb-true}
use Rattle.std.proofs.lemmas.List.{append-nil, append_cancel_left, length-append, map-append}
use Rattle.std.proofs.lemmas.List.Concat.{flat_map-append}
use Rattle.std.proofs.lemmas.List.Elements.{Contains-append_cases, filter-append}
use Rattle.std.proofs.lemmas.Option.{get_or_from_slice_get, same_Some, slice_get-get_or, slice_get_within}
use Rattle.weave_data.proofs.Ends.{by_last}
use Rattle.weave_data.proofs.Members.{cut_at, filter_has, flat_has, has_flat, has_head, has_map, has_none, has_tail, map_has}
use Rattle.weave_data.proofs.Ordered.{find_by_key}
use Rattle.vector_stamp.specs.declared.clock.Stamp.{Stamp}
use Rattle.graph_ops.specs.Operations.{State}
use Rattle.weave_data.specs.declared.name.Name.{Name}
use Rattle.path_program.specs.AnyPrograms.{any_of}
use Rattle.program_defs.specs.Agreement.{AreSameReads}
use Rattle.program_defs.specs.PlainAnswer.{IsPlainAnswer}
use Rattle.program_defs.specs.Visits.{graph_read}
use Rattle.program_defs.specs.Works.{is_change, is_look}
use Rattle.program_defs.specs.declared.program.Program.{Program}
use Rattle.program_defs.specs.declared.script.Request.{Request}
use Rattle.program_defs.specs.declared.script.Script.{Script}
use Rattle.program_defs.specs.declared.script.Work.{Work}
use Rattle.program_defs.specs.declared.script.Work.TheVariants.{Change, Look}
use Rattle.report_rules.specs.Lookups.{is_some_and, request_at}
use Rattle.report_rules.specs.declared.report.Reply.{Reply}
use Rattle.report_rules.specs.declared.report.ReplyState.{ReplyState}
use Rattle.weave_entries.specs.declared.session_log.SessionEntry.{SessionEntry}
use Rattle.weave_entries.specs.declared.session_log.SessionDeed.{SessionDeed}
use Rattle.weave_entries.specs.declared.session_log.SessionDeed.TheVariants as session
use Rattle.weave_entries.specs.declared.shard_log.ShardEntry.{ShardEntry}
use Rattle.weave_entries.specs.declared.gate_log.GateEntry.{GateEntry}
use Rattle.weave_entries.specs.declared.store_log.StoreEntry.{StoreEntry}
use Rattle.weave_entries.specs.StoreReplay.{Judgement, judged_by, judgement_of, judgements_of}
use Rattle.hands_account.proofs.Once.{tx-request}
use Rattle.seen_logs.specs.Seen.{AreLegal, entries_since, without_sessions}
use Rattle.weaver_hands.specs.Programs.{own_reads}
use Rattle.weaver_workers.specs.Keeping.{KeepsClient}
use Rattle.workers_account.specs.Visits.{IsReplyByJudgement, IsReplyByReads}
use Rattle.weave_entries.specs.GateReplay.{BegunRequest, begun_by, begun_in, ended_by, program_by, programs_of, tx_by}
use Rattle.weave_entries.specs.SessionReplay.{IsSessionLog, SessionState, begins_in, has_reply_in, replied_in, reply_by, session_after, session_of, session_stamp_of}
use Rattle.weave_entries.specs.ShardReplay.{Visit, visit_by, visits_of}
use Rattle.weave_account.specs.declared.account.Account.{Account}
use Rattle.weave_account.specs.Account.{all_begun, gate_log, reads_of, session_log, shard_log, stamp_of}
use Rattle.weave_account.specs.GoesOn.{GoesOn, IsBeginningOf, visits_by}
use Rattle.weave_account.specs.IsAccount.{IsAccount}
use Rattle.weave_account.specs.Report.{IsReplyInAccount, IsStateOf, state_of_tx}
use Rattle.weave_account.specs.Sessions.{requests_of_session}
use Rattle.weave_account.proofs.GoesOn.{has-on}
use Rattle.hands_account.proofs.ByHands.{by-author, start-within}
use Rattle.weaver_core.specs.declared.client.Client.{Client}
use Rattle.weaver_core.specs.declared.walks.Running.{Running}
use Rattle.weaver_core.specs.Sessions.{SessionValues, log_of_client}
use Rattle.weaver_core.specs.Splitting.{AreRepliesByLog, AreValuesByLog, IsClientByLog, begun_by_session as waiting_by, program_waiting, waiting_in}
use Rattle.weaver_core.specs.Staying.{StayLaws}
use Rattle.weaver_core.specs.Walks.{HasReadAll, IsLookAt}
use Rattle.weaver_core.proofs.ProgramsStay.{StaysAt}
use Rattle.weaver_core.proofs.Replied.{replied-ended}
use Rattle.weaver_core.proofs.ValuesStay.{replies-stay, values-stay}
use Rattle.weaver_core.proofs.Waiting.{last-waits, none-waits, session-laws, waits-more, waits-open}
use Rattle.weaver_locks.specs.declared.hand.Hand.{Hand}
use Rattle.weaver_locks.specs.declared.shared.Shared.{Shared}
use Rattle.weaver_locks.specs.Closing.{seen_by_number}
use Rattle.weaver_locks.specs.Hands.{hand_number, made_by, seen_by}
use Rattle.weaver_locks.specs.Locks.{hands_of}
use Rattle.workers_account.specs.Phase.{IsClosedBy, IsPhaseRun}
use Rattle.workers_account.specs.PhaseLaws.{PhaseLaws}
use Rattle.workers_account.proofs.Parts.{Part, at-hand, own-since, part-of, seen-on, session-part}
use Rattle.workers_account.proofs.SessionLogs.{begins-cases, begins-on, begun-here, log-at, stamp-there}
use Rattle.workers_account.proofs.Begun.{LeftLog, all-has, begun-in-part, gained-log, left-log, logs-alike, logs-right, made-there, start-logged, stamps-alike}
use Rattle.workers_account.proofs.Ended.{all-ended, goes, replied-on}
use Rattle.workers_account.proofs.Visited.{BeganSince, all-own, since-part, visit-since}
use Rattle.workers_account.proofs.Follows.{begun-new}
use Rattle.workers_account.proofs.Own.{since-is}
use Rattle.workers_account.proofs.Programs.{ended-begun, replied-new}
use Rattle.step_rules.proofs.SessionTurns.{one-more}

-- no element passes
none-pass : {A : Type 0} (p : A → Bool) (xs : List A) → ((x : A) → Contains xs x → IsTrue (p x) → ⊥) → filter p xs ≡ []
none-pass p [] none = refl
none-pass p (x ∷ xs) none =
    elim (cases_Bool (p x)) [
      | inl passes ↦ absurd (none x (has_head x xs) passes)
      | inr fails ↦ ap (λ b. cond b (x ∷ filter p xs) (filter p xs)) fails ∙ none-pass p xs (λ y h. none y (has_tail x xs y h))
    ]

-- if one waits, its begin is the last entry
one-waits : (requests : List ℕ) (log : List SessionEntry) → (session_of requests log).waits ≡ true → (begun : ℕ × Stamp) × (waiting_in log ≡ Some begun)
one-waits requests =
    by_last (λ log. (session_of requests log).waits ≡ true → (begun : ℕ × Stamp) × (waiting_in log ≡ Some begun))
    (λ waits. absurd cc)
    (λ front entry so waits. after (front ++ entry ∷ []) (session_of requests front) entry.deed (waiting_by entry.deed) refl
    (sym (ap (λ (s : SessionState). s.waits) (one-more requests front entry)) ∙ waits) (waits-more front entry))
  where
    after : (log : List SessionEntry) (state : SessionState) (deed : SessionDeed) (o : Option (ℕ × Stamp)) → waiting_by deed ≡ o
        → (session_after state deed).waits ≡ true → waiting_in log ≡ waiting_by deed → (begun : ℕ × Stamp) × (waiting_in log ≡ Some begun)
    after log state (session.Begun r stamp) o is waits at = ((r, stamp), at)
    after log state (session.Replied r) o is waits at = absurd (let f : false ≡ true = waits in cc)

module _ (laws : PhaseLaws) (stay : StayLaws) (shared : Shared) (script : Script) (upto : ℕ) (start : Account) (was is : List Client) (hands : List Hand)
    (run : IsPhaseRun shared script upto start was is hands) (closed : Account) (end : IsClosedBy shared script start is hands closed)
    (account : IsAccount script closed) where
  on : GoesOn start closed
  on = goes laws shared script upto start was is hands run closed end

  -- Visits since the start

  -- what a shard's log has gained
  more : (shard : ℕ) → IsBeginningOf (shard_log start shard) (shard_log closed shard)
  more = (start-within end.of_hands).shards

  -- a visit there is of a program that its hand began since
  visit-gained : (shard : ℕ) (visit : Visit) → Contains (visits_of (more shard).0) visit → BeganSince laws shared script upto start was is hands run closed end visit.request visit.author
  visit-gained shard visit there =
      let old = shard_log start shard in
      let new = (more shard).0 in
      let from = flat_has (λ (e : ShardEntry). visit_by e.author e.deed) new visit there in
      let cut = cut_at new from.0 from.1 in
      let at : shard_log closed shard ≡ (old ++ cut.before) ++ from.0 ∷ cut.after =
      (more shard).1 ∙ ap (λ (l : List ShardEntry). old ++ l) cut.is ∙ sym (append_assoc old cut.before (from.0 ∷ cut.after)) in
      let many = length-append old cut.before in
      let by = by-author (hands_of shared) old (λ n. shard_log (seen_by_number hands n) shard) (shard_log closed shard)
      (λ n known. (end.of_hands.within n known).shards shard) (old ++ cut.before) from.0 cut.after at from.0.author
      (end.of_hands.shard_entries shard (old ++ cut.before) from.0 cut.after at) (omega (arith, many)) from.0.author refl in
      visit-since laws shared script upto start was is hands run closed end from.0.author by.known from.0.deed visit from.2
      (end.of_hands.own_visits from.0.author by.known shard (old ++ cut.before) from.0 by.rest by.at by.own)

  -- so a request that no hand began since is read no more
  visits-same : (r : ℕ) → ((author : ℕ) → BeganSince laws shared script upto start was is hands run closed end r author → ⊥) → (shard : ℕ)
      → visits_by r (shard_log closed shard) ≡ visits_by r (shard_log start shard)
  visits-same r none shard =
      let p = λ (visit : Visit). visit.request == r in
      let old = visits_of (shard_log start shard) in
      let new = visits_of (more shard).0 in
      ap (visits_by r) (more shard).1
      ∙ ap (filter p) (flat_map-append (λ (e : ShardEntry). visit_by e.author e.deed) (shard_log start shard) (more shard).0)
      ∙ filter-append p old new
      ∙ ap (λ l. filter p old ++ l) (none-pass p new (λ visit h test. none visit.author
      (subst (λ (q : ℕ). BeganSince laws shared script upto start was is hands run closed end q visit.author) (eqb-true visit.request r test) (visit-gained shard visit h))))
      ∙ append-nil (filter p old)

  -- a request that had its reply at the start was begun by no hand since
  pub replied-before : (t r : ℕ) → IsTrue (has_reply_in r (session_log start t)) → (begun : BegunRequest) × Contains (all_begun start) begun × (begun.request ≡ r)
  replied-before t r replied =
      let ended = all-ended start r (replied-ended script start run.at_start.is_account r t replied) in
      let log = gate_log start ended.0 in
      let from = flat_has (λ (e : GateEntry). ended_by e.deed) log r ended.1 in
      let cut = cut_at log from.0 from.1 in
      let rule = laws.ends ended.0 script.shards log (run.at_start.is_account.gatekeepers.logs ended.0) cut.before from.0 cut.after cut.is in
      let before = ended-begun cut.before from.0.author from.0.deed r from.2 rule in
      let entry = flat_has (λ (e : GateEntry). begun_by e.author e.deed) cut.before before.0 before.1 in (
        before.0,
        all-has start ended.0 before.0 (has_flat (λ (e : GateEntry). begun_by e.author e.deed) log entry.0 before.0
            (has-on cut.before log (from.0 ∷ cut.after, cut.is) entry.0 entry.1) entry.2),
        before.2,
      )

  not-since : (r : ℕ) (begun : BegunRequest) → Contains (all_begun start) begun → begun.request ≡ r → (author : ℕ)
      → BeganSince laws shared script upto start was is hands run closed end r author → ⊥
  not-since r begun there same author since =
      begun-new laws shared script upto start was is hands run closed end since.hand since.h since.home since.begun since.there begun there
      (same ∙ sym since.request_is)

  -- what is said of a request that had its reply stays
  replied-stays : (t q : ℕ) (request : Request) → request_at script q ≡ Some request → request.session ≡ t → IsTrue (has_reply_in q (session_log start t))
      → StaysAt start closed q request
  replied-stays t q request at of replied =
      let before = replied-before t q replied in
      let s = request.session in
      let here = subst (λ (x : ℕ). IsTrue (has_reply_in q (session_log start x))) (sym of) replied in
      let logged = subst (λ (x : ℕ). Contains (begins_in (session_log start s)) (x, before.0.stamp)) before.2
      (start-logged laws shared script upto start was is hands run closed end before.0 before.1 request (ap (request_at script) before.2 ∙ at)) in
      let later = subst (λ (l : List SessionEntry). Contains (begins_in l) (q, before.0.stamp)) (sym (on.sessions s).1)
      (begins-on (session_log start s) (on.sessions s).0 q before.0.stamp logged) in
      let replied-then = subst (λ (l : List SessionEntry). Contains (replied_in l) q) (sym (on.sessions s).1)
      (replied-on (session_log start s) (on.sessions s).0 q ((laws.has_reply q (session_log start s)).0 here)) in
      record {
        stamps = stamp-there laws script s (session_log closed s) (logs-right laws shared script upto start was is hands run closed end s) q before.0.stamp later
            ∙ sym (stamp-there laws script s (session_log start s) (run.at_start.is_account.sessions.logs s) q before.0.stamp logged);
        replies = (laws.has_reply q (session_log closed s)).1 replied-then ∙ sym here;
        visits = visits-same q (not-since q before.0 before.1 before.2);
      }

  -- Sessions that were left as they were

  -- what is said of their requests stays
  left-stays : (t : ℕ) → session_log closed t ≡ session_log start t → (q : ℕ) (request : Request) → request_at script q ≡ Some request → request.session ≡ t
      → StaysAt start closed q request
  left-stays t same q request at of =
      let s = request.session in
      let alike : session_log closed s ≡ session_log start s = ap (session_log closed) of ∙ same ∙ ap (session_log start) (sym of) in
      record {
        stamps = ap (session_stamp_of q) alike;
        replies = ap (has_reply_in q) alike;
        visits = visits-same q (λ author since. began-none since);
      }
    where
      began-none : {author : ℕ} → BeganSince laws shared script upto start was is hands run closed end q author → ⊥
      began-none since =
          let one = begun-in-part laws shared script upto start was is hands run closed end since.hand since.h since.home since.begun since.there in
          let requests : one.request ≡ request = same_Some one.request request (sym one.request_is ∙ ap (request_at script) since.request_is ∙ at) in
          let sessions : one.session ≡ t = sym one.session_is ∙ ap (λ (r : Request). r.session) requests ∙ of in
          let gained = one.left.part.has.followed.in_step.gained.session in
          let nothing : gained ≡ [] =
          append_cancel_left (session_log start one.session) gained []
          (sym (gained-log laws shared script upto start was is hands run closed end one.session since.hand since.h one.left)
          ∙ ap (session_log closed) sessions ∙ same ∙ ap (session_log start) (sym sessions) ∙ sym (append-nil (session_log start one.session))) in
          has_none _ (subst (λ (l : List SessionEntry). Contains (begins_in l) (since.begun.request, since.begun.stamp)) nothing one.logged)

  values-left : (t : ℕ) (client : Client) → session_log start t ≡ log_of_client client → session_log closed t ≡ session_log start t
      → IsClientByLog script start client → IsClientByLog script closed client
  values-left t client log-is same by_log =
      let values : SessionValues = record { running = client.running; replies = client.replies.items } in
      let before : AreValuesByLog script start (session_log start t) values =
      subst (λ (l : List SessionEntry). AreValuesByLog script start l values) (sym log-is) (record { running = by_log.running; replies = by_log.replies }) in
      let after = values-stay stay script start closed run.at_start.limits run.at_start.is_account account on t same
      (left-stays t same) values before in
      let now = subst (λ (l : List SessionEntry). AreValuesByLog script closed l values) (same ∙ log-is) after in
      record { session = by_log.session; running = now.running; replies = now.replies }

  -- Sessions that were followed

  module _ (t : ℕ) (hand : Hand) (h : Contains hands hand) (left : LeftLog laws shared script upto start was is hands run closed end t hand h) where
    abbrev part : Part shared script upto was is run.hand_of hand
    part = part-of laws shared script upto start was is hands run hand h

    abbrev client : Client
    client = left.part.has.on.left

    abbrev log : List SessionEntry
    log = log_of_client client

    abbrev gained : List SessionEntry
    gained = left.part.has.followed.in_step.gained.session

    right : IsSessionLog t (requests_of_session script t) log
    right = subst (λ (l : List SessionEntry). IsSessionLog t (requests_of_session script t) l) left.is_log
        (logs-right laws shared script upto start was is hands run closed end t)

    -- a program that the session began since is one that the hand has seen begin
    record IsProgramSince (r : ℕ) (stamp : Stamp) : Type 0 where
      home : ℕ
      begun : Contains (begun_in (part.gates home)) (record { author = hand_number hand; request = r; stamp = stamp })
      program : Contains (programs_of (entries_since (gate_log start home) (gate_log (seen_by hand) home))) (record { author = hand_number hand; request = r; stamp = stamp })

    no-change : (work : Work) (program : Program) → work ≡ Look program → IsTrue (is_change work) → ⊥
    no-change work program is changes = let f : false ≡ true = ap is_change (sym is) ∙ changes in cc

    program-since : (r : ℕ) (stamp : Stamp) → Contains (begins_in gained) (r, stamp) → (program : Program) → IsLookAt script r program → IsProgramSince r stamp
    program-since r stamp there program look =
        let step = left.part.has.followed.in_step in
        let home = look.request.gate in
        let begun : BegunRequest = record { author = hand_number hand; request = r; stamp = stamp } in
        let at_gate = subst (λ (o : Option Request). IsSomeAnd o (λ (request : Request). Contains (begun_in (step.gained.gates request.gate))
        (record { author = hand_number part.from; request = r; stamp = stamp }))) look.request_is (step.in_step.at_gate r stamp there) in
        let in_part = subst (λ (n : ℕ). Contains (begun_in (part.gates home)) (record { author = n; request = r; stamp = stamp })) part.number_is
        (subst (λ (g : ℕ → List GateEntry). Contains (begun_in (g home)) (record { author = hand_number part.from; request = r; stamp = stamp })) left.part.has.gates_are at_gate) in
        let from = flat_has (λ (e : GateEntry). begun_by e.author e.deed) (part.gates home) begun in_part in
        let own = λ (e : GateEntry). e.author == hand_number hand in
        let seen = seen-on laws shared script upto start was is hands run hand part home in
        let there_seen = (filter_has own seen.0 from.0
        (subst (λ (l : List GateEntry). Contains l from.0) (sym (own-since laws shared script upto start was is hands run hand part home)) from.1)).0 in
        elim (Contains-append_cases (tx_by from.0.author from.0.deed) (program_by from.0.author from.0.deed) begun from.2) [
          | inl tx ↦
              let cut = cut_at (gate_log closed home) from.0 (made-there laws shared script upto start was is hands run closed end hand h home from.0 from.1) in
              let has = tx-request script closed home cut.before from.0.author from.0.deed (account.gatekeepers.begins home cut.before from.0 cut.after cut.is) begun tx in
              let requests : has.request ≡ look.request = same_Some has.request look.request (sym has.at ∙ look.request_is) in
              absurd (no-change has.request.work program (ap (λ (q : Request). q.work) requests ∙ look.work_is) has.kind)
          | inr is-program ↦ record {
            home = home;
            begun = in_part;
            program = subst (λ (l : List GateEntry). Contains (programs_of l) begun) (sym (since-is laws shared script upto start was is hands run hand part home))
                (has_flat (λ (e : GateEntry). program_by e.author e.deed) seen.0 from.0 begun there_seen is-program);
          }
        ]

    few : length (without_sessions closed).gates ≤ 8
    few = let gates = end.gates in let limit = run.at_start.limits.few_gates in omega (arith, gates, limit)

    legal-apart : AreLegal script.gates script.shards (without_sessions closed)
    legal-apart = record {
      gate_logs = end.legal.gate_logs;
      hears = end.legal.hears;
      store_log = end.legal.store_log;
      oracle_log = end.legal.oracle_log;
      shard_logs = end.legal.shard_logs;
    }

    -- such a program has read in the closed logs what the hand's visits read
    pub reads-are : (r : ℕ) (stamp : Stamp) (home : ℕ) → Contains (programs_of (entries_since (gate_log start home) (gate_log (seen_by hand) home))) (record { author = hand_number hand; request = r; stamp = stamp })
        → own_reads hand r ≡ reads_of closed r
    reads-are r stamp home program =
        let number = run.by_number hand h in
        let in_part = since-part laws shared script upto start was is hands run closed end hand h home r stamp program in
        let mine = all-own laws shared script upto start was is hands run closed end hand h home r stamp in_part in
        let theirs = laws.reads_closed script.gates script.shards (hands_of shared) (without_sessions start) (seen_by_number hands) (without_sessions closed)
        few legal-apart end.of_hands account.gatekeepers.once (hand_number hand) home r stamp number.0
        (subst (λ (a : Account). Contains (programs_of (entries_since (gate_log start home) (gate_log a home))) (record { author = hand_number hand; request = r; stamp = stamp })) (sym number.1) program) in
        mine ∙ ap (λ (a : Account). reads_of a r) (sym number.1) ∙ sym theirs

    -- Replies

    -- the stamp of a reply
    stamped : (r : ℕ) (stamp : Stamp) → Contains (begins_in log) (r, stamp) → (request : Request) × (request_at script r ≡ Some request) × (Some stamp ≡ stamp_of closed r)
    stamped r stamp there =
        let of = begun-here laws script t log right r stamp there in (
          of.0,
          of.1,
          sym (stamp-there laws script t log right r stamp there)
              ∙ ap (session_stamp_of r) (sym left.is_log ∙ ap (session_log closed) (sym of.2))
              ∙ stamps-alike laws shared script upto start was is hands run closed end r of.0 of.1,
        )

    by-judgement : (reply : Reply) → IsReplyByJudgement script hand reply → (o : Option Stamp) → reply.stamp ≡ o → (request : Request) → request_at script reply.request ≡ Some request
        → IsStateOf closed reply.request o request.work reply.state
    by-judgement reply by o is request at =
        let judged = by.judged in
        let own = λ (e : StoreEntry). e.author == hand_number hand in
        let made : (made_by hand).store ≡ filter own closed.store = ap (λ (a : Account). a.store) (sym (end.made hand h)) in
        let from = map_has (λ (e : StoreEntry). judged_by e.author e.deed) (made_by hand).store judged by.there in
        let in_closed = (filter_has own closed.store from.0 (subst (λ (l : List StoreEntry). Contains l from.0) made from.1)).0 in
        let there : Contains (judgements_of closed.store) judged =
        subst (λ (j : Judgement). Contains (judgements_of closed.store) j) from.2
        (has_map (λ (e : StoreEntry). judged_by e.author e.deed) closed.store from.0 in_closed) in
        let found : judgement_of reply.request closed.store ≡ Some judged =
        ap (λ (r : ℕ). judgement_of r closed.store) (sym by.request_is)
        ∙ find_by_key (λ (j : Judgement). j.request) (judgements_of closed.store) judged account.store.once there in
        let requests : by.asked ≡ request = same_Some by.asked request (sym by.asked_is ∙ at) in
        subst (λ (work : Work). IsStateOf closed reply.request o work reply.state) (sym by.work_is ∙ ap (λ (q : Request). q.work) requests)
        (subst (λ (s : Option Stamp). IsStateOf closed reply.request s (Change judged.ops) reply.state) (sym by.stamp_is ∙ is)
        (by.state_is ∙ ap state_of_tx (sym found)))

    by-reads : (reply : Reply) (stamp : Stamp) → Contains (begins_in gained) (reply.request, stamp) → IsReplyByReads script (at-hand hand client) reply → (request : Request)
        → request_at script reply.request ≡ Some request → IsStateOf closed reply.request (Some stamp) request.work reply.state
    by-reads reply stamp since-then by request at =
        let r = reply.request in
        let one = program-since r stamp since-then by.program by.look in
        let same = reads-are r stamp one.home one.program in
        let requests : by.look.request ≡ request = same_Some by.look.request request (sym by.look.request_is ∙ at) in
        let replied = (laws.has_reply r (session_log closed t)).1 (subst (λ (l : List SessionEntry). Contains (replied_in l) r) (sym left.is_log) by.replied) in
        let ended = replied-ended script closed account r t replied in
        subst (λ (work : Work). IsStateOf closed r (Some stamp) work reply.state) (sym by.look.work_is ∙ ap (λ (q : Request). q.work) requests)
        (subst (λ (state : ReplyState). IsStateOf closed r (Some stamp) (Look by.program) state) (sym by.state_is)
        (ended, subst (λ (reads : List (Name × State)). IsPlainAnswer (graph_read reads) by.program by.answer) same by.plain))

    -- a reply since is of a request that began since
    began-since : (reply : Reply) (stamp : Stamp) → Contains left.part.has.followed.in_step.gained.replies reply → Contains (begins_in log) (reply.request, stamp)
        → Contains (begins_in gained) (reply.request, stamp)
    began-since reply stamp there begun =
        let step = left.part.has.followed.in_step in
        let replied : Contains (replied_in gained) reply.request =
        subst (λ (rs : List ℕ). Contains rs reply.request) step.replied (has_map (λ (one : Reply). one.request) step.gained.replies reply there) in
        elim (begins-cases (session_log start t) gained reply.request stamp
        (subst (λ (l : List SessionEntry). Contains (begins_in l) (reply.request, stamp))
        (sym left.is_log ∙ gained-log laws shared script upto start was is hands run closed end t hand h left) begun)) [
          | inl before ↦ absurd (replied-new laws shared script upto start was is hands run closed end hand h t left reply.request replied stamp before)
          | inr since-then ↦ since-then
        ]

    new-reply : (reply : Reply) → Contains left.part.has.followed.in_step.gained.replies reply → IsReplyInAccount script closed reply
    new-reply reply there =
        let step = left.part.has.followed.in_step in
        let by = left.part.has.followed.replies step.gained.replies step.gained.in_replies reply there in
        let of = stamped reply.request by.stamp by.begun in
        record {
          stamp_is = by.stamp_is ∙ of.2;
          state_is = subst (λ (o : Option Request). IsSomeAnd o (λ (request : Request). IsStateOf closed reply.request reply.stamp request.work reply.state)) (sym of.1)
              (elim by.state [
                | inl judged ↦ by-judgement reply judged reply.stamp refl of.0 of.1
                | inr reads ↦ subst (λ (o : Option Stamp). IsStateOf closed reply.request o of.0.work reply.state) (sym by.stamp_is)
                    (by-reads reply by.stamp (began-since reply by.stamp there by.begun) reads of.0 of.1)
              ]);
        }

    old-by-log : IsClientByLog script start left.part.has.on.client
    old-by-log =
        let on-client = left.part.has.on in
        run.at_start.by_log on-client.client
        (t, slice_get_within was t on-client.client on-client.client_is, get_or_from_slice_get was t on-client.client on-client.client on-client.client_is)

    replies-by-log : AreRepliesByLog script closed log client.replies.items
    replies-by-log =
        let step = left.part.has.followed.in_step in
        let before = left.part.has.on.client in
        let old = subst (λ (l : List SessionEntry). AreRepliesByLog script start l before.replies.items) (sym left.was_log) old-by-log.replies in
        let logs : log ≡ session_log start t ++ gained = sym left.is_log ∙ gained-log laws shared script upto start was is hands run closed end t hand h left in
        record {
          requests = ap (map (λ (reply : Reply). reply.request)) step.gained.in_replies
              ∙ map-append (λ (reply : Reply). reply.request) before.replies.items step.gained.replies
              ∙ ap (λ rs. rs ++ map (λ (reply : Reply). reply.request) step.gained.replies) old.requests
              ∙ ap (λ rs. replied_in (session_log start t) ++ rs) step.replied
              ∙ sym (flat_map-append (λ (e : SessionEntry). reply_by e.deed) (session_log start t) gained)
              ∙ ap replied_in (sym logs);
          each = λ reply there. elim (Contains-append_cases before.replies.items step.gained.replies reply
              (subst (λ (rs : List Reply). Contains rs reply) step.gained.in_replies there)) [
                | inl early ↦ replies-stay stay script start closed run.at_start.limits run.at_start.is_account account on t before.replies.items old
                    (replied-stays t) reply early
                | inr since-then ↦ new-reply reply since-then
              ];
        }

    -- The program that is running

    keeps : KeepsClient shared script t hand client
    keeps = left.part.has.followed.keeps

    state-is : session_of (requests_of_session script t) log ≡ client.session
    state-is = ap (λ (rs : List ℕ). session_of rs log) (sym keeps.requests) ∙ sym keeps.at_end.state

    waits-so : (o : Option Running) → client.running ≡ o → option_map (λ (one : Running). (one.request, one.stamp)) o ≡ program_waiting script log
    waits-so None is =
        sym (ap (option_and_then (λ (begun : ℕ × Stamp). if is_some_and (λ (request : Request). is_look request.work) (request_at script begun.0) then Some begun else None))
        (none-waits t (requests_of_session script t) log right
        (ap (λ (s : SessionState). s.waits) state-is ∙ keeps.waits ∙ ap is_some is)))
    waits-so (Some one) is =
        let for = keeps.running one is in
        let requests = requests_of_session script t in
        let waits : (session_of requests log).waits ≡ true = ap (λ (s : SessionState). s.waits) state-is ∙ for.turn.waits in
        let begun = one-waits requests log waits in
        let place = (waits-open (session-laws stay) t requests log right (laws.rise script t) begun.0.0 begun.0.1 begun.1).1 in
        let request : begun.0.0 ≡ one.request =
        same_Some begun.0.0 one.request (sym place ∙ ap (λ (s : SessionState). slice_get requests (s.begun - 1)) state-is
        ∙ ap (λ (rs : List ℕ). slice_get rs (client.session.begun - 1)) (sym keeps.requests) ∙ for.turn.last) in
        let stamp : begun.0.1 ≡ one.stamp =
        same_Some begun.0.1 one.stamp (sym (last-waits requests log begun.0.0 begun.0.1 begun.1) ∙ ap (λ (s : SessionState). s.last) state-is ∙ for.stamp_is) in
        let is_one : waiting_in log ≡ Some (one.request, one.stamp) = begun.1 ∙ (λ i. Some (request i, stamp i)) in
        let looks : is_some_and (λ (q : Request). is_look q.work) (request_at script one.request) ≡ true =
        ap (is_some_and (λ (q : Request). is_look q.work)) for.look.request_is ∙ ap is_look for.look.work_is in
        sym (ap (option_and_then (λ (b : ℕ × Stamp). if is_some_and (λ (q : Request). is_look q.work) (request_at script b.0) then Some b else None)) is_one
        ∙ ap (λ (b : Bool). if b then Some (one.request, one.stamp) else None) looks)

    fed-so : (one : Running) → client.running ≡ Some one → (program : Program) → IsLookAt script one.request program
        → HasReadAll one.walk program (reads_of closed one.request)
    fed-so one is program look =
        let for = keeps.running one is in
        let home = one.stamp.home in
        let requests : for.look.request ≡ look.request = same_Some for.look.request look.request (sym for.look.request_is ∙ look.request_is) in
        let works : Look (any_of one.walk) ≡ Look program = sym for.look.work_is ∙ ap (λ (q : Request). q.work) requests ∙ look.work_is in
        let began = subst (λ (a : Account). Contains (programs_of (entries_since (gate_log a home) (gate_log (seen_by hand) home)))
        (record { author = hand_number hand; request = one.request; stamp = one.stamp })) run.at_start.start_is for.runs.begun in
        record {
          program_is = cc;
          reads = for.runs.reads;
          has_read = for.runs.walk;
          same = subst (λ (reads : List (Name × State)). AreSameReads for.runs.reads reads) (reads-are one.request one.stamp home began) for.runs.same;
        }

    followed-by-log : IsClientByLog script closed client
    followed-by-log = record {
      session = keeps.at_end.state;
      running = record { waits = waits-so client.running refl; fed = λ one is program look. fed-so one is program look };
      replies = replies-by-log;
    }

  -- All sessions

  at-place : (t : ℕ) (client : Client) → slice_get is t ≡ Some client → IsClientByLog script closed client
  at-place t client there =
      let low : t < 64 = let within = slice_get_within is t client there in let many = run.many in omega (arith, within, many) in
      elim (session-part laws shared script upto start was is hands run t low) [
        | inl same ↦
            let before : slice_get was t ≡ Some client = sym same ∙ there in
            values-left t client (log-at start was run.at_start.logs t client before)
            (logs-alike laws shared script upto start was is hands run closed end t same)
            (run.at_start.by_log client (t, slice_get_within was t client before, get_or_from_slice_get was t client client before))
        | inr one ↦
            subst (λ (c : Client). IsClientByLog script closed c) (same_Some one.2.has.on.left client (sym one.2.has.on.left_is ∙ there))
            (followed-by-log t one.0 one.1 (left-log laws shared script upto start was is hands run closed end t one.0 one.1 one.2))
      ]

  -- each client's values after the phase are those of its log in the closed logs
  pub clients-by-log : (client : Client) → Contains is client → IsClientByLog script closed client
  clients-by-log client has = at-place has.0 client (slice_get-get_or is has.0 client has.1 ∙ ap Some has.2)
