-- What began at the closed gatekeepers is what the sessions' logs say began, with the same stamps.
-- Used by Ends, Follows, Programs and Visits.
use Rattle.std.proofs.Common.{◌≡◌, ℕ, List, [], ◌++◌, length, map, get_or, Contains, Option, None, Some, ◌⊎◌, inl, inr, refl, sym, ap, subst, ◌∙◌, arith}
use Rattle.std.specs.Prelude.{slice_get, IsSomeAnd}
use Rattle.std.specs.List.{range_with_len}
use Rattle.std.specs.Option.{option_map, unwrap_or}
use Rattle.std.proofs.lemmas.Bool.{cases_lt}
use Rattle.std.proofs.lemmas.List.{append-nil, length-map}
use Rattle.std.proofs.lemmas.List.FromFn.{length-range_with_len}
use Rattle.std.proofs.lemmas.Option.{same_Some, slice_get-map, slice_get_past, unwrap_or-slice_get}
use Rattle.weave_data.proofs.Members.{flat_has, has_flat}
use Rattle.vector_stamp.specs.declared.clock.Stamp.{Stamp}
use Rattle.program_defs.specs.declared.script.Request.{Request}
use Rattle.report_rules.specs.Lookups.{request_at}
use Rattle.weave_entries.specs.declared.gate_log.GateEntry.{GateEntry}
use Rattle.weave_entries.specs.declared.session_log.SessionEntry.{SessionEntry}
use Rattle.weave_entries.specs.GateReplay.{BegunRequest, begun_by, begun_in}
use Rattle.weave_entries.specs.SessionReplay.{IsSessionLog, begins_in, session_stamp_of}
use Rattle.weave_account.specs.declared.account.Account.{Account}
use Rattle.weave_account.specs.Account.{all_begun, gate_log, session_log, stamp_of}
use Rattle.weave_account.specs.GoesOn.{IsBeginningOf}
use Rattle.weave_account.specs.Sessions.{requests_of_session}
use Rattle.weaver_core.specs.declared.client.Client.{Client}
use Rattle.weaver_core.specs.Sessions.{log_of_client, requests_in}
use Rattle.weaver_locks.specs.declared.hand.Hand.{Hand}
use Rattle.weaver_locks.specs.Hands.{hand_number}
use Rattle.workers_account.specs.Phase.{IsClosedBy}
use Rattle.weave_account.proofs.Replying.{has-all}
use Rattle.weave_account.proofs.GoesOn.{has-on}
use Rattle.workers_account.proofs.Begun.{all-has, no-stamp, stamp-began, stamp-is}
use Rattle.workers_account.proofs.SessionLogs.{begins-cases, begins-later, begins-on, begun-here, log-at, stamp-from, stamp-there}
use Rattle.sessions_account.specs.Histories.{HasSession}
use Rattle.sessions_account.proofs.Gains.{IsRequestOf}
use Rattle.sessions_account.proofs.Runs.{Run, gate-entry, gates-on, given-from, given-now, history, made-there, part}

-- a request with a stamp was begun at some gatekeeper
pub record BeganAt (account : Account) (r : ℕ) (stamp : Stamp) : Type 0 where
  pub home : ℕ
  pub begun : BegunRequest
  pub there : Contains (begun_in (gate_log account home)) begun
  pub request_is : begun.request ≡ r
  pub stamp_is : begun.stamp ≡ stamp

module _ (x : Run) (closed : Account) (end : IsClosedBy x.shared x.script x.start x.is x.hands closed) where
  -- Logs

  -- the log of a client that is as it was
  same-log : (t : ℕ) → slice_get x.is t ≡ slice_get x.was t → session_log closed t ≡ session_log x.start t
  same-log t same =
      let log : List Client → List SessionEntry = λ cs. get_or (map log_of_client cs) t [] in
      let there : (cs : List Client) → log cs ≡ unwrap_or (option_map log_of_client (slice_get cs t)) [] = λ cs.
      sym (unwrap_or-slice_get (map log_of_client cs) t []) ∙ ap (λ (o : Option (List SessionEntry)). unwrap_or o []) (slice_get-map log_of_client cs t) in
      ap (λ (logs : List (List SessionEntry)). get_or logs t []) end.sessions
      ∙ there x.is ∙ ap (λ (o : Option Client). unwrap_or (option_map log_of_client o) []) same ∙ sym (there x.was)
      ∙ ap (λ (logs : List (List SessionEntry)). get_or logs t []) (sym x.served.at_start.logs)

  -- a session of the hand: its log was that of its client, and is
  pub record LogLeft (t : ℕ) (hand : Hand) (h : Contains x.hands hand) : Type 0 where
    pub given : HasSession x.served.hand_of (hand_number hand) t
    pub was_log : session_log x.start t ≡ log_of_client ((history x hand h).from.clients t)
    pub is_log : session_log closed t ≡ log_of_client ((history x hand h).left t)

  abbrev pub log-left : (t : ℕ) (hand : Hand) (h : Contains x.hands hand) → HasSession x.served.hand_of (hand_number hand) t → LogLeft t hand h
  log-left t hand h given = record {
    given = given;
    was_log = log-at x.start x.was x.served.at_start.logs t ((history x hand h).from.clients t) ((history x hand h).may_begin.client_was t (given-from x hand h t given));
    is_log = log-at closed x.is end.sessions t ((history x hand h).left t) ((history x hand h).client_is t given);
  }

  -- the log of a session is as it was, or the session is a hand's
  pub session-case : (t : ℕ) → (session_log closed t ≡ session_log x.start t) ⊎ ((hand : Hand) × (h : Contains x.hands hand) × LogLeft t hand h)
  session-case t =
      elim (cases_lt t 64) [
        | inl low ↦ elim (x.served.sessions t low) [
          | inl same ↦ inl (same-log t same)
          | inr one ↦ inr (one.0, one.1, log-left t one.0 one.1 (low, one.2))
        ]
        | inr high ↦
            let many : length x.was ≡ 64 = sym (length-map x.was requests_in) ∙ ap length x.served.at_start.requests
            ∙ length-map (range_with_len 0 64) (requests_of_session x.script) ∙ length-range_with_len 0 64 in
            let now = x.served.many in
            inl (same-log t (slice_get_past x.is t (omega (arith, high, now)) ∙ sym (slice_get_past x.was t (omega (arith, high, many)))))
      ]

  -- if a hand left the log of a session, it is the one of the start, then what the hand gained in it
  pub gained-log : (t : ℕ) (hand : Hand) (h : Contains x.hands hand) → LogLeft t hand h
      → session_log closed t ≡ session_log x.start t ++ (part x hand h).logs t
  gained-log t hand h left =
      left.is_log ∙ (part x hand h).in_logs t ∙ ap (λ (l : List SessionEntry). l ++ (part x hand h).logs t) (sym left.was_log)

  -- each session's log at the end is one of that session
  pub logs-right : (t : ℕ) → IsSessionLog t (requests_of_session x.script t) (session_log closed t)
  logs-right t =
      elim (session-case t) [
        | inl same ↦ subst (λ (l : List SessionEntry). IsSessionLog t (requests_of_session x.script t) l) (sym same)
            (x.served.at_start.is_account.sessions.logs t)
        | inr one ↦
            let keeps = (part x one.0 one.1).keeps t one.2.given in
            subst (λ (l : List SessionEntry). IsSessionLog t (requests_of_session x.script t) l) (sym one.2.is_log)
            (subst (λ (rs : List ℕ). IsSessionLog t rs (log_of_client ((history x one.0 one.1).left t))) keeps.requests keeps.at_end.right)
      ]

  -- each session's log at the end goes on from that of the start
  pub logs-on : (t : ℕ) → IsBeginningOf (session_log x.start t) (session_log closed t)
  logs-on t =
      elim (session-case t) [
        | inl same ↦ ([], same ∙ sym (append-nil (session_log x.start t)))
        | inr one ↦ ((part x one.0 one.1).logs t, gained-log t one.0 one.1 one.2)
      ]

  -- From the gatekeepers to the sessions

  -- a request of the start that began there is in its session's log
  pub start-logged : (begun : BegunRequest) → Contains (all_begun x.start) begun → (request : Request) → request_at x.script begun.request ≡ Some request
      → Contains (begins_in (session_log x.start request.session)) (begun.request, begun.stamp)
  start-logged begun h request at =
      stamp-from (session_log x.start request.session) begun.request begun.stamp
      (x.served.at_start.is_account.sessions.stamps begun.request request at ∙ stamp-is x.start x.served.at_start.is_account.gatekeepers.once begun h)

  -- what a hand began is of one of its sessions
  pub record BegunFor (begun : BegunRequest) (hand : Hand) (h : Contains x.hands hand) : Type 0 where
    pub session : ℕ
    pub left : LogLeft session hand h
    pub logged : Contains (begins_in ((part x hand h).logs session)) (begun.request, begun.stamp)
    pub of : IsRequestOf x.script session begun.request

  logged-now : (t : ℕ) (hand : Hand) (h : Contains x.hands hand) → LogLeft t hand h → (r : ℕ) (stamp : Stamp)
      → Contains (begins_in ((part x hand h).logs t)) (r, stamp) → Contains (begins_in (session_log closed t)) (r, stamp)
  logged-now t hand h left r stamp logged =
      subst (λ (l : List SessionEntry). Contains (begins_in l) (r, stamp)) (sym (gained-log t hand h left))
      (begins-later (session_log x.start t) ((part x hand h).logs t) r stamp logged)

  -- what a session's closed log has begun is a request of that session
  pub of-logged : (t : ℕ) (r : ℕ) (stamp : Stamp) → Contains (begins_in (session_log closed t)) (r, stamp) → IsRequestOf x.script t r
  of-logged t r stamp h = begun-here x.laws.phase x.script t (session_log closed t) (logs-right t) r stamp h

  -- what a hand began at a gatekeeper is of one of its sessions, whose log has the begin too
  pub begun-for : (hand : Hand) (h : Contains x.hands hand) (home : ℕ) (begun : BegunRequest) → Contains (begun_in ((part x hand h).gates home)) begun
      → BegunFor begun hand h
  begun-for hand h home begun there =
      let one = (part x hand h).logged.begun home begun there in
      let left = log-left one.0 hand h (given-now x hand h one.0 one.1) in
      record {
        session = one.0;
        left = left;
        logged = one.2;
        of = of-logged one.0 begun.request begun.stamp (logged-now one.0 hand h left begun.request begun.stamp one.2);
      }

  -- what a session's log had begun it has begun
  logged-on : (t r : ℕ) (stamp : Stamp) → Contains (begins_in (session_log x.start t)) (r, stamp) → Contains (begins_in (session_log closed t)) (r, stamp)
  logged-on t r stamp h =
      subst (λ (l : List SessionEntry). Contains (begins_in l) (r, stamp)) (sym (logs-on t).1) (begins-on (session_log x.start t) (logs-on t).0 r stamp h)

  -- what began at the closed gatekeepers was logged by its session
  pub logged : (home : ℕ) (begun : BegunRequest) → Contains (begun_in (gate_log closed home)) begun → (request : Request) → request_at x.script begun.request ≡ Some request
      → Contains (begins_in (session_log closed request.session)) (begun.request, begun.stamp)
  logged home begun h request at =
      let from = flat_has (λ (e : GateEntry). begun_by e.author e.deed) (gate_log closed home) begun h in
      elim (gate-entry x closed end home from.0 from.1) [
        | inl early ↦
            logged-on request.session begun.request begun.stamp
            (start-logged begun (all-has x.start home begun (has_flat (λ (e : GateEntry). begun_by e.author e.deed) (gate_log x.start home) from.0 begun early from.2)) request at)
        | inr now ↦
            let one = begun-for now.0 now.1 home begun
            (has_flat (λ (e : GateEntry). begun_by e.author e.deed) ((part x now.0 now.1).gates home) from.0 begun now.2 from.2) in
            let same : one.of.0 ≡ request = same_Some one.of.0 request (sym one.of.1 ∙ at) in
            subst (λ (t : ℕ). Contains (begins_in (session_log closed t)) (begun.request, begun.stamp))
            (sym one.of.2 ∙ ap (λ (q : Request). q.session) same)
            (logged-now one.session now.0 now.1 one.left begun.request begun.stamp one.logged)
      ]

  -- From the sessions to the gatekeepers

  -- what a session's log of the start has begun was begun at a gatekeeper then
  start-began : (t r : ℕ) (stamp : Stamp) → Contains (begins_in (session_log x.start t)) (r, stamp) → BeganAt x.start r stamp
  start-began t r stamp h =
      let sessions = x.served.at_start.is_account.sessions in
      let of = begun-here x.laws.phase x.script t (session_log x.start t) (sessions.logs t) r stamp h in
      let has = stamp-there x.laws.phase x.script t (session_log x.start t) (sessions.logs t) r stamp h in
      let at : stamp_of x.start r ≡ Some stamp =
      sym (sessions.stamps r of.0 of.1) ∙ ap (λ (s : ℕ). session_stamp_of r (session_log x.start s)) of.2 ∙ has in
      let began = stamp-began x.start r stamp at in
      let home = has-all x.start began.0 began.1 in
      record { home = home.0; begun = began.0; there = home.1; request_is = began.2; stamp_is = began.3 }

  early-began : (t r : ℕ) (stamp : Stamp) → Contains (begins_in (session_log x.start t)) (r, stamp) → BeganAt closed r stamp
  early-began t r stamp before =
      let at = start-began t r stamp before in
      let from = flat_has (λ (e : GateEntry). begun_by e.author e.deed) (gate_log x.start at.home) at.begun at.there in
      record {
        home = at.home;
        begun = at.begun;
        there = has_flat (λ (e : GateEntry). begun_by e.author e.deed) (gate_log closed at.home) from.0 at.begun
            (has-on (gate_log x.start at.home) (gate_log closed at.home) (gates-on x closed end at.home) from.0 from.1) from.2;
        request_is = at.request_is;
        stamp_is = at.stamp_is;
      }

  made-began : (hand : Hand) (h : Contains x.hands hand) (r : ℕ) (stamp : Stamp) (author : ℕ) (o : Option Request) → IsSomeAnd o (λ (request : Request).
      Contains (begun_in ((part x hand h).gates request.gate)) (record { author = author; request = r; stamp = stamp })) → BeganAt closed r stamp
  made-began hand h r stamp author None impossible = absurd impossible
  made-began hand h r stamp author (Some request) there =
      let begun : BegunRequest = record { author = author; request = r; stamp = stamp } in
      let from = flat_has (λ (e : GateEntry). begun_by e.author e.deed) ((part x hand h).gates request.gate) begun there in
      record {
        home = request.gate;
        begun = begun;
        there = has_flat (λ (e : GateEntry). begun_by e.author e.deed) (gate_log closed request.gate) from.0 begun
            (made-there x closed end hand h request.gate from.0 from.1) from.2;
        request_is = refl;
        stamp_is = refl;
      }

  -- what a session's log has begun was begun at a gatekeeper
  pub began-there : (t r : ℕ) (stamp : Stamp) → Contains (begins_in (session_log closed t)) (r, stamp) → BeganAt closed r stamp
  began-there t r stamp h =
      elim (session-case t) [
        | inl same ↦ early-began t r stamp (subst (λ (l : List SessionEntry). Contains (begins_in l) (r, stamp)) same h)
        | inr one ↦ elim (begins-cases (session_log x.start t) ((part x one.0 one.1).logs t) r stamp
            (subst (λ (l : List SessionEntry). Contains (begins_in l) (r, stamp)) (gained-log t one.0 one.1 one.2) h)) [
              | inl before ↦ early-began t r stamp before
              | inr since ↦ made-began one.0 one.1 r stamp (hand_number (history x one.0 one.1).from.hand) (request_at x.script r)
                  ((part x one.0 one.1).logged.at_gate t r stamp since)
            ]
      ]

  -- at the end the session's log and the account have the same stamp for each request
  pub stamps-agree : (r : ℕ) (request : Request) → request_at x.script r ≡ Some request
      → session_stamp_of r (session_log closed request.session) ≡ stamp_of closed r
  stamps-agree r request at = by (stamp_of closed r) refl
    where
      log : List SessionEntry
      log = session_log closed request.session

      none : stamp_of closed r ≡ None → (o : Option Stamp) → session_stamp_of r log ≡ o → o ≡ None
      none is None e = refl
      none is (Some stamp) e =
          let began = began-there request.session r stamp (stamp-from log r stamp e) in
          absurd (no-stamp closed r is began.begun (all-has closed began.home began.begun began.there) began.request_is)

      by : (o : Option Stamp) → stamp_of closed r ≡ o → session_stamp_of r log ≡ stamp_of closed r
      by None is = none is (session_stamp_of r log) refl ∙ sym is
      by (Some stamp) is =
          let began = stamp-began closed r stamp is in
          let home = has-all closed began.0 began.1 in
          let there = logged home.0 began.0 home.1 request (ap (request_at x.script) began.2 ∙ at) in
          stamp-there x.laws.phase x.script request.session log (logs-right request.session) r stamp
          (subst (λ (y : ℕ × Stamp). Contains (begins_in log) y) (λ i. (began.2 i, began.3 i)) there)
          ∙ sym is
