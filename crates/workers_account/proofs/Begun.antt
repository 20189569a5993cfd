-- What began at the gatekeepers of a phase's closed logs is what the sessions' logs say began, with the same stamps.
-- Used by ByLog, Ended, Follows, HeardOf, HowFar, OneHand, OpenPairs, OwnWorkers, Programs, ReadyClients, Visited and
-- crates sessions_account and weave_phase.
use Rattle.std.proofs.Common.{◌≡◌, ◌≢◌, ℕ, ◌==◌, List, [], ◌∷◌, ◌++◌, length, map, get_or, Contains, IsTrue, Option, None, Some, ◌⊎◌, inl, inr, refl, sym, ap, subst, ◌∙◌, arith}
use Rattle.std.specs.Prelude.{slice_get, IsSomeAnd}
use Rattle.std.specs.List.{filter, find, range_with_len}
use Rattle.std.specs.Option.{option_map, unwrap_or}
use Rattle.std.proofs.lemmas.Bool.{cases_lt, eqb-true, eq-eqb}
use Rattle.std.proofs.lemmas.List.{length-map}
use Rattle.std.proofs.lemmas.List.Elements.{Contains-append_right}
use Rattle.std.proofs.lemmas.List.FromFn.{length-range_with_len}
use Rattle.std.proofs.lemmas.Option.{none-some, same_Some, slice_get-map, slice_get_past, unwrap_or-slice_get}
use Rattle.weave_data.proofs.Members.{filter_has, find_has, find_lacks, flat_has, has_flat, has_none}
use Rattle.weave_data.proofs.Ordered.{find_by_key}
use Rattle.vector_stamp.specs.declared.clock.Stamp.{Stamp}
use Rattle.program_defs.specs.declared.script.Request.{Request}
use Rattle.program_defs.specs.declared.script.Script.{Script}
use Rattle.report_rules.specs.Lookups.{request_at}
use Rattle.weave_entries.specs.declared.gate_log.GateEntry.{GateEntry}
use Rattle.weave_entries.specs.declared.gate_log.GateDeed.{GateDeed}
use Rattle.weave_entries.specs.declared.gate_log.GateDeed.TheVariants.{BeganTx, BeganProgram, Sent, Nop, Heard, Raised, Finished}
use Rattle.weave_entries.specs.declared.session_log.SessionEntry.{SessionEntry}
use Rattle.weave_entries.specs.GateReplay.{BegunRequest, begun_by, begun_in, ended_by, ended_in}
use Rattle.weave_entries.specs.SessionReplay.{IsSessionLog, begins_in, session_stamp_of}
use Rattle.weave_account.specs.declared.account.Account.{Account}
use Rattle.weave_account.specs.Account.{all_begun, gate_log, session_log, stamp_of}
use Rattle.weave_account.specs.Gatekeepers.{BeginEachOnce}
use Rattle.weave_account.specs.GoesOn.{IsBeginningOf}
use Rattle.weave_account.specs.Sessions.{requests_of_session}
use Rattle.weave_account.proofs.Beginning.{all-in}
use Rattle.weave_account.proofs.Replying.{has-all}
use Rattle.weave_account.proofs.GoesOn.{has-on}
use Rattle.weaver_core.specs.declared.client.Client.{Client}
use Rattle.weaver_core.specs.Sessions.{log_of_client, requests_in}
use Rattle.weaver_locks.specs.declared.hand.Hand.{Hand}
use Rattle.weaver_locks.specs.declared.shared.Shared.{Shared}
use Rattle.weaver_locks.specs.Hands.{hand_number, made_by}
use Rattle.weaver_locks.proofs.EachLog.{row-at}
use Rattle.weaver_workers.specs.Carrying.{is_telling}
use Rattle.workers_account.specs.Gained.{IsBegunAtItsGate}
use Rattle.workers_account.specs.Phase.{IsClosedBy, IsPhaseRun}
use Rattle.workers_account.specs.PhaseLaws.{PhaseLaws}
use Rattle.workers_account.proofs.Parts.{SessionPart, gate-entry, gates-on, part-of, session-part}
use Rattle.workers_account.proofs.SessionLogs.{begins-cases, begins-later, begins-on, begun-here, log-at, stamp-from, stamp-there}

-- Hearing a clock and sending an empty message begin nothing and end nothing

told-begins : (author : ℕ) (deed : GateDeed) → IsTrue (is_telling deed) → begun_by author deed ≡ []
told-begins author (Heard clock) tells = refl
told-begins author (Nop shard number stamp low) tells = refl
told-begins author (BeganTx r stamp) tells = absurd cc
told-begins author (BeganProgram r stamp) tells = absurd cc
told-begins author (Sent r messages) tells = absurd cc
told-begins author (Raised epoch) tells = absurd cc
told-begins author (Finished r) tells = absurd cc

told-ends : (deed : GateDeed) → IsTrue (is_telling deed) → ended_by deed ≡ []
told-ends (Heard clock) tells = refl
told-ends (Nop shard number stamp low) tells = refl
told-ends (BeganTx r stamp) tells = absurd cc
told-ends (BeganProgram r stamp) tells = absurd cc
told-ends (Sent r messages) tells = absurd cc
told-ends (Raised epoch) tells = absurd cc
told-ends (Finished r) tells = absurd cc

-- nothing begins at gatekeepers where all entries are heard clocks or empty messages
pub none-begun : (gates : ℕ → List GateEntry) → ((home : ℕ) (entry : GateEntry) → Contains (gates home) entry → IsTrue (is_telling entry.deed))
    → (home : ℕ) (begun : BegunRequest) → Contains (begun_in (gates home)) begun → ⊥
none-begun gates tells home begun h =
    let from = flat_has (λ (e : GateEntry). begun_by e.author e.deed) (gates home) begun h in
    has_none begun (subst (λ (l : List BegunRequest). Contains l begun) (told-begins from.0.author from.0.deed (tells home from.0 from.1)) from.2)

-- nothing ends at gatekeepers where all entries are heard clocks or empty messages
pub none-ended : (gates : ℕ → List GateEntry) → ((home : ℕ) (entry : GateEntry) → Contains (gates home) entry → IsTrue (is_telling entry.deed))
    → (home r : ℕ) → Contains (ended_in (gates home)) r → ⊥
none-ended gates tells home r h =
    let from = flat_has (λ (e : GateEntry). ended_by e.deed) (gates home) r h in
    has_none r (subst (λ (l : List ℕ). Contains l r) (told-ends from.0.deed (tells home from.0 from.1)) from.2)

-- Accounts

-- what began at a gatekeeper is among all that began
pub all-has : (account : Account) (home : ℕ) (begun : BegunRequest) → Contains (begun_in (gate_log account home)) begun → Contains (all_begun account) begun
all-has account home begun h = all-in account home begun h

-- a request that began has its stamp, if none began twice
pub stamp-is : (account : Account) → BeginEachOnce account → (begun : BegunRequest) → Contains (all_begun account) begun → stamp_of account begun.request ≡ Some begun.stamp
stamp-is account once begun h =
    ap (option_map (λ (b : BegunRequest). b.stamp)) (find_by_key (λ (b : BegunRequest). b.request) (all_begun account) begun once h)

-- a request with a stamp began
pub stamp-began : (account : Account) (r : ℕ) (stamp : Stamp) → stamp_of account r ≡ Some stamp
    → (begun : BegunRequest) × Contains (all_begun account) begun × (begun.request ≡ r) × (begun.stamp ≡ stamp)
stamp-began account r stamp is = by (find (λ (b : BegunRequest). b.request == r) (all_begun account)) refl is
  where
    by : (o : Option BegunRequest) → find (λ (b : BegunRequest). b.request == r) (all_begun account) ≡ o → option_map (λ (b : BegunRequest). b.stamp) o ≡ Some stamp
        → (begun : BegunRequest) × Contains (all_begun account) begun × (begun.request ≡ r) × (begun.stamp ≡ stamp)
    by None at e = absurd (none-some stamp e)
    by (Some begun) at e =
        let has = find_has (λ (b : BegunRequest). b.request == r) (all_begun account) begun at in
        (begun, has.0, eqb-true begun.request r has.1, same_Some begun.stamp stamp e)

-- a request without a stamp did not begin
pub no-stamp : (account : Account) (r : ℕ) → stamp_of account r ≡ None → (begun : BegunRequest) → Contains (all_begun account) begun → begun.request ≢ r
no-stamp account r is begun h same = by (find (λ (b : BegunRequest). b.request == r) (all_begun account)) refl is
  where
    by : (o : Option BegunRequest) → find (λ (b : BegunRequest). b.request == r) (all_begun account) ≡ o → option_map (λ (b : BegunRequest). b.stamp) o ≡ None → ⊥
    by None at e = find_lacks (λ (b : BegunRequest). b.request == r) (all_begun account) begun at h (eq-eqb begun.request r same)
    by (Some other) at e = none-some other.stamp (sym e)

module _ (laws : PhaseLaws) (shared : Shared) (script : Script) (upto : ℕ) (start : Account) (was is : List Client) (hands : List Hand)
    (run : IsPhaseRun shared script upto start was is hands) (closed : Account) (end : IsClosedBy shared script start is hands closed) where
  -- Logs of sessions

  -- a session that was left as it was has the same log as at the start
  pub logs-alike : (t : ℕ) → slice_get is t ≡ slice_get was t → session_log closed t ≡ session_log start t
  logs-alike t same =
      let log : List Client → List SessionEntry = λ cs. get_or (map log_of_client cs) t [] in
      let there : (cs : List Client) → log cs ≡ unwrap_or (option_map log_of_client (slice_get cs t)) [] = λ cs.
      sym (unwrap_or-slice_get (map log_of_client cs) t []) ∙ ap (λ (o : Option (List SessionEntry)). unwrap_or o []) (slice_get-map log_of_client cs t) in
      ap (λ (logs : List (List SessionEntry)). get_or logs t []) end.sessions
      ∙ there is ∙ ap (λ (o : Option Client). unwrap_or (option_map log_of_client o) []) same ∙ sym (there was)
      ∙ ap (λ (logs : List (List SessionEntry)). get_or logs t []) (sym run.at_start.logs)

  -- the log of a session is as it was, or it is that of a session that a hand followed
  pub record LeftLog (t : ℕ) (hand : Hand) (h : Contains hands hand) : Type 0 where
    pub part : SessionPart laws shared script upto start was is hands run t hand (part-of laws shared script upto start was is hands run hand h)
    pub was_log : session_log start t ≡ log_of_client part.has.on.client
    pub is_log : session_log closed t ≡ log_of_client part.has.on.left

  -- the log of each session is as it was, or it is that of a session that a hand followed
  pub session-case : (t : ℕ) → (session_log closed t ≡ session_log start t) ⊎ ((hand : Hand) × (h : Contains hands hand) × LeftLog t hand h)
  session-case t =
      elim (cases_lt t 64) [
        | inl low ↦ elim (session-part laws shared script upto start was is hands run t low) [
          | inl same ↦ inl (logs-alike t same)
          | inr one ↦ inr (
            one.0,
            one.1,
            record {
              part = one.2;
              was_log = log-at start was run.at_start.logs t one.2.has.on.client one.2.has.on.client_is;
              is_log = log-at closed is end.sessions t one.2.has.on.left one.2.has.on.left_is;
            },
          )
        ]
        | inr high ↦
            let many : length was ≡ 64 = sym (length-map was requests_in) ∙ ap length run.at_start.requests
            ∙ length-map (range_with_len 0 64) (requests_of_session script) ∙ length-range_with_len 0 64 in
            let now = run.many in
            inl (logs-alike t (slice_get_past is t (omega (arith, high, now)) ∙ sym (slice_get_past was t (omega (arith, high, many)))))
      ]

  -- if a hand left a session's log, it is that of the start, then what the hand gained in it
  pub gained-log : (t : ℕ) (hand : Hand) (h : Contains hands hand) (left : LeftLog t hand h)
      → session_log closed t ≡ session_log start t ++ left.part.has.followed.in_step.gained.session
  gained-log t hand h left =
      let gained = left.part.has.followed.in_step.gained in
      left.is_log ∙ gained.in_session ∙ ap (λ (l : List SessionEntry). l ++ gained.session) (sym left.was_log)

  -- each session's log at the end is one of that session
  pub logs-right : (t : ℕ) → IsSessionLog t (requests_of_session script t) (session_log closed t)
  logs-right t =
      elim (session-case t) [
        | inl same ↦ subst (λ (l : List SessionEntry). IsSessionLog t (requests_of_session script t) l) (sym same) (run.at_start.is_account.sessions.logs t)
        | inr one ↦
            let keeps = one.2.part.has.followed.keeps in
            subst (λ (l : List SessionEntry). IsSessionLog t (requests_of_session script t) l) (sym one.2.is_log)
            (subst (λ (rs : List ℕ). IsSessionLog t rs (log_of_client one.2.part.has.on.left)) keeps.requests keeps.at_end.right)
      ]

  -- each session's log at the end goes on from that of the start
  pub logs-on : (t : ℕ) → IsBeginningOf (session_log start t) (session_log closed t)
  logs-on t =
      elim (session-case t) [
        | inl same ↦ subst (λ (l : List SessionEntry). IsBeginningOf (session_log start t) l) (sym same) ([], sym (nil-right (session_log start t)))
        | inr one ↦ (one.2.part.has.followed.in_step.gained.session, gained-log t one.0 one.1 one.2)
      ]
    where
      nil-right : (l : List SessionEntry) → l ++ [] ≡ l
      nil-right [] = refl
      nil-right (x ∷ l) = ap (λ rest. x ∷ rest) (nil-right l)

  -- From the gatekeepers to the sessions

  -- a request of the start that began there is in its session's log
  pub start-logged : (begun : BegunRequest) → Contains (all_begun start) begun → (request : Request) → request_at script begun.request ≡ Some request
      → Contains (begins_in (session_log start request.session)) (begun.request, begun.stamp)
  start-logged begun h request at =
      stamp-from (session_log start request.session) begun.request begun.stamp
      (run.at_start.is_account.sessions.stamps begun.request request at ∙ stamp-is start run.at_start.is_account.gatekeepers.once begun h)

  -- what a session's log has begun at the start is in the closed one
  pub logged-on : (t r : ℕ) (stamp : Stamp) → Contains (begins_in (session_log start t)) (r, stamp) → Contains (begins_in (session_log closed t)) (r, stamp)
  logged-on t r stamp h =
      let on = logs-on t in
      subst (λ (l : List SessionEntry). Contains (begins_in l) (r, stamp)) (sym on.1) (begins-on (session_log start t) on.0 r stamp h)

  -- what a hand's part began is of the session that it followed
  pub record BegunInPart (begun : BegunRequest) (hand : Hand) (h : Contains hands hand) : Type 0 where
    pub session : ℕ
    pub left : LeftLog session hand h
    pub logged : Contains (begins_in left.part.has.followed.in_step.gained.session) (begun.request, begun.stamp)
    pub request : Request
    pub request_is : request_at script begun.request ≡ Some request
    pub session_is : request.session ≡ session

  abbrev pub left-log : (t : ℕ) (hand : Hand) (h : Contains hands hand)
      → SessionPart laws shared script upto start was is hands run t hand (part-of laws shared script upto start was is hands run hand h) → LeftLog t hand h
  left-log t hand h part = record {
    part = part;
    was_log = log-at start was run.at_start.logs t part.has.on.client part.has.on.client_is;
    is_log = log-at closed is end.sessions t part.has.on.left part.has.on.left_is;
  }

  -- what a hand's part began is of the session that it followed, whose log has the begin too
  pub begun-in-part : (hand : Hand) (h : Contains hands hand) (home : ℕ) (begun : BegunRequest)
      → Contains (begun_in ((part-of laws shared script upto start was is hands run hand h).gates home)) begun → BegunInPart begun hand h
  begun-in-part hand h home begun there =
      let part = part-of laws shared script upto start was is hands run hand h in
      elim part.did [
        | inl told ↦ absurd (none-begun part.gates told.tells home begun there)
        | inr on ↦
            let left = left-log on.0 hand h (record { mine = on.1; has = on.2 }) in
            let step = on.2.followed.in_step in
            let logged = step.in_step.begun home begun (subst (λ (g : ℕ → List GateEntry). Contains (begun_in (g home)) begun) (sym on.2.gates_are) there) in
            let in_log : Contains (begins_in (session_log closed on.0)) (begun.request, begun.stamp) =
            subst (λ (l : List SessionEntry). Contains (begins_in l) (begun.request, begun.stamp)) (sym (gained-log on.0 hand h left))
            (begins-later (session_log start on.0) step.gained.session begun.request begun.stamp logged) in
            let of = begun-here laws script on.0 (session_log closed on.0) (logs-right on.0) begun.request begun.stamp in_log in
            record { session = on.0; left = left; logged = logged; request = of.0; request_is = of.1; session_is = of.2 }
      ]

  -- what began at the closed gatekeepers was logged by its session
  pub logged : (home : ℕ) (begun : BegunRequest) → Contains (begun_in (gate_log closed home)) begun → (request : Request) → request_at script begun.request ≡ Some request
      → Contains (begins_in (session_log closed request.session)) (begun.request, begun.stamp)
  logged home begun h request at =
      let from = flat_has (λ (e : GateEntry). begun_by e.author e.deed) (gate_log closed home) begun h in
      elim (gate-entry laws shared script upto start was is hands run closed end home from.0 from.1) [
        | inl early ↦
            logged-on request.session begun.request begun.stamp
            (start-logged begun (all-has start home begun (has_flat (λ (e : GateEntry). begun_by e.author e.deed) (gate_log start home) from.0 begun early from.2)) request at)
        | inr since ↦
            let part = part-of laws shared script upto start was is hands run since.0 since.1 in
            let one = begun-in-part since.0 since.1 home begun (has_flat (λ (e : GateEntry). begun_by e.author e.deed) (part.gates home) from.0 begun since.3 from.2) in
            let same : one.request ≡ request = same_Some one.request request (sym one.request_is ∙ at) in
            subst (λ (t : ℕ). Contains (begins_in (session_log closed t)) (begun.request, begun.stamp))
            (sym one.session_is ∙ ap (λ (q : Request). q.session) same)
            (subst (λ (l : List SessionEntry). Contains (begins_in l) (begun.request, begun.stamp)) (sym (gained-log one.session since.0 since.1 one.left))
            (begins-later (session_log start one.session) one.left.part.has.followed.in_step.gained.session begun.request begun.stamp one.logged))
      ]

  -- From the sessions to the gatekeepers

  -- what a hand made is in the closed logs
  pub made-there : (hand : Hand) (h : Contains hands hand) (home : ℕ) (entry : GateEntry)
      → Contains ((part-of laws shared script upto start was is hands run hand h).gates home) entry → Contains (gate_log closed home) entry
  made-there hand h home entry there =
      let part = part-of laws shared script upto start was is hands run hand h in
      let own = λ (e : GateEntry). e.author == hand_number hand in
      (filter_has own (gate_log closed home) entry
      (subst (λ (l : List GateEntry). Contains l entry)
      (sym (part.at_gates home) ∙ sym (ap (λ (a : Account). gate_log a home) (end.made hand h)) ∙ row-at (filter own) refl closed.gates home)
      (Contains-append_right (gate_log (made_by part.from) home) (part.gates home) entry there))).0

  -- the begin of a request at some gatekeeper
  pub record IsBegunAt (account : Account) (r : ℕ) (stamp : Stamp) : Type 0 where
    pub home : ℕ
    pub begun : BegunRequest
    pub there : Contains (begun_in (gate_log account home)) begun
    pub request_is : begun.request ≡ r
    pub stamp_is : begun.stamp ≡ stamp

  -- what a session's log of the start has begun was begun at a gatekeeper then
  pub start-begun : (t r : ℕ) (stamp : Stamp) → Contains (begins_in (session_log start t)) (r, stamp) → IsBegunAt start r stamp
  start-begun t r stamp h =
      let sessions = run.at_start.is_account.sessions in
      let of = begun-here laws script t (session_log start t) (sessions.logs t) r stamp h in
      let has = stamp-there laws script t (session_log start t) (sessions.logs t) r stamp h in
      let at : stamp_of start r ≡ Some stamp =
      sym (sessions.stamps r of.0 of.1) ∙ ap (λ (s : ℕ). session_stamp_of r (session_log start s)) of.2 ∙ has in
      let began = stamp-began start r stamp at in
      let home = has-all start began.0 began.1 in
      record { home = home.0; begun = began.0; there = home.1; request_is = began.2; stamp_is = began.3 }

  -- a begin of the start is among the closed ones
  pub begun-on : (home : ℕ) (begun : BegunRequest) → Contains (begun_in (gate_log start home)) begun → Contains (begun_in (gate_log closed home)) begun
  begun-on home begun h =
      let from = flat_has (λ (e : GateEntry). begun_by e.author e.deed) (gate_log start home) begun h in
      has_flat (λ (e : GateEntry). begun_by e.author e.deed) (gate_log closed home) from.0 begun
      (has-on (gate_log start home) (gate_log closed home) (gates-on laws shared script upto start was is hands run closed end home) from.0 from.1) from.2

  some-begun : (hand : Hand) (h : Contains hands hand) (r : ℕ) (stamp : Stamp) (author : ℕ) (o : Option Request) → IsSomeAnd o (λ (request : Request).
      Contains (begun_in ((part-of laws shared script upto start was is hands run hand h).gates request.gate)) (record { author = author; request = r; stamp = stamp }))
      → IsBegunAt closed r stamp
  some-begun hand h r stamp author None impossible = absurd impossible
  some-begun hand h r stamp author (Some request) there =
      let part = part-of laws shared script upto start was is hands run hand h in
      let begun : BegunRequest = record { author = author; request = r; stamp = stamp } in
      let from = flat_has (λ (e : GateEntry). begun_by e.author e.deed) (part.gates request.gate) begun there in
      record {
        home = request.gate;
        begun = begun;
        there = has_flat (λ (e : GateEntry). begun_by e.author e.deed) (gate_log closed request.gate) from.0 begun (made-there hand h request.gate from.0 from.1) from.2;
        request_is = refl;
        stamp_is = refl;
      }

  -- what a session's log has begun was begun at a gatekeeper
  pub begun-there : (t r : ℕ) (stamp : Stamp) → Contains (begins_in (session_log closed t)) (r, stamp) → IsBegunAt closed r stamp
  begun-there t r stamp h =
      elim (session-case t) [
        | inl same ↦ early (subst (λ (l : List SessionEntry). Contains (begins_in l) (r, stamp)) same h)
        | inr one ↦
            let step = one.2.part.has.followed.in_step in
            elim (begins-cases (session_log start t) step.gained.session r stamp
            (subst (λ (l : List SessionEntry). Contains (begins_in l) (r, stamp)) (gained-log t one.0 one.1 one.2) h)) [
              | inl before ↦ early before
              | inr since ↦
                  some-begun one.0 one.1 r stamp (author one.0 one.1) (request_at script r)
                  (subst (λ (g : ℕ → List GateEntry). IsBegunAtItsGate script (author one.0 one.1) g r stamp) one.2.part.has.gates_are (step.in_step.at_gate r stamp since))
            ]
      ]
    where
      author : (hand : Hand) → Contains hands hand → ℕ
      author hand h = hand_number (part-of laws shared script upto start was is hands run hand h).from

      early : Contains (begins_in (session_log start t)) (r, stamp) → IsBegunAt closed r stamp
      early before =
          let at = start-begun t r stamp before in
          record { home = at.home; begun = at.begun; there = begun-on at.home at.begun at.there; request_is = at.request_is; stamp_is = at.stamp_is }

  -- at the end the session's log and the account have the same stamp for each request
  pub stamps-alike : (r : ℕ) (request : Request) → request_at script r ≡ Some request
      → session_stamp_of r (session_log closed request.session) ≡ stamp_of closed r
  stamps-alike r request at = by (stamp_of closed r) refl
    where
      log : List SessionEntry
      log = session_log closed request.session

      none : stamp_of closed r ≡ None → (o : Option Stamp) → session_stamp_of r log ≡ o → o ≡ None
      none is None e = refl
      none is (Some stamp) e =
          let began = begun-there request.session r stamp (stamp-from log r stamp e) in
          absurd (no-stamp closed r is began.begun (all-has closed began.home began.begun began.there) began.request_is)

      by : (o : Option Stamp) → stamp_of closed r ≡ o → session_stamp_of r log ≡ stamp_of closed r
      by None is = none is (session_stamp_of r log) refl ∙ sym is
      by (Some stamp) is =
          let began = stamp-began closed r stamp is in
          let home = has-all closed began.0 began.1 in
          let there = logged home.0 began.0 home.1 request (ap (request_at script) began.2 ∙ at) in
          stamp-there laws script request.session log (logs-right request.session) r stamp
          (subst (λ (x : ℕ × Stamp). Contains (begins_in log) x) (λ i. (began.2 i, began.3 i)) there)
          ∙ sym is
