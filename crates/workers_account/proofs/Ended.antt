-- What was ended at the gatekeepers of a phase's closed logs has its reply, if it is a program, and the other way
-- round: so the sessions' logs are those of the closed gatekeepers.
-- Used by ByLog, ClosedAccount, Follows, PhaseEnds, Programs and crate sessions_account.
use Rattle.std.proofs.Common.{◌≡◌, ℕ, List, [], ◌∷◌, ◌++◌, Contains, IsTrue, Some, inl, inr, refl, sym, ap, subst, ◌∙◌, arith}
use Rattle.std.specs.List.{flat_map}
use Rattle.std.proofs.lemmas.List.Concat.{flat_map-append}
use Rattle.std.proofs.lemmas.List.Elements.{Contains-append_cases, Contains-append_left, Contains-append_right}
use Rattle.std.proofs.lemmas.Option.{same_Some}
use Rattle.weave_data.proofs.Members.{cut_at, flat_has, has_cut, has_flat}
use Rattle.weave_data.proofs.Numbers.{has-in, in-has}
use Rattle.program_defs.specs.declared.script.Request.{Request}
use Rattle.program_defs.specs.declared.script.Script.{Script}
use Rattle.program_defs.specs.Works.{is_look}
use Rattle.report_rules.specs.Lookups.{request_at}
use Rattle.weave_entries.specs.declared.gate_log.GateEntry.{GateEntry}
use Rattle.weave_entries.specs.declared.session_log.SessionEntry.{SessionEntry}
use Rattle.weave_entries.specs.declared.session_log.SessionDeed.{SessionDeed}
use Rattle.weave_entries.specs.declared.session_log.SessionDeed.TheVariants as session
use Rattle.weave_entries.specs.Logs.{AtEachEntry}
use Rattle.weave_entries.specs.GateReplay.{ended_by, ended_in}
use Rattle.weave_entries.specs.SessionReplay.{has_reply_in, replied_in, reply_by}
use Rattle.weave_account.specs.declared.account.Account.{Account}
use Rattle.weave_account.specs.Account.{gate_log, is_ended, session_log}
use Rattle.weave_account.specs.GoesOn.{GoesOn}
use Rattle.weave_account.specs.Sessions.{RepliesAs, SessionsClause}
use Rattle.weave_account.proofs.Beginning.{list-there}
use Rattle.weave_account.proofs.Replying.{place-of}
use Rattle.weaver_core.specs.declared.client.Client.{Client}
use Rattle.weaver_locks.specs.declared.hand.Hand.{Hand}
use Rattle.weaver_locks.specs.declared.shared.Shared.{Shared}
use Rattle.weaver_locks.specs.Closing.{seen_by_number}
use Rattle.weaver_locks.specs.Locks.{hands_of}
use Rattle.workers_account.specs.Phase.{IsClosedBy, IsPhaseRun}
use Rattle.workers_account.specs.PhaseLaws.{PhaseLaws}
use Rattle.workers_account.proofs.Parts.{gate-entry, part-of}
use Rattle.workers_account.proofs.SessionLogs.{replied-here}
use Rattle.workers_account.proofs.Begun.{LeftLog, gained-log, left-log, logs-on, logs-right, made-there, none-ended, session-case, stamps-alike}

-- what has its reply in a log has it in one that goes on
pub replied-on : (log more : List SessionEntry) (r : ℕ) → Contains (replied_in log) r → Contains (replied_in (log ++ more)) r
replied-on log more r h =
    subst (λ (rs : List ℕ). Contains rs r) (sym (flat_map-append (λ (e : SessionEntry). reply_by e.deed) log more))
    (Contains-append_left (replied_in log) (replied_in more) r h)

-- what has its reply in the entries after a log has it in the whole
pub replied-later : (log more : List SessionEntry) (r : ℕ) → Contains (replied_in more) r → Contains (replied_in (log ++ more)) r
replied-later log more r h =
    subst (λ (rs : List ℕ). Contains rs r) (sym (flat_map-append (λ (e : SessionEntry). reply_by e.deed) log more))
    (Contains-append_right (replied_in log) (replied_in more) r h)

-- what ended at a gatekeeper has ended
pub ended-all : (account : Account) (home r : ℕ) → Contains (ended_in (gate_log account home)) r → IsTrue (is_ended account r)
ended-all account home r h =
    let from = flat_has (λ (e : GateEntry). ended_by e.deed) (gate_log account home) r h in
    in-has (flat_map ended_in account.gates) r
    (has_flat ended_in account.gates (gate_log account home) r (list-there account.gates home from.0 from.1) h)

-- a request that has ended did so at some gatekeeper
pub all-ended : (account : Account) (r : ℕ) → IsTrue (is_ended account r) → (home : ℕ) × Contains (ended_in (gate_log account home)) r
all-ended account r ended =
    let from = flat_has ended_in account.gates r (has-in (flat_map ended_in account.gates) r ended) in
    let place = place-of account.gates from.0 from.1 in
    (place.0, subst (λ (l : List GateEntry). Contains (ended_in l) r) (sym place.1) from.2)

module _ (laws : PhaseLaws) (shared : Shared) (script : Script) (upto : ℕ) (start : Account) (was is : List Client) (hands : List Hand)
    (run : IsPhaseRun shared script upto start was is hands) (closed : Account) (end : IsClosedBy shared script start is hands closed) where
  -- the logs of the start go on
  pub goes : GoesOn start closed
  goes = laws.goes_on script.shards (hands_of shared) start (seen_by_number hands) closed end.of_hands
      (logs-on laws shared script upto start was is hands run closed end)

  -- what a hand ended since has its reply in its session's log
  pub record EndedInPart (r : ℕ) (hand : Hand) (h : Contains hands hand) : Type 0 where
    pub session : ℕ
    pub left : LeftLog laws shared script upto start was is hands run closed end session hand h
    pub replied : Contains (replied_in (session_log closed session)) r
    pub request : Request
    pub request_is : request_at script r ≡ Some request
    pub session_is : request.session ≡ session

  -- what a hand's part ended at a gatekeeper has its reply in the log of the session that the hand followed
  pub ended-in-part : (hand : Hand) (h : Contains hands hand) (home r : ℕ)
      → Contains (ended_in ((part-of laws shared script upto start was is hands run hand h).gates home)) r → EndedInPart r hand h
  ended-in-part hand h home r there =
      let part = part-of laws shared script upto start was is hands run hand h in
      elim part.did [
        | inl told ↦ absurd (none-ended part.gates told.tells home r there)
        | inr on ↦
            let left = left-log laws shared script upto start was is hands run closed end on.0 hand h (record { mine = on.1; has = on.2 }) in
            let step = on.2.followed.in_step in
            let since = step.in_step.ended home r (subst (λ (g : ℕ → List GateEntry). Contains (ended_in (g home)) r) (sym on.2.gates_are) there) in
            let replied : Contains (replied_in (session_log closed on.0)) r =
            subst (λ (l : List SessionEntry). Contains (replied_in l) r)
            (sym (gained-log laws shared script upto start was is hands run closed end on.0 hand h left))
            (replied-later (session_log start on.0) step.gained.session r since) in
            let of = replied-here laws script on.0 (session_log closed on.0)
            (logs-right laws shared script upto start was is hands run closed end on.0) r replied in
            record { session = on.0; left = left; replied = replied; request = of.0; request_is = of.1; session_is = of.2 }
      ]

  -- a program that has ended has its reply
  finished-replied : (r : ℕ) (request : Request) → request_at script r ≡ Some request → IsTrue (is_look request.work)
      → IsTrue (is_ended closed r) → IsTrue (has_reply_in r (session_log closed request.session))
  finished-replied r request at look ended =
      let home = all-ended closed r ended in
      let from = flat_has (λ (e : GateEntry). ended_by e.deed) (gate_log closed home.0) r home.1 in
      (laws.has_reply r (session_log closed request.session)).1
      (elim (gate-entry laws shared script upto start was is hands run closed end home.0 from.0 from.1) [
        | inl early ↦
            let before = run.at_start.is_account.sessions.finished_are_replied r request at look
            (ended-all start home.0 r (has_flat (λ (e : GateEntry). ended_by e.deed) (gate_log start home.0) from.0 r early from.2)) in
            let on = logs-on laws shared script upto start was is hands run closed end request.session in
            subst (λ (l : List SessionEntry). Contains (replied_in l) r) (sym on.1)
            (replied-on (session_log start request.session) on.0 r ((laws.has_reply r (session_log start request.session)).0 before))
        | inr since ↦
            let part = part-of laws shared script upto start was is hands run since.0 since.1 in
            let one = ended-in-part since.0 since.1 home.0 r (has_flat (λ (e : GateEntry). ended_by e.deed) (part.gates home.0) from.0 r since.3 from.2) in
            let same : one.request ≡ request = same_Some one.request request (sym one.request_is ∙ at) in
            subst (λ (t : ℕ). Contains (replied_in (session_log closed t)) r) (sym one.session_is ∙ ap (λ (q : Request). q.session) same) one.replied
      ])

  -- what has its reply has ended
  deed-ended : (t : ℕ) (hand : Hand) (h : Contains hands hand) (left : LeftLog laws shared script upto start was is hands run closed end t hand h)
      → (entry : SessionEntry) → Contains left.part.has.followed.in_step.gained.session entry → (deed : SessionDeed) → entry.deed ≡ deed → RepliesAs closed deed
  deed-ended t hand h left entry there (session.Begun r stamp) same = tt
  deed-ended t hand h left entry there (session.Replied r) same =
      let step = left.part.has.followed.in_step in
      let replied = has_flat (λ (e : SessionEntry). reply_by e.deed) step.gained.session entry r there
      (subst (λ (d : SessionDeed). Contains (reply_by d) r) (sym same) (let one : Contains (r ∷ []) r = (0, omega arith, refl) in one)) in
      let part = part-of laws shared script upto start was is hands run hand h in
      let ended = step.in_step.replied r replied in
      let mine : Contains (ended_in (part.gates ended.0)) r = subst (λ (g : ℕ → List GateEntry). Contains (ended_in (g ended.0)) r) left.part.has.gates_are ended.1 in
      let from = flat_has (λ (e : GateEntry). ended_by e.deed) (part.gates ended.0) r mine in
      ended-all closed ended.0 r
      (has_flat (λ (e : GateEntry). ended_by e.deed) (gate_log closed ended.0) from.0 r
      (made-there laws shared script upto start was is hands run closed end hand h ended.0 from.0 from.1) from.2)

  replied-ended : (t : ℕ) → AtEachEntry (λ before (entry : SessionEntry). RepliesAs closed entry.deed) (session_log closed t)
  replied-ended t before entry after at =
      let here : Contains (session_log closed t) entry = subst (λ (l : List SessionEntry). Contains l entry) (sym at) (has_cut before entry after) in
      elim (session-case laws shared script upto start was is hands run closed end t) [
        | inl same ↦ early (subst (λ (l : List SessionEntry). Contains l entry) same here)
        | inr one ↦
            elim (Contains-append_cases (session_log start t) one.2.part.has.followed.in_step.gained.session entry
            (subst (λ (l : List SessionEntry). Contains l entry) (gained-log laws shared script upto start was is hands run closed end t one.0 one.1 one.2) here)) [
              | inl first ↦ early first
              | inr since ↦ deed-ended t one.0 one.1 one.2 entry since entry.deed refl
            ]
      ]
    where
      early : Contains (session_log start t) entry → RepliesAs closed entry.deed
      early first =
          let cut = cut_at (session_log start t) entry first in
          laws.replies_stay script start closed goes entry.deed (run.at_start.is_account.sessions.replies t cut.before entry cut.after cut.is)

  -- the sessions' logs are those of the closed gatekeepers
  pub sessions-kept : SessionsClause script closed
  sessions-kept = record {
    logs = logs-right laws shared script upto start was is hands run closed end;
    stamps = stamps-alike laws shared script upto start was is hands run closed end;
    replies = replied-ended;
    finished_are_replied = finished-replied;
  }
