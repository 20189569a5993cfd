-- What ended at the closed gatekeepers has its reply, if it is a program, and the other way round: so the sessions'
-- logs are those of the closed gatekeepers.
-- Used by `closed_logs_of_sessions_are_an_account`, Closed, Follows and Programs.
use Rattle.std.proofs.Common.{◌≡◌, ℕ, List, [], Contains, IsTrue, Some, inl, inr, refl, sym, ap, subst, ◌∙◌}
use Rattle.std.proofs.lemmas.List.Elements.{Contains-append_cases}
use Rattle.std.proofs.lemmas.Option.{same_Some}
use Rattle.weave_data.proofs.Members.{cut_at, flat_has, has_cut, has_flat, has_head}
use Rattle.program_defs.specs.declared.script.Request.{Request}
use Rattle.program_defs.specs.Works.{is_look}
use Rattle.report_rules.specs.Lookups.{request_at}
use Rattle.weave_entries.specs.declared.gate_log.GateEntry.{GateEntry}
use Rattle.weave_entries.specs.declared.session_log.SessionEntry.{SessionEntry}
use Rattle.weave_entries.specs.declared.session_log.SessionDeed.{SessionDeed}
use Rattle.weave_entries.specs.declared.session_log.SessionDeed.TheVariants as session
use Rattle.weave_entries.specs.Logs.{AtEachEntry}
use Rattle.weave_entries.specs.GateReplay.{ended_by, ended_in}
use Rattle.weave_entries.specs.SessionReplay.{has_reply_in, replied_in, reply_by}
use Rattle.weave_account.specs.declared.account.Account.{Account}
use Rattle.weave_account.specs.Account.{gate_log, is_ended, session_log}
use Rattle.weave_account.specs.GoesOn.{GoesOn}
use Rattle.weave_account.specs.Sessions.{RepliesAs, SessionsClause}
use Rattle.weaver_locks.specs.declared.hand.Hand.{Hand}
use Rattle.weaver_locks.specs.Closing.{seen_by_number}
use Rattle.weaver_locks.specs.Locks.{hands_of}
use Rattle.workers_account.specs.Phase.{IsClosedBy}
use Rattle.workers_account.proofs.Ended.{all-ended, ended-all, replied-later, replied-on}
use Rattle.workers_account.proofs.SessionLogs.{replied-here}
use Rattle.sessions_account.proofs.Gains.{IsRequestOf}
use Rattle.sessions_account.proofs.Runs.{Run, gate-entry, given-now, made-there, part}
use Rattle.sessions_account.proofs.SessionLogs.{LogLeft, gained-log, log-left, logs-on, logs-right, session-case, stamps-agree}

module _ (x : Run) (closed : Account) (end : IsClosedBy x.shared x.script x.start x.is x.hands closed) where
  -- the logs of the start go on
  pub goes : GoesOn x.start closed
  goes = x.laws.phase.goes_on x.script.shards (hands_of x.shared) x.start (seen_by_number x.hands) closed end.of_hands (logs-on x closed end)

  -- what a hand ended has its reply in the log of one of its sessions
  pub record EndedFor (r : ℕ) (hand : Hand) (h : Contains x.hands hand) : Type 0 where
    pub session : ℕ
    pub left : LogLeft x closed end session hand h
    pub since : Contains (replied_in ((part x hand h).logs session)) r
    pub replied : Contains (replied_in (session_log closed session)) r
    pub of : IsRequestOf x.script session r

  -- what a hand ended since the start has its reply in the log of one of its sessions
  pub ended-for : (hand : Hand) (h : Contains x.hands hand) (home r : ℕ) → Contains (ended_in ((part x hand h).gates home)) r → EndedFor r hand h
  ended-for hand h home r there =
      let one = (part x hand h).logged.ended home r there in
      let left = log-left x closed end one.0 hand h (given-now x hand h one.0 one.1) in
      let replied = subst (λ (l : List SessionEntry). Contains (replied_in l) r) (sym (gained-log x closed end one.0 hand h left))
      (replied-later (session_log x.start one.0) ((part x hand h).logs one.0) r one.2) in
      record {
        session = one.0;
        left = left;
        since = one.2;
        replied = replied;
        of = replied-here x.laws.phase x.script one.0 (session_log closed one.0) (logs-right x closed end one.0) r replied;
      }

  -- a program that has ended has its reply
  finished-replied : (r : ℕ) (request : Request) → request_at x.script r ≡ Some request → IsTrue (is_look request.work)
      → IsTrue (is_ended closed r) → IsTrue (has_reply_in r (session_log closed request.session))
  finished-replied r request at look ended =
      let home = all-ended closed r ended in
      let from = flat_has (λ (e : GateEntry). ended_by e.deed) (gate_log closed home.0) r home.1 in
      (x.laws.phase.has_reply r (session_log closed request.session)).1
      (elim (gate-entry x closed end home.0 from.0 from.1) [
        | inl early ↦
            let before = x.served.at_start.is_account.sessions.finished_are_replied r request at look
            (ended-all x.start home.0 r (has_flat (λ (e : GateEntry). ended_by e.deed) (gate_log x.start home.0) from.0 r early from.2)) in
            let on = logs-on x closed end request.session in
            subst (λ (l : List SessionEntry). Contains (replied_in l) r) (sym on.1)
            (replied-on (session_log x.start request.session) on.0 r ((x.laws.phase.has_reply r (session_log x.start request.session)).0 before))
        | inr now ↦
            let one = ended-for now.0 now.1 home.0 r
            (has_flat (λ (e : GateEntry). ended_by e.deed) ((part x now.0 now.1).gates home.0) from.0 r now.2 from.2) in
            let same : one.of.0 ≡ request = same_Some one.of.0 request (sym one.of.1 ∙ at) in
            subst (λ (t : ℕ). Contains (replied_in (session_log closed t)) r) (sym one.of.2 ∙ ap (λ (q : Request). q.session) same) one.replied
      ])

  -- what has its reply has ended
  deed-ended : (t : ℕ) (hand : Hand) (h : Contains x.hands hand) (entry : SessionEntry) → Contains ((part x hand h).logs t) entry
      → (deed : SessionDeed) → entry.deed ≡ deed → RepliesAs closed deed
  deed-ended t hand h entry there (session.Begun r stamp) same = tt
  deed-ended t hand h entry there (session.Replied r) same =
      let replied = has_flat (λ (e : SessionEntry). reply_by e.deed) ((part x hand h).logs t) entry r there
      (subst (λ (d : SessionDeed). Contains (reply_by d) r) (sym same) (has_head r [])) in
      let ended = (part x hand h).logged.replied t r replied in
      let from = flat_has (λ (e : GateEntry). ended_by e.deed) ((part x hand h).gates ended.0) r ended.1 in
      ended-all closed ended.0 r
      (has_flat (λ (e : GateEntry). ended_by e.deed) (gate_log closed ended.0) from.0 r (made-there x closed end hand h ended.0 from.0 from.1) from.2)

  replied-ended : (t : ℕ) → AtEachEntry (λ before (entry : SessionEntry). RepliesAs closed entry.deed) (session_log closed t)
  replied-ended t before entry after at =
      let here : Contains (session_log closed t) entry = subst (λ (l : List SessionEntry). Contains l entry) (sym at) (has_cut before entry after) in
      elim (session-case x closed end t) [
        | inl same ↦ early (subst (λ (l : List SessionEntry). Contains l entry) same here)
        | inr one ↦
            elim (Contains-append_cases (session_log x.start t) ((part x one.0 one.1).logs t) entry
            (subst (λ (l : List SessionEntry). Contains l entry) (gained-log x closed end t one.0 one.1 one.2) here)) [
              | inl first ↦ early first
              | inr since ↦ deed-ended t one.0 one.1 entry since entry.deed refl
            ]
      ]
    where
      early : Contains (session_log x.start t) entry → RepliesAs closed entry.deed
      early first =
          let cut = cut_at (session_log x.start t) entry first in
          x.laws.phase.replies_stay x.script x.start closed goes entry.deed (x.served.at_start.is_account.sessions.replies t cut.before entry cut.after cut.is)

  -- the sessions' logs are those of the closed gatekeepers
  pub sessions-kept : SessionsClause x.script closed
  sessions-kept = record {
    logs = logs-right x closed end;
    stamps = stamps-agree x closed end;
    replies = replied-ended;
    finished_are_replied = finished-replied;
  }
