-- A hand that served its sessions began and judged what the script asks of them, once and in turn.
-- Used by Closed and Visits.
use Rattle.std.proofs.Common.{◌≡◌, ◌≢◌, ℕ, ◌<◌, ◌≤◌, ◌==◌, Bool, List, [], ◌++◌, length, Contains, AllPairs, IsTrue, Option, inl, inr, refl, sym, ap, subst, ◌∙◌, arith}
use Rattle.std.specs.Prelude.{◌&&◌, IsSomeAnd}
use Rattle.std.specs.Option.{ForSome}
use Rattle.std.proofs.lemmas.Bool.{and_from, eq-eqb}
use Rattle.std.proofs.lemmas.Option.{same_Some}
use Rattle.vector_stamp.specs.declared.clock.Stamp.{Stamp}
use Rattle.vector_stamp.specs.Clocks.{counts_no_more}
use Rattle.program_defs.specs.declared.script.Request.{Request}
use Rattle.program_defs.specs.declared.script.Script.{Script}
use Rattle.program_defs.specs.declared.script.Work.{Work}
use Rattle.program_defs.specs.declared.script.Work.TheVariants.{Change}
use Rattle.program_defs.specs.Works.{is_change, is_look}
use Rattle.report_rules.specs.Lookups.{is_some_and, request_at}
use Rattle.weave_entries.specs.declared.gate_log.GateEntry.{GateEntry}
use Rattle.weave_entries.specs.declared.gate_log.GateDeed.{GateDeed}
use Rattle.weave_entries.specs.declared.gate_log.GateDeed.TheVariants.{BeganTx, BeganProgram, Sent, Nop, Heard, Raised, Finished}
use Rattle.weave_entries.specs.declared.session_log.SessionEntry.{SessionEntry}
use Rattle.weave_entries.specs.Logs.{AtEachEntry}
use Rattle.weave_entries.specs.GateReplay.{BegunRequest, begun_by, begun_in, begun_stamp, clock_of}
use Rattle.weave_entries.specs.SessionReplay.{begins_in, next_request, session_of}
use Rattle.weave_entries.specs.StoreReplay.{Judgement, judgements_of}
use Rattle.weave_account.specs.declared.account.Account.{Account}
use Rattle.weave_account.specs.Account.{all_begun, gate_log, session_log}
use Rattle.weave_account.specs.Gatekeepers.{BeginsAs, BeginsRequest, last_stamp}
use Rattle.weave_account.specs.GoesOn.{IsBeginningOf}
use Rattle.weave_account.specs.Sessions.{SessionsClause, requests_of_session}
use Rattle.weave_account.specs.Store.{InTurn}
use Rattle.hands_account.specs.Runs.{WasGiven, own_begun, own_judgements}
use Rattle.seen_logs.specs.Seen.{IsOwn}
use Rattle.seen_logs.proofs.Placed.{list-within, pairs-append}
use Rattle.weaver_core.specs.Sessions.{log_of_client}
use Rattle.weaver_locks.specs.declared.hand.Hand.{Hand}
use Rattle.weaver_locks.specs.Hands.{hand_number, seen_by}
use Rattle.workers_account.specs.Begins.{BeginsInTurn, IsBegunInTurn}
use Rattle.workers_account.specs.Phase.{IsClosedBy}
use Rattle.workers_account.specs.PhaseLaws.{PhaseLaws}
use Rattle.workers_account.proofs.Begun.{all-has}
use Rattle.workers_account.proofs.SessionLogs.{begins-later, begins-rise, later-differs}
use Rattle.sessions_account.proofs.Gains.{BeginsForSome, IsRequestOf}
use Rattle.sessions_account.proofs.Runs.{Run, given-now, history, own-begun-is, own-judgements-are, part, seen-start}
use Rattle.sessions_account.proofs.SessionLogs.{begun-for, gained-log, log-left, logs-right, of-logged, start-logged}
use Rattle.sessions_account.proofs.Ends.{sessions-kept}
use Rattle.weave_account.proofs.InSession.{last-any}

-- Begins

module _ (laws : PhaseLaws) (script : Script) (closed : Account) (kept : SessionsClause script closed) (t : ℕ) (log : List SessionEntry)
    (log_is : session_log closed t ≡ log) (home : ℕ) (before : List GateEntry) where
  -- a request that was begun in its session's turn begins as the account says
  request-begins : (is_kind : Work → Bool) (r : ℕ) (stamp : Stamp) → IsBegunInTurn script t log is_kind home before r stamp
      → BeginsRequest script closed is_kind home before r stamp
  request-begins is_kind r stamp begun =
      let asked = begun.asked in
      let on : IsBeginningOf begun.then (session_log closed asked.session) =
      subst (λ (l : List SessionEntry). IsBeginningOf begun.then l) (sym log_is ∙ ap (session_log closed) (sym begun.session_is)) begun.on in
      let next = ap (λ (s : ℕ). next_request (session_of (requests_of_session script s) begun.then)) begun.session_is ∙ begun.next in
      let last : last_stamp script closed r ≡ begun.last =
      laws.last_is script closed kept r asked begun.request_is begun.then on next
      ∙ sym (last-any (requests_of_session script t) [] begun.then) ∙ sym begun.last_is in
      record {
        own = subst (λ (o : Option Request). IsTrue (is_some_and (λ (request : Request). (request.gate == home) && is_kind request.work) o)) (sym begun.request_is)
            (and_from (asked.gate == home) (is_kind asked.work) (eq-eqb asked.gate home begun.gate_is) begun.kind);
        stamp_is = begun.stamp_is ∙ ap (begun_stamp home (clock_of home before)) (sym last);
        hears_no_more = subst (λ (o : Option Stamp). ForSome o (λ heard. IsTrue (counts_no_more home (clock_of home before) heard.clock))) (sym last) begun.hears_no_more;
        small = begun.small;
      }

  deed-begins : (deed : GateDeed) → BeginsInTurn script t log home before deed → BeginsAs script closed home before deed
  deed-begins (BeganTx r stamp) begun = request-begins is_change r stamp begun
  deed-begins (BeganProgram r stamp) begun = request-begins is_look r stamp begun
  deed-begins (Sent r messages) begun = tt
  deed-begins (Nop shard number stamp low) begun = tt
  deed-begins (Heard clock) begun = tt
  deed-begins (Raised epoch) begun = tt
  deed-begins (Finished r) begun = tt

-- a deed that begins nothing begins as the account says
nothing-begins : (script : Script) (closed : Account) (home : ℕ) (before : List GateEntry) (author : ℕ) (deed : GateDeed) → begun_by author deed ≡ []
    → BeginsAs script closed home before deed
nothing-begins script closed home before author (BeganTx r stamp) none = absurd cc
nothing-begins script closed home before author (BeganProgram r stamp) none = absurd cc
nothing-begins script closed home before author (Sent r messages) none = tt
nothing-begins script closed home before author (Nop shard number stamp low) none = tt
nothing-begins script closed home before author (Heard clock) none = tt
nothing-begins script closed home before author (Raised epoch) none = tt
nothing-begins script closed home before author (Finished r) none = tt

module _ (x : Run) (closed : Account) (end : IsClosedBy x.shared x.script x.start x.is x.hands closed) (hand : Hand) (h : Contains x.hands hand) where
  abbrev number : ℕ
  number = hand_number hand

  entry-begins : (home : ℕ) (before : List GateEntry) (entry : GateEntry)
      → BeginsForSome x.script x.served.hand_of (hand_number (history x hand h).from.hand) (record { hand = hand; clients = (history x hand h).left }) home before entry
      → BeginsAs x.script closed home before entry.deed
  entry-begins home before entry (inl none) = nothing-begins x.script closed home before entry.author entry.deed none
  entry-begins home before entry (inr one) =
      let left = log-left x closed end one.0 hand h (given-now x hand h one.0 one.1) in
      deed-begins x.laws.phase x.script closed (sessions-kept x closed end) one.0 (log_of_client ((history x hand h).left one.0)) left.is_log home before entry.deed one.2

  -- each request that the hand began since the start, it began as the script and the closed logs say
  pub begins : (home : ℕ) → AtEachEntry (λ before (entry : GateEntry). IsOwn number (gate_log x.start home) before entry.author
      → BeginsAs x.script closed home before entry.deed) (gate_log (seen_by hand) home)
  begins home before entry after at own =
      entry-begins home before entry ((part x hand h).begins home before entry after at (
        own.0 ∙ sym (history x hand h).number_is,
        subst (λ (a : Account). length (gate_log a home) ≤ length before) (sym (seen-start x hand h)) own.1,
      ))

  -- what the hand began had not begun at the start
  pub begun-new : (home : ℕ) (begun : BegunRequest) → Contains (begun_in ((part x hand h).gates home)) begun → (other : BegunRequest) → Contains (all_begun x.start) other
      → other.request ≢ begun.request
  begun-new home begun there other before same =
      let one = begun-for x closed end hand h home begun there in
      let t = one.session in
      let early : Contains (begins_in (session_log x.start t)) (other.request, other.stamp) =
      subst (λ (s : ℕ). Contains (begins_in (session_log x.start s)) (other.request, other.stamp)) one.of.2
      (start-logged x closed end other before one.of.0 (ap (request_at x.script) same ∙ one.of.1)) in
      let rise = subst (λ (l : List SessionEntry). AllPairs (λ (a b : ℕ × Stamp). a.0 < b.0) (begins_in l)) (gained-log x closed end t hand h one.left)
      (begins-rise x.laws.phase x.script t (session_log closed t) (logs-right x closed end t)) in
      let less = later-differs (session_log x.start t) ((part x hand h).logs t) rise other.request begun.request other.stamp begun.stamp early one.logged in
      omega (arith, less, same)

  -- at each gatekeeper, what was begun at the start and what the hand began since are all different requests
  pub once : (home : ℕ) → AllPairs (λ (a b : BegunRequest). a.request ≢ b.request) (begun_in (gate_log x.start home) ++ own_begun number x.start (seen_by hand) home)
  once home =
      let R = λ (a b : BegunRequest). a.request ≢ b.request in
      subst (λ (bs : List BegunRequest). AllPairs R (begun_in (gate_log x.start home) ++ bs)) (sym (own-begun-is x hand h home))
      (pairs-append R (begun_in (gate_log x.start home)) (begun_in ((part x hand h).gates home))
      (list-within R begun_in refl x.start.gates x.served.at_start.is_account.gatekeepers.once home)
      ((part x hand h).logged.once home) (λ a b before since. begun-new home b since a (all-has x.start home a before)))

  -- Judgements

  judged-for : (judged : Judgement) → Contains (judgements_of (part x hand h).store) judged → (s : ℕ) × (x.served.hand_of s ≡ number)
      × IsSomeAnd (request_at x.script judged.request) (λ (request : Request). request.work ≡ Change judged.ops)
      × IsRequestOf x.script s judged.request
  judged-for judged there =
      let one = (part x hand h).logged.judged judged there in
      let left = log-left x closed end one.0 hand h (given-now x hand h one.0 one.1) in (
        one.0,
        left.given.1,
        one.2.work,
        of-logged x closed end one.0 judged.request judged.stamp
            (subst (λ (l : List SessionEntry). Contains (begins_in l) (judged.request, judged.stamp)) (sym (gained-log x closed end one.0 hand h left))
            (begins-later (session_log x.start one.0) ((part x hand h).logs one.0) judged.request judged.stamp one.2.begun)),
      )

  -- the hand judged, for each request, the operations that the script gives it
  pub work : (judged : Judgement) → Contains (own_judgements number x.start (seen_by hand)) judged
      → IsSomeAnd (request_at x.script judged.request) (λ (request : Request). request.work ≡ Change judged.ops)
  work judged there = (judged-for judged (subst (λ js. Contains js judged) (own-judgements-are x hand h) there)).2

  -- of two requests of one session the hand judged the earlier one first
  pub in-turn : AllPairs (λ (a b : Judgement). InTurn x.script a.request b.request) (own_judgements number x.start (seen_by hand))
  in-turn = subst (AllPairs (λ (a b : Judgement). InTurn x.script a.request b.request)) (sym (own-judgements-are x hand h)) (part x hand h).logged.in_turn

  -- Requests are those of the hand's own sessions

  mine : (r s : ℕ) → x.served.hand_of s ≡ number → IsRequestOf x.script s r
      → ForSome (request_at x.script r) (λ (request : Request). x.served.hand_of request.session ≡ number)
  mine r s hand-is of other is =
      let same = same_Some of.0 other (sym of.1 ∙ is) in
      ap (λ (q : Request). x.served.hand_of q.session) (sym same) ∙ ap x.served.hand_of of.2 ∙ hand-is

  -- what the hand began or judged since the start is of its own sessions
  pub own-sessions : (r : ℕ) → WasGiven number x.start (seen_by hand) r
      → ForSome (request_at x.script r) (λ (request : Request). x.served.hand_of request.session ≡ number)
  own-sessions r (inl given) =
      let begun = given.1 in
      let one = begun-for x closed end hand h given.0 begun (subst (λ bs. Contains bs begun) (own-begun-is x hand h given.0) given.2) in
      subst (λ (q : ℕ). ForSome (request_at x.script q) (λ (request : Request). x.served.hand_of request.session ≡ number)) given.3
      (mine begun.request one.session one.left.given.1 one.of)
  own-sessions r (inr given) =
      let judged = given.0 in
      let one = judged-for judged (subst (λ js. Contains js judged) (own-judgements-are x hand h) given.1) in
      subst (λ (q : ℕ). ForSome (request_at x.script q) (λ (request : Request). x.served.hand_of request.session ≡ number)) given.2
      (mine judged.request one.0 one.1 one.3)
