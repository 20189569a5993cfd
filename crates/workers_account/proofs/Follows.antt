-- A hand of a phase begins and judges what the script asks of its session, once and in turn.
-- Used by ByLog, ClosedAccount, HeardOf, OneHand, OpenPairs, OwnWorkers, Programs and Visited.
use Rattle.std.proofs.Common.{◌≡◌, ◌≢◌, ℕ, ◌<◌, ◌≤◌, ◌==◌, Bool, List, [], ◌∷◌, ◌++◌, length, Contains, AllPairs, IsTrue, Option, Some, inl, inr, refl, sym, ap, subst, ◌∙◌, arith}
use Rattle.std.specs.Prelude.{◌&&◌, IsSomeAnd}
use Rattle.std.specs.Option.{ForSome}
use Rattle.std.proofs.lemmas.Bool.{and_from, eq-eqb}
use Rattle.std.proofs.lemmas.Option.{same_Some}
use Rattle.weave_data.proofs.Members.{has_none}
use Rattle.weave_data.proofs.Ordered.{pairs_none}
use Rattle.vector_stamp.specs.declared.clock.Stamp.{Stamp}
use Rattle.vector_stamp.specs.Clocks.{counts_no_more}
use Rattle.program_defs.specs.declared.script.Request.{Request}
use Rattle.program_defs.specs.declared.script.Script.{Script}
use Rattle.program_defs.specs.declared.script.Work.{Work}
use Rattle.program_defs.specs.declared.script.Work.TheVariants.{Change}
use Rattle.program_defs.specs.Works.{is_change, is_look}
use Rattle.report_rules.specs.Lookups.{is_some_and, request_at}
use Rattle.weave_entries.specs.declared.gate_log.GateEntry.{GateEntry}
use Rattle.weave_entries.specs.declared.gate_log.GateDeed.{GateDeed}
use Rattle.weave_entries.specs.declared.gate_log.GateDeed.TheVariants.{BeganTx, BeganProgram, Sent, Nop, Heard, Raised, Finished}
use Rattle.weave_entries.specs.declared.session_log.SessionEntry.{SessionEntry}
use Rattle.weave_entries.specs.Logs.{AtEachEntry}
use Rattle.weave_entries.specs.GateReplay.{BegunRequest, begun_in, begun_stamp, clock_of}
use Rattle.weave_entries.specs.SessionReplay.{begins_in, next_request, session_of}
use Rattle.weave_entries.specs.StoreReplay.{Judgement, judgements_of}
use Rattle.weave_account.specs.declared.account.Account.{Account}
use Rattle.weave_account.specs.Account.{all_begun, gate_log, session_log}
use Rattle.weave_account.specs.Gatekeepers.{BeginsAs, BeginsRequest, last_stamp}
use Rattle.weave_account.specs.GoesOn.{IsBeginningOf}
use Rattle.weave_account.specs.Sessions.{SessionsClause, requests_of_session}
use Rattle.weave_account.specs.Store.{InTurn}
use Rattle.hands_account.specs.Runs.{WasGiven, own_begun, own_judgements}
use Rattle.seen_logs.specs.Seen.{IsOwn}
use Rattle.seen_logs.proofs.Placed.{pairs-append}
use Rattle.weaver_core.specs.declared.client.Client.{Client}
use Rattle.weaver_core.specs.Sessions.{log_of_client}
use Rattle.weaver_locks.specs.declared.hand.Hand.{Hand}
use Rattle.weaver_locks.specs.declared.shared.Shared.{Shared}
use Rattle.weaver_locks.specs.Hands.{hand_number, seen_by}
use Rattle.weaver_workers.specs.Carrying.{is_telling}
use Rattle.workers_account.specs.Begins.{BeginsInTurn, IsBegunInTurn}
use Rattle.workers_account.specs.Phase.{IsClosedBy, IsPhaseRun}
use Rattle.workers_account.specs.PhaseLaws.{PhaseLaws}
use Rattle.workers_account.proofs.Parts.{Part, part-of, seen-start}
use Rattle.workers_account.proofs.SessionLogs.{begins-later, begun-here, begins-rise, later-differs, pairs-weaker}
use Rattle.workers_account.proofs.Begun.{all-has, begun-in-part, gained-log, left-log, logs-right, none-begun, start-logged}
use Rattle.workers_account.proofs.Ended.{sessions-kept}
use Rattle.workers_account.proofs.Own.{own-begun-is, own-entry, own-judgements-are}
use Rattle.hands_account.proofs.Needed.{list-within}
use Rattle.weave_account.proofs.InSession.{last-any}

-- a deed of hearing a clock or sending an empty message begins nothing
told-begins-as : (script : Script) (account : Account) (home : ℕ) (before : List GateEntry) (deed : GateDeed) → IsTrue (is_telling deed) → BeginsAs script account home before deed
told-begins-as script account home before (Heard clock) tells = tt
told-begins-as script account home before (Nop shard number stamp low) tells = tt
told-begins-as script account home before (BeganTx r stamp) tells = absurd cc
told-begins-as script account home before (BeganProgram r stamp) tells = absurd cc
told-begins-as script account home before (Sent r messages) tells = tt
told-begins-as script account home before (Raised epoch) tells = tt
told-begins-as script account home before (Finished r) tells = tt

module _ (laws : PhaseLaws) (shared : Shared) (script : Script) (upto : ℕ) (start : Account) (was is : List Client) (hands : List Hand)
    (run : IsPhaseRun shared script upto start was is hands) (closed : Account) (end : IsClosedBy shared script start is hands closed) where
  kept : SessionsClause script closed
  kept = sessions-kept laws shared script upto start was is hands run closed end

  -- Begins

  -- a request that was begun in its session's turn begins as the account says
  request-begins : (t : ℕ) (log : List SessionEntry) → session_log closed t ≡ log → (is_kind : Work → Bool) (home : ℕ) (before : List GateEntry) (r : ℕ) (stamp : Stamp)
      → IsBegunInTurn script t log is_kind home before r stamp → BeginsRequest script closed is_kind home before r stamp
  request-begins t log log-is is_kind home before r stamp begun =
      let asked = begun.asked in
      let on : IsBeginningOf begun.then (session_log closed asked.session) =
      subst (λ (l : List SessionEntry). IsBeginningOf begun.then l) (sym log-is ∙ ap (session_log closed) (sym begun.session_is)) begun.on in
      let next = ap (λ (s : ℕ). next-of s) begun.session_is ∙ begun.next in
      let last : last_stamp script closed r ≡ begun.last =
      laws.last_is script closed kept r asked begun.request_is begun.then on next
      ∙ sym (last-any (requests_of_session script t) [] begun.then) ∙ sym begun.last_is in
      record {
        own = subst (λ (o : Option Request). IsTrue (is_some_and (λ (request : Request). (request.gate == home) && is_kind request.work) o)) (sym begun.request_is)
            (and_from (asked.gate == home) (is_kind asked.work) (eq-eqb asked.gate home begun.gate_is) begun.kind);
        stamp_is = begun.stamp_is ∙ ap (begun_stamp home (clock_of home before)) (sym last);
        hears_no_more = subst (λ (o : Option Stamp). ForSome o (λ heard. IsTrue (counts_no_more home (clock_of home before) heard.clock))) (sym last) begun.hears_no_more;
        small = begun.small;
      }
    where
      next-of : ℕ → Option ℕ
      next-of s = next_request (session_of (requests_of_session script s) begun.then)

  deed-begins : (t : ℕ) (log : List SessionEntry) → session_log closed t ≡ log → (home : ℕ) (before : List GateEntry) (deed : GateDeed)
      → BeginsInTurn script t log home before deed → BeginsAs script closed home before deed
  deed-begins t log log-is home before (BeganTx r stamp) begun = request-begins t log log-is is_change home before r stamp begun
  deed-begins t log log-is home before (BeganProgram r stamp) begun = request-begins t log log-is is_look home before r stamp begun
  deed-begins t log log-is home before (Sent r messages) begun = tt
  deed-begins t log log-is home before (Nop shard number stamp low) begun = tt
  deed-begins t log log-is home before (Heard clock) begun = tt
  deed-begins t log log-is home before (Raised epoch) begun = tt
  deed-begins t log log-is home before (Finished r) begun = tt

  module _ (hand : Hand) (h : Contains hands hand) where
    abbrev number : ℕ
    number = hand_number hand

    abbrev part : Part shared script upto was is run.hand_of hand
    part = part-of laws shared script upto start was is hands run hand h

    -- each request that the hand began since the start, it began as the script and the closed logs say
    pub begins : (home : ℕ) → AtEachEntry (λ before (entry : GateEntry). IsOwn number (gate_log start home) before entry.author
        → BeginsAs script closed home before entry.deed) (gate_log (seen_by hand) home)
    begins home before entry after at own =
        elim part.did [
          | inl told ↦ told-begins-as script closed home before entry.deed
              (told.tells home entry (own-entry laws shared script upto start was is hands run hand part home before entry after at own))
          | inr on ↦
              let left = left-log laws shared script upto start was is hands run closed end on.0 hand h (record { mine = on.1; has = on.2 }) in
              let own-from : IsOwn (hand_number part.from) (gate_log (seen_by part.from) home) before entry.author = (
                own.0 ∙ sym part.number_is,
                subst (λ (a : Account). length (gate_log a home) ≤ length before)
                    (sym (seen-start laws shared script upto start was is hands run hand part)) own.1,
              ) in
              deed-begins on.0 (log_of_client on.2.on.left) left.is_log home before entry.deed (on.2.followed.begins home before entry after at own-from)
        ]

    -- What began is new

    -- what the hand's part began had not begun at the start
    pub begun-new : (home : ℕ) (begun : BegunRequest) → Contains (begun_in (part.gates home)) begun → (other : BegunRequest) → Contains (all_begun start) other → other.request ≢ begun.request
    begun-new home begun there other before same =
        let one = begun-in-part laws shared script upto start was is hands run closed end hand h home begun there in
        let t = one.session in
        let logged : Contains (begins_in (session_log start t)) (other.request, other.stamp) =
        subst (λ (s : ℕ). Contains (begins_in (session_log start s)) (other.request, other.stamp)) one.session_is
        (start-logged laws shared script upto start was is hands run closed end other before one.request (ap (request_at script) same ∙ one.request_is)) in
        let gained = one.left.part.has.followed.in_step.gained.session in
        let rise = subst (λ (l : List SessionEntry). AllPairs (λ (a b : ℕ × Stamp). a.0 < b.0) (begins_in l))
        (gained-log laws shared script upto start was is hands run closed end t hand h one.left)
        (begins-rise laws script t (session_log closed t) (logs-right laws shared script upto start was is hands run closed end t)) in
        let less = later-differs (session_log start t) gained rise other.request begun.request other.stamp begun.stamp logged one.logged in
        omega (arith, less, same)

    begun-rise : (home : ℕ) → AllPairs (λ (a b : BegunRequest). a.request < b.request) (begun_in (part.gates home))
    begun-rise home =
        elim part.did [
          | inl told ↦ nothing (begun_in (part.gates home)) (λ b there. none-begun part.gates told.tells home b there)
          | inr on ↦ subst (λ (g : ℕ → List GateEntry). AllPairs (λ (a b : BegunRequest). a.request < b.request) (begun_in (g home))) on.2.gates_are
              (on.2.followed.in_step.begun_rise home)
        ]
      where
        nothing : (bs : List BegunRequest) → ((b : BegunRequest) → Contains bs b → ⊥) → AllPairs (λ (a b : BegunRequest). a.request < b.request) bs
        nothing [] none = pairs_none (λ (a b : BegunRequest). a.request < b.request)
        nothing (b ∷ bs) none = absurd (none b (0, omega arith, refl))

    -- at each gatekeeper, what was begun at the start and what the hand began since are all different requests
    pub once : (home : ℕ) → AllPairs (λ (a b : BegunRequest). a.request ≢ b.request) (begun_in (gate_log start home) ++ own_begun number start (seen_by hand) home)
    once home =
        let R = λ (a b : BegunRequest). a.request ≢ b.request in
        subst (λ (bs : List BegunRequest). AllPairs R (begun_in (gate_log start home) ++ bs))
        (sym (own-begun-is laws shared script upto start was is hands run hand part home))
        (pairs-append R (begun_in (gate_log start home)) (begun_in (part.gates home))
        (list-within R begun_in refl start.gates run.at_start.is_account.gatekeepers.once home)
        (pairs-weaker (λ (a b : BegunRequest). a.request < b.request) R (λ a b less same. omega (arith, less, same)) (begun_in (part.gates home)) (begun-rise home))
        (λ a b before since. begun-new home b since a (all-has start home a before)))

    -- Judgements

    judged-part : (judged : Judgement) → Contains (judgements_of part.store) judged → (session : ℕ) × (run.hand_of session ≡ number)
        × IsSomeAnd (request_at script judged.request) (λ (request : Request). request.work ≡ Change judged.ops)
        × ((request : Request) × (request_at script judged.request ≡ Some request) × (request.session ≡ session))
    judged-part judged there =
        elim part.did [
          | inl told ↦ absurd (has_none judged (subst (λ s. Contains (judgements_of s) judged) told.none there))
          | inr on ↦
              let step = on.2.followed.in_step in
              let left = left-log laws shared script upto start was is hands run closed end on.0 hand h (record { mine = on.1; has = on.2 }) in
              let for = step.in_step.judged judged (subst (λ s. Contains (judgements_of s) judged) (sym on.2.store_is) there) in
              let in_log : Contains (begins_in (session_log closed on.0)) (judged.request, judged.stamp) =
              subst (λ (l : List SessionEntry). Contains (begins_in l) (judged.request, judged.stamp))
              (sym (gained-log laws shared script upto start was is hands run closed end on.0 hand h left))
              (begins-later (session_log start on.0) step.gained.session judged.request judged.stamp for.begun) in (
                on.0,
                on.1,
                for.work,
                begun-here laws script on.0 (session_log closed on.0)
                    (logs-right laws shared script upto start was is hands run closed end on.0) judged.request judged.stamp in_log,
              )
        ]

    -- the hand judged, for each request, the operations that the script gives it
    pub work : (judged : Judgement) → Contains (own_judgements number start (seen_by hand)) judged
        → IsSomeAnd (request_at script judged.request) (λ (request : Request). request.work ≡ Change judged.ops)
    work judged there =
        (judged-part judged (subst (λ js. Contains js judged) (own-judgements-are laws shared script upto start was is hands run hand part) there)).2

    -- of two requests of one session the hand judged the earlier one first
    pub in-turn : AllPairs (λ (a b : Judgement). InTurn script a.request b.request) (own_judgements number start (seen_by hand))
    in-turn =
        let R = λ (a b : Judgement). a.request < b.request in
        let S = λ (a b : Judgement). InTurn script a.request b.request in
        subst (AllPairs S) (sym (own-judgements-are laws shared script upto start was is hands run hand part))
        (pairs-weaker R S (λ a b less same. less) (judgements_of part.store)
        (elim part.did [
          | inl told ↦ subst (λ s. AllPairs R (judgements_of s)) (sym told.none) (pairs_none R)
          | inr on ↦ subst (λ s. AllPairs R (judgements_of s)) on.2.store_is on.2.followed.in_step.judged_rise
        ]))

    -- Requests are those of the hand's own sessions

    mine : (r session : ℕ) → run.hand_of session ≡ number → (request : Request) → request_at script r ≡ Some request → request.session ≡ session
        → ForSome (request_at script r) (λ (request : Request). run.hand_of request.session ≡ number)
    mine r session hand-is request at of other is =
        let same = same_Some request other (sym at ∙ is) in
        ap (λ (q : Request). run.hand_of q.session) (sym same) ∙ ap run.hand_of of ∙ hand-is

    -- what the hand began or judged since the start is of its own sessions
    pub own-sessions : (r : ℕ) → WasGiven number start (seen_by hand) r → ForSome (request_at script r) (λ (request : Request). run.hand_of request.session ≡ number)
    own-sessions r (inl given) =
        let begun = given.1 in
        let there = subst (λ bs. Contains bs begun) (own-begun-is laws shared script upto start was is hands run hand part given.0) given.2 in
        let one = begun-in-part laws shared script upto start was is hands run closed end hand h given.0 begun there in
        subst (λ (q : ℕ). ForSome (request_at script q) (λ (request : Request). run.hand_of request.session ≡ number)) given.3
        (mine begun.request one.session one.left.part.mine one.request one.request_is one.session_is)
    own-sessions r (inr given) =
        let judged = given.0 in
        let one = judged-part judged (subst (λ js. Contains js judged) (own-judgements-are laws shared script upto start was is hands run hand part) given.1) in
        subst (λ (q : ℕ). ForSome (request_at script q) (λ (request : Request). run.hand_of request.session ≡ number)) given.2
        (mine judged.request one.0 one.1 one.3.0 one.3.1 one.3.2)
