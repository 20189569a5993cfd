-- At the start of a phase a hand may go on with each session whose begun requests all have their replies.
-- Used by `split_clients_are_ready`.
use Rattle.std.proofs.Common.{◌≡◌, ◌≢◌, ℕ, ◌+◌, ◌<◌, ◌≤◌, Bool, true, false, List, [], ◌∷◌, length, map, take, get_or, Contains, AllPairs, IsTrue, Option, None, Some, inr, refl, sym, ap, subst, ◌∙◌, arith}
use Rattle.std.specs.Prelude.{◌&&◌, if◌then◌else◌, is_some, not, slice_get}
use Rattle.std.specs.List.{range_with_len}
use Rattle.std.specs.Option.{option_and_then, option_map}
use Rattle.std.proofs.lemmas.List.{length-append, length-map}
use Rattle.std.proofs.lemmas.List.FromFn.{get_or-map-range_with_len, length-range_with_len}
use Rattle.std.proofs.lemmas.Option.{get_or_from_slice_get, none-some, slice_get-map, slice_get_within}
use Rattle.weave_data.proofs.Ends.{by_last}
use Rattle.weave_data.proofs.Images.{get-has}
use Rattle.weave_data.proofs.Members.{has_map, map_has}
use Rattle.vector_stamp.specs.declared.clock.Stamp.{Stamp}
use Rattle.program_defs.specs.Works.{is_look}
use Rattle.program_defs.specs.declared.script.Request.{Request}
use Rattle.program_defs.specs.declared.script.Script.{Script}
use Rattle.report_rules.specs.Lookups.{is_some_and, request_at}
use Rattle.weave_entries.specs.declared.session_log.SessionDeed.{SessionDeed}
use Rattle.weave_entries.specs.declared.session_log.SessionDeed.TheVariants as session_deed
use Rattle.weave_entries.specs.declared.session_log.SessionEntry.{SessionEntry}
use Rattle.weave_entries.specs.GateReplay.{BegunRequest, begun_in, programs_of}
use Rattle.weave_entries.specs.SessionReplay.{IsSessionLog, SessionState, begins_in, has_begun_in, has_reply_in, session_after, session_of}
use Rattle.weave_entries.proofs.OwnStamps.{program-begun}
use Rattle.weave_account.specs.declared.account.Account.{Account}
use Rattle.weave_account.specs.Account.{all_begun, gate_log, session_log, shard_log}
use Rattle.weave_account.specs.Sessions.{requests_of_session}
use Rattle.seen_logs.specs.Seen.{ShardRefersWithin}
use Rattle.weaver_core.specs.declared.client.Client.{Client}
use Rattle.weaver_core.specs.declared.walks.Running.{Running}
use Rattle.weaver_core.specs.Sessions.{log_of_client, requests_in}
use Rattle.weaver_core.specs.Splitting.{IsClientByLog, begun_by_session, program_waiting, waiting_in}
use Rattle.weaver_core.specs.Staying.{StayLaws}
use Rattle.weaver_core.proofs.Waiting.{session-laws, stamp-waits, waits-more, waits-open}
use Rattle.weaver_locks.specs.declared.hand.Hand.{Hand}
use Rattle.weaver_locks.specs.declared.shared.Shared.{Shared}
use Rattle.weaver_locks.specs.Following.{MayHear}
use Rattle.weaver_locks.specs.Hands.{seen_by, IsHand}
use Rattle.weaver_locks.specs.Locks.{shard_count, start_of}
use Rattle.weaver_workers.specs.Keeping.{IsFresh, KeepsClient}
use Rattle.workers_account.specs.Phase.{IsPhaseStart}
use Rattle.workers_account.specs.PhaseLaws.{PhaseLaws}
use Rattle.workers_account.specs.ReadyLaws.{ReadyLaws}
use Rattle.workers_account.proofs.Begun.{all-has, stamp-is}
use Rattle.workers_account.proofs.Idle.{begun-there, landed, seen-is}
use Rattle.workers_account.proofs.SessionEnds.{front-less}
use Rattle.workers_account.proofs.SessionLogs.{in-session, log-at, stamp-from}
use Rattle.step_rules.proofs.SessionTurns.{one-more}
use Rattle.weave_account.proofs.InSession.{last-any}
use Rattle.weave_account.proofs.Replying.{has-all}

-- Sessions in which none waits

-- if none waits by the log, none does
free-by-log : (requests : List ℕ) (log : List SessionEntry) → waiting_in log ≡ None → (session_of requests log).waits ≡ false
free-by-log requests =
    by_last (λ (log : List SessionEntry). waiting_in log ≡ None → (session_of requests log).waits ≡ false) (λ none. refl)
    (λ front entry so none.
    ap (λ (state : SessionState). state.waits) (one-more requests front entry)
    ∙ after (session_of requests front) entry.deed (sym (waits-more front entry) ∙ none))
  where
    after : (state : SessionState) (deed : SessionDeed) → begun_by_session deed ≡ None → (session_after state deed).waits ≡ false
    after state (session_deed.Begun r stamp) none = absurd (none-some (r, stamp) (sym none))
    after state (session_deed.Replied r) none = refl

-- what has its reply isn't open
replied-closed : (begun replied : Bool) → IsTrue replied → begun && not replied ≡ true → ⊥
replied-closed true true has is = let f : false ≡ true = is in cc
replied-closed false true has is = let f : false ≡ true = is in cc
replied-closed begun false has is = absurd cc

-- nothing is made of nothing
map-none : {A B : Type 0} (f : A → B) (o : Option A) → option_map f o ≡ None → o ≡ None
map-none f None is = refl
map-none f (Some x) is = absurd (none-some (f x) (sym is))

module _ (laws : PhaseLaws) (stay : StayLaws) (more : ReadyLaws) (script : Script) (start : Account) (shared : Shared) (clients : List Client)
    (hand : Hand) (session : ℕ) (client : Client) (at-start : IsPhaseStart script start shared clients) (is_hand : IsHand shared hand)
    (seen : seen_by hand ≡ start_of shared) (client-is : slice_get clients session ≡ Some client)
    (answered : (r : ℕ) (stamp : Stamp) → Contains (begins_in (log_of_client client)) (r, stamp) → IsTrue (has_reply_in r (log_of_client client))) where
  abbrev log : List SessionEntry
  log = log_of_client client

  -- The session

  log-is : session_log start session ≡ log
  log-is = log-at start clients at-start.logs session client client-is

  by-log : IsClientByLog script start client
  by-log = at-start.by_log client (get-has clients session client client-is)

  low : session < 64
  low =
      let many : length clients ≡ 64 = sym (length-map clients requests_in) ∙ ap length at-start.requests
      ∙ length-map (range_with_len 0 64) (requests_of_session script) ∙ length-range_with_len 0 64 in
      let within = slice_get_within clients session client client-is in
      omega (arith, many, within)

  requests-are : requests_in client ≡ requests_of_session script session
  requests-are =
      sym (get_or_from_slice_get (map requests_in clients) session (requests_in client) []
      (slice_get-map requests_in clients session ∙ ap (option_map requests_in) client-is))
      ∙ ap (λ (all : List (List ℕ)). get_or all session []) at-start.requests
      ∙ get_or-map-range_with_len (requests_of_session script) 0 64 session session [] low (omega arith)

  right : IsSessionLog session (requests_in client) log
  right =
      subst (λ (x : List ℕ × List SessionEntry). IsSessionLog session x.0 x.1) (λ i. (sym requests-are i, log-is i))
      (at-start.is_account.sessions.logs session)

  rising : AllPairs (λ (a b : ℕ). a < b) (requests_in client)
  rising = subst (AllPairs (λ (a b : ℕ). a < b)) (sym requests-are) (laws.rise script session)

  none-waits : waiting_in log ≡ None
  none-waits = by (waiting_in log) refl
    where
      by : (o : Option (ℕ × Stamp)) → waiting_in log ≡ o → waiting_in log ≡ None
      by None is = is
      by (Some (r, stamp)) is =
          let still = (waits-open (session-laws stay) session (requests_in client) log right rising r stamp is).0 in
          let there = stamp-from log r stamp (stamp-waits (session-laws stay) session (requests_in client) log right rising r stamp is) in
          absurd (replied-closed (has_begun_in r log) (has_reply_in r log) (answered r stamp there) still)

  free : client.session.waits ≡ false
  free = ap (λ (state : SessionState). state.waits) by-log.session ∙ free-by-log (requests_in client) log none-waits

  none-runs : client.running ≡ None
  none-runs =
      map-none (λ (one : Running). (one.request, one.stamp)) client.running (by-log.running.waits ∙ program-none none-waits)
    where
      program-none : waiting_in log ≡ None → program_waiting script log ≡ None
      program-none none =
          ap (option_and_then (λ (begun : ℕ × Stamp). if is_some_and (λ (request : Request). is_look request.work) (request_at script begun.0) then Some begun else None)) none

  -- Its last stamp

  may-hear : (stamp : Stamp) → client.session.last ≡ Some stamp → MayHear shared hand stamp
  may-hear stamp last =
      let alone : (session_of [] (session_log start session)).last ≡ Some stamp =
      ap (λ (l : List SessionEntry). (session_of [] l).last) log-is ∙ sym (last-any (requests_in client) [] log)
      ∙ ap (λ (state : SessionState). state.last) (sym by-log.session) ∙ last in
      let begun = map_has (λ (b : BegunRequest). b.stamp) (all_begun start) stamp
      (more.last_begun script start at-start.limits at-start.is_account session stamp alone) in
      let home = has-all start begun.0 begun.1 in
      record {
        home = home.0;
        begun = begun.0;
        stamp_is = begun.2;
        there = inr (subst (λ (a : Account). Contains (begun_in (gate_log a home.0)) begun.0) (sym at-start.start_is) home.1);
      }

  -- The requests that it has still to begin

  -- none of them had begun at the start
  unbegun : (n r : ℕ) → client.session.begun ≤ n → slice_get (requests_in client) n ≡ Some r → (begun : BegunRequest) → Contains (all_begun start) begun
      → begun.request ≢ r
  unbegun n r late at begun there same =
      let of = in-session script session r (subst (λ (rs : List ℕ). Contains rs r) requests-are (get-has (requests_in client) n r at)) in
      let logged : Contains (begins_in (session_log start of.0.session)) (begun.request, begun.stamp) =
      stamp-from (session_log start of.0.session) begun.request begun.stamp
      (at-start.is_account.sessions.stamps begun.request of.0 (ap (request_at script) same ∙ of.1)
      ∙ stamp-is start at-start.is_account.gatekeepers.once begun there) in
      let here : Contains (begins_in log) (begun.request, begun.stamp) =
      subst (λ (l : List SessionEntry). Contains (begins_in l) (begun.request, begun.stamp)) (ap (session_log start) of.2 ∙ log-is) logged in
      let first : map (λ (b : ℕ × Stamp). b.0) (begins_in log) ≡ take client.session.begun (requests_in client) =
      laws.begun_first session (requests_in client) log right
      ∙ ap (λ (state : SessionState). take state.begun (requests_in client)) (sym by-log.session) in
      let less = front-less (requests_in client) rising n r client.session.begun begun.request at late
      (subst (λ (rs : List ℕ). Contains rs begun.request) first
      (has_map (λ (b : ℕ × Stamp). b.0) (begins_in log) (begun.request, begun.stamp) here)) in
      omega (arith, less, same)

  -- all that the shards' entries refer to was seen, since it had been there at the start
  refers : (shard : ℕ) → ShardRefersWithin (shard_count shared) (seen_by hand) shard
  refers shard before entry after at =
      let long : length (shard_log (start_of shared) shard) ≡ length before + length (entry ∷ after) =
      ap (λ (a : Account). length (shard_log a shard)) (sym seen) ∙ ap length at ∙ length-append before (entry ∷ after) in
      is_hand.seen.shard_entries shard before entry after at (inr (omega (arith, long)))

  untouched : (n r : ℕ) → client.session.begun ≤ n → slice_get (requests_in client) n ≡ Some r → IsFresh hand r
  untouched n r late at = record {
    unbegun = λ home begun h. unbegun n r late at begun
        (all-has start home begun (begun-there laws script start shared clients at-start hand is_hand seen home begun h));
    unread = more.own_unread hand r (more.unread (shard_count shared) (seen_by hand) refers r
        (λ home begun h. unbegun n r late at begun (all-has start home begun (program-begun (gate_log start home) begun
        (subst (λ (a : Account). Contains (programs_of (gate_log a home)) begun)
        (seen-is laws script start shared clients at-start hand is_hand seen) h)))));
  }

  -- the hand may go on with the session, all of whose begun requests have their replies
  pub keeps-ready : KeepsClient shared script session hand client
  keeps-ready = record {
    is_hand = is_hand;
    landed = landed laws script start shared clients at-start hand is_hand seen;
    at_end = record { state = by-log.session; right = right; rising = rising };
    requests = requests-are;
    waits = free ∙ sym (ap is_some none-runs);
    running = λ one is. absurd (none-some one (sym none-runs ∙ is));
    last = may-hear;
    fresh = untouched;
  }
