-- How far a phase brought a session, by how its worker ended.
-- Used by `sessions_run_as_their_workers_end`.
use Rattle.std.proofs.Common.{◌≡◌, ◌≢◌, ◌↔◌, ℕ, ◌-◌, ◌<◌, List, ◌++◌, length, Contains, IsTrue, Some, inl, inr, sym, ap, subst, ◌∙◌}
use Rattle.std.specs.Prelude.{slice_get}
use Rattle.std.proofs.lemmas.List.Elements.{Contains-append_left}
use Rattle.std.proofs.lemmas.Option.{same_Some}
use Rattle.weave_data.specs.Names.{shard_of}
use Rattle.weave_data.specs.declared.name.Name.{Name}
use Rattle.weave_data.proofs.Images.{get-has}
use Rattle.weave_data.proofs.Members.{drop_has, flat_has, has_flat}
use Rattle.graph_ops.specs.Operations.{State}
use Rattle.program_defs.specs.Visits.{next_visit}
use Rattle.program_defs.specs.declared.script.Request.{Request}
use Rattle.program_defs.specs.declared.script.Script.{Script}
use Rattle.path_program.specs.AnyPrograms.{any_of}
use Rattle.report_rules.specs.Lookups.{request_at}
use Rattle.weave_entries.specs.declared.session_log.SessionEntry.{SessionEntry}
use Rattle.weave_entries.specs.declared.gate_log.GateEntry.{GateEntry}
use Rattle.weave_entries.specs.GateReplay.{BegunRequest, begun_by, begun_in, flight_of, program_by, programs_of, tx_by, txs_of}
use Rattle.weave_entries.specs.SessionReplay.{has_reply_in, next_request, replied_in, session_of}
use Rattle.weave_entries.specs.ShardReplay.{first_unready}
use Rattle.weave_account.specs.declared.account.Account.{Account}
use Rattle.weave_account.specs.Account.{gate_log, reads_of, session_log, shard_log}
use Rattle.weave_account.specs.GoesOn.{GoesOn, IsBeginningOf}
use Rattle.weave_account.specs.IsAccount.{IsAccount}
use Rattle.weave_account.specs.Sessions.{requests_of_session}
use Rattle.weave_account.proofs.GoesOn.{has-on}
use Rattle.step_rules.specs.Requests.{has_reply}
use Rattle.seen_logs.specs.Seen.{entries_since}
use Rattle.weaver_core.specs.declared.client.Client.{Client}
use Rattle.weaver_core.specs.declared.walks.Running.{Running}
use Rattle.weaver_core.specs.Sessions.{log_of_client, requests_in}
use Rattle.weaver_core.specs.Staying.{StayLaws}
use Rattle.weaver_locks.specs.declared.hand.Hand.{Hand}
use Rattle.weaver_locks.specs.declared.shared.Shared.{Shared}
use Rattle.weaver_locks.specs.Closing.{seen_by_number}
use Rattle.weaver_locks.specs.Hands.{hand_number, seen_by}
use Rattle.weaver_locks.specs.Locks.{gate_count}
use Rattle.weaver_hands.specs.Programs.{own_reads}
use Rattle.weaver_workers.specs.declared.ended.Ended.{Ended}
use Rattle.weaver_workers.specs.declared.ended.Ended.TheVariants.{Busy, Done, NotYet}
use Rattle.weaver_workers.specs.ClientWork.{FoundGateBusy, FoundUnready, HasReplies, StopsAtUnreadyShard, WorkerEndsAs}
use Rattle.weaver_workers.specs.Keeping.{IsRunningFor, KeepsClient}
use Rattle.workers_account.specs.Phase.{IsClosedBy, IsPhaseRun}
use Rattle.workers_account.specs.PhaseLaws.{PhaseLaws}
use Rattle.workers_account.specs.ReadLaws.{ReadLaws}
use Rattle.workers_account.specs.Ready.{IsAnsweredUpTo}
use Rattle.workers_account.specs.SessionRuns.{HasAllReplies, HasNoRequest, IsLogBetween, StoppedAtBusyGate, StoppedAtUnreadyShard, WasRunForSession}
use Rattle.workers_account.proofs.Begun.{BegunInPart, begun-in-part, gained-log}
use Rattle.workers_account.proofs.BegunTurns.{session-is}
use Rattle.workers_account.proofs.ByLog.{reads-are}
use Rattle.workers_account.proofs.ClosedAccount.{closed-account}
use Rattle.workers_account.proofs.HeardOf.{heard-of}
use Rattle.workers_account.proofs.OneHand.{one-hand}
use Rattle.workers_account.proofs.Own.{since-is}
use Rattle.workers_account.proofs.Parts.{Part, at-hand, gate-entry, part-of, seen-on, seen-start}
use Rattle.workers_account.proofs.SessionEnds.{replied-on, waiting-unreplied}
use Rattle.workers_account.proofs.SessionLogs.{log-at}
use Rattle.workers_account.proofs.SinceStart.{flight-since, part-seen, seen-closed, since-by}
use Rattle.workers_account.proofs.Visited.{begun-author, since-part, visits-seen}

-- a session without requests in a phase has all its replies, as it had at the start
pub idle-ran : (decided : (r : ℕ) (log : List SessionEntry) → IsTrue (has_reply_in r log) ↔ Contains (replied_in log) r)
    → (script : Script) (from upto session : ℕ) (start closed : Account) → HasNoRequest script from upto session
    → IsAnsweredUpTo script from start → GoesOn start closed → WasRunForSession script upto session start closed
idle-ran decided script from upto session start closed none answered on =
    inl (λ r asked at of low.
    let was = session_log start asked.session in
    let is = session_log closed asked.session in
    let before : IsTrue (has_reply_in r was) = answered.replied r asked (none r asked at of low) at in
    (decided r is).1 (replied-on was is (on.sessions asked.session) r ((decided r was).0 before)))

module _ (laws : PhaseLaws) (stay : StayLaws) (reads : ReadLaws) (shared : Shared) (script : Script) (upto : ℕ) (start : Account)
    (was is : List Client) (hands : List Hand) (closed : Account) (run : IsPhaseRun shared script upto start was is hands) (end : IsClosedBy shared script start is hands closed)
    (session : ℕ) (hand : Hand) (left : Client) (h : Contains hands hand) (left-is : slice_get is session ≡ Some left)
    (keeps : KeepsClient shared script session hand left) where
  abbrev part : Part shared script upto was is run.hand_of hand
  part = part-of laws shared script upto start was is hands run hand h

  account : IsAccount script closed
  account = closed-account laws shared script upto start was is hands run closed end

  log-is : session_log closed session ≡ log_of_client left
  log-is = log-at closed is end.sessions session left left-is

  -- what the hand has seen of a gatekeeper's log is that log at some time in the phase
  gate-between : (home : ℕ) → IsLogBetween (gate_log start home) (gate_log closed home) (gate_log (seen_by hand) home)
  gate-between home = record {
    since = seen-on laws shared script upto start was is hands run hand part home;
    until = (end.within hand h).gates home;
  }

  -- so is what it has seen of a shard's log
  shard-between : (shard : ℕ) → IsLogBetween (shard_log start shard) (shard_log closed shard) (shard_log (seen_by hand) shard)
  shard-between shard = record {
    since = subst (λ (a : Account). IsBeginningOf (shard_log a shard) (shard_log (seen_by hand) shard))
        (seen-start laws shared script upto start was is hands run hand part) (part.more.shards shard);
    until = (end.within hand h).shards shard;
  }

  -- The worker was done

  all-replied : HasReplies upto left → HasAllReplies script upto session closed
  all-replied has r asked at of low =
      let among : Contains (requests_in left) r = subst (λ (rs : List ℕ). Contains rs r) (sym keeps.requests)
      (subst (λ (s : ℕ). Contains (requests_of_session script s) r) of (stay.among script r asked at)) in
      subst (λ (log : List SessionEntry). IsTrue (has_reply_in r log)) (sym log-is ∙ ap (session_log closed) (sym of)) (has r among low)

  -- It found its gatekeeper busy

  -- a begin of one of the session's requests in the phase is one of this hand
  of-this-hand : (other : Hand) (o : Contains hands other) (home : ℕ) (begun : BegunRequest)
      → (there : Contains (begun_in ((part-of laws shared script upto start was is hands run other o).gates home)) begun)
      → (begun-in-part laws shared script upto start was is hands run closed end other o home begun there).session ≡ session
      → hand_number other ≡ hand_number hand
  of-this-hand other o home begun there same =
      one-hand laws shared script upto start was is hands run closed end account session hand left h left-is keeps other o home begun there same

  -- the hand has seen all begins of the session's requests
  begins-seen : (home : ℕ) (begun : BegunRequest) (its : Request) → Contains (begun_in (gate_log closed home)) begun
      → request_at script begun.request ≡ Some its → its.session ≡ session → Contains (begun_in (gate_log (seen_by hand) home)) begun
  begins-seen home begun its there at of =
      let begins = λ (e : GateEntry). begun_by e.author e.deed in
      let from = flat_has begins (gate_log closed home) begun there in
      has_flat begins (gate_log (seen_by hand) home) from.0 begun
      (elim (gate-entry laws shared script upto start was is hands run closed end home from.0 from.1) [
        | inl early ↦ has-on (gate_log start home) (gate_log (seen_by hand) home)
            (seen-on laws shared script upto start was is hands run hand part home) from.0 early
        | inr since ↦
            let in-part = has_flat begins ((part-of laws shared script upto start was is hands run since.0 since.1).gates home) from.0 begun since.3 from.2 in
            let one = begun-in-part laws shared script upto start was is hands run closed end since.0 since.1 home begun in-part in
            let same : one.request ≡ its = same_Some one.request its (sym one.request_is ∙ at) in
            let number = of-this-hand since.0 since.1 home begun in-part (sym one.session_is ∙ ap (λ (r : Request). r.session) same ∙ of) in
            let seen : seen_by since.0 ≡ seen_by hand =
            sym (run.by_number since.0 since.1).1 ∙ ap (seen_by_number hands) number ∙ (run.by_number hand h).1 in
            subst (λ (a : Account). Contains (gate_log a home) from.0) seen
            (drop_has (length (gate_log start home)) (gate_log (seen_by since.0) home) from.0
            (part-seen laws shared script upto start was is hands run since.0 since.1 home from.0 since.3))
      ]) from.2

  module _ (gate : ℕ) (found : FoundGateBusy script upto (at-hand hand left) gate) where
    abbrev home : ℕ
    home = found.asked.gate

    abbrev seen : List GateEntry
    seen = gate_log (seen_by hand) home

    in-flight : flight_of seen ≡ Some found.flight
    in-flight = subst (λ (g : ℕ). flight_of (gate_log (seen_by hand) g) ≡ Some found.flight) (sym found.gate_is) found.busy

    -- it was begun since the start
    since-start : Contains (txs_of (entries_since (gate_log start home) seen)) found.flight
    since-start =
        let on = seen-on laws shared script upto start was is hands run hand part home in
        subst (λ (l : List GateEntry). Contains (txs_of l) found.flight)
        (sym (since-is laws shared script upto start was is hands run hand part home))
        (flight-since (gate_log start home) on.0 found.flight (run.at_start.landed home) (sym (ap flight_of on.1) ∙ in-flight))

    from : (entry : GateEntry) × Contains (entries_since (gate_log start home) seen) entry × Contains (tx_by entry.author entry.deed) found.flight
    from = flat_has (λ (e : GateEntry). tx_by e.author e.deed) (entries_since (gate_log start home) seen) found.flight since-start

    begins : Contains (begun_by from.0.author from.0.deed) found.flight
    begins = Contains-append_left (tx_by from.0.author from.0.deed) (program_by from.0.author from.0.deed) found.flight from.2

    -- the hand that began it
    by : (other : Hand) × (o : Contains hands other) × (hand_number other ≡ from.0.author)
        × Contains ((part-of laws shared script upto start was is hands run other o).gates home) from.0
    by = since-by laws shared script upto start was is hands run closed end home from.0
        (seen-closed laws shared script upto start was is hands run closed end hand h home from.0 from.1)

    in-part : Contains (begun_in ((part-of laws shared script upto start was is hands run by.0 by.1).gates home)) found.flight
    in-part = has_flat (λ (e : GateEntry). begun_by e.author e.deed) ((part-of laws shared script upto start was is hands run by.0 by.1).gates home)
        from.0 found.flight by.3 begins

    abbrev its : BegunInPart laws shared script upto start was is hands run closed end found.flight by.0 by.1
    its = begun-in-part laws shared script upto start was is hands run closed end by.0 by.1 home found.flight in-part

    -- it is of another session
    other-session : its.request.session ≢ session
    other-session same =
        found.other (sym (begun-author from.0.author from.0.deed found.flight begins) ∙ sym by.2
        ∙ of-this-hand by.0 by.1 home found.flight in-part (sym its.session_is ∙ same))

    stopped-busy : StoppedAtBusyGate script upto session start closed
    stopped-busy = record {
      r = found.r;
      asked = found.asked;
      request_is = found.next.request_is;
      next = ap (λ (log : List SessionEntry). next_request (session_of (requests_of_session script session) log)) log-is
          ∙ ap (λ (rs : List ℕ). next_request (session_of rs (log_of_client left))) (sym keeps.requests)
          ∙ ap next_request (sym keeps.at_end.state)
          ∙ found.next.turn.next;
      below = found.next.below;
      ops = found.ops;
      work_is = found.work_is;
      log = seen;
      between = gate-between home;
      flight = found.flight;
      busy = in-flight;
      since = since-start;
      other = its.request;
      other_is = its.request_is;
      others = other-session;
      own = λ begun asked there at of. begins-seen home begun asked there at of;
    }

  -- It found a shard that was not ready

  module _ (shard gate : ℕ) (at-shard : StopsAtUnreadyShard shared upto (at-hand hand left) shard gate) where
    abbrev found : FoundUnready shared (at-hand hand left) shard gate
    found = at-shard.found

    abbrev one : Running
    one = found.running

    runs-for : IsRunningFor shared script hand left.session one
    runs-for = keeps.running one found.running_is

    abbrev begun : BegunRequest
    begun = record { author = hand_number hand; request = one.request; stamp = one.stamp }

    -- the hand has begun the program since the start
    began : Contains (programs_of (entries_since (gate_log start one.stamp.home) (gate_log (seen_by hand) one.stamp.home))) begun
    began = subst (λ (a : Account). Contains (programs_of (entries_since (gate_log a one.stamp.home) (gate_log (seen_by hand) one.stamp.home))) begun)
        run.at_start.start_is runs-for.runs.begun

    in-its-part : Contains (begun_in (part.gates one.stamp.home)) begun
    in-its-part = since-part laws shared script upto start was is hands run closed end hand h one.stamp.home one.request one.stamp began

    begun-here : BegunInPart laws shared script upto start was is hands run closed end begun hand h
    begun-here = begun-in-part laws shared script upto start was is hands run closed end hand h one.stamp.home begun in-its-part

    -- it is one of the session's requests
    of-session : (asked : Request) → request_at script one.request ≡ Some asked → asked.session ≡ session
    of-session asked at = session-is script session one.request asked
        (subst (λ (rs : List ℕ). Contains rs one.request) keeps.requests (get-has left.session.requests (left.session.begun - 1) one.request runs-for.turn.last)) at

    -- so it was begun in what the session's log has gained
    same-session : begun-here.session ≡ session
    same-session = sym begun-here.session_is ∙ of-session begun-here.request begun-here.request_is

    unreplied : (asked : Request) → request_at script one.request ≡ Some asked → ¬ IsTrue (has_reply closed one.request asked)
    unreplied asked at replied =
        waiting-unreplied reads session left.session (log_of_client left) keeps.at_end one.request runs-for.turn
        ((laws.has_reply one.request (log_of_client left)).0
        (subst (λ (log : List SessionEntry). IsTrue (has_reply_in one.request log)) (ap (session_log closed) (of-session asked at) ∙ log-is) replied))

    -- what the closed logs say that it read is what the hand's visits read
    same-reads : own_reads hand one.request ≡ reads_of closed one.request
    same-reads = reads-are laws stay shared script upto start was is hands run closed end account begun-here.session hand h begun-here.left
        one.request one.stamp one.stamp.home began

    stopped-unready : StoppedAtUnreadyShard script upto session start closed
    stopped-unready = record {
      r = one.request;
      asked = runs-for.look.request;
      request_is = runs-for.look.request_is;
      session_is = of-session runs-for.look.request runs-for.look.request_is;
      below = at-shard.below;
      program = any_of one.walk;
      work_is = runs-for.look.work_is;
      stamp = one.stamp;
      added = begun-here.left.part.has.followed.in_step.gained.session;
      log_is = subst (λ (t : ℕ). session_log closed t ≡ session_log start t ++ begun-here.left.part.has.followed.in_step.gained.session) same-session
          (gained-log laws shared script upto start was is hands run closed end begun-here.session hand h begun-here.left);
      begun = begun-here.logged;
      unanswered = unreplied runs-for.look.request runs-for.look.request_is;
      author = hand_number hand;
      heard = λ other low elsewhere. heard-of laws shared script upto start was is hands run closed end hand h one began other
          (at-shard.heard other (subst (λ (n : ℕ). other < n) (sym run.at_start.locks.gates) low) elsewhere);
      vertex = found.vertex;
      next_is = ap (λ (read : List (Name × State)). next_visit read (any_of one.walk)) (sym same-reads) ∙ found.in_turn;
      gate = gate;
      log = shard_log (seen_by hand) (shard_of found.vertex script.shards);
      between = shard-between (shard_of found.vertex script.shards);
      visits = visits-seen laws shared script upto start was is hands run closed end hand h one.stamp.home one.request one.stamp in-its-part
          (shard_of found.vertex script.shards);
      unready = subst (λ (n : ℕ). first_unready n one.stamp (shard_log (seen_by hand) (shard_of found.vertex script.shards)) ≡ Some gate) run.at_start.locks.gates
          (subst (λ (s : ℕ). first_unready (gate_count shared) one.stamp (shard_log (seen_by hand) s) ≡ Some gate)
          (found.shard_is ∙ ap (shard_of found.vertex) run.at_start.locks.shards) found.unready);
    }

  -- the phase was run for the session, however its worker ended
  pub ran-as : (ended : Ended) → WorkerEndsAs shared script upto (at-hand hand left) ended → WasRunForSession script upto session start closed
  ran-as Done ends = inl (all-replied ends)
  ran-as (Busy gate) ends = inr (inl (stopped-busy gate ends.found))
  ran-as (NotYet shard gate) ends = inr (inr (stopped-unready shard gate ends))
