-- Workers that are seated are ready for their phase.
-- Used by `run_parts`, Opened, PhaseParts and RanSeats.
use Rattle.std.proofs.Common.{◌≡◌, ℕ, zero, suc, ◌+◌, ◌<◌, ◌==◌, List, [], ◌∷◌, length, Contains, IsTrue, Option, None, Some, inl, inr, refl, sym, ap, subst, ◌∙◌, arith}
use Rattle.std.specs.Prelude.{slice_get}
use Rattle.std.specs.List.{find, range_with_len}
use Rattle.std.specs.Option.{option_map}
use Rattle.std.proofs.lemmas.Bool.{cases_lt, eq-eqb}
use Rattle.std.proofs.lemmas.Option.{none-some, same_Some, slice_get-get_or, slice_get-map, slice_get_within}
use Rattle.std.proofs.lemmas.List.{length-map}
use Rattle.std.proofs.lemmas.List.FromFn.{get_or-range_with_len, length-range_with_len}
use Rattle.weave_data.proofs.Members.{find_lacks, has_map}
use Rattle.vector_stamp.specs.declared.clock.Stamp.{Stamp}
use Rattle.program_defs.specs.declared.script.Script.{Script}
use Rattle.weave_entries.specs.declared.session_log.SessionEntry.{SessionEntry}
use Rattle.weave_entries.specs.SessionReplay.{begins_in, has_reply_in, session_of, session_stamp_of}
use Rattle.weave_account.specs.declared.account.Account.{Account}
use Rattle.weave_account.specs.Account.{session_log}
use Rattle.weave_account.specs.Sessions.{requests_of_session}
use Rattle.weaver_core.specs.declared.client.Client.{Client}
use Rattle.weaver_core.specs.Sessions.{log_of_client, requests_in}
use Rattle.weaver_locks.specs.declared.hand.Hand.{Hand}
use Rattle.weaver_locks.specs.declared.shared.Shared.{Shared}
use Rattle.weaver_workers.specs.declared.worker.Worker.{Worker}
use Rattle.weaver_workers.specs.ClientWork.{HasReplies}
use Rattle.weaver_workers.specs.Keeping.{KeepsClient}
use Rattle.weaver_workers.specs.Phases.{phase_start}
use Rattle.weaver_workers.specs.Workers.{IsIdleHand, IsReadyForPhase, IsReadyClient}
use Rattle.workers_account.specs.Phase.{IsPhaseStart}
use Rattle.workers_account.proofs.Begun.{stamp-began}
use Rattle.workers_account.proofs.SessionLogs.{in-session, log-at}
use Rattle.weave_phase.specs.declared.seats.Seat.{Seat}
use Rattle.weave_phase.specs.Ran.{AreSeated, IsHandAtStart}
use Rattle.weave_phase.specs.Seats.{IsClientsSeat}
use Rattle.weave_phase.specs.StartLaws.{StartLaws}
use Rattle.step_rules.proofs.VisitLogs.{in-take}

-- a request that began in a log has a stamp there
some-stamp : (log : List SessionEntry) (r : ℕ) (stamp : Stamp) → Contains (begins_in log) (r, stamp) → (found : Stamp) × (session_stamp_of r log ≡ Some found)
some-stamp log r stamp h = by (find (λ (begun : ℕ × Stamp). begun.0 == r) (begins_in log)) refl
  where
    by : (o : Option (ℕ × Stamp)) → find (λ (begun : ℕ × Stamp). begun.0 == r) (begins_in log) ≡ o → (found : Stamp) × (session_stamp_of r log ≡ Some found)
    by None at = absurd (find_lacks (λ (begun : ℕ × Stamp). begun.0 == r) (begins_in log) (r, stamp) at h (eq-eqb r r refl))
    by (Some begun) at = (begun.1, ap (option_map (λ (begun : ℕ × Stamp). begun.1)) at)

-- a row has something at each place within
pub none-within : {A : Type 0} (xs : List A) (k : ℕ) → k < length xs → slice_get xs k ≡ None → ⊥
none-within [] k low none = absurd (omega (arith, low))
none-within (x ∷ xs) zero low none = none-some x (sym none)
none-within (x ∷ xs) (suc k) low none = none-within xs k (omega (arith, low)) none

-- the same, with the element that is there
pub something-at : {A : Type 0} (xs : List A) (k : ℕ) → k < length xs → (x : A) × (slice_get xs k ≡ Some x)
something-at {A} xs k low = by (slice_get xs k) refl
  where
    by : (o : Option A) → slice_get xs k ≡ o → (x : A) × (slice_get xs k ≡ Some x)
    by (Some x) is = (x, is)
    by None is = absurd (none-within xs k low is)

module _ (laws : StartLaws) (shared : Shared) (script : Script) (phase : ℕ) (start : Account) (clients : List Client) (sessions : List ℕ) (hands : List Hand) (seats : List Seat)
    (seated : AreSeated shared script phase start clients sessions hands seats) where
  abbrev at_start : IsPhaseStart script start shared clients
  at_start = seated.at_start

  module _ (session : ℕ) (client : Client) (at : slice_get clients session ≡ Some client) where
    abbrev log-is : session_log start session ≡ log_of_client client
    log-is = log-at start clients at_start.logs session client at

    -- the client's requests are those of the session
    requests-are : requests_in client ≡ requests_of_session script session
    requests-are =
        let many : session < length clients = slice_get_within clients session client at in
        let all : length clients ≡ 64 = sym (length-map clients requests_in) ∙ ap length at_start.requests
        ∙ length-map (range_with_len 0 64) (requests_of_session script) ∙ length-range_with_len 0 64 in
        let low : session < 64 = omega (arith, many, all) in
        let plain : 0 + session ≡ session = omega arith in
        let in-range : slice_get (range_with_len 0 64) session ≡ Some session =
        slice_get-get_or (range_with_len 0 64) session 0 (let long = length-range_with_len 0 64 in omega (arith, low, long))
        ∙ ap Some (get_or-range_with_len 0 64 session 0 low) ∙ ap Some plain in
        same_Some (requests_in client) (requests_of_session script session)
        (ap (option_map requests_in) (sym at) ∙ sym (slice_get-map requests_in clients session)
        ∙ ap (λ (rs : List (List ℕ)). slice_get rs session) at_start.requests
        ∙ slice_get-map (requests_of_session script) (range_with_len 0 64) session ∙ ap (option_map (requests_of_session script)) in-range)

    -- each request that it began has its reply
    begun-replied : (r : ℕ) (stamp : Stamp) → Contains (begins_in (log_of_client client)) (r, stamp) → IsTrue (has_reply_in r (log_of_client client))
    begun-replied r stamp h =
        let log = session_log start session in
        let here = subst (λ (l : List SessionEntry). Contains (begins_in l) (r, stamp)) (sym log-is) h in
        let requests = requests_of_session script session in
        let clause = at_start.is_account.sessions in
        let among = subst (λ (rs : List ℕ). Contains rs r) (laws.begun_first session requests log (clause.logs session))
        (has_map (λ (begun : ℕ × Stamp). begun.0) (begins_in log) (r, stamp) here) in
        let of = in-session script session r (in-take (session_of requests log).begun requests r among) in
        let found = some-stamp log r stamp here in
        let began = stamp-began start r found.0 (sym (clause.stamps r of.0 of.1) ∙ ap (λ (s : ℕ). session_stamp_of r (session_log start s)) of.2 ∙ found.1) in
        let low = subst (λ (q : ℕ). q < phase_start script phase) began.2 (seated.answered.unbegun began.0 began.1) in
        subst (λ (l : List SessionEntry). IsTrue (has_reply_in r l)) (ap (session_log start) of.2 ∙ log-is) (seated.answered.replied r of.0 low of.1)

    -- and so has each of earlier phases
    earlier-replied : HasReplies (phase_start script phase) client
    earlier-replied r among low =
        let of = in-session script session r (subst (λ (rs : List ℕ). Contains rs r) requests-are among) in
        subst (λ (l : List SessionEntry). IsTrue (has_reply_in r l)) (ap (session_log start) of.2 ∙ log-is) (seated.answered.replied r of.0 low of.1)

  -- a new hand may go on with a session
  pub client-keeps : (k : ℕ) (hand : Hand) → IsHandAtStart shared k hand → (session : ℕ) (client : Client) → slice_get clients session ≡ Some client
      → KeepsClient shared script session hand client
  client-keeps k hand new session client at =
      laws.ready script start shared clients hand session client at_start new.is_hand new.seen at (begun-replied session client at)

  ready-client : (k : ℕ) (hand : Hand) → IsHandAtStart shared k hand → (worker : Worker) → IsClientsSeat sessions clients k hand worker → IsReadyForPhase shared script phase worker
  ready-client k hand new worker seat =
      subst (IsReadyForPhase shared script phase) (sym seat.worker_is)
      (let ready : IsReadyClient shared script phase hand seat.client = record {
        number = seat.session;
        keeps = client-keeps k hand new seat.session seat.client seat.client_is;
        earlier = earlier-replied seat.session seat.client seat.client_is;
      } in ready)

  -- each worker that is seated is ready for its part of the phase
  pub ready-seat : (k : ℕ) (seat : Seat) → slice_get seats k ≡ Some seat → IsReadyForPhase shared script phase seat.worker
  ready-seat k seat at =
      let dealt = seated.dealt in
      let within = slice_get_within seats k seat at in
      let many = dealt.many in
      let hand = something-at hands k (omega (arith, within, many)) in
      let new = seated.new k hand.0 hand.1 in
      let of = dealt.each k hand.0 seat hand.1 at in
      let idle : IsIdleHand shared hand.0 = record { is_hand = new.is_hand; landed = laws.idle script start shared clients hand.0 at_start new.is_hand new.seen } in
      elim (cases_lt k (length sessions)) [
        | inl low ↦ ready-client k hand.0 new seat.worker (of.session low)
        | inr high ↦ elim (cases_lt k (length sessions + script.gates)) [
          | inl middle ↦ subst (IsReadyForPhase shared script phase) (sym (of.gate high middle)) (idle, omega (arith, high, middle))
          | inr last ↦ subst (IsReadyForPhase shared script phase) (sym (of.shard last))
              (idle, (let all = seated.many in omega (arith, last, within, many, all)))
        ]
      ]
