-- What the sessions hand in by their own logs is what the gatekeeper's log leaves unsent and unfinished.
-- Used by `restart`.
use Rattle.std.proofs.Common.{◌≡◌, ◌≢◌, ℕ, suc, ◌+◌, ◌<◌, Bool, true, false, not, ◌&&◌, ◌||◌, ◌==◌, List, [], ◌∷◌, length, Contains, AllPairs, IsTrue, Option, None, Some, refl, sym, ap, subst, ◌∙◌, arith}
use Rattle.std.specs.Prelude.{slice_get, if◌then◌else◌}
use Rattle.std.specs.List.{cons_option, filter_map, list_any}
use Rattle.std.specs.Option.{option_and_then, option_map}
use Rattle.std.proofs.lemmas.Bool.{and_parts, eq-eqb, eqb-true, not-true}
use Rattle.std.proofs.lemmas.List.Elements.{Contains-get_or}
use Rattle.std.proofs.lemmas.List.Folds.{list_any-append}
use Rattle.std.proofs.lemmas.List.Sums.{fold-append}
use Rattle.std.proofs.lemmas.Option.{get_or_from_slice_get, none-some, same_Some}
use Rattle.weave_data.proofs.Ends.{by_last}
use Rattle.weave_data.proofs.Members.{filter_map_has, has_filter_map, has_head, has_none}
use Rattle.weave_data.proofs.Ordered.{pairs_cons, pairs_none}
use Rattle.vector_stamp.specs.declared.clock.Stamp.{Stamp}
use Rattle.program_defs.specs.Limits.{IsWithinLimits}
use Rattle.program_defs.specs.Works.{is_change, is_look}
use Rattle.program_defs.specs.declared.script.Request.{Request}
use Rattle.program_defs.specs.declared.script.Script.{Script}
use Rattle.report_rules.specs.Lookups.{is_some_and, request_at}
use Rattle.weave_entries.specs.declared.gate_log.GateEntry.{GateEntry}
use Rattle.weave_entries.specs.declared.gate_log.GateDeed.{GateDeed}
use Rattle.weave_entries.specs.declared.gate_log.GateDeed.TheVariants.{BeganTx, BeganProgram, Sent, Nop, Heard, Raised, Finished}
use Rattle.weave_entries.specs.declared.session_log.SessionEntry.{SessionEntry}
use Rattle.weave_entries.specs.GateReplay.{BegunRequest, ended_by, ended_in, flight_of, has_ended_in, running_of}
use Rattle.weave_entries.specs.SessionReplay.{has_begun_in, has_reply_in, session_stamp_of}
use Rattle.weave_entries.proofs.Replay.{ended-push}
use Rattle.weave_account.specs.declared.account.Account.{Account}
use Rattle.weave_account.specs.Account.{gate_log, session_log, stamp_of}
use Rattle.weave_account.specs.IsAccount.{IsAccount}
use Rattle.weave_account.specs.OpenRequests.{IsOpenAt}
use Rattle.weave_account.specs.Sessions.{requests_of_session}
use Rattle.gatekeeper.specs.Stopping.{AreLeftOpen, as_open, begun_number}
use Rattle.gatekeeper.specs.declared.stopping.Open.{Open}
use Rattle.step_rules.proofs.SessionTurns.{at-place}
use Rattle.weaver_core.specs.Restarting.{ends_request, is_change_at, is_look_at, open_change, open_flight, open_program, open_programs, program_handed_in, unsent_of, was_ended}
use Rattle.weaver_core.specs.Sessions.{is_open_in}
use Rattle.weaver_core.specs.Splitting.{waiting_in}
use Rattle.weaver_core.specs.Staying.{StayLaws}
use Rattle.weaver_core.proofs.Turns.{place-of}
use Rattle.weaver_core.proofs.ValuesStay.{in-session}
use Rattle.weaver_core.proofs.Waiting.{open-waits, session-laws, stamp-waits, waits-open}

-- the law of weave_account on what is open (`sessions_have_what_is_open`)
pub record OpenLaws : Type 0 where
  pub programs : (script : Script) (account : Account) → IsWithinLimits script → IsAccount script account → (home : ℕ) (begun : BegunRequest) → Contains (running_of (gate_log account home)) begun → IsOpenAt script account home is_look begun
  pub no_other_programs : (script : Script) (account : Account) → IsWithinLimits script → IsAccount script account → (r : ℕ) (request : Request) → request_at script r ≡ Some request → IsTrue (is_look request.work) → IsTrue (has_begun_in r (session_log account request.session))
      → has_reply_in r (session_log account request.session) ≡ false → (begun : BegunRequest) × Contains (running_of (gate_log account request.gate)) begun × (begun.request ≡ r) × (stamp_of account r ≡ Some begun.stamp)
  pub flight : (script : Script) (account : Account) → IsWithinLimits script → IsAccount script account → (home : ℕ) (begun : BegunRequest) → flight_of (gate_log account home) ≡ Some begun → IsOpenAt script account home is_change begun
  pub no_other_flight : (script : Script) (account : Account) → IsWithinLimits script → IsAccount script account → (r : ℕ) (request : Request) → request_at script r ≡ Some request → IsTrue (is_change request.work) → IsTrue (has_begun_in r (session_log account request.session))
      → has_ended_in r (gate_log account request.gate) ≡ false → (begun : BegunRequest) × (flight_of (gate_log account request.gate) ≡ Some begun) × (begun.request ≡ r)

-- The end of a request

-- whether a request was ended, after one more entry
abbrev ended-after : ℕ → Bool → GateEntry → Bool
ended-after r ended entry = if ends_request r entry.deed then true else ended

either : (b ends : Bool) → (if ends then true else b) ≡ (b || (ends || false))
either true true = refl
either true false = refl
either false true = refl
either false false = refl

neither : (b : Bool) → b ≡ (b || false)
neither true = refl
neither false = refl

by-deed : (r : ℕ) (deed : GateDeed) (b : Bool) → (if ends_request r deed then true else b) ≡ (b || list_any (λ ended. ended == r) (ended_by deed))
by-deed r (BeganTx q stamp) b = neither b
by-deed r (BeganProgram q stamp) b = neither b
by-deed r (Sent q messages) b = either b (q == r)
by-deed r (Nop shard number stamp low) b = neither b
by-deed r (Heard clock) b = neither b
by-deed r (Raised epoch) b = neither b
by-deed r (Finished q) b = either b (q == r)

-- whether a request was ended, looked up from the end, is whether it is among those that were
pub ended-is : (r : ℕ) (log : List GateEntry) → was_ended r log ≡ has_ended_in r log
ended-is r =
    by_last (λ log. was_ended r log ≡ has_ended_in r log) refl
    (λ log entry so_far.
    fold-append (ended-after r) false log (entry ∷ [])
    ∙ by-deed r entry.deed (was_ended r log)
    ∙ ap (λ b. b || list_any (λ ended. ended == r) (ended_by entry.deed)) so_far
    ∙ sym (list_any-append (λ ended. ended == r) (ended_in log) (ended_by entry.deed))
    ∙ sym (ap (list_any (λ ended. ended == r)) (ended-push log entry)))

-- Choosing

-- what is made of what waits, if it passes
picked : {A : Type 0} (test : ℕ × Stamp → Bool) (make : ℕ × Stamp → A) (o : Option (ℕ × Stamp)) (y : A) → option_and_then (λ w. if test w then Some (make w) else None) o ≡ Some y
    → (w : ℕ × Stamp) × (o ≡ Some w) × (test w ≡ true) × (make w ≡ y)
picked test make None y e = absurd (none-some y e)
picked test make (Some w) y e = by (test w) refl e
  where
    by : (b : Bool) → test w ≡ b → (if b then Some (make w) else None) ≡ Some y → (v : ℕ × Stamp) × (Some w ≡ Some v) × (test v ≡ true) × (make v ≡ y)
    by true passes h = (w, refl, passes, same_Some (make w) y h)
    by false fails h = absurd (none-some y h)

-- a request that passes is there
there-and : (test : Request → Bool) (o : Option Request) → is_some_and test o ≡ true → (request : Request) × (o ≡ Some request) × (test request ≡ true)
there-and test None e = absurd (let f : false ≡ true = e in cc)
there-and test (Some request) e = (request, refl, e)

module _ (stay : StayLaws) (laws : OpenLaws) (script : Script) (account : Account) (limits : IsWithinLimits script) (is : IsAccount script account) (many : length account.sessions ≡ 64) (g : ℕ) where
  abbrev entries : List GateEntry
  entries = gate_log account g

  -- Sessions

  -- what waits in a session is a request of the session that has begun with this stamp and has no reply
  record WaitsIn (s r : ℕ) (stamp : Stamp) : Type 0 where
    request : Request
    request_is : request_at script r ≡ Some request
    session_is : request.session ≡ s
    begun : IsTrue (has_begun_in r (session_log account request.session))
    unreplied : has_reply_in r (session_log account request.session) ≡ false
    stamped : stamp_of account r ≡ Some stamp

  waits-in : (s r : ℕ) (stamp : Stamp) → waiting_in (session_log account s) ≡ Some (r, stamp) → WaitsIn s r stamp
  waits-in s r stamp waits =
      let requests = requests_of_session script s in
      let log = session_log account s in
      let both = waits-open (session-laws stay) s requests log (is.sessions.logs s) (stay.rise script s) r stamp waits in
      let its = in-session script s r (at-place requests _ r both.1) in
      let parts = and_parts (has_begun_in r log) (not (has_reply_in r log)) both.0 in
      let same : log ≡ session_log account (its.0).session = ap (session_log account) (sym its.2) in
      record {
        request = its.0;
        request_is = its.1;
        session_is = its.2;
        begun = subst (λ l. IsTrue (has_begun_in r l)) same parts.0;
        unreplied = subst (λ l. has_reply_in r l ≡ false) same (not-true (has_reply_in r log) parts.1);
        stamped = sym (is.sessions.stamps r its.0 its.1) ∙ ap (session_stamp_of r) (sym same) ∙ stamp-waits (session-laws stay) s requests log (is.sessions.logs s) (stay.rise script s) r stamp waits;
      }

  -- a request that has begun and has no reply waits in its session, with its stamp
  waits-with : (r : ℕ) (request : Request) (stamp : Stamp) → request_at script r ≡ Some request → IsTrue (has_begun_in r (session_log account request.session)) → has_reply_in r (session_log account request.session) ≡ false → stamp_of account r ≡ Some stamp
      → waiting_in (session_log account request.session) ≡ Some (r, stamp)
  waits-with r request stamp at begun unreplied stamped =
      let s = request.session in
      let requests = requests_of_session script s in
      let log = session_log account s in
      let place = place-of requests r (stay.among script r request at) in
      let is-open : is_open_in r log ≡ true = ap (λ b. b && not (has_reply_in r log)) begun ∙ ap not unreplied in
      let one = open-waits (session-laws stay) s requests log (is.sessions.logs s) (stay.rise script s) place.0 r place.1 is-open in
      let logged = stamp-waits (session-laws stay) s requests log (is.sessions.logs s) (stay.rise script s) r one.0 one.1 in
      one.1 ∙ ap (λ (t : Stamp). Some (r, t)) (same_Some one.0 stamp (sym logged ∙ is.sessions.stamps r request at ∙ stamped))

  -- a session of the script's requests has its log among all
  log-there : (r : ℕ) (request : Request) → request_at script r ≡ Some request → Contains account.sessions (session_log account request.session)
  log-there r request at = let below = limits.sessions r request at in Contains-get_or account.sessions request.session [] (omega (arith, below, many))

  -- a member of the sessions' logs is that of some session
  session-of : (log : List SessionEntry) → Contains account.sessions log → (s : ℕ) × (session_log account s ≡ log)
  session-of log has = let place = place-of account.sessions log has in (place.0, get_or_from_slice_get account.sessions place.0 log [] place.1)

  -- The programs

  -- what a session hands in is a program of this gatekeeper, and waits there
  record IsFoundIn (log : List SessionEntry) (one : Open) : Type 0 where
    request : Request
    request_is : request_at script one.request ≡ Some request
    gate_is : request.gate ≡ g
    looks : IsTrue (is_look request.work)
    waits : waiting_in log ≡ Some (one.request, one.stamp)

  found-in : (log : List SessionEntry) (one : Open) → open_program script.requests g log ≡ Some one → IsFoundIn log one
  found-in log one is-it =
      let pick = picked {A = Open} (λ w. is_some_and (is_look_at g) (request_at script w.0)) (λ w. record { request = w.0; stamp = w.1 }) (waiting_in log) one is-it in
      let asked = there-and (is_look_at g) (request_at script (pick.0).0) pick.2 in
      let parts = and_parts ((asked.0).gate == g) (is_look (asked.0).work) asked.2 in
      record {
        request = asked.0;
        request_is = ap (λ (o : Open). request_at script o.request) (sym pick.3) ∙ asked.1;
        gate_is = eqb-true (asked.0).gate g parts.0;
        looks = parts.1;
        waits = pick.1 ∙ ap (λ (o : Open). Some (o.request, o.stamp)) pick.3;
      }

  -- a program of this gatekeeper that waits is handed in
  handed-in : (log : List SessionEntry) (r : ℕ) (stamp : Stamp) (request : Request) → waiting_in log ≡ Some (r, stamp) → request_at script r ≡ Some request → request.gate ≡ g → IsTrue (is_look request.work)
      → open_program script.requests g log ≡ Some (record { request = r; stamp = stamp })
  handed-in log r stamp request waits at home looks =
      let one : Open = record { request = r; stamp = stamp } in
      ap (option_and_then (program_handed_in script.requests g)) waits
      ∙ ap (λ (o : Option Request). if is_some_and (is_look_at g) o then Some one else None) at
      ∙ ap (λ (b : Bool). if b && is_look request.work then Some one else None) (eq-eqb request.gate g home)
      ∙ ap (λ (b : Bool). if b then Some one else None) looks

  abbrev given : List Open
  given = open_programs script.requests g account.sessions

  all-given : (b : BegunRequest) → Contains (running_of entries) b → Contains given (as_open b)
  all-given b runs =
      let it = laws.programs script account limits is g b runs in
      let log = session_log account it.request.session in
      let waits = waits-with b.request it.request b.stamp it.request_is it.has_begun it.no_reply it.stamp_is in
      has_filter_map (open_program script.requests g) account.sessions log (as_open b) (log-there b.request it.request it.request_is) (handed-in log b.request b.stamp it.request waits it.request_is it.gate_is it.kind_is)

  no-others : (one : Open) → Contains given one → (b : BegunRequest) × Contains (running_of entries) b × (as_open b ≡ one)
  no-others one has =
      let from = filter_map_has (open_program script.requests g) account.sessions one has in
      let of = session-of from.0 from.1 in
      let found = found-in from.0 one from.2 in
      let waits = waits-in of.0 one.request one.stamp (ap waiting_in of.1 ∙ found.waits) in
      let asked : found.request ≡ waits.request = same_Some found.request waits.request (sym found.request_is ∙ waits.request_is) in
      let home : waits.request.gate ≡ g = ap (λ (q : Request). q.gate) (sym asked) ∙ found.gate_is in
      let b = laws.no_other_programs script account limits is one.request waits.request waits.request_is (subst (λ (q : Request). IsTrue (is_look q.work)) asked found.looks) waits.begun waits.unreplied in
      let stamp : (b.0).stamp ≡ one.stamp = same_Some (b.0).stamp one.stamp (sym b.3 ∙ waits.stamped) in
      (b.0, subst (λ n. Contains (running_of (gate_log account n)) b.0) home b.1, λ i. record { request = b.2 i; stamp = stamp i })

  -- these are the logs of the sessions from this number on
  abbrev AreFrom : ℕ → List (List SessionEntry) → Type 0
  AreFrom first logs = (i : ℕ) (log : List SessionEntry) → slice_get logs i ≡ Some log → (s : ℕ) × (s ≡ first + i) × (session_log account s ≡ log)

  -- what is handed in from a session's log is of that session
  own-session : (s : ℕ) (log : List SessionEntry) → session_log account s ≡ log → (one : Open) → open_program script.requests g log ≡ Some one → (request : Request) × (request_at script one.request ≡ Some request) × (request.session ≡ s)
  own-session s log at one is-it = let waits = waits-in s one.request one.stamp (ap waiting_in at ∙ (found-in log one is-it).waits) in (waits.request, waits.request_is, waits.session_is)

  differ : (s t : ℕ) → s < t → (log other : List SessionEntry) → session_log account s ≡ log → session_log account t ≡ other → (one two : Open) → open_program script.requests g log ≡ Some one → open_program script.requests g other ≡ Some two → one.request ≢ two.request
  differ s t less log other at_log at_other one two is-one is-two same =
      let a = own-session s log at_log one is-one in
      let b = own-session t other at_other two is-two in
      let asked : a.0 ≡ b.0 = same_Some a.0 b.0 (sym a.1 ∙ ap (request_at script) same ∙ b.1) in
      let session : s ≡ t = sym a.2 ∙ ap (λ (q : Request). q.session) asked ∙ b.2 in
      absurd (omega (arith, less, session))

  -- one more session's log in front
  once-more : (first : ℕ) (log : List SessionEntry) (logs : List (List SessionEntry)) → AreFrom first (log ∷ logs) → AllPairs (λ (a b : Open). a.request ≢ b.request) (open_programs script.requests g logs)
      → AllPairs (λ (a b : Open). a.request ≢ b.request) (open_programs script.requests g (log ∷ logs))
  once-more first log logs are rest = by (open_program script.requests g log) refl
    where
      each : (one : Open) → open_program script.requests g log ≡ Some one → (two : Open) → Contains (open_programs script.requests g logs) two → one.request ≢ two.request
      each one is-one two has =
          let from = filter_map_has (open_program script.requests g) logs two has in
          let place = place-of logs from.0 from.1 in
          let here = are 0 log refl in
          let later = are (suc place.0) from.0 place.1 in
          let a = here.1 in
          let b = later.1 in
          differ here.0 later.0 (omega (arith, a, b)) log from.0 here.2 later.2 one two is-one from.2

      by : (o : Option Open) → open_program script.requests g log ≡ o → AllPairs (λ (a b : Open). a.request ≢ b.request) (open_programs script.requests g (log ∷ logs))
      by None none = subst (AllPairs (λ (a b : Open). a.request ≢ b.request)) (sym (ap (λ (o : Option Open). cons_option o (open_programs script.requests g logs)) none)) rest
      by (Some one) some =
          subst (AllPairs (λ (a b : Open). a.request ≢ b.request)) (sym (ap (λ (o : Option Open). cons_option o (open_programs script.requests g logs)) some))
          (pairs_cons (λ (a b : Open). a.request ≢ b.request) one (open_programs script.requests g logs) (each one some) rest)

  once-from : (first : ℕ) (logs : List (List SessionEntry)) → AreFrom first logs → AllPairs (λ (a b : Open). a.request ≢ b.request) (open_programs script.requests g logs)
  once-from first [] are = pairs_none (λ (a b : Open). a.request ≢ b.request)
  once-from first (log ∷ logs) are =
      once-more first log logs are (once-from (suc first) logs (λ i l at. let it = are (suc i) l at in let number = it.1 in (it.0, omega (arith, number), it.2)))

  -- no program is handed in twice
  given-once : AllPairs (λ (a b : Open). a.request ≢ b.request) given
  given-once = once-from 0 account.sessions (λ i log at. (i, omega arith, get_or_from_slice_get account.sessions i log [] at))

  -- The flight

  -- the request that a session hands in is a transaction of this gatekeeper that was not sent, and waits there
  record IsUnsentIn (log : List SessionEntry) (r : ℕ) : Type 0 where
    request : Request
    request_is : request_at script r ≡ Some request
    gate_is : request.gate ≡ g
    changes : IsTrue (is_change request.work)
    unsent : was_ended r entries ≡ false
    stamp : Stamp
    waits : waiting_in log ≡ Some (r, stamp)

  unsent-in : (log : List SessionEntry) (r : ℕ) → open_change script.requests g entries log ≡ Some r → IsUnsentIn log r
  unsent-in log r is-it =
      let pick = picked {A = ℕ} (λ w. is_some_and (is_change_at g) (request_at script w.0) && not (was_ended w.0 entries)) (λ w. w.0) (waiting_in log) r is-it in
      let both = and_parts (is_some_and (is_change_at g) (request_at script (pick.0).0)) (not (was_ended (pick.0).0 entries)) pick.2 in
      let asked = there-and (is_change_at g) (request_at script (pick.0).0) both.0 in
      let parts = and_parts ((asked.0).gate == g) (is_change (asked.0).work) asked.2 in
      record {
        request = asked.0;
        request_is = ap (request_at script) (sym pick.3) ∙ asked.1;
        gate_is = eqb-true (asked.0).gate g parts.0;
        changes = parts.1;
        unsent = ap (λ q. was_ended q entries) (sym pick.3) ∙ not-true (was_ended (pick.0).0 entries) both.1;
        stamp = (pick.0).1;
        waits = pick.1 ∙ ap (λ q. Some (q, (pick.0).1)) pick.3;
      }

  -- a transaction of this gatekeeper that waits and was not sent is handed in
  unsent-handed : (log : List SessionEntry) (r : ℕ) (stamp : Stamp) (request : Request) → waiting_in log ≡ Some (r, stamp) → request_at script r ≡ Some request → request.gate ≡ g → IsTrue (is_change request.work) → was_ended r entries ≡ false
      → open_change script.requests g entries log ≡ Some r
  unsent-handed log r stamp request waits at home changes unsent =
      ap (option_and_then (λ (w : ℕ × Stamp). unsent_of script.requests g entries w.0)) waits
      ∙ ap (λ (o : Option Request). if is_some_and (is_change_at g) o && not (was_ended r entries) then Some r else None) at
      ∙ ap (λ (b : Bool). if (b && is_change request.work) && not (was_ended r entries) then Some r else None) (eq-eqb request.gate g home)
      ∙ ap (λ (b : Bool). if b && not (was_ended r entries) then Some r else None) changes
      ∙ ap (λ (b : Bool). if not b then Some r else None) unsent

  -- what is handed in flies
  handed-flies : (r : ℕ) → Contains (filter_map (open_change script.requests g entries) account.sessions) r → (b : BegunRequest) × (flight_of entries ≡ Some b) × (b.request ≡ r)
  handed-flies r has =
      let from = filter_map_has (open_change script.requests g entries) account.sessions r has in
      let of = session-of from.0 from.1 in
      let found = unsent-in from.0 r from.2 in
      let waits = waits-in of.0 r found.stamp (ap waiting_in of.1 ∙ found.waits) in
      let asked : found.request ≡ waits.request = same_Some found.request waits.request (sym found.request_is ∙ waits.request_is) in
      let home : waits.request.gate ≡ g = ap (λ (q : Request). q.gate) (sym asked) ∙ found.gate_is in
      let unsent : has_ended_in r (gate_log account waits.request.gate) ≡ false = ap (λ n. has_ended_in r (gate_log account n)) home ∙ sym (ended-is r entries) ∙ found.unsent in
      let b = laws.no_other_flight script account limits is r waits.request waits.request_is (subst (λ (q : Request). IsTrue (is_change q.work)) asked found.changes) waits.begun unsent in
      (b.0, ap (λ n. flight_of (gate_log account n)) (sym home) ∙ b.1, b.2)

  -- what flies is handed in
  flight-handed : (b : BegunRequest) → flight_of entries ≡ Some b → Contains (filter_map (open_change script.requests g entries) account.sessions) b.request
  flight-handed b flies =
      let it = laws.flight script account limits is g b flies in
      let log = session_log account it.request.session in
      let waits = waits-with b.request it.request b.stamp it.request_is it.has_begun it.no_reply it.stamp_is in
      has_filter_map (open_change script.requests g entries) account.sessions log b.request (log-there b.request it.request it.request_is)
      (unsent-handed log b.request b.stamp it.request waits it.request_is it.gate_is it.kind_is (ended-is b.request entries ∙ it.not_ended))

  flight-first : (o : Option BegunRequest) → flight_of entries ≡ o → (rs : List ℕ) → ((r : ℕ) → Contains rs r → (b : BegunRequest) × (flight_of entries ≡ Some b) × (b.request ≡ r))
      → ((b : BegunRequest) → flight_of entries ≡ Some b → Contains rs b.request) → slice_get rs 0 ≡ option_map begun_number o
  flight-first None at [] flies handed = refl
  flight-first None at (r ∷ rs) flies handed = let b = flies r (has_head r rs) in absurd (none-some b.0 (sym at ∙ b.1))
  flight-first (Some b) at [] flies handed = absurd (has_none b.request (handed b at))
  flight-first (Some b) at (r ∷ rs) flies handed =
      let one = flies r (has_head r rs) in
      ap Some (sym one.2 ∙ ap begun_number (same_Some one.0 b (sym one.1 ∙ at)))

  -- what the sessions hand in is what the gatekeeper's log leaves
  pub handed-is-left : AreLeftOpen (open_flight script.requests g entries account.sessions) given entries
  handed-is-left = record {
    flight_is = flight-first (flight_of entries) refl (filter_map (open_change script.requests g entries) account.sessions) handed-flies flight-handed;
    running_are = record { all = all-given; no_others = no-others; once = given-once };
  }
