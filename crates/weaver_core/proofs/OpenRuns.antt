-- A program that has begun and has no reply is the one that is running in its session.
-- Used by AfterSteps, FinishDone, StepValues and VisitWith.
use Rattle.std.proofs.Common.{◌≡◌, ℕ, ◌<◌, Bool, true, false, List, Option, None, Some, inl, inr, refl, sym, ap, subst, ◌∙◌}
use Rattle.std.specs.Prelude.{not, slice_get, if◌then◌else◌}
use Rattle.std.specs.Option.{option_and_then, option_map}
use Rattle.std.proofs.lemmas.Bool.{and_parts, both_ways, cases_Bool, not-true}
use Rattle.std.proofs.lemmas.Option.{none-some, same_Some}
use Rattle.vector_stamp.specs.declared.clock.Stamp.{Stamp}
use Rattle.program_defs.specs.Limits.{IsWithinLimits}
use Rattle.program_defs.specs.Works.{is_look}
use Rattle.program_defs.specs.declared.program.Program.{Program}
use Rattle.program_defs.specs.declared.script.Request.{Request}
use Rattle.program_defs.specs.declared.script.Script.{Script}
use Rattle.program_defs.specs.declared.script.Work.TheVariants.{Look}
use Rattle.report_rules.specs.Lookups.{is_some_and, request_at}
use Rattle.weave_entries.specs.declared.session_log.SessionEntry.{SessionEntry}
use Rattle.weave_entries.specs.SessionReplay.{has_begun_in, has_reply_in}
use Rattle.weave_account.specs.declared.account.Account.{Account}
use Rattle.weave_account.specs.Account.{is_ended, reads_of, session_log, stamp_of}
use Rattle.weave_account.specs.IsAccount.{IsAccount}
use Rattle.weave_account.specs.Sessions.{requests_of_session}
use Rattle.weaver_core.specs.Sessions.{SessionValues, is_open_in, values_at}
use Rattle.weaver_core.specs.Splitting.{AreAllByLog, IsRunningByLog, program_waiting, waiting_in}
use Rattle.weaver_core.specs.Staying.{StayLaws}
use Rattle.weaver_core.specs.Walks.{HasReadAll, IsRunningIn}
use Rattle.weaver_core.specs.declared.walks.Running.{Running}
use Rattle.weaver_core.proofs.ProgramStamped.{begun-at}
use Rattle.weaver_core.proofs.Turns.{place-of}
use Rattle.weaver_core.proofs.ValuesStay.{IsProgram, if-program, program-waits}
use Rattle.weaver_core.proofs.Waiting.{open-waits, session-laws, stamp-waits, waits-open}

-- what a session runs is what waits there
pub record RunsInSession (script : Script) (account : Account) (values : SessionValues) (r : ℕ) : Type 0 where
  pub running : Running
  pub running_is : values.running ≡ Some running
  pub runs : IsRunningIn script account r running

-- the request of a running program, and its stamp
abbrev pub begun-as : Running → ℕ × Stamp
begun-as one = (one.request, one.stamp)

module _ (stay : StayLaws) (script : Script) (account : Account) (limits : IsWithinLimits script) (is : IsAccount script account) where
  -- of a program that waits
  module _ (r : ℕ) (request : Request) (at : request_at script r ≡ Some request) (program : Program) (looks : request.work ≡ Look program) (stamp : Stamp) (waits : waiting_in (session_log account request.session) ≡ Some (r, stamp)) where
    abbrev log : List SessionEntry
    log = session_log account request.session

    open-now : is_open_in r log ≡ true
    open-now = (waits-open (session-laws stay) request.session (requests_of_session script request.session) log (is.sessions.logs request.session) (stay.rise script request.session) r stamp waits).0

    stamped : stamp_of account r ≡ Some stamp
    stamped = sym (is.sessions.stamps r request at) ∙ stamp-waits (session-laws stay) request.session (requests_of_session script request.session) log (is.sessions.logs request.session) (stay.rise script request.session) r stamp waits

    not-ended : is_ended account r ≡ false
    not-ended = elim (cases_Bool (is_ended account r)) [
      | inl ended ↦
          let replied = (stay.replied script account limits is r request at (ap is_look looks)).0 ended in
          let parts = and_parts (has_begun_in r log) (not (has_reply_in r log)) open-now in
          absurd (both_ways (has_reply_in r log) (not-true (has_reply_in r log) parts.1) replied)
      | inr on ↦ on
    ]

    -- a program with this request and stamp is running, if its walk has read what the visits read and no others
    pub waits-runs : (running : Running) → begun-as running ≡ (r, stamp) → HasReadAll running.walk program (reads_of account r) → IsRunningIn script account r running
    waits-runs running same walk =
        let stamp-is : running.stamp ≡ stamp = ap (λ (one : ℕ × Stamp). one.1) same in
        let begun = begun-at script account is r request at (ap is_look looks) stamp stamped in
        record {
          program = program;
          look = record { request = request; request_is = at; work_is = looks };
          runs = record {
            request_is = ap (λ (one : ℕ × Stamp). one.0) same;
            author = begun.0;
            begun = begun.1 ∙ (λ i. Some (record { author = begun.0; request = r; stamp = sym stamp-is i }));
            stamped = stamped ∙ ap Some (sym stamp-is);
            runs = not-ended;
            walk = walk;
          };
        }

  -- an open program runs in its session, by the values of the session
  pub open-runs : (values : List SessionValues) → AreAllByLog script account values → (r : ℕ) (request : Request) → request_at script r ≡ Some request → request.session < 64 → (program : Program) → request.work ≡ Look program
      → is_open_in r (session_log account request.session) ≡ true → RunsInSession script account (values_at values request.session) r
  open-runs values all r request at below program looks waits = by (values_at values request.session).running refl
    where
      has : IsRunningByLog script account (session_log account request.session) (values_at values request.session).running
      has = (all.each request.session below).running

      place : (i : ℕ) × (slice_get (requests_of_session script request.session) i ≡ Some r)
      place = place-of (requests_of_session script request.session) r (stay.among script r request at)

      waiting : (stamp : Stamp) × (waiting_in (session_log account request.session) ≡ Some (r, stamp))
      waiting = open-waits (session-laws stay) request.session (requests_of_session script request.session) (session_log account request.session) (is.sessions.logs request.session) (stay.rise script request.session) place.0 r place.1 waits

      is-it : program_waiting script (session_log account request.session) ≡ Some (r, waiting.0)
      is-it = ap (option_and_then (if-program script)) waiting.1
          ∙ ap (λ (o : Option Request). if is_some_and (λ (one : Request). is_look one.work) o then Some (r, waiting.0) else None) at
          ∙ ap (λ (b : Bool). if b then Some (r, waiting.0) else None) (ap is_look looks)

      by : (o : Option Running) → (values_at values request.session).running ≡ o → RunsInSession script account (values_at values request.session) r
      by None e = absurd (none-some (r, waiting.0) (sym (ap (option_map begun-as) e) ∙ has.waits ∙ is-it))
      by (Some one) e =
          let same = same_Some (begun-as one) (r, waiting.0) (sym (ap (option_map begun-as) e) ∙ has.waits ∙ is-it) in
          let number : one.request ≡ r = ap (λ (x : ℕ × Stamp). x.0) same in
          let walk = has.fed one e program (record { request = request; request_is = ap (request_at script) number ∙ at; work_is = looks }) in
          record {
            running = one;
            running_is = e;
            runs = waits-runs r request at program looks waiting.0 waiting.1 one same (subst (λ n. HasReadAll one.walk program (reads_of account n)) number walk);
          }

  -- and the other way round: what is running in a session is a program, and is what waits in the session's log
  pub runs-open : (values : List SessionValues) → AreAllByLog script account values → (s : ℕ) → s < 64 → (one : Running) → (values_at values s).running ≡ Some one → IsProgram script one.request × (waiting_in (session_log account s) ≡ Some (one.request, one.stamp))
  runs-open values all s below one at = program-waits script (session_log account s) one.request one.stamp (sym (all.each s below).running.waits ∙ ap (option_map begun-as) at)
