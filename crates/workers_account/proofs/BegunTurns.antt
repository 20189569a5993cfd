-- All that a client's worker began, it began in its session's turn.
-- Used by `workers_follow_their_sessions` and HowFar.
use Rattle.std.proofs.Common.{◌≡◌, ℕ, ◌==◌, List, [], ◌∷◌, length, Contains, inl, inr, refl, sym, ap, subst, ◌∙◌, append_assoc}
use Rattle.std.specs.Prelude.{IsTrue, Option, Some}
use Rattle.std.specs.List.{range_with_len}
use Rattle.std.proofs.lemmas.Bool.{eqb-true}
use Rattle.std.proofs.lemmas.List.{append-nil}
use Rattle.std.proofs.lemmas.Option.{get_or_from_slice_get, slice_get_within}
use Rattle.weave_data.proofs.Members.{filter_has}
use Rattle.program_defs.specs.declared.script.Request.{Request}
use Rattle.program_defs.specs.declared.script.Script.{Script}
use Rattle.program_defs.specs.declared.script.Work.{Work}
use Rattle.program_defs.specs.Limits.{IsWithinLimits}
use Rattle.program_defs.specs.Works.{is_change, is_look}
use Rattle.report_rules.specs.Lookups.{is_some_and, request_at}
use Rattle.weave_entries.specs.declared.gate_log.GateDeed.TheVariants.{BeganTx, BeganProgram, Sent, Finished}
use Rattle.weave_entries.specs.SessionReplay.{next_request, session_of, SessionState}
use Rattle.weave_account.specs.declared.account.Account.{Account}
use Rattle.weave_account.specs.Account.{gate_log}
use Rattle.weave_account.specs.GoesOn.{IsBeginningOf}
use Rattle.weave_account.specs.Sessions.{requests_of_session}
use Rattle.weave_account.proofs.GoesOn.{whole, onward}
use Rattle.seen_logs.specs.Seen.{GatesGoOn}
use Rattle.weaver_core.specs.Sessions.{log_of_client}
use Rattle.weaver_locks.specs.declared.shared.Shared.{Shared}
use Rattle.weaver_locks.specs.Hands.{hand_number, seen_by}
use Rattle.weaver_workers.specs.ClientWork.{begun_entry, replied_entry, DoesOneCall, DoesChange, DoesStart, Goes, Stand}
use Rattle.weaver_workers.specs.Keeping.{AreLocksOf, KeepsClient}
use Rattle.workers_account.specs.Begins.{AreBegunInTurn, IsBegunInTurn}
use Rattle.workers_account.specs.TurnLaws.{TurnLaws}
use Rattle.workers_account.proofs.OwnLogs.{own-gates, OwnGates}
use Rattle.workers_account.proofs.BegunHolds.{begun-none, begun-one, begun-then, none-carried, none-elsewhere, one-at-gate, quiet, BeginsNone}

-- The session's turn

-- a session's request is of the session
pub session-is : (script : Script) (number r : ℕ) (asked : Request) → Contains (requests_of_session script number) r
    → request_at script r ≡ Some asked → asked.session ≡ number
session-is script number r asked h is =
    eqb-true asked.session number (subst (λ (o : Option Request). IsTrue (is_some_and (λ (request : Request). request.session == number) o)) is
    (filter_has (λ q. is_some_and (λ (request : Request). request.session == number) (request_at script q))
    (range_with_len 0 (length script.requests)) r h).1)

-- What was done in turn: the hand has the same number and has seen no less, the session's log went on, and all that was
-- begun was begun in turn.
pub record Went (script : Script) (session : ℕ) (from at : Stand) : Type 0 where
  pub number : hand_number at.hand ≡ hand_number from.hand
  pub gates : GatesGoOn (seen_by from.hand) (seen_by at.hand)
  pub log : IsBeginningOf (log_of_client from.client) (log_of_client at.client)
  pub begins : AreBegunInTurn script session from at

module _ (laws : TurnLaws) (shared : Shared) (script : Script) (number upto : ℕ) where
  went-none : (at : Stand) → Went script number at at
  went-none at = record {
    number = refl;
    gates = λ home. whole (gate_log (seen_by at.hand) home);
    log = whole (log_of_client at.client);
    begins = begun-none script number (log_of_client at.client) at.hand;
  }

  went-then : (from mid at : Stand) → Went script number from mid → Went script number mid at → Went script number from at
  went-then from mid at first second = record {
    number = second.number ∙ first.number;
    gates = λ home. onward (gate_log (seen_by from.hand) home) (gate_log (seen_by mid.hand) home) (gate_log (seen_by at.hand) home)
        (first.gates home) (second.gates home);
    log = onward (log_of_client from.client) (log_of_client mid.client) (log_of_client at.client) first.log second.log;
    begins = begun-then script number (log_of_client mid.client) (log_of_client at.client) from.hand mid.hand at.hand first.number second.gates
        second.log first.begins second.begins;
  }

  module _ (old new : Stand) (keeps : KeepsClient shared script number old.hand old.client)
      (stays : KeepsClient shared script number new.hand new.client) where
    own-old : OwnGates old.hand
    own-old = laws.own shared old.hand keeps.is_hand

    own-new : OwnGates new.hand
    own-new = laws.own shared new.hand stays.is_hand

    -- nothing was begun
    went-quiet : BeginsNone old.hand new.hand → IsBeginningOf (log_of_client old.client) (log_of_client new.client) → Went script number old new
    went-quiet none on = record {
      number = none.number;
      gates = none.gates;
      log = on;
      begins = quiet script number (log_of_client new.client) old.hand new.hand none own-old own-new;
    }

    state : old.client.session ≡ session_of (requests_of_session script number) (log_of_client old.client)
    state = keeps.at_end.state ∙ ap (λ (rs : List ℕ). session_of rs (log_of_client old.client)) keeps.requests

    -- the session's next request is one of its own
    its-session : (r : ℕ) (asked : Request) → next_request old.client.session ≡ Some r → request_at script r ≡ Some asked
        → asked.session ≡ number
    its-session r asked next is =
        session-is script number r asked (subst (λ (rs : List ℕ). Contains rs r) keeps.requests (
          old.client.session.begun,
          slice_get_within old.client.session.requests old.client.session.begun r next,
          get_or_from_slice_get old.client.session.requests old.client.session.begun r r next,
        )) is

    -- a transaction was begun, judged and sent
    module _ (does : DoesChange shared script number upto old new) where
      abbrev on-change : IsBeginningOf (log_of_client old.client) (log_of_client new.client)
      on-change = (
        begun_entry number does.r does.stamp ∷ replied_entry number does.r ∷ [],
        does.log ∙ append_assoc (log_of_client old.client) (begun_entry number does.r does.stamp ∷ []) (replied_entry number does.r ∷ []),
      )

      change-turn : IsBegunInTurn script number (log_of_client new.client) is_change does.asked.gate does.transacts.before does.r does.stamp
      change-turn = record {
        then = log_of_client old.client;
        on = on-change;
        next = sym (ap next_request state) ∙ does.next.turn.next;
        asked = does.asked;
        request_is = does.next.request_is;
        session_is = its-session does.r does.asked does.next.turn.next does.next.request_is;
        gate_is = refl;
        kind = subst (λ (w : Work). IsTrue (is_change w)) (sym does.work_is) refl;
        last = old.client.session.last;
        last_is = ap (λ (s : SessionState). s.last) state;
        stamp_is = does.transacts.stamp_is;
        hears_no_more = does.transacts.hears_no_more;
        small = does.transacts.bits;
      }

      went-change : Went script number old new
      went-change =
          let did = does.transacts in
          let log = log_of_client new.client in
          let own_begun = own-gates did.begun did.begun_seen in
          let own_judged = own-gates did.judged did.judged_seen in
          let judges = none-elsewhere did.begun did.judged did.judges.was.number did.judges.was.more.gates
          (ap (λ (a : Account). a.gates) did.judges.was.made) in
          let sends = one-at-gate did.judged new.hand does.asked.gate did.flying (Sent did.sends.flight.request _) did.sends.was refl in
          let first = begun-one script number log old.hand did.begun did.begins.number own-old own_begun does.asked.gate did.before
          (BeganTx does.r does.stamp) did.begins change-turn in
          let second = quiet script number log did.begun did.judged judges own_begun own_judged in
          let third = quiet script number log did.judged new.hand sends own_judged own-new in
          record {
            number = sends.number ∙ judges.number ∙ did.begins.number;
            gates = λ home. onward (gate_log (seen_by old.hand) home) (gate_log (seen_by did.judged) home) (gate_log (seen_by new.hand) home)
                (onward (gate_log (seen_by old.hand) home) (gate_log (seen_by did.begun) home) (gate_log (seen_by did.judged) home)
                (did.begins.more.gates home) (judges.gates home)) (sends.gates home);
            log = on-change;
            begins = begun-then script number log log old.hand did.judged new.hand (judges.number ∙ did.begins.number) sends.gates (whole log)
                (begun-then script number log log old.hand did.begun did.judged did.begins.number judges.gates (whole log) first second)
                third;
          }

    -- a program was begun
    module _ (does : DoesStart shared script number upto old new) where
      abbrev on-start : IsBeginningOf (log_of_client old.client) (log_of_client new.client)
      on-start = (begun_entry number does.r does.stamp ∷ [], does.log)

      start-turn : IsBegunInTurn script number (log_of_client new.client) is_look does.asked.gate does.starts.before does.r does.stamp
      start-turn = record {
        then = log_of_client old.client;
        on = on-start;
        next = sym (ap next_request state) ∙ does.next.turn.next;
        asked = does.asked;
        request_is = does.next.request_is;
        session_is = its-session does.r does.asked does.next.turn.next does.next.request_is;
        gate_is = refl;
        kind = subst (λ (w : Work). IsTrue (is_look w)) (sym does.work_is) refl;
        last = old.client.session.last;
        last_is = ap (λ (s : SessionState). s.last) state;
        stamp_is = does.starts.stamp_is;
        hears_no_more = does.starts.hears_no_more;
        small = does.starts.bits;
      }

      went-start : Went script number old new
      went-start = record {
        number = does.starts.begins.number;
        gates = does.starts.begins.more.gates;
        log = on-start;
        begins = begun-one script number (log_of_client new.client) old.hand new.hand does.starts.begins.number own-old own-new does.asked.gate
            does.starts.before (BeganProgram does.r does.stamp) does.starts.begins start-turn;
      }

    same-log : log_of_client new.client ≡ log_of_client old.client → IsBeginningOf (log_of_client old.client) (log_of_client new.client)
    same-log same = ([], same ∙ sym (append-nil (log_of_client old.client)))

    -- one thing was done
    went-one : DoesOneCall shared script number upto old new → Went script number old new
    went-one (inl change) = went-change change
    went-one (inr (inl start)) = went-start start
    went-one (inr (inr (inl visit))) =
        went-quiet (none-elsewhere old.hand new.hand visit.visits.visits.was.number visit.visits.visits.was.more.gates
        (ap (λ (a : Account). a.gates) visit.visits.visits.was.made)) (same-log visit.same.log)
    went-one (inr (inr (inr (inl finish)))) =
        went-quiet (one-at-gate old.hand new.hand finish.before.stamp.home finish.finishes.before (Finished finish.before.request)
        finish.finishes.was refl) (replied_entry number finish.before.request ∷ [], finish.log)
    went-one (inr (inr (inr (inr carry)))) = went-quiet (none-carried old.hand new.hand carry.only) (same-log carry.same.log)

  -- if a worker did one thing after another, its log went on, and what its hand began was in turn
  pub went-all : (path : List Stand) (from at : Stand) → KeepsClient shared script number from.hand from.client
      → Goes shared script number upto from path at → Went script number from at
  went-all [] from at keeps goes = subst (λ (s : Stand). Went script number from s) goes (went-none from)
  went-all (next ∷ path) from at keeps goes =
      went-then from next at (went-one from next keeps goes.0.1 goes.0.0) (went-all path next at goes.0.1 goes.1)

-- All that a client's worker began, it began in its session's turn.
pub begun-in-turn : (laws : TurnLaws) (shared : Shared) (script : Script) (number upto : ℕ) (path : List Stand) (from at : Stand)
    → IsWithinLimits script → AreLocksOf script shared → KeepsClient shared script number from.hand from.client
    → Goes shared script number upto from path at → AreBegunInTurn script number from at
begun-in-turn laws shared script number upto path from at limits locks keeps goes =
    (went-all laws shared script number upto path from at keeps goes).begins
