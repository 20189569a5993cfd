-- `begin` keeps a core.
-- Used by Stepping.
use Rattle.std.proofs.Common.{◌≡◌, ℕ, ◌+◌, ◌<◌, ◌==◌, Bool, true, false, cond, List, [], ◌∷◌, ◌++◌, length, Contains, IsTrue, Option, None, Some, refl, sym, ap, subst, ◌∙◌, arith}
use Rattle.std.specs.Prelude.{count_by, is_some, ◌&&◌}
use Rattle.std.specs.Option.{ForSome, option_and_then}
use Rattle.std.proofs.lemmas.Bool.{and_from, eq-eqb}
use Rattle.std.proofs.lemmas.List.{length-set}
use Rattle.std.proofs.lemmas.List.Concat.{flat_map-append}
use Rattle.std.proofs.lemmas.Option.{same_Some}
use Rattle.weave_data.proofs.Ends.{count_push}
use Rattle.weave_data.proofs.Members.{map_has, only}
use Rattle.vector_stamp.specs.declared.clock.Clock.{Clock}
use Rattle.vector_stamp.specs.declared.clock.Stamp.{Stamp}
use Rattle.vector_stamp.specs.Clocks.{counts_no_more}
use Rattle.vector_stamp.specs.Order.{HasEightCounts, has_64_bits, stamp_before}
use Rattle.program_defs.specs.declared.script.Request.{Request}
use Rattle.program_defs.specs.declared.script.Script.{Script}
use Rattle.program_defs.specs.declared.script.Step.TheVariants.{Begin}
use Rattle.program_defs.specs.declared.script.Work.{Work}
use Rattle.program_defs.specs.declared.script.Work.TheVariants.{Change, Look}
use Rattle.program_defs.specs.Works.{is_change, is_look}
use Rattle.report_rules.specs.Lookups.{is_some_and, request_at}
use Rattle.report_rules.specs.declared.report.StepAnswer.TheVariants.{Ok, Twice, Early, Busy, Idle}
use Rattle.weave_entries.specs.declared.gate_log.GateEntry.{GateEntry}
use Rattle.weave_entries.specs.declared.gate_log.GateDeed.{GateDeed}
use Rattle.weave_entries.specs.declared.gate_log.GateDeed.TheVariants.{BeganTx, BeganProgram}
use Rattle.weave_entries.specs.declared.session_log.SessionEntry.{SessionEntry}
use Rattle.weave_entries.specs.declared.session_log.SessionDeed.TheVariants as session
use Rattle.weave_entries.specs.GateReplay.{BegunRequest, begun_by, begun_stamp, clock_after_last, clock_of, clocks_by, ended_by, flight_of, stamps_by, stamps_of, ticks_of}
use Rattle.weave_entries.specs.GateRules.{FitsAs, HearsAs, IsBegunAt}
use Rattle.weave_entries.specs.SessionReplay.{BeginsNext, next_request, session_of}
use Rattle.weave_account.specs.declared.account.Account.{Account}
use Rattle.weave_account.specs.Account.{gate_log, session_log, all_begun, stamp_of}
use Rattle.weave_account.specs.Channels.{SendsAs}
use Rattle.weave_account.specs.Clocks.{IsKnown}
use Rattle.weave_account.specs.Gatekeepers.{BeginsAs, BeginsRequest, last_stamp, request_before}
use Rattle.weave_account.specs.IsAccount.{IsAccount}
use Rattle.weave_account.specs.Sessions.{requests_of_session}
use Rattle.step_rules.specs.CoreState.{CoreState, with_gate_deed, with_session_deed}
use Rattle.step_rules.specs.Answers.{answer_of, answer_of_begin, for_request}
use Rattle.step_rules.specs.Entries.{after_begin, at_request, begin_deed, state_with}
use Rattle.step_rules.specs.IsCore.{IsCore, IsSmall}
use Rattle.step_rules.specs.Requests.{finds_flight, has_begun, last_begun, waits_for_earlier}
use Rattle.step_rules.proofs.Basis.{Basis}
use Rattle.step_rules.proofs.Clashes.{is-none, not-ok}
use Rattle.step_rules.proofs.SessionTurns as turns
use Rattle.step_rules.proofs.BeginAccount as one
use Rattle.step_rules.proofs.Within.{session-within}

-- only the last of the four answers is `Ok`
none-of : (a b c : Bool) → cond a Twice (cond b Early (cond c Busy Ok)) ≡ Ok → (a ≡ false) × (b ≡ false) × (c ≡ false)
none-of true b c e = cc
none-of false true c e = cc
none-of false false true e = cc
none-of false false false e = (refl, refl, refl)

module _ (script : Script) (state : CoreState) (basis : Basis script state) (r : ℕ) (request : Request) (request-is : request_at script r ≡ Some request)
    (unbegun : has_begun state.account r request ≡ false) (free : waits_for_earlier script state.account r request ≡ false) where
  abbrev account : Account
  account = state.account

  abbrev is : IsAccount script account
  is = basis.core.account

  abbrev s : ℕ
  s = request.session

  abbrev g : ℕ
  g = request.gate

  abbrev log : List GateEntry
  log = gate_log account g

  abbrev slog : List SessionEntry
  slog = session_log account s

  abbrev clock : Clock
  clock = clock_of g log

  abbrev last : Option Stamp
  last = last_begun account s

  abbrev heard : Clock
  heard = clock_after_last g clock last

  abbrev stamp : Stamp
  stamp = begun_stamp g clock last

  inside : g < script.gates
  inside = basis.limits.homes r request request-is

  below : g < 8
  below = let few = basis.limits.few_gates in omega (arith, inside, few)

  within-s : s < length account.sessions
  within-s = session-within basis.limits basis.core r request request-is

  no-stamp : stamp_of account r ≡ None
  no-stamp = is-none (stamp_of account r) (ap is_some (sym (is.sessions.stamps r request request-is)) ∙ sym (one.begun-agree slog s r stamp) ∙ unbegun)

  -- it comes next in its session

  turn : ((session_of (requests_of_session script s) slog).waits ≡ false) × (next_request (session_of (requests_of_session script s) slog) ≡ Some r)
  turn = turns.next-in-turn basis.laws s (requests_of_session script s) slog (is.sessions.logs s) (basis.further.accounts.rise script s) r (basis.further.accounts.among script r request request-is) unbegun free

  before-is : last_stamp script account r ≡ last
  before-is = basis.further.accounts.follows script account basis.limits is r request request-is turn.1

  -- what its session began last is known

  known-last : ForSome last (λ one. IsKnown account one.clock)
  known-last old e =
      let begun = map_has (λ (b : BegunRequest). b.stamp) (all_begun account) old (basis.further.accounts.last script account basis.limits is s old e) in
      subst (λ (t : Stamp). IsKnown account t.clock) begun.2 (basis.laws.accounts.known_begun script account basis.limits is begun.0 begun.1)

  hears : ForSome last (λ one. IsTrue (counts_no_more g clock one.clock))
  hears old e = basis.further.accounts.may_be_heard script account basis.limits is g old.clock inside (known-last old e)

  own-known : IsKnown account clock
  own-known = basis.laws.accounts.known_gatekeepers script account basis.limits is g

  heard-known : IsKnown account heard
  heard-known = by last known-last
    where
      by : (l : Option Stamp) → ForSome l (λ one. IsKnown account one.clock) → IsKnown account (clock_after_last g clock l)
      by None known = own-known
      by (Some one) known = basis.laws.accounts.known_heard script account basis.limits is g below clock one.clock own-known (known one refl)

  -- the stamp begun last doesn't depend on the session's requests
  last-any : last ≡ (session_of (requests_of_session script s) slog).last
  last-any = turns.last-any [] (requests_of_session script s) slog

  -- the session goes on
  next-begins : BeginsNext (session_of (requests_of_session script s) slog) r stamp
  next-begins = record {
    replied = turn.0;
    next = turn.1;
    rises = λ before e. (let is-last : last ≡ Some before = last-any ∙ e in rises-after last before is-last (hears before is-last) (known-last before is-last).eight);
  }
    where
      rises-after : (l : Option Stamp) (before : Stamp) → l ≡ Some before → IsTrue (counts_no_more g clock before.clock) → HasEightCounts before.clock → IsTrue (stamp_before before (begun_stamp g clock l))
      rises-after l before e counts eight = subst (λ (o : Option Stamp). IsTrue (stamp_before before (begun_stamp g clock o))) (sym e) (basis.laws.stamps.heard_then_after g clock before.clock below own-known.eight eight counts)

  -- One deed of it

  module _ (small : IsTrue (has_64_bits stamp.clock)) (deed : GateDeed) (begun-one : begun_by 0 deed ≡ record { author = 0; request = r; stamp = stamp } ∷ []) (stamps-one : stamps_by deed ≡ stamp ∷ [])
      (clocks-one : clocks_by deed ≡ stamp.clock ∷ []) (quiet : ended_by deed ≡ []) (fits : IsBegunAt g clock stamp → FitsAs g script.shards log 0 deed) (hears-one : HearsAs g log deed) where
    abbrev now : Account
    now = with_session_deed (with_gate_deed account g 0 deed) s (session.Begun r stamp)

    ticked : ticks_of heard.epoch (gate_log now g) ≡ ticks_of heard.epoch log + 1
    ticked =
        let stamped : stamps_of (gate_log now g) ≡ stamps_of log ++ stamp ∷ [] = ap stamps_of (one.log-here basis.laws script account basis.limits is g inside s within-s 0 r stamp deed begun-one no-stamp)
        ∙ flat_map-append (λ (e : GateEntry). stamps_by e.deed) log (record { author = 0; deed = deed } ∷ []) ∙ ap (λ ss. stamps_of log ++ (ss ++ [])) stamps-one in
        ap (λ ss. count_by (λ (t : Stamp). t.clock.epoch == heard.epoch) ss) stamped ∙ count_push (λ (t : Stamp). t.clock.epoch == heard.epoch) (stamps_of log) stamp
        ∙ ap (λ b. ticks_of heard.epoch log + cond {A = ℕ} b 1 0) (eq-eqb heard.epoch heard.epoch refl)

    stamp-known : IsKnown now stamp.clock
    stamp-known = basis.further.accounts.ticked script account now basis.limits is (one.on basis.laws script account basis.limits is g inside s within-s 0 r stamp deed begun-one no-stamp) g inside heard heard-known ticked

    last-now : last_stamp script now r ≡ last
    last-now = by (request_before script r) refl ∙ before-is
      where
        by : (o : Option ℕ) → request_before script r ≡ o → option_and_then (stamp_of now) o ≡ option_and_then (stamp_of account) o
        by None e = refl
        by (Some q) e = one.stamp-old basis.laws script account basis.limits is g inside s within-s 0 r stamp deed begun-one no-stamp q (λ same. (let less = basis.further.accounts.earlier script r q e in omega (arith, less, same)))

    begins-request : (is_kind : Work → Bool) → IsTrue (is_kind request.work) → BeginsRequest script now is_kind g log r stamp
    begins-request is_kind kind = record {
      own = subst (λ o. IsTrue (is_some_and (λ (q : Request). (q.gate == g) && is_kind q.work) o)) (sym request-is) (and_from (g == g) (is_kind request.work) (eq-eqb g g refl) kind);
      stamp_is = ap (begun_stamp g clock) (sym last-now);
      hears_no_more = subst (λ l. ForSome l (λ (t : Stamp). IsTrue (counts_no_more g clock t.clock))) (sym last-now) hears;
      small = small;
    }

    begun-core : BeginsAs script now g log deed → SendsAs now script.shards log 0 deed → IsCore script (record { account = now; notices = state.notices })
    begun-core begins sends = record {
      account = one.begin-goes-on basis.laws script account basis.limits is g inside s within-s 0 r stamp deed begun-one no-stamp
          (fits (record { last = last; eight = λ before e. (known-last before e).eight; is = refl })) begins
          (λ c h. subst (IsKnown now) (only stamp.clock c (subst (λ cs. Contains cs c) clocks-one h)) stamp-known)
          hears-one sends quiet (λ q e. ap (λ (o : Request). o.session) (sym (same_Some request q (sym request-is ∙ e)))) next-begins unbegun;
      sessions = length-set account.sessions s _ ∙ basis.core.sessions;
      notices = λ c h. one.known-next basis.laws script account basis.limits is g inside s within-s 0 r stamp deed begun-one no-stamp c (basis.core.notices c h);
    }

  begin-work : IsTrue (has_64_bits stamp.clock) → (work : Work) → request.work ≡ work → (is_change work && is_some (flight_of log)) ≡ false
      → IsCore script (record { account = with_session_deed (with_gate_deed account g 0 (begin_deed r stamp work)) s (session.Begun r stamp); notices = state.notices })
  begin-work small (Change ops) w alone =
      begun-core small (BeganTx r stamp) refl refl refl refl (λ b. record { alone = is-none (flight_of log) alone; begun = b }) tt
      (begins-request small (BeganTx r stamp) refl refl refl refl (λ b. record { alone = is-none (flight_of log) alone; begun = b }) tt is_change (ap is_change w)) tt
  begin-work small (Look program) w alone =
      begun-core small (BeganProgram r stamp) refl refl refl refl (λ b. b) tt
      (begins-request small (BeganProgram r stamp) refl refl refl refl (λ b. b) tt is_look (ap is_look w)) tt

module _ (script : Script) (state : CoreState) (basis : Basis script state) where
  -- a `begin` that is done keeps a core, if the numbers of its stamp have 64 bits
  pub begin-keeps : (r : ℕ) → IsSmall script state (Begin r) → answer_of script state (Begin r) ≡ Ok → IsCore script (state_with script state (Begin r))
  begin-keeps r small ok = by (request_at script r) refl ok
    where
      by : (q : Option Request) → request_at script r ≡ q → for_request (answer_of_begin script state.account r) q ≡ Ok
          → IsCore script (record { account = at_request (after_begin state.account r) state.account q; notices = state.notices })
      by None e ok = not-ok Idle refl ok
      by (Some request) e ok =
          let three = none-of (has_begun state.account r request) (waits_for_earlier script state.account r request) (finds_flight state.account request) ok in
          begin-work script state basis r request e three.0 three.1 (small request e) request.work refl three.2
