-- `reply` keeps a core: a transaction that was sent has its reply; a program that has read all is finished and has its
-- reply.
-- Used by Stepping.
use Rattle.std.proofs.Common.{◌≡◌, ℕ, ◌==◌, Bool, true, false, cond, not, Option, None, Some, List, refl, sym, ap, ◌∙◌}
use Rattle.std.specs.Prelude.{is_some, ◌||◌}
use Rattle.std.specs.List.{find, list_any}
use Rattle.std.proofs.lemmas.Bool.{and_from, both_ways, eq-eqb}
use Rattle.std.proofs.lemmas.List.{length-set}
use Rattle.std.proofs.lemmas.Option.{same_Some}
use Rattle.weave_data.proofs.Members.{any_from, find_has, find_lacks}
use Rattle.vector_stamp.specs.declared.clock.Stamp.{Stamp}
use Rattle.weave_data.specs.declared.name.Name.{Name}
use Rattle.program_defs.specs.declared.program.Program.{Program}
use Rattle.program_defs.specs.declared.script.Request.{Request}
use Rattle.program_defs.specs.declared.script.Script.{Script}
use Rattle.program_defs.specs.declared.script.Step.TheVariants.{Reply}
use Rattle.program_defs.specs.declared.script.Work.{Work}
use Rattle.program_defs.specs.declared.script.Work.TheVariants.{Change, Look}
use Rattle.program_defs.specs.Visits.{next_visit}
use Rattle.report_rules.specs.Lookups.{request_at}
use Rattle.report_rules.specs.declared.report.StepAnswer.TheVariants.{Ok, Idle}
use Rattle.weave_entries.specs.declared.gate_log.GateEntry.{GateEntry}
use Rattle.weave_entries.specs.declared.gate_log.GateDeed.TheVariants as gate
use Rattle.weave_entries.specs.declared.session_log.SessionDeed.TheVariants as session
use Rattle.weave_entries.specs.GateReplay.{BegunRequest, ended_in, is_begun, program_begun, programs_of, running_of}
use Rattle.weave_entries.specs.SessionReplay.{RepliesToLast, begins_in, session_of}
use Rattle.weave_account.specs.declared.account.Account.{Account}
use Rattle.weave_account.specs.Account.{gate_log, session_log, stamp_of, reads_of}
use Rattle.weave_account.specs.IsAccount.{IsAccount}
use Rattle.weave_account.specs.Sessions.{requests_of_session}
use Rattle.step_rules.specs.CoreState.{CoreState, with_gate_deed, with_session_deed}
use Rattle.step_rules.specs.Answers.{answer_of, answer_of_reply, for_request}
use Rattle.step_rules.specs.Entries.{after_reply, after_work, at_request, state_with, with_finish}
use Rattle.step_rules.specs.IsCore.{IsCore}
use Rattle.step_rules.specs.Requests.{has_begun, has_ended, has_reply, is_answered}
use Rattle.step_rules.proofs.Basis.{Basis}
use Rattle.step_rules.proofs.Clashes.{not-ok, same-program}
use Rattle.step_rules.proofs.FindLists.{any-find, is-some-map}
use Rattle.step_rules.proofs.FinishStep as finish
use Rattle.step_rules.proofs.ProgramBegun.{program-there}
use Rattle.step_rules.proofs.SessionTurns.{open-is-last}
use Rattle.step_rules.proofs.ReplyStep.{replied-keeps}
use Rattle.step_rules.proofs.Within.{session-within}

-- only a begun request without a reply that is answered gets its reply
all-three : (a b c : Bool) → cond (not a || b || not c) Idle Ok ≡ Ok → (a ≡ true) × (b ≡ false) × (c ≡ true)
all-three false b c e = cc
all-three true true c e = cc
all-three true false false e = cc
all-three true false true e = (refl, refl, refl)

none-is : (o : Option Name) → not (is_some o) ≡ true → o ≡ None
none-is None h = refl
none-is (Some v) h = cc

module _ (script : Script) (state : CoreState) (basis : Basis script state) (r : ℕ) (request : Request) (request-is : request_at script r ≡ Some request)
    (begun : has_begun state.account r request ≡ true) (unreplied : has_reply state.account r request ≡ false) where
  abbrev account : Account
  account = state.account

  abbrev is : IsAccount script account
  is = basis.core.account

  abbrev s : ℕ
  s = request.session

  abbrev g : ℕ
  g = request.gate

  abbrev log : List GateEntry
  log = gate_log account g

  turn : RepliesToLast (session_of (requests_of_session script s) (session_log account s)) r
  turn = open-is-last basis.laws s (requests_of_session script s) (session_log account s) (is.sessions.logs s) r begun unreplied

  has-stamp : is_some (stamp_of account r) ≡ true
  has-stamp = ap is_some (sym (is.sessions.stamps r request request-is)) ∙ is-some-map (λ (one : ℕ × Stamp). one.1) (find (λ (one : ℕ × Stamp). one.0 == r) (begins_in (session_log account s)))
      ∙ sym (any-find (λ (one : ℕ × Stamp). one.0 == r) (begins_in (session_log account s))) ∙ begun

  -- a running program that has read all is finished
  finishes : (program : Program) → request.work ≡ Look program → next_visit (reads_of account r) program ≡ None → has_ended account r request ≡ false → (b : BegunRequest) → program_begun r log ≡ Some b
      → IsCore script (record { account = with_session_deed (with_gate_deed account g b.author (gate.Finished r)) s (session.Replied r); notices = state.notices })
  finishes program look read goes b e =
      let has = find_has (λ (one : BegunRequest). one.request == r) (programs_of log) b e in
      let running = (basis.laws.logs.open_running g script.shards log (is.gatekeepers.logs g) (basis.further.accounts.each_once script account basis.limits is g) b).1
      (has.0, λ ended. both_ways (list_any (λ one. one == r) (ended_in log)) goes (any_from (λ one. one == r) (ended_in log) b.request ended has.1)) in
      record {
        account = finish.finish-goes-on basis.laws script account basis.limits is g (basis.limits.homes r request request-is) s (session-within basis.limits basis.core r request request-is) b.author r
            (any_from (is_begun b.author r) (running_of log) b running (and_from (b.author == b.author) (b.request == r) (eq-eqb b.author b.author refl) has.1))
            turn (λ q there. ap (λ (o : Request). o.session) (sym (same_Some request q (sym request-is ∙ there))))
            (λ q other there looks.
            (let same = same_Some request q (sym request-is ∙ there) in
            let programs = same-program program other (sym look ∙ ap (λ (o : Request). o.work) same ∙ looks) in
            ap (next_visit (reads_of account r)) (sym programs) ∙ read));
        sessions = length-set account.sessions s _ ∙ basis.core.sessions;
        notices = λ clock h. basis.laws.accounts.stay_clocks script account (finish.next basis.laws script account basis.limits is g (basis.limits.homes r request request-is) s (session-within basis.limits basis.core r request request-is) b.author r)
            (finish.on basis.laws script account basis.limits is g (basis.limits.homes r request request-is) s (session-within basis.limits basis.core r request request-is) b.author r) clock (basis.core.notices clock h);
      }

  by-work : (work : Work) → request.work ≡ work → is_answered account r request work ≡ true
      → IsCore script (record { account = with_session_deed (after_work account r request work) s (session.Replied r); notices = state.notices })
  by-work (Change ops) w answered = replied-keeps script state basis r request request-is begun unreplied answered
  by-work (Look program) w answered = by-end (has_ended account r request) refl
    where
      by-program : (o : Option BegunRequest) → program_begun r log ≡ o → has_ended account r request ≡ false
          → IsCore script (record { account = with_session_deed (with_finish account r g o) s (session.Replied r); notices = state.notices })
      by-program (Some b) e goes = finishes program w (none-is (next_visit (reads_of account r) program) answered) goes b e
      by-program None e goes =
          let one = program-there script account is r request request-is program w has-stamp in
          absurd (find_lacks (λ (b : BegunRequest). b.request == r) (programs_of log) one.begun e one.there one.request_is)

      by-end : (b : Bool) → has_ended account r request ≡ b
          → IsCore script (record { account = with_session_deed (cond b account (with_finish account r g (program_begun r log))) s (session.Replied r); notices = state.notices })
      by-end true e = replied-keeps script state basis r request request-is begun unreplied e
      by-end false e = by-program (program_begun r log) refl e

module _ (script : Script) (state : CoreState) (basis : Basis script state) where
  -- a `reply` that is done keeps a core
  pub reply-keeps : (r : ℕ) → answer_of script state (Reply r) ≡ Ok → IsCore script (state_with script state (Reply r))
  reply-keeps r ok = at (request_at script r) refl ok
    where
      at : (q : Option Request) → request_at script r ≡ q → for_request (answer_of_reply state.account r) q ≡ Ok
          → IsCore script (record { account = at_request (after_reply state.account r) state.account q; notices = state.notices })
      at None e ok = not-ok Idle refl ok
      at (Some request) e ok =
          let three = all-three (has_begun state.account r request) (has_reply state.account r request) (is_answered state.account r request request.work) ok in
          by-work script state basis r request e three.0 three.1 request.work refl three.2
