-- The report of logs says that a program is finished exactly if it is finished in the logs.
-- Used by `replies_finish_programs`.
use Rattle.std.proofs.Common.{◌≡◌, ℕ, zero, suc, ◌+◌, ◌<◌, ◌==◌, true, false, List, [], ◌∷◌, map, drop, length, IsTrue, Option, None, Some, refl, sym, ap, subst, ◌∙◌, arith}
use Rattle.std.specs.Prelude.{◌↔◌, IsSomeAnd, is_some, slice_get}
use Rattle.std.specs.List.{AllByRecursion, find, range_with_len}
use Rattle.std.proofs.lemmas.Option.{slice_get_within}
use Rattle.vector_stamp.specs.declared.clock.Stamp.{Stamp}
use Rattle.program_defs.specs.declared.program.Program.{Program}
use Rattle.program_defs.specs.declared.script.Request.{Request}
use Rattle.program_defs.specs.declared.script.Script.{Script}
use Rattle.program_defs.specs.declared.script.Step.{Step}
use Rattle.program_defs.specs.declared.script.Work.{Work}
use Rattle.program_defs.specs.declared.script.Work.TheVariants.{Change, Look}
use Rattle.program_defs.specs.Limits.{IsWithinLimits}
use Rattle.program_defs.specs.Works.{is_look}
use Rattle.report_rules.specs.Lookups.{is_some_and, request_at}
use Rattle.report_rules.specs.declared.report.Reply.{Reply}
use Rattle.report_rules.specs.declared.report.ReplyState.{ReplyState}
use Rattle.report_rules.specs.declared.report.ReplyState.TheVariants.{Unbegun, Begun as Running, Committed, Conflict, Refused, Finished}
use Rattle.report_rules.specs.declared.report.Report.{Report}
use Rattle.weave_entries.specs.SessionReplay.{begins_in}
use Rattle.weave_account.specs.declared.account.Account.{Account}
use Rattle.weave_account.specs.Account.{is_ended, session_log, stamp_of}
use Rattle.weave_account.specs.IsAccount.{IsAccount}
use Rattle.weave_account.specs.Report.{IsReplyInAccount, IsReportOfAccount, IsStateOf, IsStateOfProgram}
use Rattle.weave_account.specs.Sessions.{requests_of_session}
use Rattle.step_rules.specs.Finishing.{IsReplyDone, RepliesFinishPrograms, is_finished, is_finished_in}
use Rattle.step_rules.specs.LowerLaws.{LawsForSteps}
use Rattle.step_rules.specs.Requests.{has_reply}
use Rattle.step_rules.specs.Trace.{trace_of}
use Rattle.step_rules.proofs.DoneReplies.{replied-exactly}
use Rattle.step_rules.proofs.FindLists.{any-find, is-some-map}
use Rattle.step_rules.proofs.SessionTurns.{replied-begun}

-- a program's work
program-of : (work : Work) → IsTrue (is_look work) → (program : Program) × (work ≡ Look program)
program-of (Change ops) look = cc
program-of (Look program) look = (program, refl)

-- reply r is of request r, and as the account says
record IsReplyHere (script : Script) (account : Account) (replies : List Reply) (i r : ℕ) : Type 0 where
  pub reply : Reply
  pub here : slice_get replies i ≡ Some reply
  pub request_is : reply.request ≡ r
  pub matched : IsReplyInAccount script account reply

reply-here : (script : Script) (account : Account) (replies : List Reply) (a n i r : ℕ) → map (λ (reply : Reply). reply.request) replies ≡ range_with_len a n
    → AllByRecursion (IsReplyInAccount script account) replies → i < n → a + i ≡ r → IsReplyHere script account replies i r
reply-here script account replies a zero i r requests each less at = absurd (omega (arith, less))
reply-here script account [] a (suc n) i r requests each less at = cc
reply-here script account (reply ∷ replies) a (suc n) zero r requests each less at =
    let same : reply.request ≡ a = cc in record { reply = reply; here = refl; request_is = omega (arith, same, at); matched = each.0 }
reply-here script account (reply ∷ replies) a (suc n) (suc i) r requests each less at =
    let tails : map (λ (one : Reply). one.request) replies ≡ range_with_len (a + 1) n = ap (drop 1) requests in
    let rest = reply-here script account replies (a + 1) n i r tails each.1 (omega (arith, less)) (omega (arith, at)) in
    record { reply = rest.reply; here = rest.here; request_is = rest.request_is; matched = rest.matched }

-- a program's state is finished exactly if the program is
by-state : (account : Account) (r : ℕ) (program : Program) (state : ReplyState) → IsStateOfProgram account r program state → IsTrue (is_finished state) ↔ IsTrue (is_ended account r)
by-state account r program (Finished answer) is = ((λ h. is.0), (λ ended. refl))
by-state account r program Unbegun is = ((λ h. cc), (λ ended. (let clash : true ≡ false = sym ended ∙ is.0 in cc)))
by-state account r program Running is = ((λ h. cc), (λ ended. (let clash : true ≡ false = sym ended ∙ is.0 in cc)))
by-state account r program (Committed number answers) is = ((λ h. cc), (λ ended. (let clash : true ≡ false = sym ended ∙ is.0 in cc)))
by-state account r program (Conflict v newer) is = ((λ h. cc), (λ ended. (let clash : true ≡ false = sym ended ∙ is.0 in cc)))
by-state account r program (Refused op reason at) is = ((λ h. cc), (λ ended. (let clash : true ≡ false = sym ended ∙ is.0 in cc)))

by-stamp : (account : Account) (r : ℕ) (program : Program) (stamp : Option Stamp) (state : ReplyState) → (IsTrue (is_ended account r) → is_some stamp ≡ true)
    → IsStateOf account r stamp (Look program) state → IsTrue (is_finished state) ↔ IsTrue (is_ended account r)
by-stamp account r program None state begun is =
    ((λ h. (let clash : IsTrue (is_finished Unbegun) = subst (λ s. IsTrue (is_finished s)) is h in cc)), (λ ended. (let clash : false ≡ true = begun ended in cc)))
by-stamp account r program (Some stamp) state begun is = by-state account r program state is

module _ (laws : LawsForSteps) (script : Script) (account : Account) (is : IsAccount script account) (r : ℕ) (request : Request) (request-is : request_at script r ≡ Some request) where
  -- what has its reply has its stamp
  replied-stamp : IsTrue (has_reply account r request) → is_some (stamp_of account r) ≡ true
  replied-stamp replied =
      let log = session_log account request.session in
      let begun = replied-begun laws request.session (requests_of_session script request.session) log (is.sessions.logs request.session) r replied in
      ap is_some (sym (is.sessions.stamps r request request-is)) ∙ is-some-map (λ (one : ℕ × Stamp). one.1) (find (λ (one : ℕ × Stamp). one.0 == r) (begins_in log))
      ∙ sym (any-find (λ (one : ℕ × Stamp). one.0 == r) (begins_in log)) ∙ begun

  module _ (look : IsTrue (is_look request.work)) (ends : IsTrue (is_ended account r) ↔ IsTrue (has_reply account r request)) (report : Report) (of : IsReportOfAccount script account report) where
    there : IsReplyHere script account report.replies r r
    there = reply-here script account report.replies 0 (length script.requests) r r of.matches.requests of.matches.replies (slice_get_within script.requests r request request-is) (omega arith)

    -- the report says that a program is finished exactly if it is
    pub finished-exactly : IsTrue (is_finished_in report r) ↔ IsTrue (is_ended account r)
    finished-exactly =
        let reply = there.reply in
        let program = program-of request.work look in
        let at : request_at script reply.request ≡ Some request = ap (request_at script) there.request_is ∙ request-is in
        let stamp : reply.stamp ≡ stamp_of account r = there.matched.stamp_is ∙ ap (stamp_of account) there.request_is in
        let state : IsStateOf account reply.request reply.stamp request.work reply.state =
        subst (λ o. IsSomeAnd o (λ (q : Request). IsStateOf account reply.request reply.stamp q.work reply.state)) at there.matched.state_is in
        let its = subst (λ n. IsStateOf account n reply.stamp (Look program.0) reply.state) there.request_is (subst (λ w. IsStateOf account reply.request reply.stamp w reply.state) program.1 state) in
        let both = by-stamp account r program.0 reply.stamp reply.state (λ ended. ap is_some stamp ∙ replied-stamp (ends.0 ended)) its in
        let same : is_finished_in report r ≡ is_finished reply.state = ap (is_some_and (λ (one : Reply). is_finished one.state)) there.here in
        ((λ h. both.0 (sym same ∙ h)), (λ ended. same ∙ both.1 ended))

-- What weave_account says of finished programs
abbrev pub AreFinishedIfReplied : Type 0
AreFinishedIfReplied = (script : Script) (account : Account) → IsWithinLimits script → IsAccount script account → (r : ℕ) (request : Request) → request_at script r ≡ Some request → IsTrue (is_look request.work)
    → IsTrue (is_ended account r) ↔ IsTrue (has_reply account r request)

module _ (laws : LawsForSteps) (ends : AreFinishedIfReplied) (script : Script) (steps : List Step) (limits : IsWithinLimits script) (is : IsAccount script (trace_of script steps).state.account) where
  -- a program is finished in the logs exactly if a `reply` of it was done
  pub finished-by-reply : (r : ℕ) (request : Request) → request_at script r ≡ Some request → IsTrue (is_look request.work)
      → IsTrue (is_ended (trace_of script steps).state.account r) ↔ IsReplyDone steps (trace_of script steps).answers r
  finished-by-reply r request at look =
      let ended = ends script (trace_of script steps).state.account limits is r request at look in
      let replied = replied-exactly laws script limits steps r request at in
      ((λ h. replied.0 (ended.0 h)), (λ done. ended.1 (replied.1 done)))

  -- and so in their report
  pub reported-by-reply : (report : Report) → IsReportOfAccount script (trace_of script steps).state.account report → report.answers ≡ (trace_of script steps).answers → RepliesFinishPrograms script steps report
  reported-by-reply report of answers r request at look =
      let account = (trace_of script steps).state.account in
      let told = finished-exactly laws script account is r request at look (ends script account limits is r request at look) report of in
      let by = finished-by-reply r request at look in
      ((λ h. subst (λ given. IsReplyDone steps given r) (sym answers) (by.0 (told.0 h))), (λ done. told.1 (by.1 (subst (λ given. IsReplyDone steps given r) answers done))))
