-- If each request has its reply in its session's log, each reply of the report is final; and a program is finished
-- exactly if its session has its reply.
-- Used by `finished_exactly_if_replied`, `replied_requests_are_final` and OpenRequests.
use Rattle.std.proofs.Common.{◌≡◌, ℕ, true, false, List, [], ◌∷◌, IsTrue, Option, Some, None, refl, sym, ap, subst, ◌∙◌}
use Rattle.std.specs.Prelude.{◌↔◌, IsSomeAnd}
use Rattle.std.specs.List.{AllByRecursion}
use Rattle.weave_data.proofs.Ordered.{find_by_key}
use Rattle.vector_stamp.specs.declared.clock.Stamp.{Stamp}
use Rattle.graph_ops.specs.declared.op.Op.{Op}
use Rattle.program_defs.specs.declared.program.Program.{Program}
use Rattle.program_defs.specs.declared.script.Request.{Request}
use Rattle.program_defs.specs.declared.script.Script.{Script}
use Rattle.program_defs.specs.declared.script.Work.{Work}
use Rattle.program_defs.specs.declared.script.Work.TheVariants.{Change, Look}
use Rattle.program_defs.specs.Works.{is_look}
use Rattle.weave_entries.specs.declared.verdict.Verdict.{Verdict}
use Rattle.weave_entries.specs.declared.verdict.Verdict.TheVariants as verdict
use Rattle.weave_entries.specs.SessionReplay.{has_reply_in}
use Rattle.weave_entries.specs.StoreReplay.{Judgement, judgement_of, judgements_of}
use Rattle.report_rules.specs.declared.report.Reply.{Reply}
use Rattle.report_rules.specs.declared.report.ReplyState.{ReplyState}
use Rattle.report_rules.specs.declared.report.ReplyState.TheVariants.{Unbegun, Begun as Running, Committed, Conflict, Refused, Finished}
use Rattle.report_rules.specs.declared.report.Report.{Report}
use Rattle.report_rules.specs.Lookups.{EveryReplyIsFinal, is_final, request_at}
use Rattle.weave_account.specs.declared.account.Account.{Account}
use Rattle.weave_account.specs.Account.{is_ended, session_log, stamp_of}
use Rattle.weave_account.specs.Report.{IsReplyInAccount, IsStateOf, IsStateOfProgram, MatchesAccount, state_by_verdict, state_of_tx}
use Rattle.weave_account.proofs.Basis.{Basis}
use Rattle.weave_account.proofs.Beginning.{begun-stamp}
use Rattle.weave_account.proofs.PhaseOrder.{replied-begun, replied-ended, replied-judged}

-- the state by a verdict is final
verdict-final : (v : Verdict) → IsTrue (is_final (state_by_verdict v))
verdict-final (verdict.Committed number answers counts) = refl
verdict-final (verdict.Conflict v newer) = refl
verdict-final (verdict.Refused op reason at) = refl

-- the state of a program that is finished is final
program-final : (account : Account) (r : ℕ) (program : Program) (state : ReplyState) → IsTrue (is_ended account r)
    → IsStateOfProgram account r program state → IsTrue (is_final state)
program-final account r program (Finished answer) ended is = refl
program-final account r program Unbegun ended is = let clash : true ≡ false = sym ended ∙ is.0 in cc
program-final account r program Running ended is = let clash : true ≡ false = sym ended ∙ is.0 in cc
program-final account r program (Committed number answers) ended is = refl
program-final account r program (Conflict v newer) ended is = refl
program-final account r program (Refused op reason at) ended is = refl

-- and that of a request that was begun and has ended
state-final : (account : Account) (r : ℕ) (stamp : Stamp) (work : Work) (state : ReplyState) → IsTrue (is_ended account r)
    → ((ops : List Op) → work ≡ Change ops → (judged : Judgement) × (judgement_of r account.store ≡ Some judged))
    → IsStateOf account r (Some stamp) work state → IsTrue (is_final state)
state-final account r stamp (Change ops) state ended judged is =
    let its = judged ops refl in
    let state-is : state ≡ state_by_verdict (its.0).verdict = is ∙ ap state_of_tx its.1 in
    subst (λ s. IsTrue (is_final s)) (sym state-is) (verdict-final (its.0).verdict)
state-final account r stamp (Look program) state ended judged is = program-final account r program state ended is

module _ (script : Script) (account : Account) (basis : Basis script account) where
  -- a program is finished exactly if its session has its reply
  pub finished-replied : (r : ℕ) (request : Request) → request_at script r ≡ Some request → IsTrue (is_look request.work)
      → IsTrue (is_ended account r) ↔ IsTrue (has_reply_in r (session_log account request.session))
  finished-replied r request there look =
      (basis.is.sessions.finished_are_replied r request there look, replied-ended script account basis r request.session)

  module _ (all : (r : ℕ) (request : Request) → request_at script r ≡ Some request → IsTrue (has_reply_in r (session_log account request.session))) where
    its-judgement : (r : ℕ) (request : Request) → request_at script r ≡ Some request → (ops : List Op) → request.work ≡ Change ops
        → (judged : Judgement) × (judgement_of r account.store ≡ Some judged)
    its-judgement r request there ops work =
        let judged = replied-judged script account basis r request ops there work (all r request there) in
        (judged.0, subst (λ k. judgement_of k account.store ≡ Some judged.0) judged.2 (find_by_key (λ (j : Judgement). j.request) (judgements_of account.store) judged.0 basis.is.store.once judged.1))

    reply-final : (reply : Reply) → IsReplyInAccount script account reply → IsTrue (is_final reply.state)
    reply-final reply matched = by-request (request_at script reply.request) refl matched.state_is
      where
        by-request : (q : Option Request) → request_at script reply.request ≡ q
            → IsSomeAnd q (λ (request : Request). IsStateOf account reply.request reply.stamp request.work reply.state)
            → IsTrue (is_final reply.state)
        by-request None e h = absurd h
        by-request (Some request) e h =
            let replied = all reply.request request e in
            let b = replied-begun script account basis reply.request request.session replied in
            let stamp : reply.stamp ≡ Some (b.0).stamp =
            matched.stamp_is ∙ ap (stamp_of account) (sym b.2) ∙ begun-stamp account basis.is.gatekeepers.once b.0 b.1 in
            state-final account reply.request (b.0).stamp request.work reply.state
            (replied-ended script account basis reply.request request.session replied) (its-judgement reply.request request e)
            (subst (λ o. IsStateOf account reply.request o request.work reply.state) stamp h)

    each-final : (replies : List Reply) → AllByRecursion (IsReplyInAccount script account) replies
        → AllByRecursion (λ (reply : Reply). IsTrue (is_final reply.state)) replies
    each-final [] matched = tt
    each-final (reply ∷ replies) matched = (reply-final reply matched.0, each-final replies matched.1)

    -- each reply of the report is final
    pub all-final : (report : Report) → MatchesAccount script account report → EveryReplyIsFinal report
    all-final report matches = each-final report.replies matches.replies
