-- The parts of a report are those of the account.
-- Used by Unordered.
use Rattle.std.proofs.Common.{◌≡◌, ℕ, zero, suc, ◌<◌, false, List, [], ◌∷◌, length, map, Contains, Option, None, Some, inl, inr, refl, sym, ap, subst, ◌∙◌, arith}
use Rattle.std.specs.Prelude.{IsSomeAnd, slice_get}
use Rattle.std.specs.List.{AllByRecursion, range_with_len}
use Rattle.std.proofs.lemmas.Bool.{cases_Bool}
use Rattle.std.proofs.lemmas.List.{length-map}
use Rattle.std.proofs.lemmas.List.FromFn.{length-range_with_len}
use Rattle.std.proofs.lemmas.Option.{slice_get_within}
use Rattle.weave_data.proofs.Members.{map_has}
use Rattle.vector_stamp.specs.declared.clock.Stamp.{Stamp}
use Rattle.graph_ops.specs.declared.op.Op.{Op}
use Rattle.program_defs.specs.Limits.{IsWithinLimits}
use Rattle.program_defs.specs.Works.{is_look}
use Rattle.program_defs.specs.declared.program.Program.{Program}
use Rattle.program_defs.specs.declared.script.Request.{Request}
use Rattle.program_defs.specs.declared.script.Script.{Script}
use Rattle.program_defs.specs.declared.script.Work.{Work}
use Rattle.program_defs.specs.declared.script.Work.TheVariants.{Change, Look}
use Rattle.report_rules.specs.Lookups.{request_at}
use Rattle.report_rules.specs.declared.report.Reply.{Reply}
use Rattle.report_rules.specs.declared.report.ReplyState.{ReplyState}
use Rattle.report_rules.specs.declared.report.Report.{Report}
use Rattle.weave_account.specs.declared.account.Account.{Account}
use Rattle.weave_account.specs.Account.{is_ended, pairs_in, session_log, stamp_of}
use Rattle.weave_account.specs.IsAccount.{IsAccount}
use Rattle.weave_account.specs.Pairs.{ArePairsOf}
use Rattle.weave_account.specs.Report.{IsReplyInAccount, IsStateOf, MatchesAccount}
use Rattle.weaver_core.specs.Sessions.{SessionValues, values_at}
use Rattle.weaver_core.specs.Reporting.{AreRequestsReplies, AreStampsOf, IsFoundAmong, IsRequestsReply, IsStateFound, state_replied, state_stamped}
use Rattle.weaver_core.specs.Splitting.{AreAllByLog}
use Rattle.weaver_core.specs.Staying.{StayLaws}

-- what holds at each place holds of all
all-places : {A : Type 0} (P : A → Type 0) (xs : List A) → ((i : ℕ) (x : A) → slice_get xs i ≡ Some x → P x) → AllByRecursion P xs
all-places P [] each = tt
all-places P (x ∷ xs) each = (each zero x refl, all-places P xs (λ i y at. each (suc i) y at))

module _ (stay : StayLaws) (script : Script) (account : Account) (limits : IsWithinLimits script) (is : IsAccount script account) (values : List SessionValues) (all : AreAllByLog script account values)
    (stamps : List (Option Stamp)) (stamps-are : AreStampsOf account stamps) (many : length stamps ≡ length script.requests) where
  -- the state of a transaction
  change-is : (r : ℕ) (ops : List Op) (stamp : Option Stamp) → IsStateOf account r stamp (Change ops) (state_stamped account.store r stamp)
  change-is r ops None = refl
  change-is r ops (Some stamp) = refl

  module _ (r : ℕ) (request : Request) (at : request_at script r ≡ Some request) where
    abbrev replies : List Reply
    replies = (values_at values request.session).replies

    -- the state of a program that has begun
    found-is : (program : Program) → request.work ≡ Look program → (stamp : Stamp) → stamp_of account r ≡ Some stamp → (found : Option Reply) → IsFoundAmong replies r found → IsStateOf account r (Some stamp) (Look program) (state_replied found)
    found-is program looks stamp stamped None none = (running, refl)
      where
        running : is_ended account r ≡ false
        running = elim (cases_Bool (is_ended account r)) [
          | inl ended ↦
              let replied = (stay.replied_tested r (session_log account request.session)).0 ((stay.replied script account limits is r request at (ap is_look looks)).0 ended) in
              let kept = (all.each request.session (limits.sessions r request at)).replies in
              let from = map_has (λ (one : Reply). one.request) replies r (subst (λ (rs : List ℕ). Contains rs r) (sym kept.requests) replied) in
              absurd (none from.0 from.1 from.2)
          | inr on ↦ on
        ]
    found-is program looks stamp stamped (Some reply) found =
        let kept = (all.each request.session (limits.sessions r request at)).replies.each reply found.0 in
        let stamp-is : reply.stamp ≡ Some stamp = kept.stamp_is ∙ ap (stamp_of account) found.1 ∙ stamped in
        subst (λ (work : Work). IsStateOf account r (Some stamp) work reply.state) looks
        (subst (λ (o : Option Stamp). IsStateOf account r o request.work reply.state) stamp-is
        (subst (λ (o : Option Request). IsSomeAnd o (λ (one : Request). IsStateOf account r reply.stamp one.work reply.state)) at
        (subst (λ n. IsSomeAnd (request_at script n) (λ (one : Request). IsStateOf account n reply.stamp one.work reply.state)) found.1 kept.state_is)))

    state-is : (work : Work) → request.work ≡ work → (stamp : Option Stamp) → stamp ≡ stamp_of account r → (state : ReplyState) → IsStateFound account.store replies r stamp work state → IsStateOf account r stamp work state
    state-is (Change ops) work-is stamp stamp-is state found = subst (λ (one : ReplyState). IsStateOf account r stamp (Change ops) one) (sym found) (change-is r ops stamp)
    state-is (Look program) work-is None stamp-is state found = found
    state-is (Look program) work-is (Some stamp) stamp-is state found =
        subst (λ (one : ReplyState). IsStateOf account r (Some stamp) (Look program) one) (sym found.state_is) (found-is program work-is stamp (sym stamp-is) found.found found.is_found)

    reply-is : (reply : Reply) → IsRequestsReply account.store values stamps r request reply → r < length script.requests → IsReplyInAccount script account reply
    reply-is reply one below =
        let known = stamps-are r (omega (arith, below, many)) in
        let stamp-is = one.stamp_is ∙ known in
        let state = state-is request.work refl reply.stamp stamp-is reply.state (subst (λ (o : Option Stamp). IsStateFound account.store replies r o request.work reply.state) (sym one.stamp_is) one.state_is) in
        record {
          stamp_is = stamp-is ∙ ap (stamp_of account) (sym one.request_is);
          state_is = subst (λ n. IsSomeAnd (request_at script n) (λ (k : Request). IsStateOf account n reply.stamp k.work reply.state)) (sym one.request_is)
              (subst (λ (o : Option Request). IsSomeAnd o (λ (k : Request). IsStateOf account r reply.stamp k.work reply.state)) (sym at) state);
        }

  -- a report with the replies that are found so, and with the account's pairs, is the account's but for its order
  pub parts-match : ((r : ℕ) → r < length script.requests → (request : Request) × (request_at script r ≡ Some request)) → (report : Report) → AreRequestsReplies account.store values stamps script.requests (length script.requests) report.replies → ArePairsOf account report.pairs (pairs_in account) → MatchesAccount script account report
  parts-match there report replies pairs = record {
    requests = replies.numbered;
    replies = all-places (IsReplyInAccount script account) report.replies (λ r reply at.
        let below : r < length script.requests = omega (arith, slice_get_within report.replies r reply at, count report.replies replies.numbered) in
        let request = there r below in
        reply-is r request.0 request.1 reply (replies.each r reply at request.0 request.1) below);
    pairs = pairs;
  }
    where
      count : (xs : List Reply) → map (λ (reply : Reply). reply.request) xs ≡ range_with_len 0 (length script.requests) → length xs ≡ length script.requests
      count xs e = sym (length-map xs (λ (reply : Reply). reply.request)) ∙ ap length e ∙ length-range_with_len 0 (length script.requests)
