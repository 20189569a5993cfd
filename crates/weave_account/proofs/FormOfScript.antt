-- The report of an account is a report of the script: its replies, pairs and order have the forms of lines.
-- Used by RightReport.
use Rattle.std.proofs.Common.{◌≡◌, ℕ, Bool, ◌==◌, ◌&&◌, List, [], ◌∷◌, map, length, Contains, IsTrue, Option, Some, None, refl, sym, subst, ◌∙◌}
use Rattle.std.specs.Prelude.{IsSomeAnd, reverse}
use Rattle.std.specs.List.{AllByRecursion}
use Rattle.std.proofs.lemmas.Bool.{and_from, eq-eqb, lt-ltb}
use Rattle.std.proofs.lemmas.Option.{slice_get_within}
use Rattle.vector_stamp.specs.declared.clock.Stamp.{Stamp}
use Rattle.vector_stamp.specs.Precedence.{GivenPair}
use Rattle.graph_ops.specs.PlainGraph.{PlainGraph, TxOutcome}
use Rattle.graph_ops.specs.declared.op.Op.{Op}
use Rattle.graph_ops.specs.declared.tx.Got.{Got}
use Rattle.program_defs.specs.declared.program.Answer.{Answer}
use Rattle.program_defs.specs.declared.program.Answer.TheVariants.{Shown, Reached, Found, Walk, Priced}
use Rattle.program_defs.specs.declared.program.Program.{Program}
use Rattle.program_defs.specs.declared.program.Program.TheVariants.{Show, Reach, Around, Path, Price}
use Rattle.program_defs.specs.PlainAnswer.{IsPlainAnswer}
use Rattle.program_defs.specs.declared.script.Request.{Request}
use Rattle.program_defs.specs.declared.script.Script.{Script}
use Rattle.program_defs.specs.declared.script.Work.{Work}
use Rattle.program_defs.specs.declared.script.Work.TheVariants.{Change, Look}
use Rattle.weave_entries.specs.declared.verdict.Verdict.{Verdict}
use Rattle.weave_entries.specs.declared.verdict.Verdict.TheVariants as verdict
use Rattle.weave_entries.specs.StoreReplay.{Judgement, judgement_of, commits_of, graph_committed, names_vertex as names}
use Rattle.report_rules.specs.declared.report.Pair.{Pair}
use Rattle.report_rules.specs.declared.report.Reply.{Reply}
use Rattle.report_rules.specs.declared.report.ReplyState.{ReplyState}
use Rattle.report_rules.specs.declared.report.ReplyState.TheVariants.{Unbegun, Begun as Running, Committed, Conflict, Refused, Finished}
use Rattle.report_rules.specs.declared.report.Report.{Report}
use Rattle.report_rules.specs.ReportOf.{is_request_of, is_stamp_of, numbers_of_gets, has_form_for, MatchesWork, IsReplyOf, IsReportOf}
use Rattle.report_rules.specs.ReportOf as form
use Rattle.report_rules.specs.Lookups.{is_none_or, is_some_and, request_at}
use Rattle.weave_account.proofs.GetsNumbered.{IsNumbered, gets-numbered}
use Rattle.weave_account.specs.declared.account.Account.{Account}
use Rattle.weave_account.specs.Account.{stamp_of, pairs_in}
use Rattle.weave_account.specs.Store.{Commits, Conflicts, IsRightVerdict}
use Rattle.weave_account.specs.Pairs.{ArePairsOf}
use Rattle.weave_account.specs.Report.{state_by_verdict, state_of_tx, IsStateOfProgram, IsStateOf, IsReportOfAccount}
use Rattle.weave_account.proofs.Listed.{judged-at}
use Rattle.weave_account.proofs.ListingClause.{matches-of, begun-stamped}
use Rattle.weave_data.proofs.Members.{find_has}
use Rattle.weave_data.proofs.Numbers.{of-numbers}
use Rattle.weave_data.proofs.ListPlaces.{all-from}
use Rattle.weave_account.proofs.Printing.{order-has}
use Rattle.weave_account.proofs.Replying.{begun-rightly}
use Rattle.weave_account.proofs.RepliesClause.{begin-of}
use Rattle.weave_account.proofs.Transactions.{known}
use Rattle.weave_account.proofs.ConflictsClause.{commits-before, reverse-has}
use Rattle.weave_account.proofs.Basis.{Basis}
use Rattle.std.proofs.Common.{ap}
use Rattle.weave_account.proofs.BegunStamps.{stamp-of-script}

-- a plain answer has the program's form
answer-form : (graph : PlainGraph) (program : Program) (answer : Answer) → IsPlainAnswer graph program answer
    → IsTrue (has_form_for program answer)
answer-form graph (Show v) (Shown state) is = refl
answer-form graph (Reach from to pass) (Reached reached) is = refl
answer-form graph (Around from bound pass) (Found vertices) is = refl
answer-form graph (Path from to bound pass) (Walk walk) is = refl
answer-form graph (Price from to key) (Priced (Some walk) total bounds) is = is.priced.rising
answer-form graph (Price from to key) (Priced None total bounds) is =
    and_from (total == 0) _ (eq-eqb total 0 is.led.0) is.priced.rising
answer-form graph (Show v) (Reached reached) is = absurd is
answer-form graph (Show v) (Found vertices) is = absurd is
answer-form graph (Show v) (Walk walk) is = absurd is
answer-form graph (Reach from to pass) (Shown state) is = absurd is
answer-form graph (Reach from to pass) (Found vertices) is = absurd is
answer-form graph (Reach from to pass) (Walk walk) is = absurd is
answer-form graph (Around from bound pass) (Shown state) is = absurd is
answer-form graph (Around from bound pass) (Reached reached) is = absurd is
answer-form graph (Around from bound pass) (Walk walk) is = absurd is
answer-form graph (Path from to bound pass) (Shown state) is = absurd is
answer-form graph (Path from to bound pass) (Reached reached) is = absurd is
answer-form graph (Path from to bound pass) (Found vertices) is = absurd is
answer-form graph (Show v) (Priced walk total bounds) is = absurd is
answer-form graph (Reach from to pass) (Priced walk total bounds) is = absurd is
answer-form graph (Around from bound pass) (Priced walk total bounds) is = absurd is
answer-form graph (Path from to bound pass) (Priced walk total bounds) is = absurd is
answer-form graph (Price from to key) (Shown state) is = absurd is
answer-form graph (Price from to key) (Reached reached) is = absurd is
answer-form graph (Price from to key) (Found vertices) is = absurd is
answer-form graph (Price from to key) (Walk walk) is = absurd is

module _ (script : Script) (account : Account) (basis : Basis script account) (report : Report) (reported : IsReportOfAccount script account report) where
  request-there : (r : ℕ) (stamp : Stamp) → stamp_of account r ≡ Some stamp → IsTrue (is_request_of script r)
  request-there r stamp e =
      let b = begin-of script account basis r stamp e in
      let right = begun-rightly script account basis b.0 b.1 in
      at right.home right.kind (request_at script r) refl
      (subst (λ k. IsTrue (is_some_and (λ (request : Request). (request.gate == right.home) && right.kind request.work) (request_at script k))) b.2 (right.rule).own)
    where
      at : (h : ℕ) (kind : Work → Bool) (q : Option Request) → request_at script r ≡ q
          → IsTrue (is_some_and (λ (request : Request). (request.gate == h) && kind request.work) q)
          → IsTrue (is_request_of script r)
      at home kind None is h = cc
      at home kind (Some request) is h = lt-ltb r (length script.requests) (slice_get_within script.requests r request is)

  work-there : (r : ℕ) (ops : List Op) → IsSomeAnd (request_at script r) (λ (request : Request). request.work ≡ Change ops)
      → IsTrue (is_request_of script r)
  work-there r ops h = at (request_at script r) refl h
    where
      at : (q : Option Request) → request_at script r ≡ q → IsSomeAnd q (λ (request : Request). request.work ≡ Change ops)
          → IsTrue (is_request_of script r)
      at None is k = absurd k
      at (Some request) is k = lt-ltb r (length script.requests) (slice_get_within script.requests r request is)

  -- a line can say a verdict
  verdict-form : (r : ℕ) (request : Request) → request_at script r ≡ Some request → (stamp : Stamp) (ops : List Op)
      → request.work ≡ Change ops → (j : Judgement) → judgement_of r account.store ≡ Some j → (v : Verdict) → j.verdict ≡ v
      → MatchesWork script (Change ops) (Some stamp) (state_by_verdict v)
  verdict-form r request there stamp ops work j found (verdict.Committed number answers counts) is =
      let place = judged-at script account basis r j found in
      let right : Commits account (commits_of place.before) j.stamp j.ops number answers counts =
      subst (λ k. IsRightVerdict account (commits_of place.before) j.stamp j.ops k) is (place.rule).verdict in
      let judged-work : IsSomeAnd (request_at script r) (λ (q : Request). q.work ≡ Change j.ops) =
      subst (λ k. IsSomeAnd (request_at script k) (λ (q : Request). q.work ≡ Change j.ops)) place.request_is (place.rule).work in
      let works : request.work ≡ Change j.ops = subst (λ q. IsSomeAnd q (λ (q : Request). q.work ≡ Change j.ops)) there judged-work in
      let clash : Change ops ≡ Change j.ops = sym work ∙ works in
      let same : ops ≡ j.ops = cc in
      subst (λ xs. map (λ (got : Got). got.op) answers ≡ numbers_of_gets 1 xs) (sym same)
      (subst (λ (o : TxOutcome). IsNumbered (numbers_of_gets 1 j.ops) o) right.passes (gets-numbered j.ops 1 (graph_committed (commits_of place.before))))
  verdict-form r request there stamp ops work j found (verdict.Conflict v newer) is =
      let place = judged-at script account basis r j found in
      let conflict : Conflicts account (commits_of place.before) j.stamp j.ops v newer =
      subst (λ k. IsRightVerdict account (commits_of place.before) j.stamp j.ops k) is (place.rule).verdict in
      let last = conflict.last in
      let in-before = find_has (names v) (reverse (commits_of place.before)) last conflict.last_is in
      let in-all =
      commits-before script account basis report reported place.before (place.entry ∷ place.after) place.is last
      (reverse-has (commits_of place.before) last in-before.0) in
      subst (λ n. IsTrue (is_request_of script n)) conflict.newer_is
      (work-there last.request last.ops (known script account basis report reported last in-all).work)
  verdict-form r request there stamp ops work j found (verdict.Refused op reason at) is = tt

  state-form : (r : ℕ) (request : Request) → request_at script r ≡ Some request → (stamp : Option Stamp) (work : Work)
      → request.work ≡ work → (state : ReplyState) → IsStateOf account r stamp work state → MatchesWork script work stamp state
  state-form r request there None work is state matched = subst (λ s. MatchesWork script work None s) (sym matched) tt
  state-form r request there (Some stamp) (Change ops) is state matched =
      subst (λ s. MatchesWork script (Change ops) (Some stamp) s) (sym matched) (at (judgement_of r account.store) refl)
    where
      at : (o : Option Judgement) → judgement_of r account.store ≡ o
          → MatchesWork script (Change ops) (Some stamp) (state_of_tx o)
      at None e = tt
      at (Some j) e = verdict-form r request there stamp ops is j e j.verdict refl
  state-form r request there (Some stamp) (Look program) is state matched = at state matched
    where
      at : (s : ReplyState) → IsStateOfProgram account r program s → MatchesWork script (Look program) (Some stamp) s
      at (Finished answer) t = answer-form _ program answer t.1
      at Unbegun t = let e = t.1 in cc
      at Running t = tt
      at (Committed number answers) t = let e = t.1 in cc
      at (Conflict v newer) t = let e = t.1 in cc
      at (Refused op reason a) t = let e = t.1 in cc

  stamp-form : (r : ℕ) (s : Option Stamp) → s ≡ stamp_of account r → IsTrue (is_none_or (is_stamp_of script) s)
  stamp-form r None e = refl
  stamp-form r (Some stamp) e =
      let b = begin-of script account basis r stamp (sym e) in
      let right = begun-rightly script account basis b.0 b.1 in
      subst (λ s. IsTrue (is_stamp_of script s)) b.3
      (stamp-of-script script account basis right.home b.0 right.there (right.rule).small (ap (λ (s : Stamp). s.home) (right.rule).stamp_is))

  reply-form : (reply : Reply) → Contains report.replies reply → IsReplyOf script reply
  reply-form reply h =
      let matched = matches-of script account basis report reported.matches reply h in
      (stamp-form reply.request reply.stamp matched.stamp_is, at (request_at script reply.request) refl matched.state_is)
    where
      at : (q : Option Request) → request_at script reply.request ≡ q
          → IsSomeAnd q (λ (request : Request). IsStateOf account reply.request reply.stamp request.work reply.state)
          → IsSomeAnd q (λ (request : Request). MatchesWork script request.work reply.stamp reply.state)
      at None e reported = absurd reported
      at (Some request) e reported = state-form reply.request request e reply.stamp request.work refl reply.state reported

  pairs-form : (pairs : List Pair) (givens : List GivenPair) → ArePairsOf account pairs givens
      → AllByRecursion (form.IsPairOf script) pairs
  pairs-form [] givens are = tt
  pairs-form (pair ∷ pairs) [] are = absurd are
  pairs-form (pair ∷ pairs) (given ∷ givens) are =
      (and_from _ _ (request-there pair.earlier given.0 (are.0).earlier_is) (request-there pair.later given.1 (are.0).later_is), pairs-form pairs givens are.1)

  -- the report is one of the script
  pub of-script : IsReportOf script report
  of-script = record {
    replies = all-from (IsReplyOf script) report.replies reply-form;
    pairs = pairs-form report.pairs (pairs_in account) reported.matches.pairs;
    order = of-numbers (λ r. IsTrue (is_request_of script r)) report.order (λ r h. let begun = begun-stamped script account basis report reported.matches r (order-has report report.order reported.order r h).0 in request-there r begun.0 begun.1);
  }
