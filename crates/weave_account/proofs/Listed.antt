-- What the printed order of an account lists: the commits of its store, and its finished programs.
-- Used by ConflictsClause, FormOfScript, Heads, ListingClause, Meeting, NumbersClause, PhaseOrder, PhasesKept,
-- RefusalsClause, ReplayClause, Sent, Transactions, Unprocessed and VisitedPairs.
use Rattle.std.proofs.Common.{◌≡◌, ℕ, zero, suc, ◌==◌, List, [], ◌∷◌, ◌++◌, Contains, IsTrue, Option, Some, None, ◌⊎◌, inl, inr, refl, sym, ap, subst, ◌∙◌}
use Rattle.std.specs.Prelude.{IsSomeAnd, slice_get}
use Rattle.std.specs.List.{AllByRecursion, filter_map, cons_option}
use Rattle.std.specs.Option.{option_map}
use Rattle.std.proofs.lemmas.Bool.{eqb-true}
use Rattle.std.proofs.lemmas.List.Concat.{flat_map-append}
use Rattle.vector_stamp.specs.declared.clock.Stamp.{Stamp}
use Rattle.graph_ops.specs.declared.op.Op.{Op}
use Rattle.graph_ops.specs.declared.tx.Got.{Got}
use Rattle.program_defs.specs.declared.program.Answer.{Answer}
use Rattle.program_defs.specs.declared.program.Program.{Program}
use Rattle.program_defs.specs.declared.script.Request.{Request}
use Rattle.program_defs.specs.declared.script.Script.{Script}
use Rattle.program_defs.specs.declared.script.Work.{Work}
use Rattle.program_defs.specs.declared.script.Work.TheVariants.{Change, Look}
use Rattle.weave_entries.specs.declared.store_log.StoreEntry.{StoreEntry}
use Rattle.weave_entries.specs.declared.store_log.StoreDeed.{StoreDeed}
use Rattle.weave_entries.specs.declared.store_log.StoreDeed.TheVariants.{Judged}
use Rattle.weave_entries.specs.declared.verdict.Counted.{Counted}
use Rattle.weave_entries.specs.declared.verdict.Verdict.{Verdict}
use Rattle.weave_entries.specs.declared.verdict.Verdict.TheVariants as verdict
use Rattle.weave_entries.specs.StoreReplay.{Commit, Judgement, judged_by, judgements_of, judgement_of, commit_by, commits_of}
use Rattle.report_rules.specs.declared.report.Reply.{Reply}
use Rattle.report_rules.specs.declared.report.ReplyState.{ReplyState}
use Rattle.report_rules.specs.declared.report.ReplyState.TheVariants.{Unbegun, Begun as Running, Committed, Conflict, Refused, Finished}
use Rattle.report_rules.specs.declared.report.Report.{Report}
use Rattle.report_rules.specs.PrintedOrder.{begun_requests}
use Rattle.report_rules.specs.Lookups.{is_in, is_some_and, request_at, reply_at, is_committed_or_finished, may_be_listed}
use Rattle.weave_account.specs.declared.account.Account.{Account}
use Rattle.weave_account.specs.Account.{commits_in}
use Rattle.weave_account.specs.Store.{Commits, IsRightVerdict, Judges}
use Rattle.weave_account.specs.Report.{state_by_verdict, state_of_tx, IsStateOfProgram, IsStateOf, IsReplyInAccount, MatchesAccount}
use Rattle.weave_data.proofs.Members.{cut_at, find_has, has_map}
use Rattle.weave_data.proofs.Ordered.{find_by_key}
use Rattle.weave_data.proofs.Images.{map-has}
use Rattle.weave_data.proofs.Numbers.{in-head, in-tail}
use Rattle.weave_account.proofs.Storing.{IsVerdictOf}
use Rattle.weave_account.proofs.Replies.{reply-number}
use Rattle.weave_account.proofs.Basis.{Basis}

-- Commits

-- a judgement that commits
pub record IsCommitted (judged : Judgement) (number : ℕ) (answers : List Got) : Type 0 where
  pub counts : List Counted
  pub is : judged.verdict ≡ verdict.Committed number answers counts

-- where a commit is in the store
pub record StandsInStore (script : Script) (account : Account) (r : ℕ) (ops : List Op) (number : ℕ) (answers : List Got) : Type 0 where
  pub before : List StoreEntry
  pub after : List StoreEntry
  pub commit : Commit
  pub request_is : commit.request ≡ r
  pub ops_are : commit.ops ≡ ops
  pub parts : commits_in account ≡ commits_of before ++ commit ∷ commits_of after
  pub before_is : (before' : List StoreEntry) × (account.store ≡ before ++ before')
  pub right : (counts : List Counted) × Commits account (commits_of before) commit.stamp ops number answers counts

-- a verdict that commits makes a commit
pub commit-here : (author : ℕ) (deed : StoreDeed) (number : ℕ) (answers : List Got) (counts : List Counted)
    → (judged_by author deed).verdict ≡ verdict.Committed number answers counts
    → commit_by deed ≡ record { request = (judged_by author deed).request; stamp = (judged_by author deed).stamp; ops = (judged_by author deed).ops } ∷ []
commit-here author (Judged r stamp ops asked (verdict.Committed n a c)) number answers counts e = refl
commit-here author (Judged r stamp ops asked (verdict.Conflict v newer)) number answers counts e = cc
commit-here author (Judged r stamp ops asked (verdict.Refused op reason at)) number answers counts e = cc

-- a verdict that commits has a number, answers and counts
pub verdict-commits : (v : Verdict) → IsVerdictOf v
    → (number : ℕ) × (answers : List Got) × (counts : List Counted) × (v ≡ verdict.Committed number answers counts)
verdict-commits (verdict.Committed number answers counts) h = (number, answers, counts, refl)
verdict-commits (verdict.Conflict v newer) h = absurd h
verdict-commits (verdict.Refused op reason at) h = absurd h

module _ (script : Script) (account : Account) (basis : Basis script account) where
  -- where the judgement of a request is in the store, and that it is right there
  pub record IsJudgedAt (r : ℕ) (judged : Judgement) : Type 0 where
    pub before : List StoreEntry
    pub entry : StoreEntry
    pub after : List StoreEntry
    pub is : account.store ≡ before ++ entry ∷ after
    pub judged_is : judged_by entry.author entry.deed ≡ judged
    pub request_is : judged.request ≡ r
    pub rule : Judges script account before judged

  -- a request that was judged has its place in the store
  pub judged-at : (r : ℕ) (judged : Judgement) → judgement_of r account.store ≡ Some judged → IsJudgedAt r judged
  judged-at r judged e =
      let found = find_has (λ (j : Judgement). j.request == r) (judgements_of account.store) judged e in
      let from = map-has (λ (entry : StoreEntry). judged_by entry.author entry.deed) account.store judged found.0 in
      let place = cut_at account.store from.of from.has in
      record {
        before = place.before;
        entry = from.of;
        after = place.after;
        is = place.is;
        judged_is = from.is;
        request_is = eqb-true judged.request r found.1;
        rule = subst (Judges script account place.before) from.is (basis.is.store.judges place.before from.of place.after place.is);
      }

  -- a judgement is found by its request
  pub judgement-found : (entry : StoreEntry) → Contains account.store entry
      → judgement_of (judged_by entry.author entry.deed).request account.store ≡ Some (judged_by entry.author entry.deed)
  judgement-found entry h =
      find_by_key (λ (j : Judgement). j.request) (judgements_of account.store) (judged_by entry.author entry.deed) basis.is.store.once
      (has_map (λ (e : StoreEntry). judged_by e.author e.deed) account.store entry h)

  -- a request that was judged to commit is a commit of the store
  pub commit-stands : (r : ℕ) (judged : Judgement) (number : ℕ) (answers : List Got) (counts : List Counted)
      → judgement_of r account.store ≡ Some judged → judged.verdict ≡ verdict.Committed number answers counts
      → StandsInStore script account r judged.ops number answers
  commit-stands r judged number answers counts e is =
      let at = judged-at r judged e in
      let here : commit_by (at.entry).deed ≡ record { request = judged.request; stamp = judged.stamp; ops = judged.ops } ∷ [] =
      commit-here (at.entry).author (at.entry).deed number answers counts (ap (λ (j : Judgement). j.verdict) at.judged_is ∙ is)
      ∙ ap (λ (j : Judgement). record { request = j.request; stamp = j.stamp; ops = j.ops } ∷ []) at.judged_is in
      record {
        before = at.before;
        after = at.after;
        commit = record { request = judged.request; stamp = judged.stamp; ops = judged.ops };
        request_is = at.request_is;
        ops_are = refl;
        parts =
            ap commits_of at.is
            ∙ flat_map-append (λ (en : StoreEntry). commit_by en.deed) at.before (at.entry ∷ at.after)
            ∙ ap (λ cs. commits_of at.before ++ (cs ++ commits_of at.after)) here;
        before_is = (at.entry ∷ at.after, at.is);
        right = (counts, subst (λ v. IsRightVerdict account (commits_of at.before) judged.stamp judged.ops v) is (at.rule).verdict);
      }

-- What is listed

-- a committed transaction
pub record IsListedTx (script : Script) (account : Account) (report : Report) (r : ℕ) : Type 0 where
  pub request : Request
  pub request_is : request_at script r ≡ Some request
  pub ops : List Op
  pub work : request.work ≡ Change ops
  pub reply : Reply
  pub reply_is : reply_at report r ≡ Some reply
  pub judged : Judgement
  pub judged_is : judgement_of r account.store ≡ Some judged
  pub number : ℕ
  pub answers : List Got
  pub state : reply.state ≡ Committed number answers
  pub committed : IsCommitted judged number answers

-- a finished program
pub record IsListedProgram (script : Script) (account : Account) (report : Report) (r : ℕ) : Type 0 where
  pub request : Request
  pub request_is : request_at script r ≡ Some request
  pub program : Program
  pub work : request.work ≡ Look program
  pub reply : Reply
  pub reply_is : reply_at report r ≡ Some reply
  pub answer : Answer
  pub state : reply.state ≡ Finished answer
  pub matched : IsStateOfProgram account r program (Finished answer)

module _ (script : Script) (account : Account) (report : Report) (r : ℕ) (request : Request) (request-is : request_at script r ≡ Some request) (reply : Reply) (reply-is : reply_at report r ≡ Some reply) where
  listed-verdict : (ops : List Op) → request.work ≡ Change ops → (j : Judgement) → judgement_of r account.store ≡ Some j
      → (v : Verdict) → j.verdict ≡ v → reply.state ≡ state_by_verdict v → IsTrue (is_committed_or_finished (state_by_verdict v))
      → IsListedTx script account report r
  listed-verdict ops work j e (verdict.Committed number answers counts) is reported h =
      record { request = request; request_is = request-is; ops = ops; work = work; reply = reply; reply_is = reply-is; judged = j; judged_is = e; number = number; answers = answers; state = reported; committed = record { counts = counts; is = is } }
  listed-verdict ops work j e (verdict.Conflict v newer) is reported h = cc
  listed-verdict ops work j e (verdict.Refused op reason at) is reported h = cc

  listed-tx : (ops : List Op) → request.work ≡ Change ops → (o : Option Judgement) → judgement_of r account.store ≡ o
      → reply.state ≡ state_of_tx o → IsTrue (is_committed_or_finished (state_of_tx o)) → IsListedTx script account report r
  listed-tx ops work None e reported h = cc
  listed-tx ops work (Some j) e reported h = listed-verdict ops work j e j.verdict refl reported h

  listed-program : (program : Program) → request.work ≡ Look program → (state : ReplyState) → reply.state ≡ state
      → IsStateOfProgram account r program state → IsTrue (is_committed_or_finished state)
      → IsListedProgram script account report r
  listed-program program work (Finished answer) e reported h =
      record { request = request; request_is = request-is; program = program; work = work; reply = reply; reply_is = reply-is; answer = answer; state = e; matched = reported }
  listed-program program work Unbegun e reported h = cc
  listed-program program work Running e reported h = cc
  listed-program program work (Committed number answers) e reported h = let s = reported.1 in cc
  listed-program program work (Conflict v newer) e reported h = cc
  listed-program program work (Refused op reason at) e reported h = cc

  listed-work : (stamp : Option Stamp) (work : Work) → request.work ≡ work → IsStateOf account r stamp work reply.state
      → IsTrue (is_committed_or_finished reply.state)
      → IsListedTx script account report r ⊎ IsListedProgram script account report r
  listed-work None work is reported h =
      let none : IsTrue (is_committed_or_finished Unbegun) = subst (λ s. IsTrue (is_committed_or_finished s)) reported h in cc
  listed-work (Some stamp) (Change ops) is reported h =
      inl (listed-tx ops is (judgement_of r account.store) refl reported (subst (λ s. IsTrue (is_committed_or_finished s)) reported h))
  listed-work (Some stamp) (Look program) is reported h = inr (listed-program program is reply.state refl reported h)

module _ (script : Script) (account : Account) (report : Report) (reported : MatchesAccount script account report) where
  some-reply : (o : Option Reply) → IsTrue (is_some_and (λ (reply : Reply). is_committed_or_finished reply.state) o)
      → (reply : Reply) × (o ≡ Some reply) × IsTrue (is_committed_or_finished reply.state)
  some-reply None h = cc
  some-reply (Some reply) h = (reply, refl, h)

  some-request : (o : Option Request) (P : Request → Type 0) → IsSomeAnd o P
      → (request : Request) × (o ≡ Some request) × P request
  some-request None P h = absurd h
  some-request (Some request) P h = (request, refl, h)

  all-in : (replies : List Reply) (i : ℕ) (reply : Reply) → AllByRecursion (IsReplyInAccount script account) replies
      → slice_get replies i ≡ Some reply → IsReplyInAccount script account reply
  all-in [] i reply h e = cc
  all-in (first ∷ replies) zero reply h e = let same : first ≡ reply = cc in subst (IsReplyInAccount script account) same h.0
  all-in (first ∷ replies) (suc i) reply h e = all-in replies i reply h.1 e

  -- what may be listed is a committed transaction or a finished program
  pub listed-is : (r : ℕ) → IsTrue (may_be_listed report r)
      → IsListedTx script account report r ⊎ IsListedProgram script account report r
  listed-is r h =
      let there = some-reply (reply_at report r) h in
      let number = reply-number script account report reported r there.0 there.1 in
      let matched = all-in report.replies r there.0 reported.replies there.1 in
      let request = some-request (request_at script (there.0).request) _ matched.state_is in
      listed-work script account report r request.0 (subst (λ k. request_at script k ≡ Some request.0) number request.1) there.0 there.1
      (there.0).stamp (request.0).work refl
      (subst (λ k. IsStateOf account k (there.0).stamp (request.0).work (there.0).state) number request.2) there.2

  -- a request with a stamp is among those begun
  pub in-begun : (r : ℕ) (stamp : Stamp) (reply : Reply) → reply_at report r ≡ Some reply → reply.stamp ≡ Some stamp
      → IsTrue (is_in reply.request (begun_requests report))
  in-begun r stamp reply at stamped = from report.replies r at
    where
      from : (replies : List Reply) (i : ℕ) → slice_get replies i ≡ Some reply
          → IsTrue (is_in reply.request (filter_map (λ (e : Reply). option_map (λ (s : Stamp). e.request) e.stamp) replies))
      from [] i e = cc
      from (first ∷ replies) zero e =
          let same : first ≡ reply = cc in
          subst (λ (k : Reply). IsTrue (is_in reply.request (cons_option (option_map (λ (s : Stamp). k.request) k.stamp) (filter_map (λ (e : Reply). option_map (λ (s : Stamp). e.request) e.stamp) replies))))
          (sym same)
          (subst (λ s. IsTrue (is_in reply.request (cons_option (option_map (λ (s : Stamp). reply.request) s) (filter_map (λ (e : Reply). option_map (λ (s : Stamp). e.request) e.stamp) replies)))) (sym stamped)
          (in-head reply.request _))
      from (first ∷ replies) (suc i) e = more (option_map (λ (s : Stamp). first.request) first.stamp) (from replies i e)
        where
          more : (o : Option ℕ)
              → IsTrue (is_in reply.request (filter_map (λ (e : Reply). option_map (λ (s : Stamp). e.request) e.stamp) replies))
              → IsTrue (is_in reply.request (cons_option o (filter_map (λ (e : Reply). option_map (λ (s : Stamp). e.request) e.stamp) replies)))
          more None h = h
          more (Some n) h = in-tail reply.request n _ h
