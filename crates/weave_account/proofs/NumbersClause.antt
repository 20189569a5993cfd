-- The last clause of a right report, of the report of an account: the commit numbers are 1 up to their count. It rests
-- on the clause on the store: a commit's number is its place among the commits.
-- Used by PhasesKept, RefusalsClause and RightReport.
use Rattle.std.proofs.Common.{◌≡◌, ◌≢◌, ℕ, zero, suc, ◌+◌, ◌<◌, ◌≤◌, Bool, true, false, cond, ◌==◌, List, [], ◌∷◌, ◌++◌, length, Contains, AllPairs, IsTrue, Option, Some, None, ◌⊎◌, inl, inr, refl, sym, ap, subst, ◌∙◌, arith}
use Rattle.std.specs.Prelude.{IsSomeAnd, slice_get}
use Rattle.std.specs.List.{filter_map, list_any, cons_option}
use Rattle.std.proofs.lemmas.Bool.{or_cases, and_from, lt-ltb, le-leb, eqb-true}
use Rattle.std.proofs.lemmas.List.{append_assoc, length-append, length-map}
use Rattle.std.proofs.lemmas.List.Elements.{Contains-append_left}
use Rattle.weave_data.proofs.Lists.{get-here}
use Rattle.std.proofs.lemmas.List.Concat.{flat_map-append}
use Rattle.weave_data.proofs.Members.{has_head, has_tail, cut_at, has_cut, has_map}
use Rattle.graph_ops.specs.declared.tx.Got.{Got}
use Rattle.program_defs.specs.declared.script.Request.{Request}
use Rattle.program_defs.specs.declared.script.Script.{Script}
use Rattle.program_defs.specs.declared.script.Work.TheVariants.{Change, Look}
use Rattle.weave_entries.specs.declared.store_log.StoreDeed.{StoreDeed}
use Rattle.weave_entries.specs.declared.store_log.StoreDeed.TheVariants.{Judged}
use Rattle.weave_account.proofs.Replies.{reply-number}
use Rattle.weave_entries.specs.declared.store_log.StoreEntry.{StoreEntry}
use Rattle.weave_entries.specs.declared.verdict.Verdict.TheVariants as verdict
use Rattle.weave_entries.specs.StoreReplay.{Commit, Judgement, judged_by, judgements_of, commit_by, commits_of}
use Rattle.report_rules.specs.declared.report.Reply.{Reply}
use Rattle.report_rules.specs.declared.report.ReplyState.{ReplyState}
use Rattle.report_rules.specs.declared.report.ReplyState.TheVariants.{Unbegun, Begun as Running, Committed, Conflict, Refused, Finished}
use Rattle.report_rules.specs.declared.report.Report.{Report}
use Rattle.weave_data.specs.Facts.{AllHold}
use Rattle.report_rules.specs.RightReport.{is_number_in_place, numbers_clause}
use Rattle.report_rules.specs.Lookups.{is_in, is_some_and, request_at, committed_number, commits}
use Rattle.weave_account.specs.declared.account.Account.{Account}
use Rattle.weave_account.specs.Account.{commits_in}
use Rattle.weave_account.specs.Store.{Commits, IsRightVerdict}
use Rattle.weave_account.specs.Report.{IsReportOfAccount}
use Rattle.weave_data.proofs.Images.{IsImage, map-has, flat-has}
use Rattle.weave_data.proofs.Numbers.{has-in, in-head, in-tail}
use Rattle.weave_data.proofs.Counting.{IsOnce, no-longer, Apart, First, Same, Second, apart}
use Rattle.weave_data.proofs.ListPlaces.{facts-hold, not-true}
use Rattle.weave_account.proofs.Listed.{IsListedProgram, IsJudgedAt, judged-at, listed-is}
use Rattle.weave_data.proofs.Ordered.{pairs_head, pairs_tail}
use Rattle.weave_account.proofs.Printing.{order-has}
use Rattle.weave_account.proofs.Storing.{IsVerdictOf, IsCommitOf, requests_of_commits, commit-of}
use Rattle.weave_account.proofs.Transactions.{known, commits-listed}
use Rattle.weave_account.proofs.ConflictsClause.{IsVerdictState, verdict-of, reported-committed}
use Rattle.weave_account.proofs.Basis.{Basis}

-- the requests of the replies with commit numbers
abbrev numbered-requests : List Reply → List ℕ
numbered-requests [] = []
numbered-requests (reply ∷ replies) =
    cond (is_some_and (λ n. true) (committed_number reply.state)) (reply.request ∷ numbered-requests replies) (numbered-requests replies)

numbered-length : (replies : List Reply)
    → length (numbered-requests replies) ≡ length (filter_map (λ (reply : Reply). committed_number reply.state) replies)
numbered-length [] = refl
numbered-length (reply ∷ replies) = at (committed_number reply.state) (numbered-length replies)
  where
    at : (o : Option ℕ)
        → length (numbered-requests replies) ≡ length (filter_map (λ (reply : Reply). committed_number reply.state) replies)
        → length (cond (is_some_and (λ n. true) o) (reply.request ∷ numbered-requests replies) (numbered-requests replies)) ≡ length (cons_option o (filter_map (λ (reply : Reply). committed_number reply.state) replies))
    at None e = e
    at (Some n) e = ap suc e

in-numbered : (replies : List Reply) (i : ℕ) (reply : Reply) (number : ℕ) → slice_get replies i ≡ Some reply
    → committed_number reply.state ≡ Some number → IsTrue (is_in reply.request (numbered-requests replies))
in-numbered [] i reply number e is = cc
in-numbered (first ∷ replies) zero reply number e is =
    let same : first ≡ reply = cc in
    subst (λ (k : Reply). IsTrue (is_in reply.request (cond (is_some_and (λ n. true) (committed_number k.state)) (k.request ∷ numbered-requests replies) (numbered-requests replies))))
    (sym same)
    (subst (λ o. IsTrue (is_in reply.request (cond (is_some_and (λ n. true) o) (reply.request ∷ numbered-requests replies) (numbered-requests replies)))) (sym is) (in-head reply.request _))
in-numbered (first ∷ replies) (suc i) reply number e is =
    more (is_some_and (λ n. true) (committed_number first.state)) (in-numbered replies i reply number e is)
  where
    more : (b : Bool) → IsTrue (is_in reply.request (numbered-requests replies))
        → IsTrue (is_in reply.request (cond b (first.request ∷ numbered-requests replies) (numbered-requests replies)))
    more true h = in-tail reply.request first.request _ h
    more false h = h

module _ (script : Script) (account : Account) (basis : Basis script account) (report : Report) (reported : IsReportOfAccount script account report) where
  -- How many commits there are

  -- if a log judges no request twice, no request commits twice in it
  pub once-from : (log : List StoreEntry) → AllPairs (λ (a b : Judgement). a.request ≢ b.request) (judgements_of log)
      → IsOnce (requests_of_commits (commits_of log))
  once-from [] pairs = tt
  once-from (entry ∷ log) pairs =
      at (commit_by entry.deed) (λ c h. commit-of entry.author entry.deed c h) (few entry.deed)
      (once-from log (pairs_tail (λ (a b : Judgement). a.request ≢ b.request) _ (judgements_of log) pairs))
    where
      few : (deed : StoreDeed) → (commit_by deed ≡ []) ⊎ ((c : Commit) × (commit_by deed ≡ c ∷ []))
      few (Judged r stamp ops asked (verdict.Committed number answers counts)) = inr (_, refl)
      few (Judged r stamp ops asked (verdict.Conflict v newer)) = inl refl
      few (Judged r stamp ops asked (verdict.Refused op reason at)) = inl refl

      at : (cs : List Commit)
          → ((c : Commit) → Contains (commit_by entry.deed) c → IsCommitOf (judged_by entry.author entry.deed) c)
          → (commit_by entry.deed ≡ []) ⊎ ((c : Commit) × (commit_by entry.deed ≡ c ∷ []))
          → IsOnce (requests_of_commits (commits_of log)) → IsOnce (requests_of_commits (commit_by entry.deed ++ commits_of log))
      at cs of (inl none) rest = subst (λ ys. IsOnce (requests_of_commits (ys ++ commits_of log))) (sym none) rest
      at cs of (inr (c, one)) rest =
          subst (λ ys. IsOnce (requests_of_commits (ys ++ commits_of log))) (sym one) (
            λ n h same.
                let image = map-has (λ (k : Commit). k.request) (commits_of log) n (has-in (requests_of_commits (commits_of log)) n h) in
                let from = flat-has (λ (e : StoreEntry). commit_by e.deed) log image.of image.has in
                let is = commit-of (from.0).author (from.0).deed image.of from.1.1 in
                let here = of c (subst (λ ys. Contains ys c) (sym one) (has_head c [])) in
                pairs_head (λ (a b : Judgement). a.request ≢ b.request) (judged_by entry.author entry.deed) (judgements_of log)
                (judged_by (from.0).author (from.0).deed) pairs
                (has_map (λ (e : StoreEntry). judged_by e.author e.deed) log from.0 from.1.0)
                (here.request ∙ same ∙ sym image.is ∙ sym is.request),
            rest,
          )

  -- the report has a number for each commit
  pub as-many-commits : length (commits_in account) ≤ commits report
  as-many-commits =
      let short =
      no-longer (requests_of_commits (commits_in account)) (numbered-requests report.replies) (once-from account.store basis.is.store.once) numbered in
      let long = length-map (commits_in account) (λ (c : Commit). c.request) in
      let all = numbered-length report.replies in
      omega (arith, short, long, all)
    where
      numbered : (n : ℕ) → IsTrue (is_in n (requests_of_commits (commits_in account)))
          → IsTrue (is_in n (numbered-requests report.replies))
      numbered n h =
          let listed = commits-listed script account basis report reported n h in
          elim (listed-is script account report reported.matches n (order-has report report.order reported.order n listed).1) [
            | inl tx ↦ subst (λ k. IsTrue (is_in k (numbered-requests report.replies))) (reply-number script account report reported.matches n tx.reply tx.reply_is) (in-numbered report.replies n tx.reply tx.number tx.reply_is (ap committed_number tx.state))
            | inr program ↦ absurd (no-program n program (map-has (λ (c : Commit). c.request) (commits_in account) n (has-in _ n h)))
          ]
        where
          no-program : (n : ℕ) → IsListedProgram script account report n
              → IsImage (λ (c : Commit). c.request) (commits_in account) n → ⊥
          no-program n program image =
              let of = known script account basis report reported image.of image.has in
              let work =
              subst (λ q. IsSomeAnd q (λ (request : Request). request.work ≡ Change (image.of).ops))
              (ap (request_at script) image.is ∙ program.request_is) of.work in
              let clash : Look program.program ≡ Change (image.of).ops = sym program.work ∙ work in
              cc

  -- Numbers in turn

  -- a committed reply's number says how many commits are before its judgement
  pub record IsNumberedAt (r : ℕ) (number : ℕ) : Type 0 where
    pub judged : Judgement
    pub at : IsJudgedAt script account basis r judged
    pub number_is : number ≡ length (commits_of at.before) + 1
    pub commits_here : IsVerdictOf judged.verdict

  number-state : (state : ReplyState) (number : ℕ) → committed_number state ≡ Some number
      → (answers : List Got) × (state ≡ Committed number answers)
  number-state (Committed n answers) number e = (answers, cc)
  number-state Unbegun number e = cc
  number-state Running number e = cc
  number-state (Conflict v newer) number e = cc
  number-state (Refused op reason at) number e = cc
  number-state (Finished answer) number e = cc

  -- a reply with a commit number was judged to commit, after that many commits less one
  pub numbered-at : (reply : Reply) → Contains report.replies reply → (number : ℕ) → committed_number reply.state ≡ Some number
      → IsNumberedAt reply.request number
  numbered-at reply h number e =
      let state = number-state reply.state number e in
      let has = verdict-of script account basis report reported reply h (subst IsVerdictState (sym state.1) tt) in
      let verdict-is = reported-committed (has.judged).verdict number state.0 (sym state.1 ∙ has.reported) in
      let place = judged-at script account basis reply.request has.judged has.found in
      let right : Commits account (commits_of place.before) (has.judged).stamp (has.judged).ops number state.0 verdict-is.0 =
      subst (λ k. IsRightVerdict account (commits_of place.before) (has.judged).stamp (has.judged).ops k) verdict-is.1 (place.rule).verdict in
      record { judged = has.judged; at = place; number_is = right.number_is; commits_here = subst IsVerdictOf (sym verdict-is.1) tt }

  -- a commit at a place is one more
  pub one-more-commit : (author : ℕ) (deed : StoreDeed) → IsVerdictOf (judged_by author deed).verdict
      → (c : Commit) × (commit_by deed ≡ c ∷ [])
  one-more-commit author (Judged r stamp ops asked (verdict.Committed number answers counts)) h = (_, refl)
  one-more-commit author (Judged r stamp ops asked (verdict.Conflict v newer)) h = absurd h
  one-more-commit author (Judged r stamp ops asked (verdict.Refused op reason at)) h = absurd h

  -- a commit is counted from its place on
  pub count-after : (before : List StoreEntry) (entry : StoreEntry) (rest : List StoreEntry)
      → IsVerdictOf (judged_by entry.author entry.deed).verdict
      → length (commits_of before) + 1 ≤ length (commits_of (before ++ entry ∷ rest))
  count-after before entry rest is =
      let c = one-more-commit entry.author entry.deed is in
      let all : commits_of (before ++ entry ∷ rest) ≡ commits_of before ++ (c.0 ∷ commits_of rest) =
      flat_map-append (λ (e : StoreEntry). commit_by e.deed) before (entry ∷ rest) ∙ ap (λ cs. commits_of before ++ (cs ++ commits_of rest)) c.1 in
      let long = ap length all ∙ length-append (commits_of before) (c.0 ∷ commits_of rest) in
      omega (arith, long)

  -- the entry at a judgement's place has its verdict
  pub verdict-at : {r : ℕ} {judged : Judgement} (at : IsJudgedAt script account basis r judged) → IsVerdictOf judged.verdict
      → IsVerdictOf (judged_by (at.entry).author (at.entry).deed).verdict
  verdict-at at is = subst (λ (j : Judgement). IsVerdictOf j.verdict) (sym at.judged_is) is

  -- the entry at a judgement's place is of the request that was judged
  pub request-at : {r : ℕ} {judged : Judgement} (at : IsJudgedAt script account basis r judged)
      → (judged_by (at.entry).author (at.entry).deed).request ≡ r
  request-at at = ap (λ (j : Judgement). j.request) at.judged_is ∙ at.request_is

  -- of two places in the store one is before the other, or they are the same
  pub places : {r s : ℕ} {j k : Judgement} (at : IsJudgedAt script account basis r j) (by : IsJudgedAt script account basis s k)
      → Apart at.before at.entry by.before by.entry
  places at by = apart at.before at.entry at.after by.before by.entry by.after (sym at.is ∙ by.is)

  -- two replies with one number are of one request
  pub one-number : (r s number : ℕ) → IsNumberedAt r number → IsNumberedAt s number → r ≡ s
  one-number r s number a b =
      let na = a.number_is in
      let nb = b.number_is in
      elim (places a.at b.at) [
        | Same before entry ↦ sym (request-at a.at) ∙ ap (λ (e : StoreEntry). (judged_by e.author e.deed).request) entry ∙ request-at b.at
        | First rest is ↦ absurd (let more = count-after (a.at).before (a.at).entry rest (verdict-at a.at a.commits_here) in let e = ap (λ l. length (commits_of l)) is in omega (arith, more, e, na, nb))
        | Second rest is ↦ absurd (let more = count-after (b.at).before (b.at).entry rest (verdict-at b.at b.commits_here) in let e = ap (λ l. length (commits_of l)) is in omega (arith, more, e, na, nb))
      ]

  number-low : (r number : ℕ) → IsNumberedAt r number → (0 < number) × (number ≤ length (commits_in account))
  number-low r number a =
      let n = a.number_is in
      let more = count-after (a.at).before (a.at).entry (a.at).after (verdict-at a.at a.commits_here) in
      let e = ap (λ l. length (commits_of l)) (a.at).is in
      (omega (arith, n), omega (arith, n, more, e))

  -- the report of an account satisfies the clause on numbers
  pub numbers : AllHold (numbers_clause report)
  numbers =
      facts-hold (λ before (reply : Reply). IsTrue (is_number_in_place (commits report) before (committed_number reply.state))) report.replies
      (λ before reply after is. at before reply after is (committed_number reply.state) refl)
    where
      at : (before : List Reply) (reply : Reply) (after : List Reply) → report.replies ≡ before ++ reply ∷ after → (o : Option ℕ)
          → committed_number reply.state ≡ o → IsTrue (is_number_in_place (commits report) before o)
      at before reply after is None e = refl
      at before reply after is (Some number) e =
          let here : Contains report.replies reply = subst (λ rs. Contains rs reply) (sym is) (has_cut before reply after) in
          let a = numbered-at reply here number e in
          let low = number-low reply.request number a in
          let high = low.1 in
          let all = as-many-commits in
          and_from _ _ (and_from _ _ (lt-ltb 0 number low.0) (le-leb number (commits report) (omega (arith, high, all))))
          (not-true _ (λ h. no-earlier before (λ earlier k. subst (λ rs. Contains rs earlier) (sym is) (Contains-append_left before (reply ∷ after) earlier k)) (λ earlier k same. different earlier k same) h))
        where
          different : (earlier : Reply) → Contains before earlier → earlier.request ≡ reply.request → ⊥
          different earlier k same =
              let place = cut_at before earlier k in
              let first : slice_get report.replies (length place.before) ≡ Some earlier =
              ap (λ rs. slice_get rs (length place.before))
              (is ∙ ap (λ b. b ++ reply ∷ after) place.is ∙ append_assoc place.before (earlier ∷ place.after) (reply ∷ after))
              ∙ get-here place.before earlier (place.after ++ reply ∷ after) in
              let second : slice_get report.replies (length before) ≡ Some reply =
              ap (λ rs. slice_get rs (length before)) is ∙ get-here before reply after in
              let n1 = reply-number script account report reported.matches (length place.before) earlier first in
              let n2 = reply-number script account report reported.matches (length before) reply second in
              let long = ap length place.is ∙ length-append place.before (earlier ∷ place.after) in
              omega (arith, n1, n2, long, same)

          no-earlier : (rs : List Reply) → ((earlier : Reply) → Contains rs earlier → Contains report.replies earlier)
              → ((earlier : Reply) → Contains rs earlier → earlier.request ≡ reply.request → ⊥)
              → IsTrue (list_any (λ (earlier : Reply). is_some_and (λ n. n == number) (committed_number earlier.state)) rs) → ⊥
          no-earlier [] inside other h = cc
          no-earlier (first ∷ rs) inside other h =
              elim (or_cases _ _ h) [
                | inl here' ↦ clash (committed_number first.state) refl here'
                | inr more ↦ no-earlier rs (λ e k. inside e (has_tail first rs e k)) (λ e k. other e (has_tail first rs e k)) more
              ]
            where
              clash : (o : Option ℕ) → committed_number first.state ≡ o → IsTrue (is_some_and (λ n. n == number) o) → ⊥
              clash None e t = cc
              clash (Some n) e' t =
                  let same : n ≡ number = eqb-true n number t in
                  other first (has_head first rs)
                  (one-number first.request reply.request number (numbered-at first (inside first (has_head first rs)) number (e' ∙ ap Some same)) (numbered-at reply (subst (λ rs. Contains rs reply) (sym is) (has_cut before reply after)) number e))
