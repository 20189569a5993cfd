-- The clause on conflicts: the newer request was judged before, names the vertex, and is preceded. It rests on the
-- clause on the store.
-- Used by FormOfScript, Growing, NumbersClause, PairsClause, PhasesKept, PlacedPairs, RefusalsClause, Requests and
-- RightReport.
use Rattle.std.proofs.Common.{◌≡◌, ℕ, ◌<◌, List, [], ◌∷◌, ◌++◌, Contains, AllPairs, IsTrue, Option, Some, None, inl, inr, refl, sym, ap, subst, ◌∙◌}
use Rattle.std.specs.Prelude.{IsSomeAnd, reverse, ⊤, is_some}
use Rattle.std.proofs.lemmas.Bool.{and_from}
use Rattle.std.proofs.lemmas.List.{map-append, reverse-append}
use Rattle.std.proofs.lemmas.List.Concat.{flat_map-append}
use Rattle.std.proofs.lemmas.List.Elements.{Contains-append_left, Contains-append_cases}
use Rattle.weave_data.proofs.Members.{has_read, has_head, has_tail, has_none, find_has, has_map}
use Rattle.vector_stamp.specs.declared.clock.Stamp.{Stamp}
use Rattle.vector_stamp.specs.Precedence.{ByStamps}
use Rattle.weave_data.specs.declared.name.Name.{Name}
use Rattle.graph_ops.specs.declared.tx.Got.{Got}
use Rattle.program_defs.specs.declared.script.Request.{Request}
use Rattle.program_defs.specs.declared.script.Script.{Script}
use Rattle.program_defs.specs.declared.script.Work.{Work}
use Rattle.program_defs.specs.declared.script.Work.TheVariants.{Change, Look}
use Rattle.weave_entries.specs.declared.store_log.StoreEntry.{StoreEntry}
use Rattle.weave_entries.specs.declared.verdict.Counted.{Counted}
use Rattle.weave_entries.specs.declared.verdict.Verdict.{Verdict}
use Rattle.weave_entries.specs.declared.verdict.Verdict.TheVariants as verdict
use Rattle.weave_entries.specs.StoreReplay.{Commit, Judgement, judged_by, judgements_of, judgement_of, commit_by, commits_of, names_vertex as names}
use Rattle.report_rules.specs.declared.report.Reply.{Reply}
use Rattle.report_rules.specs.declared.report.ReplyState.{ReplyState}
use Rattle.report_rules.specs.declared.report.ReplyState.TheVariants.{Unbegun, Begun as Running, Committed, Conflict, Refused, Finished}
use Rattle.report_rules.specs.declared.report.Report.{Report}
use Rattle.weave_data.specs.Facts.{AllHold}
use Rattle.report_rules.specs.RightReport.{IsConflictInPlace, conflicts_clause}
use Rattle.report_rules.specs.Lookups.{is_some_and, request_at, same_session, request_names_vertex, committed_number, is_committed}
use Rattle.weave_account.specs.declared.account.Account.{Account}
use Rattle.weave_account.specs.Account.{stamp_of, commits_in}
use Rattle.weave_account.specs.Store.{Conflicts, IsRightVerdict, InTurn}
use Rattle.weave_account.specs.Report.{state_by_verdict, state_of_tx, IsStateOfProgram, IsStateOf, IsReportOfAccount}
use Rattle.weave_account.proofs.Beginning.{tx-stamp}
use Rattle.weave_account.proofs.Listed.{IsJudgedAt, judged-at, listed-is}
use Rattle.weave_account.proofs.ListingClause.{session-other, matches-of}
use Rattle.weave_data.proofs.Ordered.{pairs_across}
use Rattle.weave_data.proofs.Images.{flat-has}
use Rattle.weave_data.proofs.Numbers.{in-has}
use Rattle.weave_data.proofs.ListPlaces.{each-holds, not-true}
use Rattle.weave_account.proofs.Ordering.{RequestBefore, not-both, by-stamps}
use Rattle.weave_account.proofs.Printing.{order-has}
use Rattle.weave_account.proofs.Storing.{requests_of_commits, commit-of, work-named}
use Rattle.weave_account.proofs.Replies.{same-precedence, convert}
use Rattle.weave_account.proofs.Transactions.{known, commits-listed}
use Rattle.weave_account.proofs.Basis.{Basis}
use Rattle.weave_account.proofs.Sessions.{sessions-rise}

-- A reply that says a verdict

-- a state that a verdict gives
abbrev pub IsVerdictState : ReplyState → Type 0
IsVerdictState Unbegun = ⊥
IsVerdictState Running = ⊥
IsVerdictState (Committed number answers) = ⊤
IsVerdictState (Conflict v newer) = ⊤
IsVerdictState (Refused op reason at) = ⊤
IsVerdictState (Finished answer) = ⊥

-- the verdict of a request, which its reply reports
pub record HasVerdict (account : Account) (r : ℕ) (state : ReplyState) : Type 0 where
  pub judged : Judgement
  pub found : judgement_of r account.store ≡ Some judged
  pub reported : state ≡ state_by_verdict judged.verdict

verdict-told : (account : Account) (r : ℕ) (stamp : Option Stamp) (work : Work) (state : ReplyState)
    → IsStateOf account r stamp work state → IsVerdictState state → HasVerdict account r state
verdict-told account r None work state reported is = absurd (subst IsVerdictState reported is)
verdict-told account r (Some stamp) (Change ops) state reported is = at (judgement_of r account.store) refl reported
  where
    at : (o : Option Judgement) → judgement_of r account.store ≡ o → state ≡ state_of_tx o → HasVerdict account r state
    at None e reported = absurd (subst IsVerdictState reported is)
    at (Some judged) e reported = record { judged = judged; found = e; reported = reported }
verdict-told account r (Some stamp) (Look program) state reported is = at state reported is
  where
    at : (s : ReplyState) → IsStateOfProgram account r program s → IsVerdictState s → HasVerdict account r s
    at Unbegun reported is = absurd is
    at Running reported is = absurd is
    at (Committed number answers) reported is = let e = reported.1 in cc
    at (Conflict v newer) reported is = let e = reported.1 in cc
    at (Refused op reason at') reported is = let e = reported.1 in cc
    at (Finished answer) reported is = absurd is

-- a conflict is reported for a conflict alone
pub reported-conflict : (v : Verdict) (vertex : Name) (newer : ℕ) → Conflict vertex newer ≡ state_by_verdict v
    → v ≡ verdict.Conflict vertex newer
reported-conflict (verdict.Committed number answers counts) vertex newer e = cc
reported-conflict (verdict.Conflict w n) vertex newer e = cc
reported-conflict (verdict.Refused op reason at) vertex newer e = cc

-- a commit is reported for a commit alone
pub reported-committed : (v : Verdict) (number : ℕ) (answers : List Got) → Committed number answers ≡ state_by_verdict v
    → (counts : List Counted) × (v ≡ verdict.Committed number answers counts)
reported-committed (verdict.Committed n a counts) number answers e = (counts, cc)
reported-committed (verdict.Conflict w n) number answers e = cc
reported-committed (verdict.Refused op reason at) number answers e = cc

-- Lists

-- a member of the reversed list is one of the list
pub reverse-has : {A : Type 0} (xs : List A) (x : A) → Contains (reverse xs) x → Contains xs x
reverse-has [] x h = h
reverse-has (z ∷ xs) x h =
    elim (Contains-append_cases (reverse xs) (z ∷ []) x (subst (λ ys. Contains ys x) (reverse-append (z ∷ []) xs) h)) [
      | inl more ↦ has_tail z xs x (reverse-has xs x more)
      | inr here ↦ elim (has_read z [] x here) [ inl same ↦ subst (λ k. Contains (z ∷ xs) k) same (has_head z xs) | inr none ↦ absurd (has_none x none) ]
    ]

module _ (script : Script) (account : Account) (basis : Basis script account) (report : Report) (reported : IsReportOfAccount script account report) where
  -- the verdict that a reply reports
  pub verdict-of : (reply : Reply) → Contains report.replies reply → IsVerdictState reply.state
      → HasVerdict account reply.request reply.state
  verdict-of reply h is =
      at (request_at script reply.request) (matches-of script account basis report reported.matches reply h).state_is
    where
      at : (q : Option Request)
          → IsSomeAnd q (λ (request : Request). IsStateOf account reply.request reply.stamp request.work reply.state)
          → HasVerdict account reply.request reply.state
      at None reported = absurd reported
      at (Some request) reported = verdict-told account reply.request reply.stamp request.work reply.state reported is

  -- a commit before a place of the store is one of the account's
  pub commits-before : (before rest : List StoreEntry) → account.store ≡ before ++ rest → (commit : Commit)
      → Contains (commits_of before) commit → Contains (commits_in account) commit
  commits-before before rest is commit h =
      subst (λ cs. Contains cs commit) (sym (ap commits_of is ∙ flat_map-append (λ (e : StoreEntry). commit_by e.deed) before rest))
      (Contains-append_left (commits_of before) (commits_of rest) commit h)

  -- a commit's request is a committed transaction of the report
  pub is-committed : (commit : Commit) → Contains (commits_in account) commit → IsTrue (is_committed report commit.request)
  is-committed commit h =
      let listed =
      commits-listed script account basis report reported commit.request
      (in-has (requests_of_commits (commits_in account)) commit.request (has_map (λ (c : Commit). c.request) (commits_in account) commit h)) in
      elim (listed-is script account report reported.matches commit.request (order-has report report.order reported.order commit.request listed).1) [
        | inl tx ↦ subst (λ o. IsTrue (is_some_and (λ (reply : Reply). is_some (committed_number reply.state)) o)) (sym tx.reply_is) (subst (λ s. IsTrue (is_some (committed_number s))) (sym tx.state) refl)
        | inr program ↦
            let work : (program.request).work ≡ Change commit.ops =
            subst (λ q. IsSomeAnd q (λ (request : Request). request.work ≡ Change commit.ops)) program.request_is
            (known script account basis report reported commit h).work in
            let clash : Look program.program ≡ Change commit.ops = sym program.work ∙ work in cc
      ]

  -- a commit that names a vertex is a request that does
  pub commit-names : (commit : Commit) (v : Name) → Contains (commits_in account) commit → IsTrue (names v commit)
      → IsTrue (request_names_vertex script commit.request v)
  commit-names commit v h named =
      subst IsTrue (sym (work-named (request_at script commit.request) commit.ops v (known script account basis report reported commit h).work)) named

  -- Conflicts

  -- the commits before a place are of requests that were judged before
  judged-before : (before : List StoreEntry) (commit : Commit) → Contains (commits_of before) commit
      → (judged : Judgement) × Contains (judgements_of before) judged × (judged.request ≡ commit.request)
  judged-before before commit h =
      let from = flat-has (λ (e : StoreEntry). commit_by e.deed) before commit h in
      let is = commit-of (from.0).author (from.0).deed commit from.1.1 in
      (judged_by (from.0).author (from.0).deed, has_map (λ (e : StoreEntry). judged_by e.author e.deed) before from.0 from.1.0, is.request)

  -- of two judgements in turn of one session the first is of the earlier request
  pub in-turn : (before : List StoreEntry) (entry : StoreEntry) (after : List StoreEntry)
      → account.store ≡ before ++ entry ∷ after → (judged : Judgement) → Contains (judgements_of before) judged
      → InTurn script judged.request (judged_by entry.author entry.deed).request
  in-turn before entry after is judged h =
      pairs_across (λ (a b : Judgement). InTurn script a.request b.request) (judgements_of before) (judgements_of (entry ∷ after)) judged
      (judged_by entry.author entry.deed)
      (subst (λ js. AllPairs (λ (a b : Judgement). InTurn script a.request b.request) js) (ap judgements_of is ∙ map-append (λ (e : StoreEntry). judged_by e.author e.deed) before (entry ∷ after)) basis.is.store.in_turn) h
      (has_head _ _)

  conflict-here : (r : ℕ) (v : Name) (newer : ℕ) (judged : Judgement) (at : IsJudgedAt script account basis r judged)
      → Conflicts account (commits_of at.before) judged.stamp judged.ops v newer
      → IsConflictInPlace script report r (Conflict v newer)
  conflict-here r v newer judged at conflict =
      let last = conflict.last in
      let found = find_has (names v) (reverse (commits_of at.before)) last conflict.last_is in
      let last-before : Contains (commits_of at.before) last = reverse-has (commits_of at.before) last found.0 in
      let last-in = commits-before at.before (at.entry ∷ at.after) at.is last last-before in
      let of = known script account basis report reported last last-in in
      let stamp-r : stamp_of account r ≡ Some judged.stamp =
      subst (λ k. stamp_of account k ≡ Some judged.stamp) at.request_is
      (tx-stamp account basis.is.gatekeepers.once (at.rule).home _ _ _ (at.rule).begun) in
      let stamp-newer : stamp_of account newer ≡ Some last.stamp = subst (λ k. stamp_of account k ≡ Some last.stamp) conflict.newer_is of.stamp in
      let precedes : RequestBefore script account r newer = by-stamps script account r newer judged.stamp last.stamp stamp-r stamp-newer conflict.precedes in
      let work : IsSomeAnd (request_at script r) (λ (request : Request). request.work ≡ Change judged.ops) =
      subst (λ k. IsSomeAnd (request_at script k) (λ (request : Request). request.work ≡ Change judged.ops)) at.request_is (at.rule).work in
      let named-r : IsTrue (request_names_vertex script r v) = subst IsTrue (sym (work-named (request_at script r) judged.ops v work)) conflict.named in
      let named-newer : IsTrue (request_names_vertex script newer v) =
      subst (λ k. IsTrue (request_names_vertex script k v)) conflict.newer_is (commit-names last v last-in found.1) in
      let committed : IsTrue (is_committed report newer) =
      subst (λ k. IsTrue (is_committed report k)) conflict.newer_is (is-committed last last-in) in
      let other : ¬ IsTrue (same_session script r newer) = λ same.
      let j = judged-before at.before last last-before in
      let newer-is : (j.0).request ≡ newer = j.2 ∙ conflict.newer_is in
      let r-is : (judged_by (at.entry).author (at.entry).deed).request ≡ r = ap (λ (k : Judgement). k.request) at.judged_is ∙ at.request_is in
      let turn : InTurn script newer r =
      subst (λ k. InTurn script k r) newer-is (subst (λ k. InTurn script (j.0).request k) r-is (in-turn at.before at.entry at.after at.is j.0 j.1)) in
      let less : newer < r = turn (session-other script r newer same) in
      let x = sessions-rise script account basis newer r judged.stamp less (session-other script r newer same) stamp-r in
      not-both script account basis r newer precedes (by-stamps script account newer r x.0 judged.stamp x.1 stamp-r (ByStamps x.0 judged.stamp x.2)) in (
        and_from _ _ (and_from _ _ (and_from _ _ committed named-newer) (not-true (same_session script r newer) other)) named-r,
        convert (sym (same-precedence script account report reported.matches basis r newer)) precedes,
      )

  -- the report of an account satisfies the clause on conflicts
  pub conflicts : AllHold (conflicts_clause script report)
  conflicts =
      each-holds (λ (reply : Reply). IsConflictInPlace script report reply.request reply.state) report.replies
      (λ reply h. at reply h reply.state refl)
    where
      at : (reply : Reply) → Contains report.replies reply → (state : ReplyState) → reply.state ≡ state
          → IsConflictInPlace script report reply.request state
      at reply h (Conflict v newer) is =
          let has = verdict-of reply h (subst IsVerdictState (sym is) tt) in
          let place = judged-at script account basis reply.request has.judged has.found in
          let verdict-is = reported-conflict (has.judged).verdict v newer (sym is ∙ has.reported) in
          conflict-here reply.request v newer has.judged place
          (subst (λ k. IsRightVerdict account (commits_of place.before) (has.judged).stamp (has.judged).ops k) verdict-is (place.rule).verdict)
      at reply h Unbegun is = tt
      at reply h Running is = tt
      at reply h (Committed number answers) is = tt
      at reply h (Refused op reason at') is = tt
      at reply h (Finished answer) is = tt
