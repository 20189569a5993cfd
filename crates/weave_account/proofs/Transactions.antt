-- A listed transaction, replayed at its place in the printed order, results in its reply: the commits that name its
-- vertices and are listed before it are those with lesser numbers. It rests on the clause on the store.
-- Used by ConflictsClause, FormOfScript, Meeting, NumbersClause, PairsClause, PhasesKept, ReadingPlace, RefusalsClause
-- and ReplayClause.
use Rattle.std.proofs.Common.{◌≡◌, ℕ, Bool, cond, List, [], ◌∷◌, ◌++◌, Contains, IsTrue, Option, Some, None, inl, inr, refl, sym, ap, subst, ◌∙◌}
use Rattle.std.specs.Prelude.{IsSomeAnd}
use Rattle.std.specs.List.{filter}
use Rattle.std.proofs.lemmas.List.{map-append}
use Rattle.std.proofs.lemmas.List.Elements.{filter-append}
use Rattle.vector_stamp.specs.declared.clock.Stamp.{Stamp}
use Rattle.weave_data.specs.declared.name.Name.{Name}
use Rattle.graph_ops.specs.Mentions.{named_by, is_among}
use Rattle.graph_ops.specs.PlainGraph.{PlainGraph, TxOutcome, empty_graph, transaction}
use Rattle.graph_ops.specs.declared.op.Op.{Op}
use Rattle.graph_ops.specs.declared.tx.Got.{Got}
use Rattle.program_defs.specs.declared.script.Request.{Request}
use Rattle.program_defs.specs.declared.script.Script.{Script}
use Rattle.program_defs.specs.declared.script.Work.{Work}
use Rattle.program_defs.specs.declared.script.Work.TheVariants.{Change, Look}
use Rattle.weave_entries.specs.declared.store_log.StoreEntry.{StoreEntry}
use Rattle.weave_entries.specs.declared.verdict.Counted.{Counted}
use Rattle.weave_entries.specs.declared.verdict.Verdict.TheVariants as verdict
use Rattle.weave_entries.specs.StoreReplay.{Commit, Judgement, judged_by, judgement_of, commit_by, commits_of, commits_naming}
use Rattle.weave_data.proofs.Entries.{each_before}
use Rattle.report_rules.specs.declared.report.Reply.{Reply}
use Rattle.report_rules.specs.declared.report.ReplyState.{ReplyState}
use Rattle.report_rules.specs.declared.report.ReplyState.TheVariants.{Committed}
use Rattle.report_rules.specs.declared.report.Report.{Report}
use Rattle.report_rules.specs.PrintedOrder.{begun_requests}
use Rattle.report_rules.specs.Replay.{OutcomeMatchesReply, MatchesReply}
use Rattle.report_rules.specs.Lookups.{is_in, AreBoth, request_at, reply_at, request_names_vertex, work_names, is_some_and, is_committed_or_finished, may_be_listed, RequestPrecedes}
use Rattle.weave_account.specs.declared.account.Account.{Account}
use Rattle.weave_account.specs.Account.{stamp_of, commits_in}
use Rattle.weave_account.proofs.Replaying.{graph_after_all, AllPass, PassesWith, same-state, pass-alike}
use Rattle.weave_account.specs.Store.{AreJudgements}
use Rattle.weave_account.specs.Report.{state_by_verdict, state_of_tx, IsStateOf, IsReportOfAccount}
use Rattle.weave_account.proofs.Cutting.{IsNotAfter, cut}
use Rattle.weave_account.proofs.Listed.{StandsInStore, IsListedTx, verdict-commits, judgement-found, commit-stands, listed-is, in-begun}
use Rattle.weave_data.proofs.Members.{filter_has, has_cut}
use Rattle.weave_data.proofs.Images.{map-has, flat-has}
use Rattle.weave_data.proofs.Numbers.{has-in, IsSorted, in-head, in-cases, in-append_right, sorted-at}
use Rattle.weave_account.proofs.Ordering.{RequestBefore, ordered, naming-requests, sorted-requests, not-both}
use Rattle.weave_account.proofs.Printing.{order-sorted, order-has, has-order}
use Rattle.weave_account.proofs.ReplayInTurn.{ComesToReply}
use Rattle.weave_account.proofs.Storing.{IsOfScript, requests_of_commits, commit-of, of-script, replays}
use Rattle.weave_account.proofs.Replies.{has-reply, same-precedence, convert}
use Rattle.weave_account.proofs.Basis.{Basis}

-- the second part of a sorted list is sorted
pub sorted-right : (R : ℕ → ℕ → Type 0) (xs ys : List ℕ) → IsSorted R (xs ++ ys) → IsSorted R ys
sorted-right R [] ys s = s
sorted-right R (x ∷ xs) ys s = sorted-right R xs ys s.1

-- what follows from a sorted list's relation sorts it too
pub sorted-map : (R S : ℕ → ℕ → Type 0) → ((a b : ℕ) → R a b → S a b) → (xs : List ℕ) → IsSorted R xs → IsSorted S xs
sorted-map R S f [] s = tt
sorted-map R S f (x ∷ xs) s = ((λ y h. f x y (s.0 y h)), sorted-map R S f xs s.1)

matches-committed : (account : Account) (r : ℕ) (stamp : Stamp) (work : Work) (ops : List Op) (state : ReplyState) (stamped : Option Stamp)
    → stamped ≡ Some stamp → work ≡ Change ops → IsStateOf account r stamped work state
    → state ≡ state_of_tx (judgement_of r account.store)
matches-committed account r stamp work ops state stamped e is reported =
    subst (λ s. IsStateOf account r s (Change ops) state → state ≡ state_of_tx (judgement_of r account.store)) (sym e) (λ h. h)
    (subst (λ w. IsStateOf account r stamped w state) is reported)

module _ (script : Script) (account : Account) (basis : Basis script account) (report : Report) (reported : IsReportOfAccount script account report) where
  -- the request numbers of the commits in the account
  abbrev pub committed-requests : List ℕ
  committed-requests = requests_of_commits (commits_in account)

  -- each commit is of a begun request of the script
  pub known : (commit : Commit) → Contains (commits_in account) commit → IsOfScript script account commit
  known = of-script script account basis.is.gatekeepers.once account.store basis.is.store.judges

  -- the printed order keeps precedence
  pub order-keeps : IsSorted (IsNotAfter (RequestBefore script account)) report.order
  order-keeps =
      sorted-map (IsNotAfter (RequestPrecedes report)) (IsNotAfter (RequestBefore script account))
      (λ a b h. (h.0, λ p. h.1 (convert (sym (same-precedence script account report reported.matches basis b a)) p)))
      report.order (order-sorted report report.order reported.order)

  -- the commits at a vertex are in order of precedence
  pub naming-sorted : (v : Name)
      → IsSorted (RequestBefore script account) (filter (λ r. request_names_vertex script r v) committed-requests)
  naming-sorted v =
      subst (IsSorted (RequestBefore script account)) (sym (naming-requests script account v (commits_in account) known))
      (sorted-requests script account (commits_naming v (commits_in account)) (λ c h. known c (filter_has _ (commits_in account) c h).0) (ordered script account v account.store basis.is.store.judges))

  -- each committed request is in the printed order
  pub commits-listed : (r : ℕ) → IsTrue (is_in r committed-requests) → IsTrue (is_in r report.order)
  commits-listed r h =
      let from = map-has (λ (c : Commit). c.request) (commits_in account) r (has-in committed-requests r h) in
      let entry = flat-has (λ (e : StoreEntry). commit_by e.deed) account.store from.of from.has in
      let is = commit-of (entry.0).author (entry.0).deed from.of entry.1.1 in
      let of = known from.of from.has in
      let judgement : judgement_of r account.store ≡ Some (judged_by (entry.0).author (entry.0).deed) =
      subst (λ k. judgement_of k account.store ≡ Some (judged_by (entry.0).author (entry.0).deed)) (is.request ∙ from.is)
      (judgement-found script account basis entry.0 entry.1.0) in
      let passed = verdict-commits (judged_by (entry.0).author (entry.0).deed).verdict is.verdict in
      at (from.of).ops (request_at script from.of.request) refl of.work from.of.stamp (ap (stamp_of account) (sym from.is) ∙ of.stamp) from.is
      (judged_by (entry.0).author (entry.0).deed) judgement passed.0 passed.1 passed.2 passed.3
    where
      at : {s : ℕ} (ops : List Op) (q : Option Request) → request_at script s ≡ q
          → IsSomeAnd q (λ (request : Request). request.work ≡ Change ops) → (stamp : Stamp) → stamp_of account r ≡ Some stamp
          → s ≡ r
          → (judged : Judgement) → judgement_of r account.store ≡ Some judged
          → (number : ℕ) (answers : List Got) (counts : List Counted) → judged.verdict ≡ verdict.Committed number answers counts
          → IsTrue (is_in r report.order)
      at ops None e work stamp begun same judged found number answers counts is = absurd work
      at ops (Some request) e work stamp begun same judged found number answers counts is =
          let here : request_at script r ≡ Some request = subst (λ k. request_at script k ≡ Some request) same e in
          let reply = has-reply script account report reported.matches r request here in
          let stamped : (reply.reply).stamp ≡ Some stamp = reply.matched.stamp_is ∙ ap (stamp_of account) reply.of ∙ begun in
          let state-told : IsStateOf account r (reply.reply).stamp request.work (reply.reply).state =
          subst (λ k. IsStateOf account k (reply.reply).stamp request.work (reply.reply).state) reply.of
          (subst (λ q. IsSomeAnd q (λ (request : Request). IsStateOf account (reply.reply).request (reply.reply).stamp request.work (reply.reply).state)) (ap (request_at script) reply.of ∙ here) reply.matched.state_is) in
          let state : (reply.reply).state ≡ Committed number answers =
          matches-committed account r stamp request.work ops (reply.reply).state (reply.reply).stamp stamped work state-told
          ∙ ap state_of_tx found ∙ ap state_by_verdict is in
          let may : IsTrue (may_be_listed report r) =
          subst (λ o. IsTrue (is_some_and (λ (reply : Reply). is_committed_or_finished reply.state) o)) (sym reply.at)
          (subst (λ s. IsTrue (is_committed_or_finished s)) (sym state) refl) in
          has-order report report.order reported.order r
          (subst (λ k. IsTrue (is_in k (begun_requests report))) reply.of (in-begun script account report reported.matches r stamp reply.reply reply.at stamped)) may

  -- a listed transaction is a commit
  pub tx-stands : (r : ℕ) (tx : IsListedTx script account report r)
      → StandsInStore script account r (tx.judged).ops tx.number tx.answers
  tx-stands r tx =
      commit-stands script account basis r tx.judged tx.number tx.answers tx.committed.counts tx.judged_is tx.committed.is

  parts-of : (r : ℕ) (ops : List Op) (number : ℕ) (answers : List Got) (at : StandsInStore script account r ops number answers)
      → committed-requests ≡ requests_of_commits (commits_of at.before) ++ r ∷ requests_of_commits (commits_of at.after)
  parts-of r ops number answers at =
      ap requests_of_commits at.parts
      ∙ map-append (λ (c : Commit). c.request) (commits_of at.before) (at.commit ∷ commits_of at.after)
      ∙ ap (λ k. requests_of_commits (commits_of at.before) ++ k ∷ requests_of_commits (commits_of at.after)) at.request_is

  -- what is listed and names a vertex is a commit
  pub listed-commits : (v : Name) (r : ℕ) → IsTrue (is_in r report.order) → IsTrue (request_names_vertex script r v)
      → IsTrue (is_in r committed-requests)
  listed-commits v r h names =
      elim (listed-is script account report reported.matches r (order-has report report.order reported.order r h).1) [
        | inl tx ↦
            let at = tx-stands r tx in
            subst (λ rs. IsTrue (is_in r rs)) (sym (parts-of r (tx.judged).ops tx.number tx.answers at))
            (in-append_right r (requests_of_commits (commits_of at.before)) (r ∷ requests_of_commits (commits_of at.after)) (in-head r _))
        | inr program ↦
            let named : IsTrue (work_names v (Look program.program)) = subst (λ w. IsTrue (work_names v w)) program.work (subst (λ q. IsTrue (is_some_and (λ (request : Request). work_names v request.work) q)) program.request_is names) in cc
      ]

  -- the operations that were judged are the request's
  ops-same : (r : ℕ) (tx : IsListedTx script account report r) → (tx.judged).ops ≡ tx.ops
  ops-same r tx =
      let at = tx-stands r tx in
      let of =
      known at.commit (subst (λ cs. Contains cs at.commit) (sym at.parts) (has_cut (commits_of at.before) at.commit (commits_of at.after))) in
      let work : (tx.request).work ≡ Change (at.commit).ops =
      subst (λ q. IsSomeAnd q (λ (request : Request). request.work ≡ Change (at.commit).ops))
      (ap (request_at script) at.request_is ∙ tx.request_is) of.work in
      let both : Change tx.ops ≡ Change (at.commit).ops = sym tx.work ∙ work in
      let same : tx.ops ≡ (at.commit).ops = cc in
      sym at.ops_are ∙ sym same

  -- the commits before it that name a vertex of its own are those listed before it
  pub before-same : (r : ℕ) (before after : List ℕ) → report.order ≡ before ++ r ∷ after
      → (ops : List Op) (number : ℕ) (answers : List Got) (at : StandsInStore script account r ops number answers) (v : Name)
      → IsTrue (request_names_vertex script r v)
      → filter (λ r. request_names_vertex script r v) before ≡ filter (λ r. request_names_vertex script r v) (requests_of_commits (commits_of at.before))
  before-same r before after is ops number answers at v named =
      let test : ℕ → Bool = λ r. request_names_vertex script r v in
      let first = filter test (requests_of_commits (commits_of at.before)) in
      let later = filter test (requests_of_commits (commits_of at.after)) in
      let here : filter test (r ∷ requests_of_commits (commits_of at.after)) ≡ r ∷ later = ap (λ b. cond b (r ∷ later) later) named in
      let parts : filter test committed-requests ≡ first ++ r ∷ later =
      ap (filter test) (parts-of r ops number answers at)
      ∙ filter-append test (requests_of_commits (commits_of at.before)) (r ∷ requests_of_commits (commits_of at.after))
      ∙ ap (λ rest. first ++ rest) here in
      let sorted : IsSorted (RequestBefore script account) (first ++ r ∷ later) =
      subst (IsSorted (RequestBefore script account)) parts (naming-sorted v) in
      cut (RequestBefore script account) (not-both script account basis) test committed-requests report.order (naming-sorted v) order-keeps commits-listed
      (listed-commits v) r before after first (r ∷ later) is parts
      (λ n h. sorted-at (RequestBefore script account) first (r ∷ later) n r sorted h (in-head r later))
      (λ n h. elim (in-cases n r later h) [
        | inl same ↦ inl same
        | inr more ↦ inr ((sorted-right (RequestBefore script account) first (r ∷ later) sorted).0 n more)
      ])

  named-here : (r : ℕ) (tx : IsListedTx script account report r) (v : Name) → IsTrue (is_among (named_by tx.ops) v)
      → IsTrue (request_names_vertex script r v)
  named-here r tx v h =
      subst (λ q. IsTrue (is_some_and (λ (request : Request). work_names v request.work) q)) (sym tx.request_is)
      (subst (λ w. IsTrue (work_names v w)) (sym tx.work) h)

  -- a listed transaction results in its reply at its place in the order, if all requests before it pass
  pub tx-comes : (before : List ℕ) (r : ℕ) (after : List ℕ) → report.order ≡ before ++ r ∷ after
      → AllPass empty_graph script before → IsListedTx script account report r
      → ComesToReply script report (graph_after_all empty_graph script before) r
  tx-comes before r after is passes tx =
      let at = tx-stands r tx in
      let so-far =
      replays script account basis.is.gatekeepers.once at.before
      (each_before _ at.before at.before_is.0 (subst (AreJudgements script account) at.before_is.1 basis.is.store.judges)) in
      let same-ops = ops-same r tx in
      let stored : PassesWith (graph_after_all empty_graph script (requests_of_commits (commits_of at.before))) tx.ops tx.answers =
      subst (λ ops. PassesWith (graph_after_all empty_graph script (requests_of_commits (commits_of at.before))) ops tx.answers) same-ops
      (subst (λ (g : PlainGraph). PassesWith g (tx.judged).ops tx.answers) (sym so-far.graph) (record { graph = at.right.1.graph; gots = tx.answers }, at.right.1.passes, refl)) in
      let alike : (v : Name) → IsTrue (is_among (named_by tx.ops) v) → graph_after_all empty_graph script (requests_of_commits (commits_of at.before)) v ≡ graph_after_all empty_graph script before v =
      λ v h. same-state basis.laws script (requests_of_commits (commits_of at.before)) before empty_graph v so-far.passes passes (sym (before-same r before after is _ _ _ at v (named-here r tx v h))) in
      let here = pass-alike basis.laws tx.ops _ (graph_after_all empty_graph script before) tx.answers alike stored in
      comes-by (graph_after_all empty_graph script before) here
    where
      comes-by : (graph : PlainGraph) → PassesWith graph tx.ops tx.answers → ComesToReply script report graph r
      comes-by graph passes-with =
          subst (λ q. AreBoth (λ (request : Request) (reply : Reply). MatchesReply graph request.work reply.state) q (reply_at report r))
          (sym tx.request_is)
          (subst (λ e. AreBoth (λ (request : Request) (reply : Reply). MatchesReply graph request.work reply.state) (Some tx.request) e) (sym tx.reply_is)
          (subst (λ w. MatchesReply graph w (tx.reply).state) (sym tx.work)
          (subst (λ s. OutcomeMatchesReply (transaction tx.ops graph) s) (sym tx.state)
          (subst (λ (o : TxOutcome). OutcomeMatchesReply o (Committed tx.number tx.answers)) (sym passes-with.1) passes-with.2))))
