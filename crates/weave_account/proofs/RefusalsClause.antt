-- The clause on refusals: the commits before the judgement, in the order of their numbers, leave the graph on which
-- the operation was refused. It rests on the clause on the store.
-- Used by PhasesKept and RightReport.
use Rattle.std.proofs.Common.{◌≡◌, ◌≢◌, ℕ, zero, suc, ◌<◌, ◌≤◌, Bool, true, false, cond, not, ◌||◌, nat_lt, nat_le, ◌==◌, List, [], ◌∷◌, ◌++◌, map, length, Contains, IsTrue, Option, Some, None, Ok, Err, ◌⊎◌, inl, inr, refl, sym, ap, subst, ◌∙◌, arith}
use Rattle.std.specs.Prelude.{IsSomeAnd, slice_get, if◌then◌else◌}
use Rattle.std.specs.List.{filter}
use Rattle.std.specs.Option.{option_and_then}
use Rattle.std.proofs.lemmas.Bool.{and_from, lt-ltb, le-leb, eq-eqb, eqb-true, false_from_ne_true, ltb-true}
use Rattle.std.proofs.lemmas.List.{append_assoc, length-append, map-append}
use Rattle.std.proofs.lemmas.List.Concat.{flat_map-append}
use Rattle.std.proofs.lemmas.List.Sums.{fold-append}
use Rattle.weave_data.proofs.Members.{has_head, has_tail, has_cut, has_map}
use Rattle.graph_ops.specs.PlainGraph.{PlainGraph, PassedTx, empty_graph, transaction, graph_left}
use Rattle.graph_ops.specs.declared.op.Op.{Op}
use Rattle.graph_ops.specs.declared.op.Reason.{Reason}
use Rattle.program_defs.specs.declared.script.Request.{Request}
use Rattle.program_defs.specs.declared.script.Script.{Script}
use Rattle.program_defs.specs.declared.script.Work.TheVariants.{Change, Look}
use Rattle.weave_entries.specs.declared.store_log.StoreEntry.{StoreEntry}
use Rattle.weave_entries.specs.declared.verdict.Verdict.{Verdict}
use Rattle.weave_entries.specs.declared.verdict.Verdict.TheVariants as verdict
use Rattle.weave_entries.specs.StoreReplay.{Commit, Judgement, judged_by, judgements_of, commit_by, commits_of}
use Rattle.weave_data.proofs.Ends.{by_last}
use Rattle.report_rules.specs.declared.report.Reply.{Reply}
use Rattle.report_rules.specs.declared.report.ReplyState.{ReplyState}
use Rattle.report_rules.specs.declared.report.ReplyState.TheVariants.{Unbegun, Begun as Running, Committed, Conflict, Refused, Finished}
use Rattle.report_rules.specs.declared.report.Report.{Report}
use Rattle.weave_data.specs.Facts.{AllHold}
use Rattle.report_rules.specs.Replay.{requests_numbered, the_only, graph_if_passed, graph_if_work_passed, graph_after_commit, graph_of_commits, IsWorkRefused}
use Rattle.report_rules.specs.RightReport.{keeps_number, IsRefusalInPlace, refusals_clause}
use Rattle.report_rules.specs.Lookups.{is_some_and, is_none_or, AreBoth, request_at, same_session, committed_number, commits}
use Rattle.weave_account.specs.declared.account.Account.{Account}
use Rattle.weave_account.specs.Account.{commits_in}
use Rattle.weave_account.specs.Store.{Commits, IsRefused, IsRightVerdict, InTurn}
use Rattle.weave_account.specs.Report.{state_by_verdict, IsReportOfAccount}
use Rattle.weave_data.proofs.Numbers.{in-has, in-head, sorted-at}
use Rattle.weave_data.proofs.Counting.{IsOnce, First, Same, Second, apart}
use Rattle.weave_data.proofs.ListPlaces.{each-holds, list-all-from, unless}
use Rattle.weave_account.proofs.Listed.{IsListedProgram, IsJudgedAt, judged-at, listed-is, verdict-commits}
use Rattle.weave_account.proofs.ListingClause.{session-other}
use Rattle.weave_account.proofs.NumbersClause.{IsNumberedAt, numbered-at, one-number, places, request-at, verdict-at, count-after, as-many-commits, once-from, one-more-commit}
use Rattle.weave_account.proofs.Printing.{order-has}
use Rattle.weave_account.proofs.Storing.{IsVerdictOf, requests_of_commits, commit-of}
use Rattle.weave_account.proofs.Replies.{reply-number}
use Rattle.weave_account.proofs.Transactions.{known, commits-listed}
use Rattle.weave_account.proofs.ConflictsClause.{IsVerdictState, verdict-of, in-turn}
use Rattle.weave_account.proofs.Visiting.{commit-at}
use Rattle.weave_account.proofs.Basis.{Basis}
use Rattle.weave_entries.specs.StoreReplay.{graph_committed, graph_with_commit}

-- a refusal is reported for a refusal alone
pub reported-refused : (v : Verdict) (op : ℕ) (reason : Reason) (at : ℕ) → Refused op reason at ≡ state_by_verdict v
    → v ≡ verdict.Refused op reason at
reported-refused (verdict.Committed number answers counts) op reason at e = cc
reported-refused (verdict.Conflict w n) op reason at e = cc
reported-refused (verdict.Refused o r a) op reason at e = cc

-- of a list of replies of different requests, one alone passes a test
only-one : (p : Reply → Bool) (replies : List Reply) (i : ℕ) (reply : Reply) → slice_get replies i ≡ Some reply → IsTrue (p reply)
    → ((j : ℕ) (other : Reply) → slice_get replies j ≡ Some other → IsTrue (p other) → j ≡ i)
    → map (λ (e : Reply). e.request) (filter p replies) ≡ reply.request ∷ []
only-one p [] i reply e t alone = cc
only-one p (first ∷ replies) zero reply e t alone =
    let same : first ≡ reply = cc in
    ap (λ b. map (λ (e : Reply). e.request) (cond b (first ∷ filter p replies) (filter p replies))) (subst (λ (k : Reply). p k ≡ true) (sym same) t)
    ∙ ap (λ rs. first.request ∷ map (λ (e : Reply). e.request) rs) (none replies (λ j other g k. let z = alone (suc j) other g k in omega (arith, z)))
    ∙ ap (λ (k : Reply). k.request ∷ []) same
  where
    none : (rs : List Reply) → ((j : ℕ) (other : Reply) → slice_get rs j ≡ Some other → IsTrue (p other) → ⊥) → filter p rs ≡ []
    none [] f = refl
    none (x ∷ rs) f = at (p x) refl (none rs (λ j other g k. f (suc j) other g k))
      where
        at : (b : Bool) → p x ≡ b → filter p rs ≡ [] → cond b (x ∷ filter p rs) (filter p rs) ≡ []
        at true is rest = absurd (f 0 x refl is)
        at false is rest = rest
only-one p (first ∷ replies) (suc i) reply e t alone =
    let fails : p first ≡ false = false_from_ne_true _ (λ k. let z = alone 0 first refl k in omega (arith, z)) in
    ap (λ b. map (λ (e : Reply). e.request) (cond b (first ∷ filter p replies) (filter p replies))) fails
    ∙ only-one p replies i reply e t (λ j other g k. let z = alone (suc j) other g k in omega (arith, z))

module _ (script : Script) (account : Account) (basis : Basis script account) (report : Report) (reported : IsReportOfAccount script account report) where
  abbrev Numbered : ℕ → ℕ → Type 0
  Numbered r number = IsNumberedAt script account basis report reported r number

  -- Commits in the order of their numbers

  -- the n-th commit's request is the only one with number n
  numbered : (cs : List Commit) (c : Commit) (rest : List Commit) → commits_in account ≡ cs ++ c ∷ rest
      → requests_numbered (suc (length cs)) report ≡ c.request ∷ []
  numbered cs c rest is =
      let in-all : Contains (commits_in account) c = subst (λ ds. Contains ds c) (sym is) (has_cut cs c rest) in
      let listed =
      commits-listed script account basis report reported c.request
      (in-has _ c.request (has_map (λ (d : Commit). d.request) (commits_in account) c in-all)) in
      elim (listed-is script account report reported.matches c.request (order-has report report.order reported.order c.request listed).1) [
        | inl tx ↦
            let reply-of = reply-number script account report reported.matches c.request tx.reply tx.reply_is in
            let there : Contains report.replies tx.reply = at-has report.replies c.request tx.reply tx.reply_is in
            let number-c : Numbered c.request tx.number =
            subst (λ r. Numbered r tx.number) reply-of
            (numbered-at script account basis report reported tx.reply there tx.number (ap committed_number tx.state)) in
            let place : tx.number ≡ suc (length cs) = number-here number-c in
            only-one (λ (e : Reply). is_some_and (λ n. n == suc (length cs)) (committed_number e.state)) report.replies c.request tx.reply tx.reply_is
            (subst (λ s. IsTrue (is_some_and (λ n. n == suc (length cs)) (committed_number s))) (sym tx.state) (eq-eqb tx.number (suc (length cs)) place))
            (λ j other g k. alone j other g k number-c place)
            ∙ ap (λ r. r ∷ []) reply-of
        | inr program ↦ absurd (no-program program (known script account basis report reported c in-all).work)
      ]
    where
      at-has : (rs : List Reply) (i : ℕ) (x : Reply) → slice_get rs i ≡ Some x → Contains rs x
      at-has [] i x e = cc
      at-has (y ∷ rs) zero x e = let same : y ≡ x = cc in subst (λ k. Contains (y ∷ rs) k) same (has_head y rs)
      at-has (y ∷ rs) (suc i) x e = has_tail y rs x (at-has rs i x e)

      no-program : IsListedProgram script account report c.request
          → IsSomeAnd (request_at script c.request) (λ (request : Request). request.work ≡ Change c.ops) → ⊥
      no-program program work =
          let w = subst (λ q. IsSomeAnd q (λ (request : Request). request.work ≡ Change c.ops)) program.request_is work in
          let clash : Look program.program ≡ Change c.ops = sym program.work ∙ w in cc

      number-here : {number : ℕ} → Numbered c.request number → number ≡ suc (length cs)
      number-here a =
          let n = a.number_is in
          let entry = (a.at).entry in
          let single =
          one-more-commit script account basis report reported entry.author entry.deed
          (verdict-at script account basis report reported a.at a.commits_here) in
          let of = commit-of entry.author entry.deed single.0 (subst (λ ds. Contains ds single.0) (sym single.1) (has_head single.0 [])) in
          let same-request : (single.0).request ≡ c.request = sym of.request ∙ request-at script account basis report reported a.at in
          let split : commits_in account ≡ commits_of (a.at).before ++ single.0 ∷ commits_of (a.at).after =
          ap commits_of (a.at).is ∙ flat_map-append (λ (e : StoreEntry). commit_by e.deed) (a.at).before (entry ∷ (a.at).after)
          ∙ ap (λ ds. commits_of (a.at).before ++ (ds ++ commits_of (a.at).after)) single.1 in
          let once = once-from script account basis report reported account.store basis.is.store.once in
          elim (apart cs c rest (commits_of (a.at).before) single.0 (commits_of (a.at).after) (sym is ∙ split)) [
            | Same before one ↦ let long = ap length before in omega (arith, n, long)
            | First more e ↦ absurd (twice cs c more (single.0) (commits_of (a.at).after) (subst (λ b. commits_in account ≡ b ++ single.0 ∷ commits_of (a.at).after) e split) same-request once)
            | Second more e ↦ absurd (twice (commits_of (a.at).before) single.0 more c rest (subst (λ b. commits_in account ≡ b ++ c ∷ rest) e is) (sym same-request) once)
          ]
        where
          twice : (first : List Commit) (x : Commit) (middle : List Commit) (y : Commit) (last : List Commit)
              → commits_in account ≡ (first ++ x ∷ middle) ++ y ∷ last → y.request ≡ x.request
              → IsOnce (requests_of_commits (commits_in account)) → ⊥
          twice first x middle y last e same once =
              let all : requests_of_commits (commits_in account) ≡ requests_of_commits (first ++ x ∷ middle) ++ requests_of_commits (y ∷ last) =
              ap requests_of_commits e ∙ map-append (λ (d : Commit). d.request) (first ++ x ∷ middle) (y ∷ last) in
              sorted-at (λ a b. a ≢ b) (requests_of_commits (first ++ x ∷ middle)) (requests_of_commits (y ∷ last)) x.request y.request
              (subst IsOnce all once)
              (in-has _ x.request (has_map (λ (d : Commit). d.request) (first ++ x ∷ middle) x (has_cut first x middle)))
              (in-head y.request _) (sym same)

      alone : (j : ℕ) (other : Reply) → slice_get report.replies j ≡ Some other
          → IsTrue (is_some_and (λ n. n == suc (length cs)) (committed_number other.state)) → {number : ℕ} → Numbered c.request number
          → number ≡ suc (length cs) → j ≡ c.request
      alone j other g k number-c place = at (committed_number other.state) refl k
        where
          at : (o : Option ℕ) → committed_number other.state ≡ o → IsTrue (is_some_and (λ n. n == suc (length cs)) o) → j ≡ c.request
          at None e t = cc
          at (Some n) e t =
              let same : n ≡ suc (length cs) = eqb-true n (suc (length cs)) t in
              let of-other = numbered-at script account basis report reported other (at-has report.replies j other g) n e in
              sym (reply-number script account report reported.matches j other g)
              ∙ one-number script account basis report reported other.request c.request n of-other (subst (λ m. Numbered c.request m) (place ∙ sym same) number-c)

  -- a commit on the graph of those before it
  commit-graph : (q : Option Request) (ops : List Op) (graph : PlainGraph) (passed : PassedTx)
      → IsSomeAnd q (λ (request : Request). request.work ≡ Change ops) → transaction ops graph ≡ Ok passed
      → graph_after_commit q (Some graph) ≡ Some (graph_left graph (transaction ops graph))
  commit-graph None ops graph passed work is = absurd work
  commit-graph (Some request) ops graph passed work is =
      ap (λ w. graph_if_work_passed w graph) work ∙ ap graph_if_passed is ∙ ap (λ o. Some (graph_left graph o)) (sym is)

  -- a commit passes on the graph of those before it
  commit-passes : (cs : List Commit) (c : Commit) (rest : List Commit) → commits_in account ≡ cs ++ c ∷ rest
      → (passed : PassedTx) × (transaction c.ops (graph_committed cs) ≡ Ok passed)
  commit-passes cs c rest is =
      let in-all : Contains (commits_in account) c = subst (λ ds. Contains ds c) (sym is) (has_cut cs c rest) in
      let place = commit-at account c in-all in
      let split : commits_in account ≡ commits_of place.before ++ c ∷ commits_of place.after =
      ap commits_of place.is ∙ flat_map-append (λ (e : StoreEntry). commit_by e.deed) place.before (place.entry ∷ place.after)
      ∙ ap (λ ds. commits_of place.before ++ (ds ++ commits_of place.after)) place.commit_is in
      let once = once-from script account basis report reported account.store basis.is.store.once in
      let of = commit-of (place.entry).author (place.entry).deed c (subst (λ ds. Contains ds c) (sym place.commit_is) (has_head c [])) in
      let rule = basis.is.store.judges place.before place.entry place.after place.is in
      let passed = verdict-commits (judged_by (place.entry).author (place.entry).deed).verdict of.verdict in
      let right : Commits account (commits_of place.before) (judged_by (place.entry).author (place.entry).deed).stamp (judged_by (place.entry).author (place.entry).deed).ops passed.0 passed.1 passed.2 =
      subst (λ k. IsRightVerdict account (commits_of place.before) (judged_by (place.entry).author (place.entry).deed).stamp (judged_by (place.entry).author (place.entry).deed).ops k) passed.3 rule.verdict in
      let same : commits_of place.before ≡ cs = elim (apart cs c rest (commits_of place.before) c (commits_of place.after) (sym is ∙ split)) [
        | Same before one ↦ sym before
        | First more e ↦ absurd (again cs c more (commits_of place.after) (subst (λ b. commits_in account ≡ b ++ c ∷ commits_of place.after) e split) once)
        | Second more e ↦ absurd (again (commits_of place.before) c more rest (subst (λ b. commits_in account ≡ b ++ c ∷ rest) e is) once)
      ] in
      (record { graph = right.graph; gots = passed.1 }, ap (λ b. transaction c.ops (graph_committed b)) (sym same) ∙ ap (λ ops. transaction ops (graph_committed (commits_of place.before))) (sym of.ops) ∙ right.passes)
    where
      again : (first : List Commit) (x : Commit) (middle last : List Commit)
          → commits_in account ≡ (first ++ x ∷ middle) ++ x ∷ last → IsOnce (requests_of_commits (commits_in account)) → ⊥
      again first x middle last e once =
          let all : requests_of_commits (commits_in account) ≡ requests_of_commits (first ++ x ∷ middle) ++ requests_of_commits (x ∷ last) =
          ap requests_of_commits e ∙ map-append (λ (d : Commit). d.request) (first ++ x ∷ middle) (x ∷ last) in
          sorted-at (λ a b. a ≢ b) (requests_of_commits (first ++ x ∷ middle)) (requests_of_commits (x ∷ last)) x.request x.request
          (subst IsOnce all once)
          (in-has _ x.request (has_map (λ (d : Commit). d.request) (first ++ x ∷ middle) x (has_cut first x middle))) (in-head x.request _) refl

  -- the graph of commits 1 to n in the report is that of the first n commits of the store
  graph-is : (cs : List Commit) (rest : List Commit) → commits_in account ≡ cs ++ rest
      → graph_of_commits script report (length cs) ≡ Some (graph_committed cs)
  graph-is =
      by_last (λ cs. (rest : List Commit) → commits_in account ≡ cs ++ rest → graph_of_commits script report (length cs) ≡ Some (graph_committed cs))
      (λ rest is. refl)
      (λ cs c so-far rest is. next cs c rest (is ∙ append_assoc cs (c ∷ []) rest) (so-far (c ∷ rest) (is ∙ append_assoc cs (c ∷ []) rest)))
    where
      next : (cs : List Commit) (c : Commit) (rest : List Commit) → commits_in account ≡ cs ++ c ∷ rest
          → graph_of_commits script report (length cs) ≡ Some (graph_committed cs)
          → graph_of_commits script report (length (cs ++ c ∷ [])) ≡ Some (graph_committed (cs ++ c ∷ []))
      next cs c rest is so-far =
          let long : length (cs ++ c ∷ []) ≡ suc (length cs) = length-append cs (c ∷ []) ∙ omega arith in
          let passes = commit-passes cs c rest is in
          let in-all : Contains (commits_in account) c = subst (λ ds. Contains ds c) (sym is) (has_cut cs c rest) in
          ap (graph_of_commits script report) long
          ∙ ap (λ rs. graph_after_commit (option_and_then (request_at script) (the_only rs)) (graph_of_commits script report (length cs)))
          (numbered cs c rest is)
          ∙ ap (graph_after_commit (request_at script c.request)) so-far
          ∙ commit-graph (request_at script c.request) c.ops (graph_committed cs) passes.0
          (known script account basis report reported c in-all).work passes.1
          ∙ ap Some (sym (fold-append graph_with_commit empty_graph cs (c ∷ [])))

  -- Refusals

  -- a refusal's number is among those of its session
  keeps : (r at : ℕ) (judged : Judgement) (place : IsJudgedAt script account basis r judged) (op : ℕ) (reason : Reason)
      → judged.verdict ≡ verdict.Refused op reason at → at ≡ length (commits_of place.before)
      → (other : Reply) → Contains report.replies other → IsTrue (same_session script other.request r)
      → IsTrue (keeps_number at r other)
  keeps r at judged place op reason refused at-is other h same = number (committed_number other.state) refl
    where
      not-commit : (entry : StoreEntry) → judged_by entry.author entry.deed ≡ judged
          → IsVerdictOf (judged_by entry.author entry.deed).verdict → ⊥
      not-commit entry is commits' = subst IsVerdictOf (ap (λ (j : Judgement). j.verdict) is ∙ refused) commits'

      first-turn : {number : ℕ} (a : Numbered other.request number) (more : List StoreEntry)
          → place.before ≡ (a.at).before ++ (a.at).entry ∷ more → other.request < r
      first-turn a more e =
          let j : Judgement = judged_by ((a.at).entry).author ((a.at).entry).deed in
          let there : Contains (judgements_of place.before) j =
          subst (λ b. Contains (judgements_of b) j) (sym e)
          (has_map (λ (e : StoreEntry). judged_by e.author e.deed) ((a.at).before ++ (a.at).entry ∷ more) (a.at).entry (has_cut (a.at).before (a.at).entry more)) in
          let turn = in-turn script account basis report reported place.before place.entry place.after place.is j there in
          subst (λ k. IsTrue (same_session script k r) → k < r) (request-at script account basis report reported a.at)
          (subst (λ k. InTurn script j.request k) (request-at script account basis report reported place) turn) same

      second-turn : {number : ℕ} (a : Numbered other.request number) (more : List StoreEntry)
          → (a.at).before ≡ place.before ++ place.entry ∷ more → r < other.request
      second-turn a more e =
          let j : Judgement = judged_by (place.entry).author (place.entry).deed in
          let there : Contains (judgements_of (a.at).before) j =
          subst (λ b. Contains (judgements_of b) j) (sym e)
          (has_map (λ (e : StoreEntry). judged_by e.author e.deed) (place.before ++ place.entry ∷ more) place.entry (has_cut place.before place.entry more)) in
          let turn = in-turn script account basis report reported (a.at).before (a.at).entry (a.at).after (a.at).is j there in
          subst (λ k. IsTrue (same_session script k other.request) → k < other.request)
          (request-at script account basis report reported place)
          (subst (λ k. InTurn script j.request k) (request-at script account basis report reported a.at) turn)
          (session-other script other.request r same)

      less-more : (number : ℕ) → Numbered other.request number
          → ((other.request < r) × (number ≤ at)) ⊎ ((r < other.request) × (at < number))
      less-more number a =
          let n = a.number_is in
          elim (places script account basis report reported a.at place) [
            | First more e ↦ inl (first-turn a more e, let long = count-after script account basis report reported (a.at).before (a.at).entry more (verdict-at script account basis report reported a.at a.commits_here) in let eq = ap (λ b. length (commits_of b)) e in omega (arith, n, long, eq, at-is))
            | Second more e ↦ inr (second-turn a more e, let long = length-append (commits_of place.before) (commits_of (place.entry ∷ more)) in let split = ap length (flat_map-append (λ (e : StoreEntry). commit_by e.deed) place.before (place.entry ∷ more)) in let eq = ap (λ b. length (commits_of b)) e in omega (arith, n, long, split, eq, at-is))
            | Same before one ↦ absurd (not-commit place.entry place.judged_is (subst (λ (e : StoreEntry). IsVerdictOf (judged_by e.author e.deed).verdict) one (verdict-at script account basis report reported a.at a.commits_here)))
          ]

      number : (o : Option ℕ) → committed_number other.state ≡ o
          → IsTrue (if nat_lt other.request r then is_none_or (λ number. nat_le number at) o else is_none_or (λ number. nat_lt at number) o)
      number None e = both (nat_lt other.request r)
        where
          both : (b : Bool) → IsTrue (if b then true else true)
          both true = refl
          both false = refl
      number (Some n) e =
          elim (less-more n (numbered-at script account basis report reported other h n e)) [
            | inl less ↦ subst (λ b. IsTrue (if b then nat_le n at else nat_lt at n)) (sym (lt-ltb other.request r less.0)) (le-leb n at less.1)
            | inr more ↦ subst (λ b. IsTrue (if b then nat_le n at else nat_lt at n)) (sym (false_from_ne_true _ (λ k. let lt = ltb-true other.request r k in let gt = more.0 in omega (arith, lt, gt)))) (lt-ltb at n more.1)
          ]

  refusal-here : (reply : Reply) → Contains report.replies reply → (op : ℕ) (reason : Reason) (at : ℕ)
      → reply.state ≡ Refused op reason at → IsRefusalInPlace script report reply.request (Refused op reason at)
  refusal-here reply h op reason at is =
      let has = verdict-of script account basis report reported reply h (subst IsVerdictState (sym is) tt) in
      let place = judged-at script account basis reply.request has.judged has.found in
      let verdict-is = reported-refused (has.judged).verdict op reason at (sym is ∙ has.reported) in
      let refused : IsRefused (commits_of place.before) (has.judged).ops op reason at =
      subst (λ k. IsRightVerdict account (commits_of place.before) (has.judged).stamp (has.judged).ops k) verdict-is (place.rule).verdict in
      let split = ap commits_of place.is ∙ flat_map-append (λ (e : StoreEntry). commit_by e.deed) place.before (place.entry ∷ place.after) in
      let graph : graph_of_commits script report at ≡ Some (graph_committed (commits_of place.before)) =
      ap (graph_of_commits script report) refused.at_is ∙ graph-is (commits_of place.before) (commits_of (place.entry ∷ place.after)) split in
      let all = as-many-commits script account basis report reported in
      let long = ap length split ∙ length-append (commits_of place.before) (commits_of (place.entry ∷ place.after)) in
      let at-is = refused.at_is in
      let work : IsSomeAnd (request_at script reply.request) (λ (request : Request). request.work ≡ Change (has.judged).ops) = subst (λ r. IsSomeAnd (request_at script r) (λ (request : Request). request.work ≡ Change (has.judged).ops)) place.request_is (place.rule).work in (
        and_from _ _ (le-leb at (commits report) (omega (arith, all, long, at-is)))
            (list-all-from (λ (other : Reply). not (same_session script other.request reply.request) || keeps_number at reply.request other) report.replies (λ other k. unless (same_session script other.request reply.request) (keeps_number at reply.request other) (keeps reply.request at has.judged place op reason verdict-is at-is other k))),
        subst (λ g. AreBoth (λ graph (request : Request). IsWorkRefused graph request.work op reason) g (request_at script reply.request)) (sym graph) (refused-work (request_at script reply.request) (has.judged).ops (graph_committed (commits_of place.before)) work refused.refused),
      )
    where
      refused-work : (q : Option Request) (ops : List Op) (graph : PlainGraph)
          → IsSomeAnd q (λ (request : Request). request.work ≡ Change ops)
          → transaction ops graph ≡ Err (record { op = op; reason = reason })
          → AreBoth (λ graph (request : Request). IsWorkRefused graph request.work op reason) (Some graph) q
      refused-work None ops graph work is = absurd work
      refused-work (Some request) ops graph work is = subst (λ w. IsWorkRefused graph w op reason) (sym work) is

  -- the report of an account satisfies the clause on refusals
  pub refusals : AllHold (refusals_clause script report)
  refusals =
      each-holds (λ (reply : Reply). IsRefusalInPlace script report reply.request reply.state) report.replies (λ reply h. at reply h reply.state refl)
    where
      at : (reply : Reply) → Contains report.replies reply → (state : ReplyState) → reply.state ≡ state
          → IsRefusalInPlace script report reply.request state
      at reply h (Refused op reason a) is = refusal-here reply h op reason a is
      at reply h Unbegun is = tt
      at reply h Running is = tt
      at reply h (Committed number answers) is = tt
      at reply h (Conflict v newer) is = tt
      at reply h (Finished answer) is = tt
