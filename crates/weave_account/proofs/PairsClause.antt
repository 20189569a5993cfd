-- The clause on pairs: both ends name or visit the vertex. It rests on the clauses on the oracle and the store, and
-- for a program on those on shards and programs.
-- Used by RightReport.
use Rattle.std.proofs.Common.{◌≡◌, ℕ, zero, suc, ◌-◌, ◌==◌, List, [], ◌∷◌, ◌++◌, Contains, IsTrue, Option, Some, None, inl, inr, refl, sym, ap, subst, ◌∙◌}
use Rattle.std.specs.Prelude.{IsSomeAnd, slice_get, reverse}
use Rattle.std.specs.List.{filter_map, cons_option}
use Rattle.std.specs.Option.{option_map}
use Rattle.std.proofs.lemmas.Bool.{and_from, or_left, or_right, eqb-true}
use Rattle.std.proofs.lemmas.List.Concat.{flat_map-append}
use Rattle.weave_data.proofs.Members.{has_read, has_head, has_tail, has_none, find_has, filter_has, has_cut}
use Rattle.vector_stamp.specs.declared.clock.Stamp.{Stamp}
use Rattle.vector_stamp.specs.Order.{unordered}
use Rattle.vector_stamp.specs.Precedence.{GivenPair}
use Rattle.weave_data.specs.Names.{same_name}
use Rattle.weave_data.specs.declared.name.Name.{Name}
use Rattle.graph_ops.specs.Mentions.{named_by, is_among}
use Rattle.graph_ops.specs.declared.op.Op.{Op}
use Rattle.graph_ops.proofs.Vertices.{same_name-refl}
use Rattle.program_defs.specs.declared.script.Request.{Request}
use Rattle.program_defs.specs.declared.script.Script.{Script}
use Rattle.program_defs.specs.declared.script.Work.TheVariants.{Change}
use Rattle.weave_entries.specs.declared.store_log.StoreEntry.{StoreEntry}
use Rattle.weave_entries.specs.StoreReplay.{Commit, judged_by, commit_by, commits_of, names_vertex as names, commits_naming, last_naming}
use Rattle.weave_entries.specs.StoreRule.{LastCommit, lasts_of, asked_of, asked_vertices}
use Rattle.report_rules.specs.declared.report.Pair.{Pair}
use Rattle.report_rules.specs.declared.report.Reply.{Reply}
use Rattle.report_rules.specs.declared.report.Report.{Report}
use Rattle.weave_data.specs.Facts.{AllHold}
use Rattle.report_rules.specs.RightReport.{is_committed_and_names, MayBeLaterAt, IsPairInPlace, pairs_clause}
use Rattle.report_rules.specs.Lookups.{is_some_and, are_both, AreBoth, request_at, reply_at, stamp_at}
use Rattle.weave_account.specs.declared.account.Account.{Account}
use Rattle.weave_account.specs.Account.{pairs_in, commits_in}
use Rattle.weave_account.specs.Pairs.{IsAddedByCommit, IsAddedByVisit, IsPairInAccount, ArePairsOf}
use Rattle.weave_account.specs.Report.{IsReportOfAccount}
use Rattle.weave_data.proofs.Images.{map-has}
use Rattle.weave_data.proofs.ListPlaces.{each-holds}
use Rattle.weave_account.proofs.Storing.{commit-of}
use Rattle.weave_account.proofs.Replies.{has-reply, same-stamp}
use Rattle.weave_account.proofs.Transactions.{known}
use Rattle.weave_account.proofs.ConflictsClause.{is-committed, commit-names, commits-before, reverse-has}
use Rattle.weave_account.proofs.Basis.{Basis}

-- the pair's own pair of stamps
pair-of : (account : Account) (pairs : List Pair) (givens : List GivenPair) (pair : Pair) → ArePairsOf account pairs givens
    → Contains pairs pair → (given : GivenPair) × Contains givens given × IsPairInAccount account pair given
pair-of account [] givens pair are h = absurd (has_none pair h)
pair-of account (first ∷ pairs) [] pair are h = absurd are
pair-of account (first ∷ pairs) (given ∷ givens) pair are h =
    elim (has_read first pairs pair h) [
      | inl same ↦ (given, has_head given givens, subst (λ (p : Pair). IsPairInAccount account p given) same are.0)
      | inr more ↦ (let rest = pair-of account pairs givens pair are.1 more in (rest.0, has_tail given givens rest.0 rest.1, rest.2))
    ]

-- what is asked is named
among-last : (f : Name → Option LastCommit) → ((v : Name) (last : LastCommit) → f v ≡ Some last → last.vertex ≡ v)
    → (vs : List Name) (last : LastCommit) → Contains (filter_map f vs) last → IsTrue (is_among vs last.vertex)
among-last f of [] last h = absurd (has_none last h)
among-last f of (v ∷ vs) last h = at (f v) refl h (among-last f of vs last)
  where
    at : (o : Option LastCommit) → f v ≡ o → Contains (cons_option o (filter_map f vs)) last
        → (Contains (filter_map f vs) last → IsTrue (is_among vs last.vertex)) → IsTrue (is_among (v ∷ vs) last.vertex)
    at None e g rest = or_right (same_name v last.vertex) _ (rest g)
    at (Some first) e g rest = elim (has_read first _ last g) [
      | inl same ↦ (let is : first.vertex ≡ v = of v first e in or_left _ _ (subst (λ w. IsTrue (same_name v w)) (sym is ∙ ap (λ (l : LastCommit). l.vertex) same) (same_name-refl v)))
      | inr more ↦ or_right (same_name v last.vertex) _ (rest more)
    ]

last-vertex : (commits : List Commit) (v : Name) (last : LastCommit)
    → option_map (λ (commit : Commit). record { vertex = v; commit = commit }) (last_naming v commits) ≡ Some last
    → last.vertex ≡ v
last-vertex commits v last e = at (last_naming v commits) e
  where
    at : (o : Option Commit) → option_map (λ (commit : Commit). record { vertex = v; commit = commit }) o ≡ Some last
        → last.vertex ≡ v
    at None e = cc
    at (Some c) e = let same : record { vertex = v; commit = c } ≡ last = cc in sym (ap (λ (l : LastCommit). l.vertex) same)

asked-named : (stamp : Stamp) (ops : List Op) (commits : List Commit) (v : Name)
    → Contains (asked_vertices stamp (lasts_of ops commits)) v → IsTrue (is_among (named_by ops) v)
asked-named stamp ops commits v h =
    let image = map-has (λ (last : LastCommit). last.vertex) (asked_of stamp (lasts_of ops commits)) v h in
    let parts = filter_has (λ (last : LastCommit). unordered last.commit.stamp stamp) (lasts_of ops commits) image.of image.has in
    subst (λ w. IsTrue (is_among (named_by ops) w)) image.is (among-last _ (last-vertex commits) (named_by ops) image.of parts.0)

module _ (script : Script) (account : Account) (basis : Basis script account) (report : Report) (reported : IsReportOfAccount script account report)
    (visited : (pair : Pair) → IsAddedByVisit account pair → AreBoth (λ (request : Request) (reply : Reply). MayBeLaterAt script report pair.vertex pair.later request.work reply.state) (request_at script pair.later) (reply_at report pair.later)) where
  both-unordered : (pair : Pair) (given : GivenPair) → Contains (pairs_in account) given → IsPairInAccount account pair given
      → IsTrue (are_both unordered (stamp_at report pair.earlier) (stamp_at report pair.later))
  both-unordered pair given h is =
      subst (λ s. IsTrue (are_both unordered s (stamp_at report pair.later)))
      (sym (same-stamp script account report reported.matches basis pair.earlier ∙ is.earlier_is))
      (subst (λ s. IsTrue (are_both unordered (Some given.0) s)) (sym (same-stamp script account report reported.matches basis pair.later ∙ is.later_is))
      (basis.laws.left_open account.oracle basis.is.oracle.log given.0 given.1 h))

  -- a commit is a committed transaction that names its vertex
  committed-names : (commit : Commit) (v : Name) → Contains (commits_in account) commit → IsTrue (names v commit)
      → IsTrue (is_committed_and_names script report v commit.request)
  committed-names commit v h named =
      and_from _ _ (is-committed script account basis report reported commit h) (commit-names script account basis report reported commit v h named)

  last-commit : (before : List StoreEntry) (rest : List StoreEntry) → account.store ≡ before ++ rest → (v : Name) (r : ℕ)
      → IsTrue (is_some_and (λ (last : Commit). last.request == r) (last_naming v (commits_of before)))
      → IsTrue (is_committed_and_names script report v r)
  last-commit before rest is v r h = at (last_naming v (commits_of before)) refl h
    where
      at : (o : Option Commit) → last_naming v (commits_of before) ≡ o
          → IsTrue (is_some_and (λ (last : Commit). last.request == r) o) → IsTrue (is_committed_and_names script report v r)
      at None e k = cc
      at (Some last) e k =
          let found = find_has (names v) (reverse (commits_of before)) last e in
          subst (λ n. IsTrue (is_committed_and_names script report v n)) (eqb-true last.request r k)
          (committed-names last v (commits-before script account basis report reported before rest is last (reverse-has (commits_of before) last found.0)) found.1)

  by-commit : (pair : Pair) → IsAddedByCommit account pair
      → IsTrue (is_committed_and_names script report pair.vertex pair.earlier) × AreBoth (λ (request : Request) (reply : Reply). MayBeLaterAt script report pair.vertex pair.later request.work reply.state) (request_at script pair.later) (reply_at report pair.later)
  by-commit pair added =
      let asked = (judged_by (added.entry).author (added.entry).deed).asked in
      let found =
      find_has (λ v. is_some_and (λ (last : Commit). last.request == pair.earlier) (last_naming v (commits_of added.before))) asked pair.vertex added.vertex_is in
      let of =
      commit-of (added.entry).author (added.entry).deed added.commit
      (subst (λ cs. Contains cs added.commit) (sym added.commit_is) (has_head added.commit [])) in
      let rule = basis.is.store.judges added.before added.entry added.after added.at in
      let named : IsTrue (names pair.vertex added.commit) =
      subst (λ ops. IsTrue (is_among (named_by ops) pair.vertex)) of.ops
      (asked-named (judged_by (added.entry).author (added.entry).deed).stamp (judged_by (added.entry).author (added.entry).deed).ops (commits_of added.before) pair.vertex (subst (λ vs. Contains vs pair.vertex) rule.asked found.0)) in
      let in-commits : Contains (commits_in account) added.commit =
      subst (λ cs. Contains cs added.commit)
      (sym (ap commits_of added.at ∙ flat_map-append (λ (e : StoreEntry). commit_by e.deed) added.before (added.entry ∷ added.after) ∙ ap (λ cs. commits_of added.before ++ (cs ++ commits_of added.after)) added.commit_is))
      (has_cut (commits_of added.before) added.commit (commits_of added.after)) in
      let later : IsTrue (is_committed_and_names script report pair.vertex pair.later) =
      subst (λ r. IsTrue (is_committed_and_names script report pair.vertex r)) added.later_is
      (committed-names added.commit pair.vertex in-commits named) in
      let work =
      subst (λ r. IsSomeAnd (request_at script r) (λ (request : Request). request.work ≡ Change (added.commit).ops)) added.later_is
      (known script account basis report reported added.commit in-commits).work in
      (last-commit added.before (added.entry ∷ added.after) added.at pair.vertex pair.earlier found.1, at (added.commit).ops (request_at script pair.later) refl work later)
    where
      at : (ops : List Op) (q : Option Request) → request_at script pair.later ≡ q
          → IsSomeAnd q (λ (request : Request). request.work ≡ Change ops)
          → IsTrue (is_committed_and_names script report pair.vertex pair.later)
          → AreBoth (λ (request : Request) (reply : Reply). MayBeLaterAt script report pair.vertex pair.later request.work reply.state) (request_at script pair.later) (reply_at report pair.later)
      at ops None e work later = absurd work
      at ops (Some request) e work later =
          let reply = has-reply script account report reported.matches pair.later request e in
          subst (λ q. AreBoth (λ (request : Request) (reply : Reply). MayBeLaterAt script report pair.vertex pair.later request.work reply.state) q (reply_at report pair.later))
          (sym e)
          (subst (λ o. AreBoth (λ (request : Request) (reply : Reply). MayBeLaterAt script report pair.vertex pair.later request.work reply.state) (Some request) o) (sym reply.at)
          (subst (λ w. MayBeLaterAt script report pair.vertex pair.later w (reply.reply).state) (sym work) later))

  by-visit : (pair : Pair) → IsAddedByVisit account pair → IsTrue (is_committed_and_names script report pair.vertex pair.earlier)
  by-visit pair added =
      at (slice_get (commits_naming pair.vertex (commits_in account)) ((added.visit).updates - 1)) refl added.last_is
    where
      at : (o : Option Commit) → slice_get (commits_naming pair.vertex (commits_in account)) ((added.visit).updates - 1) ≡ o
          → IsSomeAnd o (λ (commit : Commit). commit.request ≡ pair.earlier)
          → IsTrue (is_committed_and_names script report pair.vertex pair.earlier)
      at None e is = absurd is
      at (Some commit) e is =
          let parts =
          filter_has (names pair.vertex) (commits_in account) commit
          (got (commits_naming pair.vertex (commits_in account)) ((added.visit).updates - 1) commit e) in
          subst (λ n. IsTrue (is_committed_and_names script report pair.vertex n)) is (committed-names commit pair.vertex parts.0 parts.1)
        where
          got : (xs : List Commit) (i : ℕ) (x : Commit) → slice_get xs i ≡ Some x → Contains xs x
          got [] i x e = cc
          got (y ∷ xs) zero x e = let same : y ≡ x = cc in subst (λ k. Contains (y ∷ xs) k) same (has_head y xs)
          got (y ∷ xs) (suc i) x e = has_tail y xs x (got xs i x e)

  -- the report of an account satisfies the clause on pairs
  pub pairs : AllHold (pairs_clause script report)
  pairs = each-holds (IsPairInPlace script report) report.pairs (λ pair h.
      let of = pair-of account report.pairs (pairs_in account) pair reported.matches.pairs h in
      let ends : IsTrue (is_committed_and_names script report pair.vertex pair.earlier) × AreBoth (λ (request : Request) (reply : Reply). MayBeLaterAt script report pair.vertex pair.later request.work reply.state) (request_at script pair.later) (reply_at report pair.later) =
      elim of.2.added [ inl commit ↦ by-commit pair commit | inr visit ↦ (by-visit pair visit, visited pair visit) ] in
      (both-unordered pair of.0 of.1 of.2, ends.0, ends.1))
