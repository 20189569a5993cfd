-- The report of an account is one: its replies, its pairs and its order. It rests on the clauses on gatekeepers, the
-- store, the oracle and shards.
-- Used by `account_has_one_report` and crate weaver_top.
use Rattle.std.proofs.Common.{◌≡◌, ◌≢◌, ℕ, zero, suc, ◌-◌, ◌<◌, false, List, [], ◌∷◌, ◌++◌, map, take, length, Contains, AllPairs, IsTrue, Option, Some, None, ◌⊎◌, inl, inr, refl, sym, ap, subst, ◌∙◌, arith}
use Rattle.std.specs.Prelude.{slice_get, IsSomeAnd}
use Rattle.std.specs.List.{AllByRecursion, filter, flat_map}
use Rattle.std.specs.Option.{option_map}
use Rattle.std.proofs.lemmas.Bool.{both_ways}
use Rattle.std.proofs.lemmas.List.{map-append}
use Rattle.std.proofs.lemmas.List.Concat.{flat_map-append}
use Rattle.std.proofs.lemmas.Option.{slice_get-map}
use Rattle.weave_data.proofs.Members.{has_head, has_cut, has_filter, has_flat, has_map, filter_has}
use Rattle.weave_data.proofs.Ordered.{pairs_cases, pairs-of-images}
use Rattle.weave_data.specs.declared.name.Name.{Name}
use Rattle.vector_stamp.specs.declared.clock.Stamp.{Stamp}
use Rattle.vector_stamp.specs.Precedence.{GivenPair}
use Rattle.vector_stamp.specs.Seeing.{last_seen}
use Rattle.program_defs.specs.declared.program.Answer.{Answer}
use Rattle.program_defs.specs.declared.program.Program.{Program}
use Rattle.program_defs.specs.PlainAnswer.{IsPlainAnswer}
use Rattle.program_defs.specs.Visits.{graph_read}
use Rattle.program_defs.specs.declared.script.Request.{Request}
use Rattle.program_defs.specs.declared.script.Script.{Script}
use Rattle.program_defs.specs.declared.script.Work.{Work}
use Rattle.program_defs.specs.declared.script.Work.TheVariants.{Change, Look}
use Rattle.weave_entries.specs.declared.shard_log.ShardEntry.{ShardEntry}
use Rattle.weave_entries.specs.declared.store_log.StoreEntry.{StoreEntry}
use Rattle.weave_entries.specs.ShardReplay.{Update, Visit, visit_by, visits_of, updates_of}
use Rattle.weave_entries.specs.StoreReplay.{Commit, judged_by, commit_by, commits_of, commits_naming, names_vertex as names}
use Rattle.report_rules.specs.declared.report.Pair.{Pair}
use Rattle.report_rules.specs.declared.report.Reply.{Reply}
use Rattle.report_rules.specs.declared.report.ReplyState.{ReplyState}
use Rattle.report_rules.specs.declared.report.ReplyState.TheVariants.{Unbegun, Begun as Running, Committed, Conflict, Refused, Finished}
use Rattle.report_rules.specs.declared.report.Report.{Report}
use Rattle.report_rules.specs.PrintedOrder.{IsPrintedOrder, TakesAll, without_request}
use Rattle.report_rules.specs.Lookups.{request_at}
use Rattle.weave_account.specs.declared.account.Account.{Account}
use Rattle.weave_account.specs.Account.{commits_in, is_ended, pairs_in, reads_of, shard_log, stamp_of}
use Rattle.weave_account.specs.Oracle.{marked_in, seen_last}
use Rattle.weave_account.specs.Pairs.{first_after, ArePairsOf, IsAddedByCommit, IsAddedByVisit, IsPairInAccount}
use Rattle.weave_account.specs.Report.{IsReplyInAccount, IsReportOfAccount, IsStateOf, IsStateOfProgram}
use Rattle.weave_account.specs.Shards.{AreShardDeeds, update_of}
use Rattle.weave_account.proofs.Basis.{Basis}
use Rattle.weave_account.proofs.Beginning.{list-there}
use Rattle.weave_data.proofs.Images.{flat-has, get-has}
use Rattle.weave_data.proofs.Counting.{First, Same, Second, apart}
use Rattle.weave_account.proofs.Meeting.{visit-fits}
use Rattle.weave_account.proofs.PhaseOrder.{twice}
use Rattle.weave_account.proofs.PlacedPairs.{commit-known, one-request}
use Rattle.weave_account.proofs.RepliesClause.{begin-of}
use Rattle.weave_account.proofs.Storing.{commit-of}
use Rattle.weave_account.proofs.Updates.{grows, shows}
use Rattle.weave_account.proofs.VisitedPairs.{program-begun}
use Rattle.weave_account.proofs.Visiting.{get-take}

-- Lists

-- the last of the first n elements is that before place n
seen-is : (n : ℕ) (stamps : List Stamp) (s : Stamp) → 0 < n → slice_get stamps (n - 1) ≡ Some s → last_seen n stamps ≡ s ∷ []
seen-is zero stamps s some e = absurd (omega (arith, some))
seen-is (suc n) [] s some e = cc
seen-is (suc zero) (x ∷ stamps) s some e = let same : x ≡ s = cc in ap (λ k. k ∷ []) same
seen-is (suc (suc n)) (x ∷ stamps) s some e =
    let one : suc (suc n) - 1 ≡ suc n = omega arith in
    let two : n ≡ suc n - 1 = omega arith in
    seen-is (suc n) stamps s (omega arith) (subst (λ k. slice_get stamps k ≡ Some s) two (subst (λ k. slice_get (x ∷ stamps) k ≡ Some s) one e))

-- Replies

-- what a program's state says: it is finished with its answer, or running
pub record IsDone (account : Account) (r : ℕ) (program : Program) (state : ReplyState) : Type 0 where
  pub ended : IsTrue (is_ended account r)
  pub answer : Answer
  pub is : state ≡ Finished answer
  pub plain : IsPlainAnswer (graph_read (reads_of account r)) program answer

-- what the state of a program that has not ended says: it is running
pub record IsOpen (account : Account) (r : ℕ) (state : ReplyState) : Type 0 where
  pub ended : is_ended account r ≡ false
  pub is : state ≡ Running

-- a state of a program is one of the two
pub done-or-open : (account : Account) (r : ℕ) (program : Program) (state : ReplyState) → IsStateOfProgram account r program state
    → IsDone account r program state ⊎ IsOpen account r state
done-or-open account r program (Finished answer) is = inl (record { ended = is.0; answer = answer; is = refl; plain = is.1 })
done-or-open account r program Unbegun is = inr (record { ended = is.0; is = is.1 })
done-or-open account r program Running is = inr (record { ended = is.0; is = is.1 })
done-or-open account r program (Committed number answers) is = inr (record { ended = is.0; is = is.1 })
done-or-open account r program (Conflict v newer) is = inr (record { ended = is.0; is = is.1 })
done-or-open account r program (Refused op reason at) is = inr (record { ended = is.0; is = is.1 })

module _ (script : Script) (account : Account) (basis : Basis script account) where
  one-state : (r : ℕ) (stamp : Option Stamp) (work : Work) (s t : ReplyState) → IsStateOf account r stamp work s
      → IsStateOf account r stamp work t → s ≡ t
  one-state r None work s t is too = is ∙ sym too
  one-state r (Some stamp) (Change ops) s t is too = is ∙ sym too
  one-state r (Some stamp) (Look program) s t is too =
      at (done-or-open account r program s is) (done-or-open account r program t too)
    where
      at : IsDone account r program s ⊎ IsOpen account r s → IsDone account r program t ⊎ IsOpen account r t → s ≡ t
      at (inl a) (inl b) =
          a.is ∙ ap Finished (basis.laws.one_answer (graph_read (reads_of account r)) program a.answer b.answer a.plain b.plain) ∙ sym b.is
      at (inr a) (inr b) = a.is ∙ sym b.is
      at (inl a) (inr b) = absurd (both_ways _ b.ended a.ended)
      at (inr a) (inl b) = absurd (both_ways _ a.ended b.ended)

  one-reply : (x y : Reply) → x.request ≡ y.request → IsReplyInAccount script account x → IsReplyInAccount script account y
      → x ≡ y
  one-reply x y request is too =
      let stamp : x.stamp ≡ y.stamp = is.stamp_is ∙ ap (stamp_of account) request ∙ sym too.stamp_is in
      let state : x.state ≡ y.state = at (request_at script x.request) is.state_is
      (subst (λ s. IsSomeAnd (request_at script x.request) (λ (q : Request). IsStateOf account x.request s q.work y.state)) (sym stamp)
      (subst (λ r. IsSomeAnd (request_at script r) (λ (q : Request). IsStateOf account r y.stamp q.work y.state)) (sym request) too.state_is)) in
      λ i. record { request = request i; stamp = stamp i; state = state i }
    where
      at : (o : Option Request) → IsSomeAnd o (λ (q : Request). IsStateOf account x.request x.stamp q.work x.state)
          → IsSomeAnd o (λ (q : Request). IsStateOf account x.request x.stamp q.work y.state) → x.state ≡ y.state
      at None h g = absurd h
      at (Some q) h g = one-state x.request x.stamp q.work x.state y.state h g

  -- replies to the same requests are the same
  one-list : (xs ys : List Reply) → map (λ (reply : Reply). reply.request) xs ≡ map (λ (reply : Reply). reply.request) ys
      → AllByRecursion (IsReplyInAccount script account) xs → AllByRecursion (IsReplyInAccount script account) ys → xs ≡ ys
  one-list [] [] e are too = refl
  one-list [] (y ∷ ys) e are too = cc
  one-list (x ∷ xs) [] e are too = cc
  one-list (x ∷ xs) (y ∷ ys) e are too =
      let first : x.request ≡ y.request = cc in
      let rest : map (λ (reply : Reply). reply.request) xs ≡ map (λ (reply : Reply). reply.request) ys = cc in
      ap (λ k. k ∷ xs) (one-reply x y first are.0 too.0) ∙ ap (λ ks. y ∷ ks) (one-list xs ys rest are.1 too.1)

  -- Pairs

  same-request : (r s : ℕ) (stamp : Stamp) → stamp_of account r ≡ Some stamp → stamp_of account s ≡ Some stamp → r ≡ s
  same-request r s stamp er es =
      let a = begin-of script account basis r stamp er in
      let b = begin-of script account basis s stamp es in
      sym a.2 ∙ one-request script account basis a.0 b.0 a.1 b.1 (a.3 ∙ sym b.3) ∙ b.2

  -- a commit puts one vertex to a pair
  by-commits : (p q : Pair) → p.earlier ≡ q.earlier → p.later ≡ q.later → IsAddedByCommit account p → IsAddedByCommit account q
      → p.vertex ≡ q.vertex
  by-commits p q earlier later a b =
      let of-a = commit-of (a.entry).author (a.entry).deed a.commit (subst (λ cs. Contains cs a.commit) (sym a.commit_is) (has_head a.commit [])) in
      let of-b = commit-of (b.entry).author (b.entry).deed b.commit (subst (λ cs. Contains cs b.commit) (sym b.commit_is) (has_head b.commit [])) in
      let same : (judged_by (a.entry).author (a.entry).deed).request ≡ (judged_by (b.entry).author (b.entry).deed).request =
      of-a.request ∙ a.later_is ∙ later ∙ sym (of-b.request ∙ b.later_is) in
      elim (apart a.before a.entry a.after b.before b.entry b.after (sym a.at ∙ b.at)) [
        | Same before entry ↦
            let found : Some p.vertex ≡ Some q.vertex =
            sym a.vertex_is
            ∙ ap (λ xs. first_after (commits_of xs) p.earlier (judged_by (a.entry).author (a.entry).deed).asked) before
            ∙ ap (λ r. first_after (commits_of b.before) r (judged_by (a.entry).author (a.entry).deed).asked) earlier
            ∙ ap (λ (e : StoreEntry). first_after (commits_of b.before) q.earlier (judged_by e.author e.deed).asked) entry
            ∙ b.vertex_is in
            cc
        | First rest is ↦ absurd (twice script account basis b.before b.entry b.after b.at a.entry (subst (λ l. Contains l a.entry) (sym is) (has_cut a.before a.entry rest)) same)
        | Second rest is ↦ absurd (twice script account basis a.before a.entry a.after a.at b.entry (subst (λ l. Contains l b.entry) (sym is) (has_cut b.before b.entry rest)) (sym same))
      ]

  -- a pair was added by a commit, or by a visit of a program
  not-both : (p q : Pair) → p.later ≡ q.later → IsAddedByCommit account p → IsAddedByVisit account q → ⊥
  not-both p q later a b =
      let in-commits : Contains (commits_in account) a.commit =
      subst (λ cs. Contains cs a.commit)
      (sym (ap commits_of a.at ∙ flat_map-append (λ (e : StoreEntry). commit_by e.deed) a.before (a.entry ∷ a.after) ∙ ap (λ cs. commits_of a.before ++ (cs ++ commits_of a.after)) a.commit_is))
      (has_cut (commits_of a.before) a.commit (commits_of a.after)) in
      let of = commit-known script account basis a.commit in-commits in
      let has = visit-fits script account basis b.shard b.visit b.visited in
      let program = program-begun script account basis (has.fits).home _ (has.fits).begun in
      let work : (program.request).work ≡ Change (a.commit).ops =
      subst (λ o. IsSomeAnd o (λ (q : Request). q.work ≡ Change (a.commit).ops))
      (ap (request_at script) (a.later_is ∙ later ∙ sym b.later_is) ∙ program.request_is) of.work in
      let clash : Look program.program ≡ Change (a.commit).ops = sym program.work ∙ work in
      cc

  -- the marked visits of a log, each with its vertex and what no other has
  abbrev marks-in : List ShardEntry → List (Name × (ℕ × List Stamp))
  marks-in log =
      map (λ (visit : Visit). (visit.vertex, (visit.request, seen_last log visit))) (filter (λ (visit : Visit). visit.settled) (visits_of log))

  marks-are : (logs : List (List ShardEntry))
      → map (λ (mark : Name × (ℕ × List Stamp)). mark.1) (flat_map marks-in logs) ≡ flat_map marked_in logs
  marks-are [] = refl
  marks-are (log ∷ logs) =
      map-append (λ (mark : Name × (ℕ × List Stamp)). mark.1) (marks-in log) (flat_map marks-in logs)
      ∙ ap (λ xs. xs ++ map (λ (mark : Name × (ℕ × List Stamp)). mark.1) (flat_map marks-in logs))
      (each log (filter (λ (visit : Visit). visit.settled) (visits_of log)))
      ∙ ap (λ ys. marked_in log ++ ys) (marks-are logs)
    where
      each : (log : List ShardEntry) (visits : List Visit)
          → map (λ (mark : Name × (ℕ × List Stamp)). mark.1) (map (λ (visit : Visit). (visit.vertex, (visit.request, seen_last log visit))) visits) ≡ map (λ (visit : Visit). (visit.request, seen_last log visit)) visits
      each log [] = refl
      each log (visit ∷ visits) = ap (λ ks. (visit.request, seen_last log visit) ∷ ks) (each log visits)

  -- no two of them have that in common
  marks-apart : AllPairs (λ (a b : Name × (ℕ × List Stamp)). a.1 ≢ b.1) (flat_map marks-in account.shards)
  marks-apart =
      pairs-of-images (λ (mark : Name × (ℕ × List Stamp)). mark.1) (λ (x y : ℕ × List Stamp). x ≢ y) (flat_map marks-in account.shards)
      (subst (AllPairs (λ (x y : ℕ × List Stamp). x ≢ y)) (sym (marks-are account.shards)) basis.is.oracle.once)

  -- the updates that the visit's shard has applied to its vertex
  abbrev updates-at : ℕ → Visit → List Update
  updates-at shard visit = updates_of visit.vertex (shard_log account shard)

  -- their stamps, and those of the commits that they are
  abbrev AreCommits : ℕ → Visit → Type 0
  AreCommits shard visit = map (λ (u : Update). u.stamp) (updates-at shard visit)
      ≡ map (λ (u : Update). u.stamp) (map (update_of visit.vertex)
      (take (length (updates-at shard visit)) (commits_naming visit.vertex (commits_in account))))

  -- what a visit that added a pair saw last is the earlier event
  saw-earlier : (p : Pair) (given : GivenPair) → stamp_of account p.earlier ≡ Some given.0 → (a : IsAddedByVisit account p)
      → seen_last (shard_log account a.shard) a.visit ≡ given.0 ∷ []
  saw-earlier p given earlier a =
      let v = (a.visit).vertex in
      let log = shard_log account a.shard in
      let has = visit-fits script account basis a.shard a.visit a.visited in
      let shown = (shows script account basis a.shard v (has.fits).kept_here log (basis.is.shards.deeds a.shard)).are in
      let all =
      grows script account basis a.shard v (has.fits).kept_here has.before has.rest
      (subst (AreShardDeeds script account a.shard) has.is (basis.is.shards.deeds a.shard)) in
      let whole = ap (λ l. length (updates_of v l)) has.is in
      let applied = (has.fits).applied in
      let sees = a.sees in
      at (slice_get (commits_naming p.vertex (commits_in account)) ((a.visit).updates - 1)) refl a.last_is
      (ap (map (λ (u : Update). u.stamp)) shown) (omega (arith, all, whole, applied, sees))
    where
      at : (o : Option Commit) → slice_get (commits_naming p.vertex (commits_in account)) ((a.visit).updates - 1) ≡ o
          → IsSomeAnd o (λ (commit : Commit). commit.request ≡ p.earlier)
          → AreCommits a.shard a.visit → (a.visit).updates - 1 < length (updates-at a.shard a.visit)
          → seen_last (shard_log account a.shard) a.visit ≡ given.0 ∷ []
      at None e h are less = absurd h
      at (Some c) e h are less =
          let v = (a.visit).vertex in
          let naming = commits_naming v (commits_in account) in
          let there : slice_get naming ((a.visit).updates - 1) ≡ Some c =
          ap (λ w. slice_get (commits_naming w (commits_in account)) ((a.visit).updates - 1)) a.vertex_is ∙ e in
          let in-all = (filter_has (names v) (commits_in account) c (get-has naming ((a.visit).updates - 1) c there)).0 in
          let stamps : Some c.stamp ≡ Some given.0 = sym (commit-known script account basis c in-all).stamp ∙ ap (stamp_of account) h ∙ earlier in
          let same : c.stamp ≡ given.0 = cc in
          let many = length (updates_of v (shard_log account a.shard)) in
          seen-is (a.visit).updates (map (λ (u : Update). u.stamp) (updates_of v (shard_log account a.shard))) given.0 a.sees
          (ap (λ xs. slice_get xs ((a.visit).updates - 1)) are
          ∙ slice_get-map (λ (u : Update). u.stamp) (map (update_of v) (take many naming)) ((a.visit).updates - 1)
          ∙ ap (option_map (λ (u : Update). u.stamp))
          (slice_get-map (update_of v) (take many naming) ((a.visit).updates - 1) ∙ ap (option_map (update_of v)) (get-take many naming ((a.visit).updates - 1) less ∙ there))
          ∙ ap Some same)

  mark-there : (p : Pair) (given : GivenPair) → stamp_of account p.earlier ≡ Some given.0 → (a : IsAddedByVisit account p)
      → Contains (flat_map marks-in account.shards) (p.vertex, (p.later, given.0 ∷ []))
  mark-there p given earlier a =
      let log = shard_log account a.shard in
      let entry = flat-has (λ (e : ShardEntry). visit_by e.author e.deed) log a.visit a.visited in
      let mark : Contains (marks-in log) ((a.visit).vertex, ((a.visit).request, seen_last log a.visit)) =
      has_map (λ (visit : Visit). (visit.vertex, (visit.request, seen_last log visit)))
      (filter (λ (visit : Visit). visit.settled) (visits_of log)) a.visit
      (has_filter (λ (visit : Visit). visit.settled) (visits_of log) a.visit a.visited a.marked) in
      has_flat marks-in account.shards log (p.vertex, (p.later, given.0 ∷ [])) (list-there account.shards a.shard entry.0 entry.1.0)
      (subst (λ w. Contains (marks-in log) (w, (p.later, given.0 ∷ []))) a.vertex_is
      (subst (λ r. Contains (marks-in log) ((a.visit).vertex, (r, given.0 ∷ []))) a.later_is
      (subst (λ ss. Contains (marks-in log) ((a.visit).vertex, ((a.visit).request, ss))) (saw-earlier p given earlier a) mark)))

  by-visits : (p q : Pair) (given : GivenPair) → stamp_of account p.earlier ≡ Some given.0 → stamp_of account q.earlier ≡ Some given.0
      → p.later ≡ q.later → IsAddedByVisit account p → IsAddedByVisit account q → p.vertex ≡ q.vertex
  by-visits p q given ep eq later a b =
      elim (pairs_cases (λ (x y : Name × (ℕ × List Stamp)). x.1 ≢ y.1) (flat_map marks-in account.shards) marks-apart (p.vertex, (p.later, given.0 ∷ [])) (q.vertex, (q.later, given.0 ∷ [])) (mark-there p given ep a) (mark-there q given eq b)) [
        | inl same ↦ ap (λ (m : Name × (ℕ × List Stamp)). m.0) same
        | inr (inl differ) ↦ absurd (differ (ap (λ r. (r, given.0 ∷ [])) later))
        | inr (inr differ) ↦ absurd (differ (ap (λ r. (r, given.0 ∷ [])) (sym later)))
      ]

  one-pair : (p q : Pair) (given : GivenPair) → IsPairInAccount account p given → IsPairInAccount account q given → p ≡ q
  one-pair p q given is too =
      let earlier : p.earlier ≡ q.earlier = same-request p.earlier q.earlier given.0 is.earlier_is too.earlier_is in
      let later : p.later ≡ q.later = same-request p.later q.later given.1 is.later_is too.later_is in
      let vertex : p.vertex ≡ q.vertex = at earlier later is.added too.added in
      λ i. record { vertex = vertex i; earlier = earlier i; later = later i }
    where
      at : p.earlier ≡ q.earlier → p.later ≡ q.later → IsAddedByCommit account p ⊎ IsAddedByVisit account p
          → IsAddedByCommit account q ⊎ IsAddedByVisit account q → p.vertex ≡ q.vertex
      at earlier later (inl a) (inl b) = by-commits p q earlier later a b
      at earlier later (inr a) (inr b) = by-visits p q given is.earlier_is too.earlier_is later a b
      at earlier later (inl a) (inr b) = absurd (not-both p q later a b)
      at earlier later (inr a) (inl b) = absurd (not-both q p (sym later) b a)

  one-pairs : (ps qs : List Pair) (givens : List GivenPair) → ArePairsOf account ps givens → ArePairsOf account qs givens → ps ≡ qs
  one-pairs [] [] [] are too = refl
  one-pairs [] (q ∷ qs) [] are too = absurd too
  one-pairs (p ∷ ps) qs [] are too = absurd are
  one-pairs [] qs (g ∷ gs) are too = absurd are
  one-pairs (p ∷ ps) [] (g ∷ gs) are too = absurd too
  one-pairs (p ∷ ps) (q ∷ qs) (g ∷ gs) are too =
      ap (λ k. k ∷ ps) (one-pair p q g are.0 too.0) ∙ ap (λ ks. q ∷ ks) (one-pairs ps qs gs are.1 too.1)

  -- The report

  module _ (a b : Report) (is : IsReportOfAccount script account a) (too : IsReportOfAccount script account b) where
    -- two reports of one account have the same replies
    pub same-replies : a.replies ≡ b.replies
    same-replies =
        one-list a.replies b.replies (is.matches.requests ∙ sym too.matches.requests) is.matches.replies too.matches.replies

    -- two reports of one account have the same pairs
    pub same-pairs : a.pairs ≡ b.pairs
    same-pairs = one-pairs a.pairs b.pairs (pairs_in account) is.matches.pairs too.matches.pairs

    -- two reports of one account have the same order
    pub same-order : a.order ≡ b.order
    same-order =
        basis.laws.one_order (record { replies = b.replies; pairs = b.pairs; order = []; answers = [] }) a.order b.order
        (subst (λ rs. IsPrintedOrder (record { replies = rs; pairs = b.pairs; order = []; answers = [] }) a.order) same-replies
        (subst (λ ps. IsPrintedOrder (record { replies = a.replies; pairs = ps; order = []; answers = [] }) a.order) same-pairs (plain a a.order is.order)))
        (plain b b.order too.order)
      where
        -- the printed order depends on replies and pairs alone
        all-taken : (report : Report) (remaining taken : List ℕ) → TakesAll report remaining taken
            → TakesAll (record { replies = report.replies; pairs = report.pairs; order = []; answers = [] }) remaining taken
        all-taken report remaining [] h = h
        all-taken report remaining (r ∷ taken) h =
            (record { remains = (h.0).remains; free = (h.0).free; least = (h.0).least }, all-taken report (without_request r remaining) taken h.1)

        plain : (report : Report) (order : List ℕ) → IsPrintedOrder report order
            → IsPrintedOrder (record { replies = report.replies; pairs = report.pairs; order = []; answers = [] }) order
        plain report order printed =
            record { taken = printed.taken; in_turn = all-taken report _ printed.taken printed.in_turn; listed = printed.listed }
