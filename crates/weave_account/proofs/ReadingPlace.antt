-- The states that a program's visits read are those at its place in the printed order.
-- Used by Meeting and ReplayClause.
use Rattle.std.proofs.Common.{◌≡◌, ℕ, zero, suc, ◌<◌, ◌≤◌, Bool, true, false, ◌||◌, ◌==◌, List, [], ◌∷◌, ◌++◌, map, length, take, drop, fold, Contains, IsTrue, Option, Some, None, inl, inr, refl, sym, ap, subst, ◌∙◌, arith}
use Rattle.std.specs.Prelude.{if◌then◌else◌, IsSomeAnd}
use Rattle.std.specs.List.{filter}
use Rattle.std.specs.Map.{keys_of}
use Rattle.std.proofs.lemmas.Bool.{eqb-true}
use Rattle.std.proofs.lemmas.List.{map-append}
use Rattle.std.proofs.lemmas.List.Elements.{Contains-append_left, Contains-append_right}
use Rattle.weave_data.proofs.Members.{has_read, has_head, has_tail, has_none, filter_has, cut_at}
use Rattle.vector_stamp.specs.declared.clock.Stamp.{Stamp}
use Rattle.weave_data.specs.Names.{same_name, one_name}
use Rattle.weave_data.specs.declared.name.Name.{Name}
use Rattle.graph_ops.specs.Mentions.{is_among}
use Rattle.graph_ops.specs.Operations.{State}
use Rattle.graph_ops.specs.PlainGraph.{PlainGraph, empty_graph}
use Rattle.graph_ops.specs.declared.op.Op.{Op}
use Rattle.program_defs.specs.declared.script.Request.{Request}
use Rattle.program_defs.specs.declared.script.Script.{Script}
use Rattle.program_defs.specs.declared.script.Work.TheVariants.{Change}
use Rattle.program_defs.specs.Visits.{graph_read}
use Rattle.weave_entries.specs.declared.shard_log.ShardEntry.{ShardEntry}
use Rattle.weave_entries.specs.declared.shard_log.ShardDeed.{ShardDeed}
use Rattle.weave_entries.specs.declared.shard_log.ShardDeed.TheVariants.{Arrived, Applied, Visited, Collected}
use Rattle.weave_entries.specs.Sending.{ops_on}
use Rattle.weave_entries.specs.ShardReplay.{Update, Visit, updates_of, visit_by, visits_of, reads_in}
use Rattle.weave_entries.specs.ShardReplay as shard
use Rattle.weave_entries.specs.StoreReplay.{Commit, commits_naming}
use Rattle.weave_data.proofs.Entries.{each_before}
use Rattle.program_defs.specs.Works.{ops_of}
use Rattle.report_rules.specs.declared.report.Report.{Report}
use Rattle.report_rules.specs.Lookups.{request_at, request_names_vertex}
use Rattle.weave_account.specs.declared.account.Account.{Account}
use Rattle.weave_account.specs.Account.{stamp_of, commits_in, reads_of}
use Rattle.weave_account.proofs.Replaying.{graph_after_all, ops_in, history, AllPass, history-is, history-naming}
use Rattle.weave_account.specs.Shards.{AreShardDeeds, IsRightVisit, ShardFitsAs}
use Rattle.weave_account.specs.Report.{IsReportOfAccount}
use Rattle.weave_account.proofs.Beginning.{program-stamp}
use Rattle.weave_account.proofs.Cutting.{cut}
use Rattle.weave_data.proofs.Images.{map-has, flat-has, within-list}
use Rattle.weave_data.proofs.Numbers.{has-in}
use Rattle.weave_account.proofs.Ordering.{RequestBefore, naming-requests, not-both, by-stamps}
use Rattle.weave_account.proofs.Replying.{place-of}
use Rattle.weave_account.specs.Shards.{update_of}
use Rattle.weave_account.proofs.Sessions.{take-drop}
use Rattle.weave_account.proofs.Storing.{IsOfScript, requests_of_commits}
use Rattle.weave_account.proofs.Transactions.{committed-requests, known, order-keeps, naming-sorted, commits-listed, listed-commits}
use Rattle.weave_account.proofs.Updates.{shows, grows}
use Rattle.weave_account.proofs.Visiting.{seen-precede, others-follow}
use Rattle.weave_account.proofs.Basis.{Basis}
use Rattle.graph_ops.specs.VertexOps.{state_after_ops}

-- States

-- the state of a vertex after the updates of a list, from a given state
abbrev pub state_from : State → List Update → State
state_from s us = fold (λ state (update : Update). state_after_ops update.ops state) s us

work-ops : (q : Option Request) (ops : List Op) → IsSomeAnd q (λ (request : Request). request.work ≡ Change ops) → ops_in q ≡ ops
work-ops None ops h = absurd h
work-ops (Some request) ops h = ap ops_of h

-- the state after the updates of commits at a vertex is its history
pub history-left : (script : Script) (account : Account) (v : Name) (cs : List Commit)
    → ((c : Commit) → Contains cs c → IsOfScript script account c) → (s : State)
    → state_from s (map (update_of v) cs) ≡ history script v (requests_of_commits cs) s
history-left script account v [] known s = refl
history-left script account v (c ∷ cs) known s =
    history-left script account v cs (λ d h. known d (has_tail c cs d h)) (state_after_ops (ops_on v c.ops) s)
    ∙ ap (λ ops. history script v (requests_of_commits cs) (state_after_ops (ops_on v ops) s))
    (sym (work-ops (request_at script c.request) c.ops (known c (has_head c cs)).work))

-- Lists

module _ {A B : Type 0} (f : A → B) where
  take-map-take : (k n : ℕ) (xs : List A) → k ≤ n → take k (map f (take n xs)) ≡ map f (take k xs)
  take-map-take zero n xs le = refl
  take-map-take (suc k) zero xs le = absurd (omega (arith, le))
  take-map-take (suc k) (suc n) [] le = refl
  take-map-take (suc k) (suc n) (x ∷ xs) le = ap (λ ys. f x ∷ ys) (take-map-take k n xs (omega (arith, le)))

-- what was read of each is the graph's: then the graph read is the graph there
pub read-is : (reads : List (Name × State)) (graph : PlainGraph)
    → ((read : Name × State) → Contains reads read → read.1 ≡ graph read.0) → (v : Name) → IsTrue (is_among (keys_of reads) v)
    → graph_read reads v ≡ graph v
read-is [] graph each v h = cc
read-is (read ∷ reads) graph each v h =
    at (same_name read.0 v) refl h (λ k. read-is reads graph (λ other g. each other (has_tail read reads other g)) v k)
  where
    at : (b : Bool) → same_name read.0 v ≡ b → IsTrue (b || is_among (keys_of reads) v)
        → (IsTrue (is_among (keys_of reads) v) → graph_read reads v ≡ graph v)
        → (if b then read.1 else graph_read reads v) ≡ graph v
    at true same h rest = each read (has_head read reads) ∙ ap graph (one_name read.0 v same)
    at false other h rest = rest h

module _ (script : Script) (account : Account) where
  -- a deed that visits is a visit
  pub visited-deed : (number : ℕ) (log : List ShardEntry) (author : ℕ) (deed : ShardDeed) (visit : Visit)
      → Contains (visit_by author deed) visit → ShardFitsAs script account number log deed
      → IsRightVisit script account number log visit.request visit.stamp visit.vertex visit.updates
  visited-deed number log author (Visited r stamp v k settled) visit h fits =
      elim (has_read _ [] visit h) [ inl same ↦ subst (λ (w : Visit). IsRightVisit script account number log w.request w.stamp w.vertex w.updates) same fits | inr none ↦ absurd (has_none visit none) ]
  visited-deed number log author (Arrived home n message) visit h fits = absurd (has_none visit h)
  visited-deed number log author (Applied home n) visit h fits = absurd (has_none visit h)
  visited-deed number log author (Collected bound) visit h fits = absurd (has_none visit h)

module _ (script : Script) (account : Account) (basis : Basis script account) (report : Report) (reported : IsReportOfAccount script account report)
    (p : ℕ) (before after : List ℕ) (is : report.order ≡ before ++ p ∷ after) (passes : AllPass empty_graph script before) where
  -- the commits that a visit saw are those listed before the program
  seen-listed : (number : ℕ) (log : List ShardEntry) → number < script.shards
      → AreShardDeeds script account number log
      → (stamp : Stamp) (v : Name) (k : ℕ) → IsRightVisit script account number log p stamp v k
      → filter (λ r. request_names_vertex script r v) before ≡ requests_of_commits (take k (commits_naming v (commits_in account)))
  seen-listed number log inside each stamp v k visit =
      let naming = commits_naming v (commits_in account) in
      let knows = known script account basis report reported in
      let in-naming : (c : Commit) → Contains naming c → IsOfScript script account c = λ c h. knows c (filter_has _ (commits_in account) c h).0 in
      let stamp-p : stamp_of account p ≡ Some stamp = program-stamp account basis.is.gatekeepers.once visit.home visit.author p stamp visit.begun in
      let parts : filter (λ r. request_names_vertex script r v) (committed-requests script account basis report reported) ≡ requests_of_commits (take k naming) ++ requests_of_commits (drop k naming) =
      naming-requests script account v (commits_in account) knows ∙ ap requests_of_commits (take-drop naming k)
      ∙ map-append (λ (c : Commit). c.request) (take k naming) (drop k naming) in
      cut (RequestBefore script account) (not-both script account basis) (λ r. request_names_vertex script r v)
      (committed-requests script account basis report reported) report.order
      (naming-sorted script account basis report reported v) (order-keeps script account basis report reported)
      (commits-listed script account basis report reported) (listed-commits script account basis report reported v)
      p before after (requests_of_commits (take k naming)) (requests_of_commits (drop k naming)) is parts
      (λ n h.
      let image = map-has (λ (c : Commit). c.request) (take k naming) n (has-in _ n h) in
      let in-all : Contains naming image.of =
      subst (λ cs. Contains cs image.of) (sym (take-drop naming k)) (Contains-append_left (take k naming) (drop k naming) image.of image.has) in
      subst (λ m. RequestBefore script account m p) image.is (by-stamps script account (image.of).request p (image.of).stamp stamp (in-naming image.of in-all).stamp stamp-p (seen-precede script account basis number inside log each p stamp v k visit image.of image.has)))
      (λ n h.
      let image = map-has (λ (c : Commit). c.request) (drop k naming) n (has-in _ n h) in
      let in-all : Contains naming image.of =
      subst (λ cs. Contains cs image.of) (sym (take-drop naming k)) (Contains-append_right (take k naming) (drop k naming) image.of image.has) in
      inr (subst (λ m. RequestBefore script account p m) image.is (by-stamps script account p (image.of).request stamp (image.of).stamp stamp-p (in-naming image.of in-all).stamp (others-follow script account basis number inside log each p stamp v k visit image.of image.has))))

  -- the state that a visit reads is that at the program's place
  visit-reads : (number : ℕ) (log rest : List ShardEntry) → number < script.shards
      → AreShardDeeds script account number (log ++ rest)
      → (stamp : Stamp) (v : Name) (k : ℕ) → IsRightVisit script account number log p stamp v k
      → shard.state_of_updates (take k (updates_of v (log ++ rest))) ≡ graph_after_all empty_graph script before v
  visit-reads number log rest inside each stamp v k visit =
      let naming = commits_naming v (commits_in account) in
      let knows = known script account basis report reported in
      let each-log = each_before (λ before (entry : ShardEntry). ShardFitsAs script account number before entry.deed) log rest each in
      let all-updates = (shows script account basis number v visit.kept_here (log ++ rest) each).are in
      let longer = grows script account basis number v visit.kept_here log rest each in
      let applied = visit.applied in
      let reads : take k (updates_of v (log ++ rest)) ≡ map (update_of v) (take k naming) =
      ap (take k) all-updates ∙ take-map-take (update_of v) k (length (updates_of v (log ++ rest))) naming (omega (arith, longer, applied)) in
      let same = seen-listed number log inside each-log stamp v k visit in
      let past : history script v (requests_of_commits (take k naming)) None ≡ graph_after_all empty_graph script before v =
      ap (λ rs. history script v rs None) (sym same) ∙ sym (history-naming basis.laws script v before None)
      ∙ history-is basis.laws script before empty_graph v passes in
      let in-take : (c : Commit) → Contains (take k naming) c → IsOfScript script account c =
      λ c h. knows c (filter_has _ (commits_in account) c (subst (λ cs. Contains cs c) (sym (take-drop naming k)) (Contains-append_left (take k naming) (drop k naming) c h))).0 in
      ap (state_from None) reads ∙ history-left script account v (take k naming) in-take None ∙ past

  -- Over all shards

  -- each read of the program is the graph's at its place
  pub reads-are : (read : Name × State) → Contains (reads_of account p) read
      → read.1 ≡ graph_after_all empty_graph script before read.0
  reads-are read h =
      let from = flat-has (reads_in p) account.shards read h in
      let number = place-of account.shards from.0 from.1.0 in
      let image =
      map-has (λ (visit : Visit). (visit.vertex, shard.state_of_updates (take visit.updates (updates_of visit.vertex from.0))))
      (filter (λ (visit : Visit). visit.request == p) (visits_of from.0)) read from.1.1 in
      let visit = image.of in
      let parts = filter_has (λ (visit : Visit). visit.request == p) (visits_of from.0) visit image.has in
      let entry = flat-has (λ (e : ShardEntry). visit_by e.author e.deed) from.0 visit parts.0 in
      let place = cut_at from.0 entry.0 entry.1.0 in
      let each : AreShardDeeds script account number.0 from.0 =
      subst (AreShardDeeds script account number.0) number.1 (basis.is.shards.deeds number.0) in
      let facts =
      visited-deed script account number.0 place.before (entry.0).author (entry.0).deed visit entry.1.1
      (each place.before entry.0 place.after place.is) in
      let of-p : IsRightVisit script account number.0 place.before p visit.stamp visit.vertex visit.updates =
      subst (λ r. IsRightVisit script account number.0 place.before r visit.stamp visit.vertex visit.updates)
      (eqb-true visit.request p parts.1) facts in
      let inside : number.0 < script.shards = (let lt = within-list account.shards number.0 entry.0 (subst (λ l. Contains l entry.0) (sym number.1) entry.1.0) in let many = basis.is.shards.as_many in omega (arith, lt, many)) in
      let whole : AreShardDeeds script account number.0 (place.before ++ entry.0 ∷ place.after) =
      subst (AreShardDeeds script account number.0) place.is each in
      let state = visit-reads number.0 place.before (entry.0 ∷ place.after) inside whole visit.stamp visit.vertex visit.updates of-p in
      sym (ap (λ (q : Name × State). q.1) image.is)
      ∙ ap (λ l. shard.state_of_updates (take visit.updates (updates_of visit.vertex l))) place.is
      ∙ state
      ∙ ap (λ (q : Name × State). graph_after_all empty_graph script before q.0) image.is

  -- so the graph read is the graph at the place, at each vertex that was read
  pub read-at-place : (v : Name) → IsTrue (is_among (keys_of (reads_of account p)) v)
      → graph_read (reads_of account p) v ≡ graph_after_all empty_graph script before v
  read-at-place = read-is (reads_of account p) (graph_after_all empty_graph script before) reads-are
