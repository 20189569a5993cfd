-- What was applied to a vertex goes on with a shard's log, so what a visit saw and read stays. It rests on the rules of
-- a shard's log.
-- Used by Going, MakesAccount, OfAccount, Reading and crate weaver_hands.
use Rattle.std.proofs.Common.{◌≡◌, ℕ, ◌≤◌, ◌==◌, List, [], ◌∷◌, ◌++◌, length, map, take, Contains, Some, refl, sym, ap, subst, ◌∙◌, arith}
use Rattle.std.specs.List.{filter}
use Rattle.std.proofs.lemmas.List.{append-nil, append_assoc, length-map, map-append, take-append-le}
use Rattle.weave_data.proofs.Ends.{by_last}
use Rattle.weave_data.proofs.Entries.{each_before, each_last}
use Rattle.weave_data.proofs.Members.{cut_at, filter_has, flat_has, has_filter, has_map, has_none, map_has, only}
use Rattle.weave_data.specs.declared.name.Name.{Name}
use Rattle.graph_ops.specs.Operations.{State}
use Rattle.vector_stamp.specs.Seeing.{last_seen}
use Rattle.weave_entries.specs.declared.shard_log.ShardEntry.{ShardEntry}
use Rattle.weave_entries.specs.declared.shard_log.ShardDeed.{ShardDeed}
use Rattle.weave_entries.specs.declared.shard_log.ShardDeed.TheVariants.{Arrived, Applied, Visited, Collected}
use Rattle.weave_entries.specs.ShardReplay.{Update, Visit, arrived_at, reads_in, updates_in, updates_of, visit_by, visits_of}
use Rattle.weave_entries.specs.ShardRules.{FitsShard, IsShardLog}
use Rattle.weave_account.specs.GoesOn.{IsBeginningOf}
use Rattle.weave_account.specs.Oracle.{seen_last}
use Rattle.seen_logs.specs.LowerLaws.{LawsForSeenLogs}
use Rattle.weave_account.proofs.VisitsStay.{seen-front, with-state, read-in}
use Rattle.weave_account.proofs.GoesOn.{has-on, longer, flat-on}

-- what holds at each entry of a shard's log
abbrev Rule : ℕ → List ShardEntry → ShardEntry → Type 0
Rule gates before entry = FitsShard gates before entry.deed

-- a beginning of a shard's log is one too
pub shard-before : (gates : ℕ) (log rest : List ShardEntry) → IsShardLog gates (log ++ rest) → IsShardLog gates log
shard-before gates log rest legal = each_before (Rule gates) log rest legal

module _ (laws : LawsForSeenLogs) (gates : ℕ) where
  -- the updates of a vertex go on with one more entry
  deed-on : (v : Name) (log : List ShardEntry) (author : ℕ) (deed : ShardDeed) → IsShardLog gates log → FitsShard gates log deed
      → IsBeginningOf (updates_of v log) (updates_of v (log ++ record { author = author; deed = deed } ∷ []))
  deed-on v log author (Arrived gate number message) legal fits =
      ([], laws.not_applied gates log (record { author = author; deed = Arrived gate number message }) v legal refl ∙ sym (append-nil (updates_of v log)))
  deed-on v log author (Applied gate number) legal fits = (
    updates_in v fits.message,
    laws.applied gates log author gate number fits.message v legal
        (subst (λ n. arrived_at gate n log ≡ Some fits.message) (sym fits.number_is) fits.head),
  )
  deed-on v log author (Visited r stamp w updates settled) legal fits =
      ([], laws.not_applied gates log (record { author = author; deed = Visited r stamp w updates settled }) v legal refl ∙ sym (append-nil (updates_of v log)))
  deed-on v log author (Collected bound) legal fits =
      ([], laws.not_applied gates log (record { author = author; deed = Collected bound }) v legal refl ∙ sym (append-nil (updates_of v log)))

  -- the updates of a vertex in a log begin those in each legal longer log
  pub updates-on : (v : Name) (log more : List ShardEntry) → IsShardLog gates (log ++ more)
      → IsBeginningOf (updates_of v log) (updates_of v (log ++ more))
  updates-on v log =
      by_last (λ more. IsShardLog gates (log ++ more) → IsBeginningOf (updates_of v log) (updates_of v (log ++ more)))
      (λ legal. ([], ap (updates_of v) (append-nil log) ∙ sym (append-nil (updates_of v log))))
      (λ more entry so_far legal.
      let whole : IsShardLog gates ((log ++ more) ++ entry ∷ []) = subst (IsShardLog gates) (sym (append_assoc log more (entry ∷ []))) legal in
      let before = shard-before gates (log ++ more) (entry ∷ []) whole in
      let first = so_far before in
      let last = deed-on v (log ++ more) entry.author entry.deed before (each_last (Rule gates) (log ++ more) entry whole) in (
        first.0 ++ last.0,
        ap (updates_of v) (sym (append_assoc log more (entry ∷ []))) ∙ last.1 ∙ ap (λ us. us ++ last.0) first.1
            ∙ append_assoc (updates_of v log) first.0 last.0,
      ))

  -- a visit read no more updates than there were
  deed-within : (before : List ShardEntry) (author : ℕ) (deed : ShardDeed) (visit : Visit) → Contains (visit_by author deed) visit
      → FitsShard gates before deed → visit.updates ≤ length (updates_of visit.vertex before)
  deed-within before author (Visited r stamp w updates settled) visit h fits =
      subst (λ (x : Visit). x.updates ≤ length (updates_of x.vertex before)) (only _ visit h) fits.applied
  deed-within before author (Arrived gate number message) visit h fits = absurd (has_none visit h)
  deed-within before author (Applied gate number) visit h fits = absurd (has_none visit h)
  deed-within before author (Collected bound) visit h fits = absurd (has_none visit h)

  -- a visit in a shard's log read after no more updates of its vertex than the log applied
  pub within : (log : List ShardEntry) → IsShardLog gates log → (visit : Visit) → Contains (visits_of log) visit
      → visit.updates ≤ length (updates_of visit.vertex log)
  within log legal visit h =
      let entry = flat_has (λ (e : ShardEntry). visit_by e.author e.deed) log visit h in
      let cut = cut_at log entry.0 entry.1 in
      let few = deed-within cut.before (entry.0).author (entry.0).deed visit entry.2 (legal cut.before entry.0 cut.after cut.is) in
      let all = longer (updates_of visit.vertex cut.before) (updates_of visit.vertex (cut.before ++ entry.0 ∷ cut.after))
      (updates-on visit.vertex cut.before (entry.0 ∷ cut.after) (subst (IsShardLog gates) cut.is legal)) in
      let whole = ap (λ l. length (updates_of visit.vertex l)) cut.is in
      omega (arith, few, all, whole)

  -- what a visit saw last stays
  pub last-stays : (log more : List ShardEntry) → IsShardLog gates (log ++ more) → (visit : Visit)
      → visit.updates ≤ length (updates_of visit.vertex log) → seen_last (log ++ more) visit ≡ seen_last log visit
  last-stays log more legal visit few =
      let us = updates_of visit.vertex log in
      let on = updates-on visit.vertex log more legal in
      let many = length-map us (λ (u : Update). u.stamp) in
      ap (λ xs. last_seen visit.updates (map (λ (u : Update). u.stamp) xs)) on.1
      ∙ ap (last_seen visit.updates) (map-append (λ (u : Update). u.stamp) us on.0)
      ∙ seen-front visit.updates (map (λ (u : Update). u.stamp) us) (map (λ (u : Update). u.stamp) on.0) (omega (arith, few, many))

  -- what a visit read stays
  pub read-stays : (log more : List ShardEntry) → IsShardLog gates (log ++ more) → (visit : Visit)
      → visit.updates ≤ length (updates_of visit.vertex log) → read-in (log ++ more) visit ≡ read-in log visit
  read-stays log more legal visit few =
      let on = updates-on visit.vertex log more legal in
      ap (with-state visit.vertex) (ap (take visit.updates) on.1 ∙ take-append-le visit.updates (updates_of visit.vertex log) on.0 few)

  -- a read stays one of the request
  pub reads-stay : (r : ℕ) (log more : List ShardEntry) → IsShardLog gates (log ++ more) → (read : Name × State)
      → Contains (reads_in r log) read → Contains (reads_in r (log ++ more)) read
  reads-stay r log more legal read h =
      let of = map_has (read-in log) (filter (λ (visit : Visit). visit.request == r) (visits_of log)) read h in
      let there = filter_has (λ (visit : Visit). visit.request == r) (visits_of log) of.0 of.1 in
      let later = has-on (visits_of log) (visits_of (log ++ more))
      (flat-on (λ (e : ShardEntry). visit_by e.author e.deed) log (log ++ more) (more, refl)) of.0 there.0 in
      let left = has_filter (λ (visit : Visit). visit.request == r) (visits_of (log ++ more)) of.0 later there.1 in
      let same = read-stays log more legal of.0 (within log (shard-before gates log more legal) of.0 there.0) in
      subst (λ x. Contains (reads_in r (log ++ more)) x) (same ∙ of.2)
      (has_map (read-in (log ++ more)) (filter (λ (visit : Visit). visit.request == r) (visits_of (log ++ more))) of.0 left)
