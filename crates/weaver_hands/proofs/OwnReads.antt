-- What an author's visits for a request read stays while the shards' logs go on, and each visit adds one read.
-- Used by `finish`, Running and SeenReads.
use Rattle.std.proofs.Common.{◌≡◌, ℕ, ◌==◌, Bool, List, [], ◌∷◌, ◌++◌, map, take, Contains, refl, ap, subst, ◌∙◌}
use Rattle.std.specs.List.{flat_map}
use Rattle.std.proofs.lemmas.List.{map-append}
use Rattle.weave_data.proofs.Members.{filter_has, flat_has, has_filter, has_flat, has_map, map_has}
use Rattle.weave_data.specs.declared.name.Name.{Name}
use Rattle.graph_ops.specs.Operations.{State}
use Rattle.weave_entries.specs.declared.shard_log.ShardEntry.{ShardEntry}
use Rattle.weave_entries.specs.ShardReplay.{Visit, reads_in, state_of_updates, updates_of, visit_by, visits_of}
use Rattle.weave_entries.specs.ShardRules.{IsShardLog}
use Rattle.weave_account.specs.declared.account.Account.{Account}
use Rattle.weave_account.specs.Account.{reads_of, shard_log}
use Rattle.weave_account.specs.GoesOn.{visits_by, IsBeginningOf}
use Rattle.weave_account.proofs.VisitsStay.{flat-alike, read-in, map-alike}
use Rattle.seen_logs.specs.LowerLaws.{LawsForSeenLogs}
use Rattle.seen_logs.specs.Seen.{ShardsGoOn, visit_entry}
use Rattle.seen_logs.proofs.Updates.{read-stays, shard-before, within}
use Rattle.weaver_hands.specs.Programs.{entries_of_author, own_reads_in}

-- the visits of an entry
abbrev pub given : ShardEntry → List Visit
given entry = visit_by entry.author entry.deed

module _ (number r : ℕ) where
  abbrev of-request : Visit → Bool
  of-request visit = visit.request == r

  abbrev of-author : ShardEntry → Bool
  of-author entry = entry.author == number

  -- an author's visit for the request is one of the log's
  own-there : (log : List ShardEntry) (visit : Visit) → Contains (visits_by r (entries_of_author number log)) visit → Contains (visits_by r log) visit
  own-there log visit h =
      let mine = filter_has of-request (visits_of (entries_of_author number log)) visit h in
      let from = flat_has given (entries_of_author number log) visit mine.0 in
      let there = filter_has of-author log from.0 from.1 in
      has_filter of-request (visits_of log) visit (has_flat given log from.0 visit there.0 from.2) mine.1

  -- what it read is among what was read for the request
  own-read : (log : List ShardEntry) (read : Name × State) → Contains (own_reads_in number r log) read → Contains (reads_in r log) read
  own-read log read h =
      let from = map_has (read-in log) (visits_by r (entries_of_author number log)) read h in
      subst (λ x. Contains (reads_in r log) x) from.2 (has_map (read-in log) (visits_by r log) from.0 (own-there log from.0 from.1))

  -- what an author's visits for a request read at all shards is among all that was read for it
  pub own-among : (seen : Account) (read : Name × State) → Contains (flat_map (own_reads_in number r) seen.shards) read → Contains (reads_of seen r) read
  own-among seen read h =
      let from = flat_has (own_reads_in number r) seen.shards read h in
      has_flat (reads_in r) seen.shards from.0 read from.1 (own-read from.0 read from.2)

  module _ (laws : LawsForSeenLogs) (gates : ℕ) where
    -- at the end of a log that has gone on, the visits that there were read the same
    read-alike : (log next : List ShardEntry) → IsBeginningOf log next → IsShardLog gates next
        → map (read-in next) (visits_by r (entries_of_author number log)) ≡ own_reads_in number r log
    read-alike log next on legal =
        let whole : IsShardLog gates (log ++ on.0) = subst (IsShardLog gates) on.1 legal in
        map-alike (read-in next) (read-in log) (visits_by r (entries_of_author number log)) (λ visit h.
        let there = (filter_has of-request (visits_of log) visit (own-there log visit h)).0 in
        ap (λ l. read-in l visit) on.1
        ∙ read-stays laws gates log on.0 whole visit (within laws gates log (shard-before gates log on.0 whole) visit there))

    -- if a shard's log goes on without a new visit by the author for the request, what its visits for it read stays
    pub reads-still : (log next : List ShardEntry) → IsBeginningOf log next → IsShardLog gates next
        → visits_by r (entries_of_author number next) ≡ visits_by r (entries_of_author number log) → own_reads_in number r next ≡ own_reads_in number r log
    reads-still log next on legal same = ap (map (read-in next)) same ∙ read-alike log next on legal

    -- if no shard's log gets a new visit by the author for the request, what its visits read for it stays
    pub all-still : (seen next : Account) → ShardsGoOn seen next → ((shard : ℕ) → IsShardLog gates (shard_log next shard))
        → ((shard : ℕ) → visits_by r (entries_of_author number (shard_log next shard)) ≡ visits_by r (entries_of_author number (shard_log seen shard)))
        → flat_map (own_reads_in number r) next.shards ≡ flat_map (own_reads_in number r) seen.shards
    all-still seen next on legal same =
        flat-alike (own_reads_in number r) refl next.shards seen.shards
        (λ shard. reads-still (shard_log seen shard) (shard_log next shard) (on shard) (legal shard) (same shard))

    -- one more visit reads the state after the updates that it saw
    pub reads-more : (log before next : List ShardEntry) (visit : Visit) → IsBeginningOf log next → IsShardLog gates next
        → next ≡ before ++ visit_entry visit ∷ []
        → visits_by r (entries_of_author number next) ≡ visits_by r (entries_of_author number log) ++ visit ∷ []
        → own_reads_in number r next ≡ own_reads_in number r log
        ++ (visit.vertex, state_of_updates (take visit.updates (updates_of visit.vertex before))) ∷ []
    reads-more log before next visit on legal is more =
        let whole : IsShardLog gates (before ++ visit_entry visit ∷ []) = subst (IsShardLog gates) is legal in
        let same : updates_of visit.vertex next ≡ updates_of visit.vertex before =
        ap (updates_of visit.vertex) is
        ∙ laws.not_applied gates before (visit_entry visit) visit.vertex (shard-before gates before (visit_entry visit ∷ []) whole) refl in
        ap (map (read-in next)) more
        ∙ map-append (read-in next) (visits_by r (entries_of_author number log)) (visit ∷ [])
        ∙ ap (λ l. l ++ read-in next visit ∷ []) (read-alike log next on legal)
        ∙ ap (λ us. own_reads_in number r log ++ (visit.vertex, state_of_updates (take visit.updates us)) ∷ []) same
