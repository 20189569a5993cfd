-- What a hand's visits read for a request, and all that it has seen read for it.
-- Used by `own_reads_were_seen`.
use Rattle.std.proofs.Common.{◌≡◌, ℕ, suc, ◌==◌, Bool, true, false, cond, List, [], ◌∷◌, ◌++◌, map, Contains, refl, sym, ap, subst, ◌∙◌, eq-eqb}
use Rattle.std.specs.Prelude.{filter, slice_index_or}
use Rattle.std.specs.List.{flat_map}
use Rattle.std.proofs.lemmas.Bool.{both_ways}
use Rattle.std.proofs.lemmas.List.Elements.{Contains-append_left, Contains-append_right, filter-append}
use Rattle.weave_data.proofs.Members.{filter_has, has_none, only, no-members}
use Rattle.weave_data.specs.declared.name.Name.{Name}
use Rattle.graph_ops.specs.Operations.{State}
use Rattle.weave_entries.specs.declared.shard_log.ShardDeed.{ShardDeed}
use Rattle.weave_entries.specs.declared.shard_log.ShardDeed.TheVariants.{Arrived, Applied, Visited, Collected}
use Rattle.weave_entries.specs.declared.shard_log.ShardEntry.{ShardEntry}
use Rattle.weave_entries.specs.ShardReplay.{Visit, reads_in, visit_by, visits_of}
use Rattle.weave_account.specs.Account.{reads_of, shard_log}
use Rattle.weave_account.specs.GoesOn.{visits_by}
use Rattle.weave_account.proofs.VisitsStay.{read-in}
use Rattle.weaver_locks.specs.declared.hand.Hand.{Hand}
use Rattle.weaver_locks.specs.Hands.{hand_number, seen_by}
use Rattle.weaver_hands.specs.Programs.{entries_of_author, own_reads, own_reads_in}
use Rattle.weaver_hands.proofs.OwnReads.{given, own-among}

-- a visit has the author of its entry
visit-author : (author : ℕ) (deed : ShardDeed) (visit : Visit) → Contains (visit_by author deed) visit → author ≡ visit.author
visit-author author (Visited r stamp v updates settled) visit h = ap (λ (w : Visit). w.author) (only _ visit h)
visit-author author (Arrived gate number message) visit h = absurd (has_none visit h)
visit-author author (Applied gate number) visit h = absurd (has_none visit h)
visit-author author (Collected bound) visit h = absurd (has_none visit h)

-- what it has read is among what was read
pub among : (hand : Hand) (r : ℕ) (read : Name × State) → Contains (own_reads hand r) read → Contains (reads_of (seen_by hand) r) read
among hand r = own-among (hand_number hand) r (seen_by hand)

-- if nothing was read it has read nothing
pub nothing : (hand : Hand) (r : ℕ) → reads_of (seen_by hand) r ≡ [] → own_reads hand r ≡ []
nothing hand r none =
    no-members (own_reads hand r) (λ read h. has_none read (subst (λ l. Contains l read) none (among hand r read h)))

module _ (n r : ℕ) where
  abbrev for-it : Visit → Bool
  for-it visit = visit.request == r

  -- if all visits for a request are of one author, they are that author's
  same-visits : (log : List ShardEntry) → ((visit : Visit) → Contains (visits_by r log) visit → visit.author ≡ n)
      → visits_by r (entries_of_author n log) ≡ visits_by r log
  same-visits [] own = refl
  same-visits (entry ∷ log) own =
      let rest = same-visits log (λ visit h. own visit (subst (λ l. Contains l visit) (sym apart) (Contains-append_right (filter for-it (given entry)) (visits_by r log) visit h))) in
      by (entry.author == n) refl rest ∙ sym apart
    where
      apart : visits_by r (entry ∷ log) ≡ filter for-it (given entry) ++ visits_by r log
      apart = filter-append for-it (given entry) (visits_of log)

      none : (entry.author == n) ≡ false → filter for-it (given entry) ≡ []
      none other = no-members (filter for-it (given entry)) (λ visit h.
          let mine = own visit (subst (λ l. Contains l visit) (sym apart) (Contains-append_left (filter for-it (given entry)) (visits_by r log) visit h)) in
          let author = visit-author entry.author entry.deed visit (filter_has for-it (given entry) visit h).0 in
          both_ways (entry.author == n) other (eq-eqb entry.author n (author ∙ mine)))

      by : (b : Bool) → (entry.author == n) ≡ b → visits_by r (entries_of_author n log) ≡ visits_by r log
          → visits_by r (cond b (entry ∷ entries_of_author n log) (entries_of_author n log)) ≡ filter for-it (given entry) ++ visits_by r log
      by true is rest =
          filter-append for-it (given entry) (visits_of (entries_of_author n log)) ∙ ap (λ l. filter for-it (given entry) ++ l) rest
      by false is rest = rest ∙ ap (λ l. l ++ visits_by r log) (sym (none is))

  same-reads : (log : List ShardEntry) → ((visit : Visit) → Contains (visits_by r log) visit → visit.author ≡ n) → own_reads_in n r log ≡ reads_in r log
  same-reads log own = ap (map (read-in log)) (same-visits log own)

-- if all visits for the request that were seen are the hand's, it has read all
pub all-read : (hand : Hand) (r : ℕ) → ((shard : ℕ) (visit : Visit) → Contains (visits_by r (shard_log (seen_by hand) shard)) visit
    → visit.author ≡ hand_number hand) → own_reads hand r ≡ reads_of (seen_by hand) r
all-read hand r own = alike (seen_by hand).shards (λ shard. same-reads (hand_number hand) r (shard_log (seen_by hand) shard) (own shard))
  where
    alike : (logs : List (List ShardEntry)) → ((k : ℕ) → own_reads_in (hand_number hand) r (slice_index_or logs k []) ≡ reads_in r (slice_index_or logs k []))
        → flat_map (own_reads_in (hand_number hand) r) logs ≡ flat_map (reads_in r) logs
    alike [] same = refl
    alike (log ∷ logs) same = ap (λ l. l ++ flat_map (own_reads_in (hand_number hand) r) logs) (same 0)
        ∙ ap (λ l. reads_in r log ++ l) (alike logs (λ k. same (suc k)))
