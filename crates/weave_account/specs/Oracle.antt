-- What the log of the oracle keeps: each entry was asked for by one commit or by one visit of a program, with just
-- the earlier events that this one asks about.
use Rattle.std.specs.Prelude.{◌≡◌, ◌≢◌, ◌⊎◌, ℕ, List, [], ◌∷◌, ◌++◌, map, filter, AllPairs, Contains, IsTrue}
use Rattle.std.specs.List.{flat_map}
use Rattle.vector_stamp.specs.declared.clock.Stamp.{Stamp}
use Rattle.vector_stamp.specs.Seeing.{last_seen}
use Rattle.vector_stamp.specs.Settling.{SettledEntry}
use Rattle.weave_entries.specs.declared.oracle_log.OracleEntry.{OracleEntry}
use Rattle.weave_entries.specs.declared.store_log.StoreEntry.{StoreEntry}
use Rattle.weave_entries.specs.declared.shard_log.ShardEntry.{ShardEntry}
use Rattle.weave_entries.specs.OracleReplay.{settled_entry}
use Rattle.weave_entries.specs.OracleRules.{IsOracleLog}
use Rattle.weave_entries.specs.ShardReplay.{Update, Visit, visits_of, updates_of}
use Rattle.weave_entries.specs.StoreReplay.{Commit, commit_by, commits_of}
use Rattle.weave_entries.specs.StoreRule.{lasts_of, asked_stamps}
use Rattle.weave_account.specs.declared.account.Account.{Account}
use Rattle.weave_account.specs.Account.{shard_log}

-- a commit asked: its stamp is the later one, and the earlier ones are those of the last commits at the vertices of
-- which the store asks, in order of naming
pub record IsAskedByCommit (account : Account) (settled : SettledEntry) : Type 0 where
  pub before : List StoreEntry
  pub entry : StoreEntry
  pub after : List StoreEntry
  pub at : account.store ≡ before ++ entry ∷ after
  pub commit : Commit
  pub commit_is : commit_by entry.deed ≡ commit ∷ []
  pub later_is : settled.later ≡ commit.stamp
  pub earlier_are : settled.earlier ≡ asked_stamps commit.stamp (lasts_of commit.ops (commits_of before))

-- the stamp of the last update that a visit saw, as a list of one; none if it saw none
abbrev pub seen_last : List ShardEntry → Visit → List Stamp
seen_last log visit = last_seen visit.updates (map (λ (update : Update). update.stamp) (updates_of visit.vertex log))

-- a visit that is marked as settled asked: its program's stamp is the later one, and the earlier one is that of the
-- last update that it saw
pub record IsAskedByVisit (account : Account) (settled : SettledEntry) : Type 0 where
  pub shard : ℕ
  pub visit : Visit
  pub visited : Contains (visits_of (shard_log account shard)) visit
  pub marked : IsTrue visit.settled
  pub later_is : settled.later ≡ visit.stamp
  pub earlier_is : settled.earlier ≡ seen_last (shard_log account shard) visit

-- a visit that is marked as settled has its entry
pub record HasItsEntry (account : Account) (log : List ShardEntry) (visit : Visit) : Type 0 where
  pub entry : OracleEntry
  pub is_there : Contains account.oracle entry
  pub later_is : (settled_entry entry).later ≡ visit.stamp
  pub earlier_is : (settled_entry entry).earlier ≡ seen_last log visit

-- the visits of a shard that are marked as settled, each with its program and what it saw last
abbrev pub marked_in : List ShardEntry → List (ℕ × List Stamp)
marked_in log =
    map (λ (visit : Visit). (visit.request, seen_last log visit))
    (filter (λ (visit : Visit). visit.settled) (visits_of log))

-- Oracle: the log keeps the oracle's rule, so each pair was added when stamps and the pairs before left its two open.
-- Each entry is that of one commit or of one marked visit, and each marked visit has one.
-- No two marked visits of one program saw one update last, so no entry is of two visits.
pub record OracleClause (account : Account) : Type 0 where
  pub log : IsOracleLog account.oracle
  pub asked : (entry : OracleEntry) → Contains account.oracle entry
      → IsAskedByCommit account (settled_entry entry) ⊎ IsAskedByVisit account (settled_entry entry)
  pub marked : (shard : ℕ) (visit : Visit) → Contains (visits_of (shard_log account shard)) visit → IsTrue visit.settled
      → HasItsEntry account (shard_log account shard) visit
  pub once : AllPairs (λ (a b : ℕ × List Stamp). a ≢ b) (flat_map marked_in account.shards)
