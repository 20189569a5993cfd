-- The oracle's pairs as pairs of requests, each with the vertex for which it was added.
use Rattle.std.specs.Prelude.{◌≡◌, ◌⊎◌, ℕ, ◌-◌, ◌<◌, ◌==◌, List, [], ◌∷◌, ◌++◌, Contains, IsTrue, Option, Some, slice_get, IsSomeAnd, ⊤}
use Rattle.std.specs.List.{find}
use Rattle.weave_data.specs.declared.name.Name.{Name}
use Rattle.vector_stamp.specs.Precedence.{GivenPair}
use Rattle.weave_entries.specs.declared.store_log.StoreEntry.{StoreEntry}
use Rattle.weave_entries.specs.ShardReplay.{Visit, visits_of}
use Rattle.weave_entries.specs.StoreReplay.{Commit, judged_by, commit_by, commits_of, commits_naming, last_naming}
use Rattle.report_rules.specs.declared.report.Pair.{Pair}
use Rattle.report_rules.specs.Lookups.{is_some_and}
use Rattle.weave_account.specs.declared.account.Account.{Account}
use Rattle.weave_account.specs.Account.{shard_log, stamp_of, commits_in}

-- the first of these vertices at which the last of these commits is that request
abbrev pub first_after : List Commit → ℕ → List Name → Option Name
first_after before r vertices =
    find (λ v. is_some_and (λ (last : Commit). last.request == r) (last_naming v before)) vertices

-- a commit added the pair: it is the later one, and the vertex is the first of those asked at which the earlier one
-- was the last commit
pub record IsAddedByCommit (account : Account) (pair : Pair) : Type 0 where
  pub before : List StoreEntry
  pub entry : StoreEntry
  pub after : List StoreEntry
  pub at : account.store ≡ before ++ entry ∷ after
  pub commit : Commit
  pub commit_is : commit_by entry.deed ≡ commit ∷ []
  pub later_is : commit.request ≡ pair.later
  pub vertex_is : first_after (commits_of before) pair.earlier (judged_by entry.author entry.deed).asked
      ≡ Some pair.vertex

-- a visit added the pair: it is marked as settled, its program is the later one, and the last commit that it saw at
-- the vertex is the earlier one
pub record IsAddedByVisit (account : Account) (pair : Pair) : Type 0 where
  pub shard : ℕ
  pub visit : Visit
  pub visited : Contains (visits_of (shard_log account shard)) visit
  pub marked : IsTrue visit.settled
  pub later_is : visit.request ≡ pair.later
  pub vertex_is : visit.vertex ≡ pair.vertex
  pub sees : 0 < visit.updates
  pub last_is : IsSomeAnd (slice_get (commits_naming pair.vertex (commits_in account)) (visit.updates - 1))
      (λ (commit : Commit). commit.request ≡ pair.earlier)

-- the pair of requests is this pair of the oracle's, and was added by a commit or by a visit
pub record IsPairInAccount (account : Account) (pair : Pair) (given : GivenPair) : Type 0 where
  pub earlier_is : stamp_of account pair.earlier ≡ Some given.0
  pub later_is : stamp_of account pair.later ≡ Some given.1
  pub added : IsAddedByCommit account pair ⊎ IsAddedByVisit account pair

-- the pairs of requests are those of the oracle, one by one
abbrev pub ArePairsOf : Account → List Pair → List GivenPair → Type 0
ArePairsOf account [] [] = ⊤
ArePairsOf account (pair ∷ pairs) (given ∷ givens) = IsPairInAccount account pair given
    × ArePairsOf account pairs givens
ArePairsOf account _ _ = ⊥
