-- The clause on visits in its literal form.
-- Used by `visits_see_what_precedes`.
use Rattle.std.proofs.Common.{◌≡◌, ℕ, ◌<◌, Bool, List, ◌∷◌, ◌++◌, take, drop, Contains, sym, subst, arith}
use Rattle.vector_stamp.specs.declared.clock.Stamp.{Stamp}
use Rattle.weave_data.specs.declared.name.Name.{Name}
use Rattle.program_defs.specs.declared.script.Script.{Script}
use Rattle.weave_entries.specs.declared.shard_log.ShardEntry.{ShardEntry}
use Rattle.weave_entries.specs.declared.shard_log.ShardDeed.TheVariants.{Visited}
use Rattle.weave_entries.specs.StoreReplay.{Commit, commits_naming}
use Rattle.weave_data.proofs.Entries.{each_before}
use Rattle.weave_account.specs.declared.account.Account.{Account}
use Rattle.weave_account.specs.Account.{Precedence, shard_log, commits_in}
use Rattle.weave_account.specs.Shards.{AreShardDeeds, IsRightVisit, ShardFitsAs}
use Rattle.weave_data.proofs.Members.{has_cut}
use Rattle.weave_data.proofs.Images.{within-list}
use Rattle.weave_account.proofs.Visiting.{seen-precede, others-follow}
use Rattle.weave_account.proofs.Basis.{Basis}

module _ (script : Script) (account : Account) (basis : Basis script account) (shard : ℕ) (before after : List ShardEntry) (author r updates : ℕ) (stamp : Stamp) (v : Name) (settled : Bool)
    (at : shard_log account shard ≡ before ++ record { author = author; deed = Visited r stamp v updates settled } ∷ after) where
  abbrev entry : ShardEntry
  entry = record { author = author; deed = Visited r stamp v updates settled }

  inside : shard < script.shards
  inside =
      let lt = within-list account.shards shard entry (subst (λ l. Contains l entry) (sym at) (has_cut before entry after)) in let many = basis.is.shards.as_many in omega (arith, lt, many)

  each : AreShardDeeds script account shard before
  each =
      each_before (λ before (entry : ShardEntry). ShardFitsAs script account shard before entry.deed) before (entry ∷ after)
      (subst (AreShardDeeds script account shard) at (basis.is.shards.deeds shard))

  visit : IsRightVisit script account shard before r stamp v updates
  visit = basis.is.shards.deeds shard before entry after at

  -- the first commits at the vertex precede the program
  pub seen : (commit : Commit) → Contains (take updates (commits_naming v (commits_in account))) commit
      → Precedence account commit.stamp stamp
  seen = seen-precede script account basis shard inside before each r stamp v updates visit

  -- the program precedes each commit at the vertex after those whose updates its visit saw
  pub others : (commit : Commit) → Contains (drop updates (commits_naming v (commits_in account))) commit
      → Precedence account stamp commit.stamp
  others = others-follow script account basis shard inside before each r stamp v updates visit
