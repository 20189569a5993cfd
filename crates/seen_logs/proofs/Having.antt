-- What a shard has seen is what the laws of accounts on heads, updates and collections need.
-- Used by `shards_have_seen`.
use Rattle.std.proofs.Common.{ℕ, ◌≤◌, List}
use Rattle.weave_entries.specs.declared.shard_log.ShardEntry.{ShardEntry}
use Rattle.weave_entries.specs.declared.shard_log.ShardDeed.{ShardDeed}
use Rattle.weave_entries.specs.declared.shard_log.ShardDeed.TheVariants.{Arrived, Applied, Visited, Collected}
use Rattle.weave_entries.specs.GateRules.{IsGateLog}
use Rattle.weave_entries.specs.ShardRules.{FitsShard, IsHeadInTurn, IsShardLog}
use Rattle.weave_account.specs.declared.account.Account.{Account}
use Rattle.weave_account.specs.Account.{gate_log, shard_log}
use Rattle.weave_account.specs.Seen.{ComesAs, HasSeen, HasSeenSent, HavePassed, TakesAs}
use Rattle.weave_account.specs.Shards.{Applies}
use Rattle.seen_logs.specs.References.{ShardRefersAs}
use Rattle.seen_logs.specs.Seen.{ShardRefersWithin}

applies : (gates : ℕ) (before : List ShardEntry) (home number : ℕ) → IsHeadInTurn gates before home number → Applies before home number
applies gates before home number fits =
    record { number_is = fits.number_is; message = fits.message; head = fits.head; in_turn = fits.in_turn }

module _ (gates shards : ℕ) (seen : Account) (shard : ℕ) (legal : IsShardLog gates (shard_log seen shard)) (refers : ShardRefersWithin shards seen shard) where
  takes : (before : List ShardEntry) (author : ℕ) (deed : ShardDeed) → FitsShard gates before deed → ShardRefersAs seen shards shard before author deed
      → TakesAs shards seen.store shard before deed
  takes before author (Arrived home number message) fits refers = refers.made
  takes before author (Applied home number) fits refers = applies gates before home number fits
  takes before author (Visited r stamp v updates settled) fits refers = tt
  takes before author (Collected bound) fits refers = tt

  comes : (before : List ShardEntry) (author : ℕ) (deed : ShardDeed) → FitsShard gates before deed → ShardRefersAs seen shards shard before author deed
      → ComesAs gates seen shard before deed
  comes before author (Arrived home number message) fits refers = refers.sent
  comes before author (Applied home number) fits refers = applies gates before home number fits
  comes before author (Visited r stamp v updates settled) fits refers = tt
  comes before author (Collected bound) fits refers = fits

  -- if the judgements that were seen passed, the messages in the shard's log are made of them
  pub of-store : HavePassed seen.store → HasSeen shards seen.store shard (shard_log seen shard)
  of-store passes =
      record {
        passes = passes;
        takes = λ before entry after at. takes before entry.author entry.deed (legal before entry after at)
            (refers before entry after at);
      }

  -- with at most eight gatekeepers whose logs are legal, the shard has seen what was sent to it
  pub of-gates : gates ≤ 8 → ((home : ℕ) → IsGateLog home shards (gate_log seen home)) → HasSeenSent gates shards seen shard (shard_log seen shard)
  of-gates few logs =
      record {
        few = few;
        logs = logs;
        comes = λ before entry after at. comes before entry.author entry.deed (legal before entry after at)
            (refers before entry after at);
      }
