-- The updates applied to a vertex in an account are the first commits that name it, in the order of their numbers. It
-- rests on the clauses on channels, the store and shards.
-- Used by KnownClocks, OneReport, PlacedPairs, ReadingPlace, Unprocessed, Visiting and VisitsStay.
use Rattle.std.proofs.Common.{◌≡◌, ℕ, ◌≤◌, List, ◌++◌, length, Contains}
use Rattle.weave_data.specs.Names.{shard_of}
use Rattle.weave_data.specs.declared.name.Name.{Name}
use Rattle.program_defs.specs.declared.script.Script.{Script}
use Rattle.weave_entries.specs.declared.message.Message.{Message}
use Rattle.weave_entries.specs.declared.shard_log.ShardEntry.{ShardEntry}
use Rattle.weave_entries.specs.declared.shard_log.ShardDeed.{ShardDeed}
use Rattle.weave_entries.specs.declared.shard_log.ShardDeed.TheVariants.{Arrived, Applied, Visited, Collected}
use Rattle.weave_entries.specs.GateReplay.{addressed_to}
use Rattle.weave_entries.specs.Logs.{AtEachEntry}
use Rattle.weave_entries.specs.ShardReplay.{Arrival, Update, arrivals_of, processed_of, updates_of}
use Rattle.weave_account.specs.declared.account.Account.{Account}
use Rattle.weave_account.specs.Account.{gate_log}
use Rattle.weave_account.specs.Shards.{AreShardDeeds, ShardFitsAs}
use Rattle.weave_account.proofs.Applying.{Takes}
use Rattle.weave_account.proofs.Applying as applying
use Rattle.weave_account.proofs.Basis.{Basis}
use Rattle.weave_account.proofs.Sent.{Brings, brings}

module _ (script : Script) (account : Account) (basis : Basis script account) (shard : ℕ) (v : Name) (here : shard_of v script.shards ≡ shard) where
  -- a message was sent to the shard, with this number
  abbrev pub WasSent : ℕ → ℕ → Message → Type 0
  WasSent home number m =
      Contains (addressed_to shard (gate_log account home)) (record { shard = shard; number = number; message = m })

  -- a message that was sent to the vertex's shard brings no update of the vertex, or that of a commit
  pub sent-brings : (home number : ℕ) (m : Message) → WasSent home number m → Brings account.store v m
  sent-brings home number m h = brings script account basis shard v here home _ h

  deed-takes : (before : List ShardEntry) (deed : ShardDeed) → ShardFitsAs script account shard before deed
      → Takes WasSent before deed
  deed-takes before (Arrived home number message) fits = fits.sent
  deed-takes before (Applied home number) fits = fits
  deed-takes before (Visited r stamp w n settled) fits = tt
  deed-takes before (Collected bound) fits = tt

  takes : (log : List ShardEntry)
      → AreShardDeeds script account shard log
      → AtEachEntry (λ before (entry : ShardEntry). Takes WasSent before entry.deed) log
  takes log each before entry after is = deed-takes before entry.deed (each before entry after is)

  -- what the lists of a log show
  abbrev pub Shows : List Arrival → List (ℕ × ℕ) → Type 0
  Shows arrivals numbers = applying.Shows account.store v WasSent sent-brings arrivals numbers

  -- this holds of each log of the shard
  pub shows : (log : List ShardEntry)
      → AreShardDeeds script account shard log
      → Shows (arrivals_of log) (processed_of log)
  shows log each = applying.shows account.store v WasSent sent-brings log (takes log each)

  -- a longer log has at least as many updates
  pub grows : (log rest : List ShardEntry)
      → AreShardDeeds script account shard (log ++ rest)
      → length (updates_of v log) ≤ length (updates_of v (log ++ rest))
  grows log rest each = applying.grows account.store v WasSent sent-brings log rest (takes (log ++ rest) each)

  -- the updates of a longer log begin with those of the log
  pub go-on : (log more : List ShardEntry)
      → AreShardDeeds script account shard log
      → (rest : List Update) × (updates_of v (log ++ more) ≡ updates_of v log ++ rest)
  go-on log more each = applying.go-on account.store v WasSent sent-brings log more (takes log each)
