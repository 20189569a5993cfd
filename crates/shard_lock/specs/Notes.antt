-- What a shard has seen by its notes, and when that is enough.
use Rattle.std.specs.Prelude.{◌≡◌, ℕ, zero, suc, ◌<◌, List, [], ◌∷◌, map, length}
use Rattle.weave_entries.specs.declared.gate_log.GateDeed.{GateDeed}
use Rattle.weave_entries.specs.declared.gate_log.GateEntry.{GateEntry}
use Rattle.weave_entries.specs.declared.oracle_log.OracleDeed.{OracleDeed}
use Rattle.weave_entries.specs.declared.shard_log.ShardEntry.{ShardEntry}
use Rattle.weave_entries.specs.declared.store_log.StoreDeed.{StoreDeed}
use Rattle.shard_node.specs.Shards.{ShardView}
use Rattle.weave_account.specs.declared.account.Account.{Account}
use Rattle.seen_logs.specs.Seen.{AreLegal, ShardRefersWithin}
use Rattle.chronicle.specs.declared.pass.Pass.{Pass}
use Rattle.chronicle.specs.Frames.{Frame}
use Rattle.chronicle.specs.Logs.{Log}
use Rattle.chronicle.specs.Passes.{seen_by_pass, seen_by_note, lock_noted}
use Rattle.seen_logs.specs.Entries.{oracle_entries, store_entries}
use Rattle.oracle_lock.specs.Seen.{gates_noted, gates_seen}
use Rattle.shard_lock.specs.declared.notes.ShardNotes.{ShardNotes}
use Rattle.shard_lock.specs.Frames.{shard_frame}

-- this log at its shard's place, and nothing of the other shards' logs
unfoldable pub at_place : ℕ → List ShardEntry → List (List ShardEntry)
at_place zero own = own ∷ []
at_place (suc number) own = [] ∷ at_place number own

-- these logs as an account, with a shard's own log in its place
abbrev pub account_of_shard : ℕ → List ShardEntry → List (List GateEntry) → Log StoreDeed → Log OracleDeed → Account
account_of_shard number own gates store oracle = record {
  gates = gates;
  store = store_entries store;
  oracle = oracle_entries oracle;
  shards = at_place number own;
  sessions = [];
}

-- what a shard has seen: its own log, whole, and of the other logs what its notes have
abbrev pub seen_of_shard : ShardView → ShardNotes → Account
seen_of_shard shard notes =
    account_of_shard shard.number shard.log (gates_noted notes.gates.items) (seen_by_note notes.store)
    (seen_by_note notes.oracle)

-- what passes have seen, with a shard's own log in its place
abbrev pub seen_by_shard_passes : ℕ → List ShardEntry → List (Pass GateDeed) → Pass StoreDeed → Pass OracleDeed
    → Account
seen_by_shard_passes number own gates store oracle =
    account_of_shard number own (gates_seen gates) (seen_by_pass store) (seen_by_pass oracle)

-- the frame of a shard with notes
abbrev pub frame_of_shard : ShardView → ℕ → ShardNotes → Frame
frame_of_shard shard shards notes = shard_frame shard.number shard.gates shards (lock_noted notes.store)
    (lock_noted notes.oracle) (map lock_noted notes.gates.items)

-- a shard with notes as contracts see it
pub record NotedShardView : Type 0 where
  pub shard : ShardView
  pub shards : ℕ
  pub notes : ShardNotes

-- What a shard's type keeps. There is a note of each gatekeeper's lock. Each list that was seen is legal, and all that
-- the log's entries refer to was seen.
pub record ShardIsKept (shard : ShardView) (shards : ℕ) (notes : ShardNotes) : Type 0 where
  pub number : shard.number < shards
  pub gates : length notes.gates.items ≡ shard.gates
  pub legal : AreLegal shard.gates shards (seen_of_shard shard notes)
  pub refers : ShardRefersWithin shards (seen_of_shard shard notes) shard.number
