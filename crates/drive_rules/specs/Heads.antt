-- What a shard has of the messages that were sent to it, and which of its heads can be applied.
use Rattle.std.specs.Prelude.{◌≡◌, ℕ, ◌≤◌, Contains, None, Some}
use Rattle.weave_entries.specs.declared.message.Addressed.{Addressed}
use Rattle.weave_entries.specs.declared.message.Message.{Message}
use Rattle.weave_entries.specs.GateReplay.{addressed_to}
use Rattle.weave_entries.specs.ShardReplay.{arrived_at, head_of, processed_count, waits_at}
use Rattle.weave_account.specs.declared.account.Account.{Account}
use Rattle.weave_account.specs.Account.{gate_log, shard_log}

-- all messages that were sent to a shard have arrived there
abbrev pub AllArrived : Account → ℕ → Type 0
AllArrived account shard =
    (home : ℕ) (addressed : Addressed) → Contains (addressed_to shard (gate_log account home)) addressed
    → arrived_at home addressed.number (shard_log account shard) ≡ Some addressed.message

-- all messages that were sent to a shard were processed there
abbrev pub AllProcessed : Account → ℕ → Type 0
AllProcessed account shard =
    (home : ℕ) (addressed : Addressed) → Contains (addressed_to shard (gate_log account home)) addressed
    → addressed.number ≤ processed_count home (shard_log account shard)

-- the channel of this gatekeeper to a shard has a head, and it waits for no vertex
abbrev pub CanApply : Account → ℕ → ℕ → Type 0
CanApply account shard home =
    (head : Message) × (head_of home (shard_log account shard) ≡ Some head)
    × (waits_at head (shard_log account shard) ≡ None)
