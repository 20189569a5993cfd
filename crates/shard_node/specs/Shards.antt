-- A shard as contracts see it.
use Rattle.std.specs.Prelude.{◌≡◌, ℕ, List, [], ◌∷◌, ◌++◌, None, Some, ⊤}
use Rattle.vector_stamp.specs.declared.clock.Stamp.{Stamp}
use Rattle.weave_entries.specs.declared.message.Message.{Message}
use Rattle.weave_entries.specs.declared.shard_log.ShardEntry.{ShardEntry}
use Rattle.weave_entries.specs.declared.shard_log.ShardDeed.{ShardDeed}
use Rattle.weave_entries.specs.ShardReplay.{head_of, waits_at, first_unready}
use Rattle.shard_node.specs.declared.fault.ApplyFault.{ApplyFault}
use Rattle.shard_node.specs.declared.fault.ApplyFault.TheVariants as unapplied
use Rattle.shard_node.specs.declared.fault.VisitFault.{VisitFault}
use Rattle.shard_node.specs.declared.fault.VisitFault.TheVariants as unread

-- which shard it is, of how many gatekeepers, and its log
pub record ShardView : Type 0 where
  pub number : ℕ
  pub gates : ℕ
  pub log : List ShardEntry

-- one more entry of this author is in the log, and all else is as before
pub record AddsEntry (old new : ShardView) (author : ℕ) (deed : ShardDeed) : Type 0 where
  pub log : new.log ≡ old.log ++ record { author = author; deed = deed } ∷ []
  pub number : new.number ≡ old.number
  pub gates : new.gates ≡ old.gates

-- a head can be applied: each of its counts is the number of updates applied there
pub record CanApplyHead (gate : ℕ) (log : List ShardEntry) : Type 0 where
  pub head : Message
  pub is : head_of gate log ≡ Some head
  pub waits : waits_at head log ≡ None

-- a refusal to apply is right
abbrev pub IsRightlyUnapplied : ℕ → List ShardEntry → ApplyFault → Type 0
IsRightlyUnapplied gate log unapplied.Empty = head_of gate log ≡ None
IsRightlyUnapplied gate log (unapplied.Waits v) = (head : Message) × (head_of gate log ≡ Some head)
    × (waits_at head log ≡ Some v)
IsRightlyUnapplied gate log unapplied.Memory = ⊤

-- a refusal to read is right
abbrev pub IsRightlyUnread : ℕ → Stamp → List ShardEntry → VisitFault → Type 0
IsRightlyUnread gates stamp log (unread.Again gate) = first_unready gates stamp log ≡ Some gate
IsRightlyUnread gates stamp log unread.Memory = ⊤
