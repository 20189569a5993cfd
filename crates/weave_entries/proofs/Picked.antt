-- A transaction has at most one message to a shard.
-- Used by Channels and Small.
use Rattle.std.proofs.Common.{◌≡◌, ℕ, ◌≤◌, nat_eq, List, [], ◌∷◌, map, inl, inr, refl, ap, ◌∙◌, arith}
use Rattle.std.specs.List.{list_any}
use Rattle.graph_ops.specs.declared.op.Op.{Op}
use Rattle.weave_entries.specs.declared.message.Addressed.{Addressed}
use Rattle.weave_entries.specs.declared.verdict.Counted.{Counted}
use Rattle.weave_entries.specs.declared.verdict.Verdict.{Verdict}
use Rattle.weave_entries.specs.declared.verdict.Verdict.TheVariants.{Committed, Conflict, Refused}
use Rattle.weave_entries.specs.declared.gate_log.GateEntry.{GateEntry}
use Rattle.weave_entries.specs.GateReplay.{BegunRequest, to_shard}
use Rattle.weave_entries.specs.Sending.{is_kept_at, message_to, messages_of, shards_named}
use Rattle.weave_data.proofs.Ends.{filter_map_is}
use Rattle.weave_data.proofs.Ranges.{picked, picked_one, picked_beyond}

module _ (shards : ℕ) (log : List GateEntry) (begun : BegunRequest) (ops : List Op) (shard : ℕ) where
  to_one : (counts : List Counted) → to_shard shard (map (message_to shards log begun ops counts) (shards_named shards counts)) ≡ map (message_to shards log begun ops counts) (picked (λ n. list_any (is_kept_at shards n) counts) shard 0 shards)
  to_one counts = filter_map_is (message_to shards log begun ops counts) (λ (addressed : Addressed). nat_eq addressed.shard shard) (shards_named shards counts)

  -- none, or the one of this shard
  pub data OneAtMost : List Addressed → Type 0 where
    NoMessage : OneAtMost []
    OneMessage : (counts : List Counted) → OneAtMost (message_to shards log begun ops counts shard ∷ [])

  -- a transaction sends a shard no message, or the one made for that shard
  pub one_at_most : (verdict : Verdict) → OneAtMost (to_shard shard (messages_of shards log begun ops verdict))
  one_at_most (Committed number answers counts) =
      elim (picked_one (λ n. list_any (is_kept_at shards n) counts) shard 0 shards) [
        | inl none ↦ rw (to_one counts, none) NoMessage
        | inr one ↦ rw (to_one counts, one) (OneMessage counts)
      ]
  one_at_most (Conflict vertex newer) = NoMessage
  one_at_most (Refused op reason at) = NoMessage

  -- it sends none to a shard that isn't there
  pub none_beyond : (verdict : Verdict) → shards ≤ shard → to_shard shard (messages_of shards log begun ops verdict) ≡ []
  none_beyond (Committed number answers counts) beyond = to_one counts ∙ ap (map (message_to shards log begun ops counts)) (picked_beyond (λ n. list_any (is_kept_at shards n) counts) shard 0 shards (omega arith))
  none_beyond (Conflict vertex newer) beyond = refl
  none_beyond (Refused op reason at) beyond = refl
