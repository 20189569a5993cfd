-- What waits on a channel leads to a message in the log, and goes on leading there when the log gets longer.
-- Used by Keeping and Ready.
use Rattle.std.proofs.Common.{◌≡◌, ℕ, List, [], ◌∷◌, ◌++◌, length, slice_get, Option, None, Some, is_some, refl, ap, ◌∙◌}
use Rattle.std.specs.Option.{option_map, option_and_then}
use Rattle.std.proofs.lemmas.Option.{option_and_then_some}
use Rattle.weave_data.proofs.Lists.{get-here, get_kept}
use Rattle.vector_stamp.specs.declared.clock.Stamp.{Stamp}
use Rattle.weave_entries.specs.declared.message.Message.{Message}
use Rattle.weave_entries.specs.declared.shard_log.ShardEntry.{ShardEntry}
use Rattle.weave_entries.specs.declared.shard_log.ShardDeed.TheVariants.{Arrived}
use Rattle.shard_node.specs.declared.waiting.Waiting.{Waiting}
use Rattle.shard_node.specs.Keeping.{message_by, message_in, LeadsTo}

-- the stamp of a message
abbrev pub stamp_in : Message → Stamp
stamp_in message = message.stamp

-- the stamp of a message that waits
abbrev pub stamp_at : Waiting → Stamp
stamp_at waiting = waiting.stamp

-- the message of an entry stays in its place when more follow
message-kept : (log more : List ShardEntry) (place : ℕ) (message : Message) → message_in log place ≡ Some message → message_in (log ++ more) place ≡ Some message
message-kept log more place message is =
    option_and_then_some (λ (entry : ShardEntry). message_by entry.deed) (slice_get log place) message is
    (λ entry at of. ap (option_and_then (λ (one : ShardEntry). message_by one.deed)) (get_kept log more place entry at) ∙ of)

-- a message that arrives is in the log's last entry
pub leads-new : (log : List ShardEntry) (author gate number : ℕ) (message : Message) (waiting : Waiting) → waiting.place ≡ length log → waiting.stamp ≡ message.stamp → LeadsTo (log ++ record { author = author; deed = Arrived gate number message } ∷ []) (Some waiting) (Some message)
leads-new log author gate number message waiting place stamp =
    let entry : ShardEntry = record { author = author; deed = Arrived gate number message } in
    (ap (message_in (log ++ entry ∷ [])) place ∙ ap (option_and_then (λ (one : ShardEntry). message_by one.deed)) (get-here log entry []), stamp)

module _ (log : List ShardEntry) where
  -- something waits exactly if there is a message
  pub leads-some : (found : Option Waiting) (message : Option Message) → LeadsTo log found message → is_some found ≡ is_some message
  leads-some None None leads = refl
  leads-some None (Some message) leads = absurd leads
  leads-some (Some waiting) None leads = absurd leads
  leads-some (Some waiting) (Some message) leads = refl

  -- what leads to a message has the message's stamp
  pub leads-stamp : (found : Option Waiting) (message : Option Message) → LeadsTo log found message → option_map stamp_at found ≡ option_map stamp_in message
  leads-stamp None None leads = refl
  leads-stamp None (Some message) leads = absurd leads
  leads-stamp (Some waiting) None leads = absurd leads
  leads-stamp (Some waiting) (Some message) leads = ap Some leads.1

  -- the log has the message at its place
  pub leads-message : (found : Option Waiting) (message : Option Message) → LeadsTo log found message → option_and_then (λ (waiting : Waiting). message_in log waiting.place) found ≡ message
  leads-message None None leads = refl
  leads-message None (Some message) leads = absurd leads
  leads-message (Some waiting) None leads = absurd leads
  leads-message (Some waiting) (Some message) leads = leads.0

  -- and still has it there when it is longer
  pub leads-still : (more : List ShardEntry) (found : Option Waiting) (message : Option Message) → LeadsTo log found message → LeadsTo (log ++ more) found message
  leads-still more None None leads = leads
  leads-still more None (Some message) leads = absurd leads
  leads-still more (Some waiting) None leads = absurd leads
  leads-still more (Some waiting) (Some message) leads = (message-kept log more waiting.place message leads.0, leads.1)
