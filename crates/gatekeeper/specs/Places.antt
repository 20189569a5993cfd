-- Where the messages are that a gatekeeper sent. No public contract cites this.
use Rattle.std.specs.Prelude.{◌≡◌, ℕ, ◌+◌, ◌==◌, if◌then◌else◌, List, [], ◌∷◌, slice_get, Option, None, Some}
use Rattle.std.specs.Option.{option_map, option_and_then}
use Rattle.weave_entries.specs.declared.message.Message.{Message}
use Rattle.weave_entries.specs.declared.message.Addressed.{Addressed}
use Rattle.weave_entries.specs.declared.gate_log.GateEntry.{GateEntry}
use Rattle.weave_entries.specs.declared.gate_log.GateDeed.{GateDeed}
use Rattle.weave_entries.specs.declared.gate_log.GateDeed.TheVariants.{Sent, Nop}
use Rattle.gatekeeper.specs.declared.places.Place.{Place}

-- the message of a deed at an index: that of a nop is among the empty ones
abbrev pub message_sent_by : List Message → GateDeed → ℕ → Option Message
message_sent_by nops (Sent request messages) at =
    option_map (λ (addressed : Addressed). addressed.message) (slice_get messages at)
message_sent_by nops (Nop shard number stamp low) at = slice_get nops at
message_sent_by nops _ at = None

-- the message at a place
abbrev pub message_at : List Message → List GateEntry → Place → Option Message
message_at nops log place =
    option_and_then (λ (entry : GateEntry). message_sent_by nops entry.deed place.at) (slice_get log place.entry)

-- the places lead to these messages, one to each, in order
abbrev pub LeadTo : List Message → List GateEntry → List Place → List Message → Type 0
LeadTo nops log [] [] = Unit {0}
LeadTo nops log [] (message ∷ messages) = ⊥
LeadTo nops log (place ∷ places) [] = ⊥
LeadTo nops log (place ∷ places) (message ∷ messages) = (message_at nops log place ≡ Some message)
    × LeadTo nops log places messages

-- the places of the messages to a shard: in this entry, and from this index on
abbrev pub places_to : ℕ → ℕ → ℕ → List Addressed → List Place
places_to shard entry at [] = []
places_to shard entry at (one ∷ rest) =
    if one.shard == shard
    then record { entry = entry; at = at } ∷ places_to shard entry (at + 1) rest
    else places_to shard entry (at + 1) rest
