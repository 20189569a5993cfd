-- The places of a channel lead to the messages that were sent on it, and still do when more is sent.
-- Used by Begins, Keeping and Messages.
use Rattle.std.proofs.Common.{◌≡◌, ℕ, zero, suc, ◌+◌, ◌-◌, nat_eq, List, [], ◌∷◌, ◌++◌, length, map, slice_get, Some, inl, inr, refl, sym, ap, ◌∙◌, arith}
use Rattle.std.specs.Option.{option_map, option_and_then}
use Rattle.std.proofs.lemmas.Bool.{cases_Bool}
use Rattle.std.proofs.lemmas.List.{append_assoc}
use Rattle.std.proofs.lemmas.Option.{option_and_then_some}
use Rattle.weave_data.proofs.Lists.{get-here, get_kept}
use Rattle.shard_queue.specs.Outbox.{Channel, sent_as}
use Rattle.vector_stamp.specs.declared.clock.Clock.{Clock}
use Rattle.vector_stamp.specs.declared.clock.Stamp.{Stamp}
use Rattle.weave_entries.specs.declared.message.Message.{Message}
use Rattle.weave_entries.specs.declared.message.Addressed.{Addressed}
use Rattle.weave_entries.specs.declared.gate_log.GateEntry.{GateEntry}
use Rattle.weave_entries.specs.declared.gate_log.GateDeed.{GateDeed}
use Rattle.weave_entries.specs.declared.gate_log.GateDeed.TheVariants.{BeganTx, BeganProgram, Sent, Nop, Heard, Raised, Finished}
use Rattle.weave_entries.specs.GateReplay.{channel_of, messages_by, to_shard}
use Rattle.gatekeeper.specs.declared.places.Place.{Place}
use Rattle.gatekeeper.specs.Places.{message_sent_by, message_at, LeadTo, places_to}

-- the message of a deed stays when more nops follow
by_kept : (nops more : List Message) (deed : GateDeed) (at : ℕ) (message : Message) → message_sent_by nops deed at ≡ Some message → message_sent_by (nops ++ more) deed at ≡ Some message
by_kept nops more (Nop shard number stamp low) at message is = get_kept nops more at message is
by_kept nops more (Sent request messages) at message is = is
by_kept nops more (BeganTx request stamp) at message is = absurd cc
by_kept nops more (BeganProgram request stamp) at message is = absurd cc
by_kept nops more (Heard clock) at message is = absurd cc
by_kept nops more (Raised epoch) at message is = absurd cc
by_kept nops more (Finished request) at message is = absurd cc

-- and the message at a place
at_kept : (nops more : List Message) (log later : List GateEntry) (place : Place) (message : Message) → message_at nops log place ≡ Some message → message_at (nops ++ more) (log ++ later) place ≡ Some message
at_kept nops more log later place message is =
    option_and_then_some (λ (entry : GateEntry). message_sent_by nops entry.deed place.at) (slice_get log place.entry) message is
    (λ entry here of.
    ap (option_and_then (λ (one : GateEntry). message_sent_by (nops ++ more) one.deed place.at)) (get_kept log later place.entry entry here)
    ∙ by_kept nops more entry.deed place.at message of)

-- places that led to messages still do when nops and entries follow
pub lead-still : (nops more : List Message) (log later : List GateEntry) (places : List Place) (messages : List Message) → LeadTo nops log places messages → LeadTo (nops ++ more) (log ++ later) places messages
lead-still nops more log later [] [] lead = lead
lead-still nops more log later [] (message ∷ messages) lead = absurd lead
lead-still nops more log later (place ∷ places) [] lead = absurd lead
lead-still nops more log later (place ∷ places) (message ∷ messages) lead = (at_kept nops more log later place message lead.0, lead-still nops more log later places messages lead.1)

module _ (nops : List Message) (log : List GateEntry) where
  -- two lists of places, one after the other
  pub lead-append : (places more : List Place) (messages others : List Message) → LeadTo nops log places messages → LeadTo nops log more others → LeadTo nops log (places ++ more) (messages ++ others)
  lead-append [] more [] others lead after = after
  lead-append [] more (message ∷ messages) others lead after = absurd lead
  lead-append (place ∷ places) more [] others lead after = absurd lead
  lead-append (place ∷ places) more (message ∷ messages) others lead after = (lead.0, lead-append places more messages others lead.1 after)

  -- there are as many places as messages
  pub lead-length : (places : List Place) (messages : List Message) → LeadTo nops log places messages → length places ≡ length messages
  lead-length [] [] lead = refl
  lead-length [] (message ∷ messages) lead = absurd lead
  lead-length (place ∷ places) [] lead = absurd lead
  lead-length (place ∷ places) (message ∷ messages) lead = ap suc (lead-length places messages lead.1)

  -- what is found by an index
  lead-get : (places : List Place) (messages : List Message) (index : ℕ) → LeadTo nops log places messages → option_and_then (message_at nops log) (slice_get places index) ≡ slice_get messages index
  lead-get [] [] index lead = refl
  lead-get [] (message ∷ messages) index lead = absurd lead
  lead-get (place ∷ places) [] index lead = absurd lead
  lead-get (place ∷ places) (message ∷ messages) zero lead = lead.0
  lead-get (place ∷ places) (message ∷ messages) (suc index) lead = lead-get places messages index lead.1

  -- a number gives the message of its place, if the places lead to the messages
  pub lead-found : (places : List Place) (messages : List Message) (number : ℕ) → LeadTo nops log places messages → option_and_then (message_at nops log) (sent_as number places) ≡ sent_as number messages
  lead-found places messages number lead =
      elim (cases_Bool (nat_eq number 0)) [
        | inl first ↦ rw first refl
        | inr some ↦ rw some (lead-get places messages (number - 1) lead)
      ]

-- with one more entry the places on each channel lead to what was sent there before, and then to what the entry sends
abbrev pub LeadAfter : List Message → List GateEntry → ℕ → GateDeed → List (Channel Place) → Type 0
LeadAfter nops log author deed channels = (shard : ℕ) (channel : Channel Place)
    → slice_get channels shard ≡ Some channel
    → LeadTo nops (log ++ record { author = author; deed = deed } ∷ []) channel.sent
    (channel_of shard log ++ map (λ (addressed : Addressed). addressed.message) (to_shard shard (messages_by deed)))

length_more : {A : Type 0} (xs : List A) (x : A) → length (xs ++ x ∷ []) ≡ length xs + 1
length_more [] x = refl
length_more (y ∷ xs) x = let more = length_more xs x in omega arith

-- the places of the messages to a shard lead to them, once their entry is in the log
module _ (nops : List Message) (log : List GateEntry) (author request : ℕ) (all : List Addressed) where
  abbrev entry : GateEntry
  entry = record { author = author; deed = Sent request all }

  at_entry : (front : List Addressed) (one : Addressed) (rest : List Addressed) → front ++ one ∷ rest ≡ all → message_at nops (log ++ entry ∷ []) (record { entry = length log; at = length front }) ≡ Some one.message
  at_entry front one rest is =
      ap (option_and_then (λ (found : GateEntry). message_sent_by nops found.deed (length front))) (get-here log entry [])
      ∙ ap (option_map (λ (addressed : Addressed). addressed.message)) (ap (λ (ms : List Addressed). slice_get ms (length front)) (sym is) ∙ get-here front one rest)

  sent_from : (shard : ℕ) (front rest : List Addressed) (at : ℕ) → at ≡ length front → front ++ rest ≡ all → LeadTo nops (log ++ entry ∷ []) (places_to shard (length log) at rest) (map (λ (addressed : Addressed). addressed.message) (to_shard shard rest))
  sent_from shard front [] at at_is is = tt
  sent_from shard front (one ∷ rest) at at_is is =
      let more = sent_from shard (front ++ one ∷ []) rest (at + 1) (omega (arith, length_more front one)) (append_assoc front (one ∷ []) rest ∙ is) in
      elim (cases_Bool (nat_eq one.shard shard)) [
        | inl same ↦ rw same (ap (λ n. message_at nops (log ++ entry ∷ []) (record { entry = length log; at = n })) at_is ∙ at_entry front one rest is, more)
        | inr other ↦ rw other more
      ]

  -- the places of an entry's messages to a shard lead to them, once the entry is at the end of the log
  pub lead-sent : (shard : ℕ) → LeadTo nops (log ++ entry ∷ []) (places_to shard (length log) 0 all) (map (λ (addressed : Addressed). addressed.message) (to_shard shard all))
  lead-sent shard = sent_from shard [] all 0 refl refl

-- the place of a nop leads to its message, once its entry is in the log and its message in the list
pub lead-nop : (nops : List Message) (log : List GateEntry) (entry : GateEntry) (shard number : ℕ) (stamp : Stamp) (low : Clock) (message : Message) → entry.deed ≡ Nop shard number stamp low → LeadTo (nops ++ message ∷ []) (log ++ entry ∷ []) (record { entry = length log; at = length nops } ∷ []) (message ∷ [])
lead-nop nops log entry shard number stamp low message deed_is = (
  ap (option_and_then (λ (found : GateEntry). message_sent_by (nops ++ message ∷ []) found.deed (length nops))) (get-here log entry [])
      ∙ ap (λ (deed : GateDeed). message_sent_by (nops ++ message ∷ []) deed (length nops)) deed_is
      ∙ get-here nops message [],
  tt,
)
