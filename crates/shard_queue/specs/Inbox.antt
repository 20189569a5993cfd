-- The receiving end of a channel: what waits there by its number, and how many messages were processed.
use Rattle.std.specs.Prelude.{◌≡◌, ◌≢◌, ℕ, ◌+◌, Bool, ◌||◌, ◌==◌, false, List, [], ◌∷◌, ◌++◌, fold, Option, None, Some, is_some, nat_le, Contains, if◌then◌else◌}
use Rattle.std.specs.Option.{option_map}
use Rattle.std.specs.Ordering.{nat_cmp}
use Rattle.std.specs.Map.{lookup, remove_entry}
use Rattle.std.specs.BTreeMap.{insert_entry, is_at}
use Rattle.shard_queue.specs.Outbox.{sent_as}
use Rattle.vector_stamp.specs.declared.clock.Stamp.{Stamp}

-- how many messages were processed, the stamp of the last of these, and what waits under its number, in rising order of
-- numbers
pub record Incoming (M : Type 0) : Type 0 where
  pub processed : ℕ
  pub last : Option Stamp
  pub waiting : List (ℕ × M)

-- what happens there: a message arrives under its number, or the head is taken if there is one
pub data Event (M : Type 0) : Type 0 where
  Arrives : ℕ → M → Event M
  TakesHead : Event M

module _ {M : Type 0} where
  -- nothing has arrived
  abbrev pub nothing_arrived : Incoming M
  nothing_arrived = record { processed = 0; last = None; waiting = [] }

  -- the message that waits under a number
  abbrev pub waiting_at : ℕ → Incoming M → Option M
  waiting_at number inbox = lookup (is_at (nat_cmp number)) inbox.waiting

  -- the head: the next message, if it has arrived
  abbrev pub waiting_head : Incoming M → Option M
  waiting_head inbox = waiting_at (inbox.processed + 1) inbox

  -- whether the message of a number, from 1, has arrived: it was processed, or it waits
  abbrev pub has_arrived : ℕ → Incoming M → Bool
  has_arrived number inbox = nat_le number inbox.processed || is_some (waiting_at number inbox)

  -- after an arrival: the message waits, unless that number arrived before
  abbrev pub after_arrival : ℕ → M → Incoming M → Incoming M
  after_arrival number message inbox =
      if has_arrived number inbox then inbox
      else record inbox { waiting = insert_entry nat_cmp inbox.waiting number message }

  -- after the head was processed: it no longer waits, and its stamp is the last one
  abbrev pub after_head : (M → Stamp) → Incoming M → Incoming M
  after_head stamp_of inbox = record {
    processed = inbox.processed + 1;
    last = option_map stamp_of (waiting_head inbox);
    waiting = remove_entry (is_at (nat_cmp (inbox.processed + 1))) inbox.waiting;
  }

  -- after the head was taken; if there is none, nothing changes
  abbrev pub after_head_if : (M → Stamp) → Option M → Incoming M → Incoming M
  after_head_if stamp_of None inbox = inbox
  after_head_if stamp_of (Some head) inbox = after_head stamp_of inbox

  -- after an event
  abbrev pub after_event : (M → Stamp) → Incoming M → Event M → Incoming M
  after_event stamp_of inbox (Arrives number message) = after_arrival number message inbox
  after_event stamp_of inbox TakesHead = after_head_if stamp_of (waiting_head inbox) inbox

  -- after events, from the start
  abbrev pub inbox_after : (M → Stamp) → List (Event M) → Incoming M
  inbox_after stamp_of events = fold (after_event stamp_of) nothing_arrived events

  -- a message, as a list of one, or none
  abbrev pub taken_messages : Option M → List M
  taken_messages None = []
  taken_messages (Some head) = head ∷ []

  -- what an event processes
  abbrev pub taken_by : Incoming M → Event M → List M
  taken_by inbox (Arrives number message) = []
  taken_by inbox TakesHead = taken_messages (waiting_head inbox)

  -- what events process, in order
  abbrev pub processed_in : (M → Stamp) → Incoming M → List (Event M) → List M
  processed_in stamp_of inbox [] = []
  processed_in stamp_of inbox (event ∷ events) =
      taken_by inbox event ++ processed_in stamp_of (after_event stamp_of inbox event) events

  -- whether an event brings the message of this number
  abbrev pub is_arrival_of : ℕ → Event M → Bool
  is_arrival_of number (Arrives other message) = number == other
  is_arrival_of number TakesHead = false

  -- what arrives is what was sent under that number; it may come in any order, again, or never
  abbrev pub AreOfSent : List M → List (Event M) → Type 0
  AreOfSent sent events = (number : ℕ) (message : M) → Contains events (Arrives number message)
      → sent_as number sent ≡ Some message

module _ {M : Type 0} (stamp_of : M → Stamp) where
  -- what waits under each number after an arrival and after the head was processed: both change what waits under one
  -- number alone
  pub record WaitingLaws : Type 0 where
    pub arrived : (number : ℕ) (message : M) (inbox : Incoming M) → has_arrived number inbox ≡ false
        → waiting_at number (after_arrival number message inbox) ≡ Some message
    pub others : (number other : ℕ) (message : M) (inbox : Incoming M) → other ≢ number
        → waiting_at other (after_arrival number message inbox) ≡ waiting_at other inbox
    pub processed : (number : ℕ) (message : M) (inbox : Incoming M)
        → (after_arrival number message inbox).processed ≡ inbox.processed
    pub last : (number : ℕ) (message : M) (inbox : Incoming M) → (after_arrival number message inbox).last ≡ inbox.last
    pub still : (other : ℕ) (inbox : Incoming M) → other ≢ inbox.processed + 1
        → waiting_at other (after_head stamp_of inbox) ≡ waiting_at other inbox
