-- The places of messages go to their channels, one after another.
-- Used by `make_all_room`, `send_all` and `send_one`.
use Rattle.std.proofs.Common.{◌≡◌, ℕ, ◌+◌, ◌<◌, nat_eq, List, [], ◌∷◌, ◌++◌, length, get_or, slice_get, slice_set, Some, inl, inr, refl, sym, ap, subst, ◌∙◌, arith}
use Rattle.std.proofs.lemmas.Bool.{cases_Bool, cases_eq, eqb-true, eq-eqb}
use Rattle.std.proofs.lemmas.List.{append_assoc, append-nil, length-set}
use Rattle.std.proofs.lemmas.Option.{slice_get_within, slice_get-get_or, get_or_from_slice_get, same_Some}
use Rattle.weave_data.proofs.Lists.{get_set_here, get_set_other}
use Rattle.shard_queue.specs.Outbox.{Channel}
use Rattle.weave_entries.specs.declared.message.Addressed.{Addressed}
use Rattle.weave_entries.specs.GateReplay.{to_shard}
use Rattle.gatekeeper.specs.declared.places.Place.{Place}
use Rattle.gatekeeper.specs.Places.{places_to}
use Rattle.gatekeeper.specs.Messages.{CanAllGo, HasRoomAt, KeepsSent, IsSentOn, AreSent}

to_here : (one : Addressed) (rest : List Addressed) (shard : ℕ) → one.shard ≡ shard → to_shard shard (one ∷ rest) ≡ one ∷ to_shard shard rest
to_here one rest shard is = rw (eq-eqb one.shard shard is) refl

to_other : (one : Addressed) (rest : List Addressed) (shard : ℕ) → (one.shard ≡ shard → ⊥) → to_shard shard (one ∷ rest) ≡ to_shard shard rest
to_other one rest shard other =
    elim (cases_Bool (nat_eq one.shard shard)) [
      | inl same ↦ absurd (other (eqb-true one.shard shard same))
      | inr differ ↦ rw differ refl
    ]

-- the places of one more message, to the shard and to another one
places_here : (entry at : ℕ) (one : Addressed) (rest : List Addressed) (shard : ℕ) → one.shard ≡ shard → places_to shard entry at (one ∷ rest) ≡ record { entry = entry; at = at } ∷ places_to shard entry (at + 1) rest
places_here entry at one rest shard is = rw (eq-eqb one.shard shard is) refl

places_other : (entry at : ℕ) (one : Addressed) (rest : List Addressed) (shard : ℕ) → (one.shard ≡ shard → ⊥) → places_to shard entry at (one ∷ rest) ≡ places_to shard entry (at + 1) rest
places_other entry at one rest shard other =
    elim (cases_Bool (nat_eq one.shard shard)) [
      | inl same ↦ absurd (other (eqb-true one.shard shard same))
      | inr differ ↦ rw differ refl
    ]

-- none of these goes to the shard
not_to : (shard : ℕ) (one : Addressed) (rest : List Addressed) → to_shard shard (one ∷ rest) ≡ [] → (one.shard ≡ shard → ⊥) × (to_shard shard rest ≡ [])
not_to shard one rest none =
    elim (cases_eq one.shard shard) [
      | inl same ↦ let e : one ∷ to_shard shard rest ≡ [] = sym (to_here one rest shard same) ∙ none in absurd (cc)
      | inr other ↦ (other, sym (to_other one rest shard other) ∙ none)
    ]

-- what can be sent can still be sent when a message went to another shard
can_still : (old new : List (Channel Place)) (shard : ℕ) (place : Place) (rest : List Addressed) → IsSentOn old new shard place → to_shard shard rest ≡ [] → CanAllGo old rest → CanAllGo new rest
can_still old new shard place [] sent none can = tt
can_still old new shard place (one ∷ rest) sent none can =
    let parts = not_to shard one rest none in
    let first : HasRoomAt old one.shard = can.0 in (
      record { channel = first.channel; at = sent.others one.shard parts.0 ∙ first.at; room = first.room },
      can.1,
      can_still old new shard place rest sent parts.1 can.2,
    )

-- the places on the channels, and then those of what is left to be sent, are those that were there and those of all that is sent
pub record GoesOn (old now : List (Channel Place)) (entry : ℕ) (all : List Addressed) (at : ℕ) (rest : List Addressed) : Type 0 where
  pub can : CanAllGo now rest
  pub count : length now ≡ length old
  pub each : (shard : ℕ) (after : Channel Place) → slice_get now shard ≡ Some after → (before : Channel Place) × (slice_get old shard ≡ Some before) × (after.sent ++ places_to shard entry at rest ≡ before.sent ++ places_to shard entry 0 all)

-- at the start, if all messages can go, nothing was sent and all of them are left
pub goes-start : (old : List (Channel Place)) (entry : ℕ) (all : List Addressed) → CanAllGo old all → GoesOn old old entry all 0 all
goes-start old entry all can = record { can = can; count = refl; each = λ shard after at. (after, at, refl) }

-- when the first of the messages that are left is sent, the others are left
pub goes-step : (old now next : List (Channel Place)) (entry : ℕ) (all : List Addressed) (index : ℕ) (one : Addressed) (rest : List Addressed) → GoesOn old now entry all index (one ∷ rest) → IsSentOn now next one.shard (record { entry = entry; at = index }) → GoesOn old next entry all (index + 1) rest
goes-step old now next entry all index one rest goes sent =
    let can : CanAllGo now (one ∷ rest) = goes.can in
    let place : Place = record { entry = entry; at = index } in
    record {
      can = can_still now next one.shard place rest sent can.1 can.2;
      count = sent.count ∙ goes.count;
      each = λ shard after at. elim (cases_eq shard one.shard) [
        | inl same ↦
            let first : HasRoomAt now one.shard = can.0 in
            let found = sent.here first.channel first.at in
            let was = goes.each shard first.channel (ap (λ n. slice_get now n) same ∙ first.at) in
            let here : found.0 ≡ after = same_Some _ _ (sym found.1 ∙ ap (λ n. slice_get next n) (sym same) ∙ at) in
            let grown : after.sent ++ places_to shard entry (index + 1) rest ≡ first.channel.sent ++ places_to shard entry index (one ∷ rest) =
            ap (λ (c : Channel Place). c.sent ++ places_to shard entry (index + 1) rest) (sym here)
            ∙ ap (λ ps. ps ++ places_to shard entry (index + 1) rest) found.2
            ∙ append_assoc first.channel.sent (place ∷ []) (places_to shard entry (index + 1) rest)
            ∙ ap (λ ps. first.channel.sent ++ ps) (sym (places_here entry index one rest shard (sym same))) in
            (was.0, was.1, grown ∙ was.2)
        | inr other ↦
            let was = goes.each shard after (sym (sent.others shard other) ∙ at) in
            let less : places_to shard entry (index + 1) rest ≡ places_to shard entry index (one ∷ rest) = sym (places_other entry index one rest shard (λ e. other (sym e))) in
            (was.0, was.1, ap (λ ps. after.sent ++ ps) less ∙ was.2)
      ];
    }

-- when none is left, the places of all messages are at the ends of the channels to their shards
pub goes-end : (old now : List (Channel Place)) (entry : ℕ) (all : List Addressed) (index : ℕ) → GoesOn old now entry all index [] → AreSent old now entry all
goes-end old now entry all index goes = record { count = goes.count; each = λ shard after at. let was = goes.each shard after at in (was.0, was.1, sym (append-nil after.sent) ∙ was.2) }

-- Places in a list

-- what is read at a place of a list is what the list has there
pub got_is : {A : Type 0} (xs : List A) (place : ℕ) (x y : A) → slice_get xs place ≡ Some x → y ≡ get_or xs place y → y ≡ x
got_is xs place x y at is = is ∙ get_or_from_slice_get xs place x y at

-- the channel with one more place is set
pub set_sent : (channels : List (Channel Place)) (shard : ℕ) (was now : Channel Place) (place : Place) → shard < length channels → was ≡ get_or channels shard was → now.sent ≡ was.sent ++ place ∷ [] → IsSentOn channels (slice_set channels shard now) shard place
set_sent channels shard was now place within is sent =
    record {
      count = length-set channels shard now;
      here = λ before at. (now, get_set_here channels shard now within, sent ∙ ap (λ (c : Channel Place). c.sent ++ place ∷ []) (got_is channels shard before was at is));
      others = λ other differ. get_set_other channels shard other now differ;
    }

-- Room

-- channels that stay as they are keep what was sent, and their room
pub keeps-refl : (channels : List (Channel Place)) → KeepsSent channels channels
keeps-refl channels = record { count = refl; each = λ shard after at. (after, at, refl, omega arith) }

-- if each of two changes keeps what was sent and the room, so do both together
pub keeps-trans : (old now next : List (Channel Place)) → KeepsSent old now → KeepsSent now next → KeepsSent old next
keeps-trans old now next first second =
    record {
      count = second.count ∙ first.count;
      each = λ shard after at.
          let b = second.each shard after at in
          let a = first.each shard b.0 b.1 in
          let more = a.3 in
          let yet = b.3 in
          (a.0, a.1, b.2 ∙ a.2, omega arith);
    }

-- room for one more message to a shard stays if what was sent and the room are kept
pub room_stays : (now next : List (Channel Place)) (shard : ℕ) → KeepsSent now next → HasRoomAt now shard → HasRoomAt next shard
room_stays now next shard keeps had =
    let within = slice_get_within now shard had.channel had.at in
    let same = keeps.count in
    let found : slice_get next shard ≡ Some (get_or next shard had.channel) = slice_get-get_or next shard had.channel (omega arith) in
    let was = keeps.each shard (get_or next shard had.channel) found in
    let is : had.channel ≡ was.0 = same_Some _ _ (sym had.at ∙ was.1) in
    let room = had.room in
    let more = was.3 in
    let e : had.channel.spare ≡ was.0.spare = ap (λ (c : Channel Place). c.spare) is in
    record { channel = get_or next shard had.channel; at = found; room = omega arith }

-- when room is made for the next shard too, all shards up to it have room, and what was sent is kept
pub room_more : (old now next : List (Channel Place)) (count : ℕ) → KeepsSent old now × ((shard : ℕ) → shard < count → HasRoomAt now shard) → KeepsSent now next → HasRoomAt next count → KeepsSent old next × ((shard : ℕ) → shard < count + 1 → HasRoomAt next shard)
room_more old now next count so_far keeps here = (
  keeps-trans old now next so_far.0 keeps,
  λ shard below. elim (cases_eq shard count) [
    | inl last ↦ subst (HasRoomAt next) (sym last) here
    | inr other ↦ room_stays now next shard keeps (so_far.1 shard (omega arith))
  ],
)
