-- What is sent from a gatekeeper whose fields are what the replay of its log gives.
-- Used by `commit_messages`, `nop` and `send`.
use Rattle.std.proofs.Common.{◌≡◌, ℕ, zero, suc, ◌+◌, ◌<◌, ◌≤◌, Bool, true, false, nat_eq, List, [], ◌∷◌, ◌++◌, length, map, filter, get_or, slice_get, Option, Some, inl, inr, refl, sym, ap, subst, ◌∙◌, add-one, arith}
use Rattle.std.specs.List.{list_any, range_with_len}
use Rattle.std.specs.Option.{option_map}
use Rattle.std.proofs.lemmas.Bool.{cases_Bool, cases_lt, cases_eq, eqb-true, eq-eqb}
use Rattle.std.proofs.lemmas.List.{append-nil, map-append}
use Rattle.std.proofs.lemmas.List.Elements.{filter-append}
use Rattle.std.proofs.lemmas.Option.{slice_get_within, slice_get_past, slice_get-get_or, same_Some}
use Rattle.vector_stamp.specs.declared.clock.Clock.{Clock}
use Rattle.vector_stamp.specs.declared.clock.Stamp.{Stamp}
use Rattle.graph_ops.specs.declared.op.Op.{Op}
use Rattle.graph_ops.specs.declared.part.Part.{Part}
use Rattle.shard_queue.specs.Outbox.{Channel}
use Rattle.weave_entries.specs.declared.message.Message.{Message}
use Rattle.weave_entries.specs.declared.message.Addressed.{Addressed}
use Rattle.weave_entries.specs.declared.verdict.Counted.{Counted}
use Rattle.weave_entries.specs.declared.verdict.Verdict.{Verdict}
use Rattle.weave_entries.specs.declared.verdict.Verdict.TheVariants.{Committed, Conflict, Refused}
use Rattle.weave_entries.specs.declared.gate_log.GateEntry.{GateEntry}
use Rattle.weave_entries.specs.declared.gate_log.GateDeed.TheVariants.{Sent, Nop}
use Rattle.weave_entries.specs.GateReplay.{BegunRequest, flight_of, running_of, to_shard, channel_of, next_number, low_mark, nop_message}
use Rattle.weave_entries.specs.Sending.{is_kept_at as keeps_of, parts_for, shards_named, message_to, messages_of, IsCountsOf}
use Rattle.weave_entries.specs.GateRules.{Sends}
use Rattle.gatekeeper.specs.declared.flight.Flight.{Flight}
use Rattle.gatekeeper.specs.Opened.{as_begun}
use Rattle.gatekeeper.specs.Gates.{IsGateReplay}
use Rattle.gatekeeper.specs.declared.places.Place.{Place}
use Rattle.gatekeeper.specs.Places.{LeadTo, places_to}
use Rattle.gatekeeper.specs.Messages.{sent_on, sent_at, made_for, with_parted, messages_made, HasRoomAt, KeepsSent, CanAllGo, IsSentOn, AreSent}
use Rattle.weave_data.proofs.Ends.{filter_map_is}
use Rattle.weave_data.proofs.Ranges.{range_more, picked_below}
use Rattle.gatekeeper.proofs.Begins.{SendsNoneBeyond}
use Rattle.gatekeeper.proofs.Leading.{lead-still, lead-append, lead-length, lead-sent, lead-nop, LeadAfter}

map_same : {A B : Type 0} (f g : A → B) → ((x : A) → f x ≡ g x) → (xs : List A) → map f xs ≡ map g xs
map_same f g same [] = refl
map_same f g same (x ∷ xs) = λ i. same x i ∷ map_same f g same xs i

-- Messages with parts

-- a shard has no parts if it keeps no named vertex, and some otherwise
module _ (p : Counted → Bool) (f : Counted → Part) where
  pub data PartsAre : Bool → List Part → Type 0 where
    NoParts : PartsAre false []
    SomeParts : (part : Part) (parts : List Part) → PartsAre true (part ∷ parts)

  -- there are no parts if no counted vertex passes the test, and some otherwise
  pub parts_are : (counts : List Counted) → PartsAre (list_any p counts) (map f (filter p counts))
  parts_are [] = NoParts
  parts_are (counted ∷ counts) =
      elim (cases_Bool (p counted)) [
        | inl keeps_it ↦ rw keeps_it (SomeParts (f counted) (map f (filter p counts)))
        | inr other ↦ rw other (parts_are counts)
      ]

-- the messages to one more shard
module _ (make : ℕ → Addressed) (named : ℕ → Bool) (count : ℕ) where
  shards_more : map make (filter named (range_with_len 0 (suc count))) ≡ map make (filter named (range_with_len 0 count)) ++ map make (filter named (count ∷ []))
  shards_more =
      let e : 0 + count ≡ count = omega arith in
      ap (λ ns. map make (filter named ns)) (range_more 0 count ∙ ap (λ n. range_with_len 0 count ++ n ∷ []) e)
      ∙ ap (map make) (filter-append named (range_with_len 0 count) (count ∷ []))
      ∙ map-append make (filter named (range_with_len 0 count)) (filter named (count ∷ []))

  made_by : (p : Counted → Bool) (f : Counted → Part) (one : Addressed) (so_far : List Addressed) (test : Bool) (parts : List Part) → PartsAre p f test parts → named count ≡ test → one ≡ make count → with_parted one parts so_far ≡ so_far ++ map make (filter named (count ∷ []))
  made_by p f one so_far test parts NoParts is one_is = rw is (sym (append-nil so_far))
  made_by p f one so_far test parts (SomeParts part rest) is one_is = rw is (ap (λ x. so_far ++ x ∷ []) one_is)

  -- when the next shard's message is added, unless it has no parts, the messages are those to one shard more
  pub made_more : (p : Counted → Bool) (f : Counted → Part) (counts : List Counted) (one : Addressed) (so_far next : List Addressed) → so_far ≡ map make (filter named (range_with_len 0 count)) → named count ≡ list_any p counts → one ≡ make count → next ≡ with_parted one (map f (filter p counts)) so_far → next ≡ map make (filter named (range_with_len 0 (count + 1)))
  made_more p f counts one so_far next so_is is one_is next_is =
      next_is
      ∙ made_by p f one so_far (list_any p counts) (map f (filter p counts)) (parts_are p f counts) is one_is
      ∙ ap (λ xs. xs ++ map make (filter named (count ∷ []))) so_is
      ∙ sym shards_more
      ∙ ap (λ n. map make (filter named (range_with_len 0 n))) (sym (add-one count))

-- what is read of a channel is what was sent there
pub read_sent : (channels : List (Channel Place)) (shard : ℕ) (channel : Channel Place) → shard < length channels → channel ≡ get_or channels shard channel → channel.sent ≡ sent_at shard channels
read_sent channels shard channel within is = ap sent_on (sym (slice_get-get_or channels shard channel within ∙ ap Some (sym is)))

module _ (home shards : ℕ) (clock : Clock) (flight : Option Flight) (running : List ((ℕ × ℕ) × Clock)) (channels : List (Channel Place)) (nops : List Message) (log : List GateEntry) (kept : IsGateReplay home shards clock flight running channels nops log) where
  -- on each channel there are as many places as the log has messages, and beyond the last shard nothing was sent
  pub count_is : SendsNoneBeyond → (shard : ℕ) → length (sent_at shard channels) ≡ length (channel_of shard log)
  count_is none shard =
      elim (cases_lt shard (length channels)) [
        | inl within ↦
            let d : Channel Place = record { sent = []; spare = 0 } in
            let at = slice_get-get_or channels shard d within in
            let one : Channel Place = get_or channels shard d in
            ap (λ (c : Option (Channel Place)). length (sent_on c)) at ∙ lead-length nops log one.sent (channel_of shard log) (kept.channels_are shard one at)
        | inr beyond ↦
            let long = kept.all_channels in
            ap (λ (c : Option (Channel Place)). length (sent_on c)) (slice_get_past channels shard beyond) ∙ ap length (sym (none home shards shard log kept.rules (omega arith)))
      ]

  -- the messages that are made are those of the rule
  pub made_is : SendsNoneBeyond → (one : Flight) (low : Clock) (ops : List Op) (verdict : Verdict) → low ≡ low_mark one.stamp (running_of log) → messages_made channels shards one low ops verdict ≡ messages_of shards log (as_begun one) ops verdict
  made_is none one low ops (Committed number answers counts) low_is =
      map_same (made_for channels shards one low ops counts) (message_to shards log (as_begun one) ops counts)
      (λ shard i. record {
        shard = shard;
        number = count_is none shard i + 1;
        message = record { request = Some one.request; stamp = one.stamp; low = low_is i; parts = parts_for shards shard ops counts };
      }) (shards_named shards counts)
  made_is none one low ops (Conflict vertex newer) low_is = refl
  made_is none one low ops (Refused op reason at) low_is = refl

  -- the messages of the transaction in flight can go if there is room, each to a shard of its own
  module _ (one : Flight) (now : List (Channel Place)) (room : (shard : ℕ) → shard < length channels → HasRoomAt now shard) (ops : List Op) (counts : List Counted) where
    all_from : (p : ℕ → Bool) (first count : ℕ) → first + count ≤ shards → CanAllGo now (map (message_to shards log (as_begun one) ops counts) (filter p (range_with_len first count)))
    all_from p first zero within = tt
    all_from p first (suc count) within =
        let make : ℕ → Addressed = message_to shards log (as_begun one) ops counts in
        let long = kept.all_channels in
        elim (cases_Bool (p first)) [
          | inl holds ↦ rw holds (room first (omega arith), filter_map_is make (λ (addressed : Addressed). nat_eq addressed.shard first) (filter p (range_with_len (first + 1) count)) ∙ ap (map make) (picked_below p first (first + 1) count (omega arith)), all_from p (first + 1) count (omega arith))
          | inr fails ↦ rw fails (all_from p (first + 1) count (omega arith))
        ]

  -- the messages of a transaction can all go if there is room for one more message to each shard
  pub all_can_go : (one : Flight) (now : List (Channel Place)) → ((shard : ℕ) → shard < length channels → HasRoomAt now shard) → (ops : List Op) (verdict : Verdict) → CanAllGo now (messages_of shards log (as_begun one) ops verdict)
  all_can_go one now room ops (Committed number answers counts) = all_from one now room ops counts (λ shard. list_any (keeps_of shards shard) counts) 0 shards (omega arith)
  all_can_go one now room ops (Conflict vertex newer) = tt
  all_can_go one now room ops (Refused op reason at) = tt

  -- the messages to which the places on a channel lead once there is one more entry
  lead_longer : (entry : GateEntry) (shard : ℕ) (channel : Channel Place) → slice_get channels shard ≡ Some channel → LeadTo nops (log ++ entry ∷ []) channel.sent (channel_of shard log)
  lead_longer entry shard channel at =
      subst (λ (ns : List Message). LeadTo ns (log ++ entry ∷ []) channel.sent (channel_of shard log)) (append-nil nops)
      (lead-still nops [] log (entry ∷ []) channel.sent (channel_of shard log) (kept.channels_are shard channel at))

  -- where they lead once the entry with these messages is in the log
  pub sent_then : (now next : List (Channel Place)) (author request : ℕ) (messages : List Addressed)
      → KeepsSent channels now
      → AreSent now next (length log) messages → LeadAfter nops log author (Sent request messages) next
  sent_then now next author request messages keeps sent shard channel at =
      let entry : GateEntry = record { author = author; deed = Sent request messages } in
      let longer : List GateEntry = log ++ entry ∷ [] in
      let b = sent.each shard channel at in
      let a = keeps.each shard b.0 b.1 in
      let still = lead_longer entry shard a.0 a.1 in
      let places_are : channel.sent ≡ a.0.sent ++ places_to shard (length log) 0 messages = b.2 ∙ ap (λ ps. ps ++ places_to shard (length log) 0 messages) a.2 in
      subst (λ (ps : List Place). LeadTo nops longer ps (channel_of shard log ++ map (λ (addressed : Addressed). addressed.message) (to_shard shard messages))) (sym places_are)
      (lead-append nops longer a.0.sent (places_to shard (length log) 0 messages) (channel_of shard log) (map (λ (addressed : Addressed). addressed.message) (to_shard shard messages)) still (lead-sent nops log author request messages shard))

  -- after messages were sent there is still one channel to each shard
  pub all_then : (now next : List (Channel Place)) (messages : List Addressed) → KeepsSent channels now → AreSent now next (length log) messages → length next ≡ shards
  all_then now next messages keeps sent = sent.count ∙ keeps.count ∙ kept.all_channels

  -- and once a nop is in the log and its message in the list
  nop_leads : (now next : List (Channel Place)) (author target number : ℕ) (stamp : Stamp) (low : Clock)
      → KeepsSent channels now
      → IsSentOn now next target (record { entry = length log; at = length nops })
      → LeadAfter (nops ++ nop_message stamp low ∷ []) log author (Nop target number stamp low) next
  nop_leads now next author target number stamp low keeps sent shard channel at =
      let entry : GateEntry = record { author = author; deed = Nop target number stamp low } in
      let longer : List GateEntry = log ++ entry ∷ [] in
      let more : List Message = nops ++ nop_message stamp low ∷ [] in
      let place : Place = record { entry = length log; at = length nops } in
      elim (cases_eq shard target) [
        | inl same ↦
            let within = slice_get_within next shard channel at in
            let count = sent.count in
            let d : Channel Place = get_or now target channel in
            let there : slice_get now target ≡ Some d = slice_get-get_or now target channel (omega arith) in
            let found = sent.here d there in
            let here : found.0 ≡ channel = same_Some _ _ (sym found.1 ∙ ap (λ n. slice_get next n) (sym same) ∙ at) in
            let a = keeps.each shard d (ap (λ n. slice_get now n) same ∙ there) in
            let places_are : channel.sent ≡ a.0.sent ++ place ∷ [] = ap (λ (c : Channel Place). c.sent) (sym here) ∙ found.2 ∙ ap (λ ps. ps ++ place ∷ []) a.2 in
            let still = lead-still nops (nop_message stamp low ∷ []) log (entry ∷ []) a.0.sent (channel_of shard log) (kept.channels_are shard a.0 a.1) in
            rw (eq-eqb target shard (sym same))
            (subst (λ (ps : List Place). LeadTo more longer ps (channel_of shard log ++ nop_message stamp low ∷ [])) (sym places_are)
            (lead-append more longer a.0.sent (place ∷ []) (channel_of shard log) (nop_message stamp low ∷ []) still (lead-nop nops log entry target number stamp low (nop_message stamp low) refl)))
        | inr other ↦
            let a = keeps.each shard channel (sym (sent.others shard other) ∙ at) in
            let still = lead-still nops (nop_message stamp low ∷ []) log (entry ∷ []) a.0.sent (channel_of shard log) (kept.channels_are shard a.0 a.1) in
            let moved = subst (λ (ps : List Place). LeadTo more longer ps (channel_of shard log)) (sym a.2) still in
            elim (cases_Bool (nat_eq target shard)) [
              | inl is ↦ absurd (other (sym (eqb-true target shard is)))
              | inr differ ↦ rw differ (subst (LeadTo more longer channel.sent) (sym (append-nil (channel_of shard log))) moved)
            ]
      ]

  -- whatever the list is called
  pub nop_then : (now next : List (Channel Place)) (author target number : ℕ) (stamp : Stamp) (low : Clock)
      (empty : List Message)
      → empty ≡ nops ++ nop_message stamp low ∷ [] → KeepsSent channels now
      → IsSentOn now next target (record { entry = length log; at = length nops })
      → LeadAfter empty log author (Nop target number stamp low) next
  nop_then now next author target number stamp low empty is keeps sent =
      subst (λ (ns : List Message). LeadAfter ns log author (Nop target number stamp low) next) (sym is)
      (nop_leads now next author target number stamp low keeps sent)

  -- the number that a channel gives is the next one
  pub number_told : (now : List (Channel Place)) (shard : ℕ) → KeepsSent channels now → HasRoomAt now shard → length (sent_at shard now) + 1 ≡ next_number shard log
  number_told now shard keeps room =
      let was = keeps.each shard room.channel room.at in
      ap (λ (c : Option (Channel Place)). length (sent_on c) + 1) room.at ∙ ap (λ ps. length ps + 1) was.2
      ∙ ap (λ n. n + 1) (lead-length nops log was.0.sent (channel_of shard log) (kept.channels_are shard was.0 was.1))

  -- the transaction in flight is that of the log
  pub flight_told : (one : Flight) → flight ≡ Some one → flight_of log ≡ Some (as_begun one)
  flight_told one flies = sym kept.flight_is ∙ ap (option_map as_begun) flies

  -- the messages made of the transaction in flight are what its author sends, if the verdict counts the operations
  pub sends_fit : (one : Flight) → flight ≡ Some one → (author : ℕ) → one.author ≡ author → (ops : List Op) (verdict : Verdict) → IsCountsOf ops verdict → (messages : List Addressed) → messages ≡ messages_of shards log (as_begun one) ops verdict → Sends shards log author one.request messages
  sends_fit one flies author author_is ops verdict counts messages is =
      let begun : ℕ → BegunRequest = λ a. record { author = a; request = one.request; stamp = one.stamp } in
      record {
        stamp = one.stamp;
        flight = flight_told one flies ∙ ap (λ a. Some (begun a)) author_is;
        ops = ops;
        verdict = verdict;
        counts = counts;
        messages_are = is ∙ ap (λ a. messages_of shards log (begun a) ops verdict) author_is;
      }
