-- What is on the channels to a shard: from which gatekeeper it is, under which number, and that what arrived was sent.
-- Used by `messages_arrive_as_sent`, ReadyFor and SomeHead.
use Rattle.std.proofs.Common.{◌≡◌, ℕ, zero, suc, ◌+◌, ◌-◌, ◌<◌, ◌≤◌, ◌==◌, ◌&&◌, cond, List, [], ◌∷◌, map, length, get_or, Contains, AllPairs, IsTrue, Option, Some, None, ◌⊎◌, refl, sym, ap, subst, ◌∙◌, arith}
use Rattle.std.specs.Prelude.{slice_get}
use Rattle.std.specs.List.{find, range_with_len}
use Rattle.std.specs.Option.{option_map}
use Rattle.std.proofs.lemmas.Bool.{and_parts, eqb-true, ne_eqb}
use Rattle.std.proofs.lemmas.List.{get_or-map, length-map}
use Rattle.std.proofs.lemmas.List.Elements.{Contains-get_or}
use Rattle.std.proofs.lemmas.List.FromFn.{get_or-range_with_len, length-range_with_len}
use Rattle.weave_data.proofs.Members.{cut_at, find_has, flat_has, has_map, has_none, only}
use Rattle.weave_data.proofs.Images.{within-list}
use Rattle.weave_data.proofs.Ordered.{pairs_cases, pairs-of-images}
use Rattle.vector_stamp.specs.declared.clock.Stamp.{Stamp}
use Rattle.vector_stamp.specs.Order.{stamp_before}
use Rattle.program_defs.specs.declared.script.Script.{Script}
use Rattle.shard_queue.specs.Outbox.{sent_as}
use Rattle.weave_entries.specs.declared.gate_log.GateEntry.{GateEntry}
use Rattle.weave_entries.specs.declared.message.Addressed.{Addressed}
use Rattle.weave_entries.specs.declared.message.Message.{Message}
use Rattle.weave_entries.specs.declared.shard_log.ShardEntry.{ShardEntry}
use Rattle.weave_entries.specs.declared.shard_log.ShardDeed.{ShardDeed}
use Rattle.weave_entries.specs.declared.shard_log.ShardDeed.TheVariants.{Arrived, Applied, Visited, Collected}
use Rattle.weave_entries.specs.GateReplay.{addressed_to, channel_of, messages_by, to_shard}
use Rattle.weave_entries.specs.GateRules.{IsChannel}
use Rattle.weave_entries.specs.ShardReplay.{Arrival, arrival_by, arrivals_of, arrived_at}
use Rattle.weave_account.specs.declared.account.Account.{Account}
use Rattle.weave_account.specs.Account.{gate_log, shard_log}
use Rattle.weave_account.specs.Shards.{ShardFitsAs}
use Rattle.drive_rules.proofs.Basis.{below-eight}
use Rattle.weave_account.proofs.Basis.{BasisWith}
use Rattle.drive_rules.specs.LowerLaws.{LawsForReadiness}

-- a message with its number, as it is on a channel to a shard
abbrev pub as_sent : ℕ → ℕ → Message → Addressed
as_sent shard number message = record { shard = shard; number = number; message = message }

-- the first of two messages on a channel has the lower number and the earlier stamp
abbrev pub IsEarlier : Addressed → Addressed → Type 0
IsEarlier a b = (a.number < b.number) × IsTrue (stamp_before a.message.stamp b.message.stamp)

-- what a function gives of the element at a place
get-map : {A B : Type 0} (f : A → B) (xs : List A) (i : ℕ) (x : A) → i < length xs → get_or xs i x ≡ x → slice_get (map f xs) i ≡ Some (f x)
get-map f [] i x less e = absurd (omega (arith, less))
get-map f (y ∷ xs) zero x less e = ap (λ k. Some (f k)) e
get-map f (y ∷ xs) (suc i) x less e = get-map f xs i x (omega (arith, less)) e

module _ (script : Script) (account : Account) (basis : BasisWith LawsForReadiness script account) (shard : ℕ) where
  -- a message that a deed brings was sent
  deed-sent : (before : List ShardEntry) (deed : ShardDeed) → ShardFitsAs script account shard before deed → (a : Arrival) → Contains (arrival_by deed) a
      → Contains (addressed_to shard (gate_log account a.gate)) (as_sent shard a.number a.message)
  deed-sent before (Arrived home number message) fits a h =
      subst (λ (a : Arrival). Contains (addressed_to shard (gate_log account a.gate)) (as_sent shard a.number a.message)) (only _ a h) fits.sent
  deed-sent before (Applied home number) fits a h = absurd (has_none a h)
  deed-sent before (Visited r stamp w n settled) fits a h = absurd (has_none a h)
  deed-sent before (Collected bound) fits a h = absurd (has_none a h)

  -- a message that has arrived at the shard was sent to it by its gatekeeper with this number
  pub arrived-sent : (home number : ℕ) (m : Message) → arrived_at home number (shard_log account shard) ≡ Some m → Contains (addressed_to shard (gate_log account home)) (as_sent shard number m)
  arrived-sent home number m e = at (find (λ (a : Arrival). (a.gate == home) && (a.number == number)) (arrivals_of (shard_log account shard))) refl e
    where
      at : (o : Option Arrival) → find (λ (a : Arrival). (a.gate == home) && (a.number == number)) (arrivals_of (shard_log account shard)) ≡ o → option_map (λ (a : Arrival). a.message) o ≡ Some m
          → Contains (addressed_to shard (gate_log account home)) (as_sent shard number m)
      at None is e = cc
      at (Some a) is e =
          let found = find_has (λ (a : Arrival). (a.gate == home) && (a.number == number)) (arrivals_of (shard_log account shard)) a is in
          let both = and_parts (a.gate == home) (a.number == number) found.1 in
          let from = flat_has (λ (e : ShardEntry). arrival_by e.deed) (shard_log account shard) a found.0 in
          let place = cut_at (shard_log account shard) from.0 from.1 in
          let sent = deed-sent place.before from.0.deed (basis.is.shards.deeds shard place.before from.0 place.after place.is) a from.2 in
          let message : a.message ≡ m = cc in
          subst (λ g. Contains (addressed_to shard (gate_log account g)) (as_sent shard number m)) (eqb-true a.gate home both.0)
          (subst (λ n. Contains (addressed_to shard (gate_log account a.gate)) (as_sent shard n m)) (eqb-true a.number number both.1)
          (subst (λ k. Contains (addressed_to shard (gate_log account a.gate)) (as_sent shard a.number k)) message sent))

  -- What is on the channel of a gatekeeper

  module _ (home : ℕ) (a : Addressed) (h : Contains (addressed_to shard (gate_log account home)) a) where
    -- a gatekeeper that has sent a message to the shard is one of the script's
    pub home-inside : home < script.gates
    home-inside =
        let from = flat_has (λ (e : GateEntry). to_shard shard (messages_by e.deed)) (gate_log account home) a h in
        let less = within-list account.gates home from.0 from.1 in
        let many = basis.is.gatekeepers.as_many in
        omega (arith, less, many)

    -- a gatekeeper that has sent a message to the shard is one of at most eight
    pub home-below : home < 8
    home-below = below-eight script account basis home home-inside

    -- its numbers run from 1, and its stamps rise
    pub channel : IsChannel shard (gate_log account home)
    channel = basis.laws.logs.channel home script.shards shard (gate_log account home) home-below (basis.is.gatekeepers.logs home)

    -- the message's stamp is of the gatekeeper
    pub home-is : a.message.stamp.home ≡ home
    home-is =
        basis.laws.logs.homes home script.shards (gate_log account home) home-below (basis.is.gatekeepers.logs home) a.message.stamp
        (basis.laws.logs.sent home script.shards shard (gate_log account home) (basis.is.gatekeepers.logs home) a.message (has_map (λ (k : Addressed). k.message) (addressed_to shard (gate_log account home)) a h))

    -- the message's number is that of its place, from 1
    pub number-is : a.number ≡ 1 + h.0
    number-is =
        let sent = addressed_to shard (gate_log account home) in
        let within = h.1 in
        let long = length-map sent (λ (k : Addressed). k.message) in
        ap (λ (k : Addressed). k.number) (sym h.2) ∙ sym (get_or-map (λ (k : Addressed). k.number) sent h.0 a 0 within)
        ∙ ap (λ ns. get_or ns h.0 0) channel.numbers ∙ get_or-range_with_len 1 (length (channel_of shard (gate_log account home))) h.0 0 (omega (arith, within, long))

    -- numbers run from 1 to the length of the channel
    pub number-within : (1 ≤ a.number) × (a.number ≤ length (channel_of shard (gate_log account home)))
    number-within =
        let within = h.1 in
        let number = number-is in
        let long = length-map (addressed_to shard (gate_log account home)) (λ (k : Addressed). k.message) in
        (omega (arith, number), omega (arith, number, within, long))

    -- a message that was sent to the shard is found in its channel under its number
    pub sent-under : sent_as a.number (channel_of shard (gate_log account home)) ≡ Some a.message
    sent-under =
        let number = number-is in
        ap (λ b. cond b None (slice_get (channel_of shard (gate_log account home)) (a.number - 1))) (ne_eqb a.number 0 (λ e. omega (arith, e, number)))
        ∙ ap (slice_get (channel_of shard (gate_log account home))) {x = a.number - 1} {y = h.0} (omega (arith, number))
        ∙ get-map (λ (k : Addressed). k.message) (addressed_to shard (gate_log account home)) h.0 a h.1 h.2

    -- two messages of the channel are the same, or one is before the other
    pub either-sent : (b : Addressed) → Contains (addressed_to shard (gate_log account home)) b → (a ≡ b) ⊎ (IsEarlier a b ⊎ IsEarlier b a)
    either-sent b g = pairs_cases IsEarlier (addressed_to shard (gate_log account home)) earlier a b h g
      where
        sent : List Addressed
        sent = addressed_to shard (gate_log account home)

        numbers : AllPairs (λ (x y : Addressed). x.number < y.number) (addressed_to shard (gate_log account home))
        numbers = pairs-of-images (λ (k : Addressed). k.number) (λ x y. x < y) (addressed_to shard (gate_log account home)) (subst (AllPairs (λ x y. x < y)) (sym channel.numbers) (range-pairs 1 (length (channel_of shard (gate_log account home)))))
          where
            range-pairs : (a n : ℕ) → AllPairs (λ x y. x < y) (range_with_len a n)
            range-pairs a n i j d below within =
                let long = length-range_with_len a n in
                let first = get_or-range_with_len a n i d (omega arith) in
                let second = get_or-range_with_len a n j d (omega arith) in
                omega (arith, first, second)

        stamps : AllPairs (λ (x y : Addressed). IsTrue (stamp_before x.message.stamp y.message.stamp)) (addressed_to shard (gate_log account home))
        stamps =
            pairs-of-images (λ (k : Addressed). k.message) (λ (x y : Message). IsTrue (stamp_before x.stamp y.stamp)) (addressed_to shard (gate_log account home))
            (pairs-of-images (λ (m : Message). m.stamp) (λ (x y : Stamp). IsTrue (stamp_before x y)) (channel_of shard (gate_log account home)) channel.stamps)

        earlier : AllPairs IsEarlier (addressed_to shard (gate_log account home))
        earlier i j d below within = (numbers i j d below within, stamps i j d below within)

    -- a lower number from 1 is that of a message, too
    pub lower-sent : (number : ℕ) → 1 ≤ number → number ≤ a.number → (b : Addressed) × Contains (addressed_to shard (gate_log account home)) b × (b.number ≡ number)
    lower-sent number low high =
        let sent = addressed_to shard (gate_log account home) in
        let within = h.1 in
        let at = number-is in
        let inside : number - 1 < length sent = omega (arith, low, high, within, at) in
        let long = length-map sent (λ (k : Addressed). k.message) in
        let b = get_or sent (number - 1) a in
        let is : b.number ≡ number = sym (get_or-map (λ (k : Addressed). k.number) sent (number - 1) a 0 inside) ∙ ap (λ ns. get_or ns (number - 1) 0) channel.numbers
        ∙ get_or-range_with_len 1 (length (channel_of shard (gate_log account home))) (number - 1) 0 (omega (arith, inside, long)) ∙ omega (arith, low) in
        (b, Contains-get_or sent (number - 1) a inside, is)
