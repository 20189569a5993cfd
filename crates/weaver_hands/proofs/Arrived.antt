-- A message that was pulled has arrived: now, or earlier as the same message.
-- Used by `bring` and `pull`.
use Rattle.std.proofs.Common.{◌≡◌, inl, inr, ℕ, ◌+◌, ◌<◌, ◌≤◌, ◌==◌, Bool, true, false, List, [], ◌∷◌, ◌++◌, length, map, Contains, Option, None, Some, Ok, Err, refl, sym, ap, subst, ◌∙◌, arith}
use Rattle.std.specs.Prelude.{is_some, ◌&&◌, if◌then◌else◌}
use Rattle.std.specs.List.{find, range_with_len}
use Rattle.std.specs.Option.{option_map}
use Rattle.std.proofs.lemmas.Bool.{and_parts, eqb-true}
use Rattle.std.proofs.lemmas.List.{append-nil}
use Rattle.std.proofs.lemmas.List.Elements.{Contains-append_left}
use Rattle.std.proofs.lemmas.Option.{none-some, same_Some}
use Rattle.weave_data.proofs.Members.{cut_at, find_has, flat_has, has_none, has_read, only}
use Rattle.shard_queue.specs.declared.inbox.Arrival.{Arrival as Answer}
use Rattle.shard_queue.specs.declared.inbox.Arrival.TheVariants.{Kept, Repeat}
use Rattle.weave_entries.specs.declared.gate_log.GateEntry.{GateEntry}
use Rattle.weave_entries.specs.declared.message.Addressed.{Addressed}
use Rattle.weave_entries.specs.declared.message.Message.{Message}
use Rattle.weave_entries.specs.declared.shard_log.ShardDeed.{ShardDeed}
use Rattle.weave_entries.specs.declared.shard_log.ShardDeed.TheVariants.{Arrived, Applied, Visited, Collected}
use Rattle.weave_entries.specs.declared.shard_log.ShardEntry.{ShardEntry}
use Rattle.weave_entries.specs.GateReplay.{addressed_to, messages_by, to_shard}
use Rattle.weave_entries.specs.GateRules.{IsChannel}
use Rattle.weave_entries.specs.ShardReplay.{Arrival, arrival_by, arrivals_of, arrived_at}
use Rattle.weave_account.specs.Account.{gate_log, shard_log}
use Rattle.weave_account.proofs.GoesOn.{has-on, flat-on}
use Rattle.seen_logs.specs.References.{ArrivesAsSeen, ShardRefersAs}
use Rattle.weaver_locks.specs.declared.hand.Hand.{Hand}
use Rattle.weaver_locks.specs.declared.shared.Shared.{Shared}
use Rattle.weaver_locks.specs.Hands.{hand_number, seen_by, IsHand}
use Rattle.weaver_locks.specs.ShardHolds.{arrival_entries, shard_entry_by, WasAtShard}
use Rattle.weaver_hands.specs.ArrivalLaws.{ArrivalLaws}
use Rattle.weaver_hands.specs.declared.fault.HandFault.{HandFault}
use Rattle.weaver_hands.specs.declared.fault.HandFault.TheVariants.{Busy, NotYet, Empty, Waits, Memory}
use Rattle.weaver_hands.specs.declared.messages.Pulled.{Pulled}
use Rattle.weaver_hands.specs.declared.messages.Pulled.TheVariants.{Unsent, Known, New}
use Rattle.weaver_hands.specs.Messages.{arrivals_after, is_sent, pulled_by, BringsAs, Pulls, PullsAs}
use mathlib.Core.List.{head-eq_of_cons-eq, tail-eq_of_cons-eq}

-- Numbers in a row

abbrev number_in : Addressed → ℕ
number_in one = one.number

abbrev AreNumbered : List Addressed → ℕ → Type 0
AreNumbered sent start = map number_in sent ≡ range_with_len start (length (map (λ (one : Addressed). one.message) sent))

-- no number is below the first
not_below : (sent : List Addressed) (start : ℕ) (one : Addressed) → AreNumbered sent start → Contains sent one → start ≤ one.number
not_below [] start one numbers h = absurd (has_none one h)
not_below (x ∷ sent) start one numbers h =
    let first : x.number ≡ start = head-eq_of_cons-eq numbers in
    elim (has_read x sent one h) [
      | inl here ↦ (let same : x.number ≡ one.number = ap number_in here in omega (arith, first, same))
      | inr more ↦ (let low = not_below sent (start + 1) one (tail-eq_of_cons-eq numbers) more in omega (arith, low))
    ]

-- two of the same number are the same
one_number : (sent : List Addressed) (start : ℕ) (a b : Addressed) → AreNumbered sent start → Contains sent a → Contains sent b → a.number ≡ b.number → a ≡ b
one_number [] start a b numbers ha hb same = absurd (has_none a ha)
one_number (x ∷ sent) start a b numbers ha hb same =
    let first : x.number ≡ start = head-eq_of_cons-eq numbers in
    let rest : AreNumbered sent (start + 1) = tail-eq_of_cons-eq numbers in
    elim (has_read x sent a ha) [
      | inl a_here ↦ elim (has_read x sent b hb) [
        | inl b_here ↦ sym a_here ∙ b_here
        | inr b_more ↦ absurd (let low = not_below sent (start + 1) b rest b_more in let is : x.number ≡ a.number = ap number_in a_here in omega (arith, first, same, low, is))
      ]
      | inr a_more ↦ elim (has_read x sent b hb) [
        | inl b_here ↦ absurd (let low = not_below sent (start + 1) a rest a_more in let is : x.number ≡ b.number = ap number_in b_here in omega (arith, first, same, low, is))
        | inr b_more ↦ one_number sent (start + 1) a b rest a_more b_more same
      ]
    ]

-- The entry of an arrival

-- an entry that brought this message
record Brought (log : List ShardEntry) (gate number : ℕ) (message : Message) : Type 0 where
  entry : ShardEntry
  there : Contains log entry
  deed_is : entry.deed ≡ Arrived gate number message

deed_of : (deed : ShardDeed) (arrival : Arrival) → Contains (arrival_by deed) arrival → deed ≡ Arrived arrival.gate arrival.number arrival.message
deed_of (Arrived gate number message) arrival h = ap (λ (a : Arrival). Arrived a.gate a.number a.message) (only (record { gate = gate; number = number; message = message }) arrival h)
deed_of (Applied gate number) arrival h = absurd (has_none arrival h)
deed_of (Visited request stamp v updates settled) arrival h = absurd (has_none arrival h)
deed_of (Collected bound) arrival h = absurd (has_none arrival h)

brought : (log : List ShardEntry) (gate number : ℕ) (message : Message) → arrived_at gate number log ≡ Some message → Brought log gate number message
brought log gate number message is = at (find test (arrivals_of log)) refl is
  where
    test : Arrival → Bool
    test arrival = (arrival.gate == gate) && (arrival.number == number)

    at : (o : Option Arrival) → find test (arrivals_of log) ≡ o → option_map (λ (arrival : Arrival). arrival.message) o ≡ Some message → Brought log gate number message
    at None found e = absurd (none-some message e)
    at (Some arrival) found e =
        let has = find_has test (arrivals_of log) arrival found in
        let from = flat_has (λ (entry : ShardEntry). arrival_by entry.deed) log arrival has.0 in
        let both = and_parts (arrival.gate == gate) (arrival.number == number) has.1 in
        record {
          entry = from.0;
          there = from.1;
          deed_is = deed_of (from.0).deed arrival from.2
              ∙ (λ i. Arrived (eqb-true arrival.gate gate both.0 i) (eqb-true arrival.number number both.1 i) (same_Some arrival.message message e i));
        }

-- The second hold

-- what the shard answered says whether an entry was made
by_answer : (F : Type 0) (hand : Hand) (deed : ShardDeed) (b : Bool) (answer : Answer) → answer ≡ (if b then Repeat else Kept)
    → arrival_entries {F = F} hand deed (Ok answer) ≡ (if b then [] else shard_entry_by hand deed ∷ [])
by_answer F hand deed true answer is = ap (λ (a : Answer). arrival_entries {F = F} hand deed (Ok a)) is
by_answer F hand deed false answer is = ap (λ (a : Answer). arrival_entries {F = F} hand deed (Ok a)) is

-- what the shard's hold added is the entry of the arrival, if the message had not arrived before, and else nothing
pub arrives_so : (F : Type 0) (shards : ℕ) (fetched new : Hand) (gate shard number : ℕ) (message : Message) (before : List ShardEntry) (answer : Answer)
    → WasAtShard shards fetched new shard before (arrival_entries {F = F} fetched (Arrived gate number message) (Ok answer)) []
    → answer ≡ (if is_some (arrived_at gate number before) then Repeat else Kept)
    → WasAtShard shards fetched new shard before (arrivals_after fetched gate number message before) []
arrives_so F shards fetched new gate shard number message before answer was is =
    subst (λ (added : List ShardEntry). WasAtShard shards fetched new shard before added [])
    (by_answer F fetched (Arrived gate number message) (is_some (arrived_at gate number before)) answer is) was

-- a pull brings the message as its answer says, if the answer is right on whether the message was known
pub brought_so : (known : Bool) (answer : Answer) → answer ≡ (if known then Repeat else Kept) → (shards : ℕ) (old new : Hand) (gate shard number : ℕ)
    → (pulls : Pulls shards old new gate shard number) → is_some (arrived_at gate number pulls.before) ≡ known
    → BringsAs shards old new gate shard number (Ok (pulled_by answer))
brought_so true answer is shards old new gate shard number pulls known =
    subst (λ (a : Answer). BringsAs shards old new gate shard number (Ok (pulled_by a))) (sym is) (record { pulls = pulls; known_is = known })
brought_so false answer is shards old new gate shard number pulls known =
    subst (λ (a : Answer). BringsAs shards old new gate shard number (Ok (pulled_by a))) (sym is) (record { pulls = pulls; known_is = known })

-- what `bring` answers is what `pull` answers
pub pulls_so : (shards : ℕ) (old new : Hand) (gate shard number : ℕ) (pulled : Pulled)
    → BringsAs shards old new gate shard number (Ok pulled) → PullsAs shards old new gate shard number (Ok (is_sent pulled))
pulls_so shards old new gate shard number Unsent found = found
pulls_so shards old new gate shard number Known brings = brings.pulls
pulls_so shards old new gate shard number New brings = brings.pulls

-- what `bring` refuses `pull` refuses with the same fault
pub refused_so : (shards : ℕ) (old new : Hand) (gate shard number : ℕ) (fault : HandFault)
    → BringsAs shards old new gate shard number (Err fault) → PullsAs shards old new gate shard number (Err fault)
refused_so shards old new gate shard number Memory none = none
refused_so shards old new gate shard number Busy none = none
refused_so shards old new gate shard number (NotYet other at) none = none
refused_so shards old new gate shard number Empty none = none
refused_so shards old new gate shard number (Waits vertex) none = none

module _ (laws : ArrivalLaws) (shared : Shared) (fetched new : Hand) (is_new : IsHand shared new) (gate shard number : ℕ)
    (low : gate < length shared.gates.items) (message : Message) (before : List ShardEntry)
    (seen : ArrivesAsSeen (seen_by fetched) (length shared.shards.items) shard gate number message)
    (was : WasAtShard (length shared.shards.items) fetched new shard before (arrivals_after fetched gate number message before) []) where
  abbrev entry_now : ShardEntry
  entry_now = shard_entry_by fetched (Arrived gate number message)

  abbrev log_now : List GateEntry
  log_now = gate_log (seen_by new) gate

  abbrev sent_now : List Addressed
  sent_now = addressed_to shard log_now

  abbrev sent_as_now : Message → Addressed
  sent_as_now m = record { shard = shard; number = number; message = m }

  -- a message that arrived earlier with this number is this one
  same_message : (m : Message) → arrived_at gate number before ≡ Some m → m ≡ message
  same_message m is =
      let one = brought before gate number m is in
      let whole : Contains (shard_log (seen_by new) shard) one.entry =
      subst (λ (l : List ShardEntry). Contains l one.entry) (sym was.left) (Contains-append_left before (arrivals_after fetched gate number message before) one.entry one.there) in
      let cut = cut_at (shard_log (seen_by new) shard) one.entry whole in
      let refers : ArrivesAsSeen (seen_by new) (length shared.shards.items) shard gate number m =
      subst (λ (deed : ShardDeed). ShardRefersAs (seen_by new) (length shared.shards.items) shard cut.before one.entry.author deed) one.deed_is
      (was.refers cut.before one.entry cut.after cut.is) in
      let few = shared.framed.few_gates in
      let channel : IsChannel shard log_now = laws.channel gate (length shared.shards.items) shard log_now (omega (arith, few, low)) (is_new.legal.gate_logs gate) in
      let here : Contains sent_now (sent_as_now message) = has-on (addressed_to shard (gate_log (seen_by fetched) gate)) sent_now
      (flat-on (λ (entry : GateEntry). to_shard shard (messages_by entry.deed)) (gate_log (seen_by fetched) gate) log_now (was.more.gates gate))
      (sent_as_now message) seen.sent in
      ap (λ (one : Addressed). one.message) (one_number sent_now 1 (sent_as_now m) (sent_as_now message) channel.numbers refers.sent here refl)

  at : (o : Option Message) → arrived_at gate number before ≡ o
      → arrived_at gate number (before ++ (if is_some o then [] else entry_now ∷ [])) ≡ Some message
  at None none = laws.new before (hand_number fetched) gate number message none
  at (Some m) is = ap (arrived_at gate number) (append-nil before) ∙ is ∙ ap Some (same_message m is)

  -- after a pull, the message has arrived at the shard by its gatekeeper and number
  pub has_arrived : arrived_at gate number (shard_log (seen_by new) shard) ≡ Some message
  has_arrived = ap (arrived_at gate number) was.left ∙ at (arrived_at gate number before) refl
