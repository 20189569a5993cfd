-- What a message that is fetched says.
-- Used by `fetch`.
use Rattle.std.proofs.Common.{◌≡◌, ℕ, zero, suc, ◌+◌, ◌-◌, ◌<◌, ◌==◌, eqb, ne_eqb, Bool, false, cond, List, [], ◌∷◌, length, map, Contains, sym, ◌∙◌, subst, arith, Option, None, Some}
use Rattle.std.specs.Prelude.{Result, Ok, Err, IfOk, slice_get}
use Rattle.std.specs.List.{range_with_len}
use Rattle.std.specs.Option.{ForSome}
use Rattle.std.proofs.lemmas.Bool.{eqb-true}
use Rattle.weave_data.proofs.Members.{filter_has, flat_has, has_head, has_tail}
use Rattle.shard_queue.specs.Outbox.{sent_as}
use Rattle.weave_entries.specs.declared.gate_log.GateEntry.{GateEntry}
use Rattle.weave_entries.specs.declared.message.Addressed.{Addressed}
use Rattle.weave_entries.specs.declared.message.Message.{Message}
use Rattle.weave_entries.specs.GateReplay.{addressed_to, channel_of, messages_by, to_shard}
use Rattle.weave_entries.specs.GateRules.{IsChannel, IsGateLog}
use Rattle.gatekeeper.specs.Gates.{GateView}
use Rattle.weave_account.specs.Seen.{IsMade}
use Rattle.gate_lock.specs.declared.notes.GateNotes.{GateNotes}
use Rattle.gate_lock.specs.LowerLaws.{LawsForGateNotes}
use Rattle.gate_lock.specs.Notes.{GateIsKept, seen_of_gate}
use Rattle.gate_lock.proofs.Adding.{own_log}

abbrev number_in : Addressed → ℕ
number_in one = one.number

abbrev message_in : Addressed → Message
message_in one = one.message

-- a member with its number and its message
record IsAt (sent : List Addressed) (number : ℕ) (message : Message) : Type 0 where
  one : Addressed
  has : Contains sent one
  number_is : one.number ≡ number
  message_is : one.message ≡ message

head_is : (a b : ℕ) (xs ys : List ℕ) → a ∷ xs ≡ b ∷ ys → a ≡ b
head_is a b xs ys e = cc

tail_is : (a b : ℕ) (xs ys : List ℕ) → a ∷ xs ≡ b ∷ ys → xs ≡ ys
tail_is a b xs ys e = cc

-- what is at a place of a list that is numbered from here has that number
placed : (sent : List Addressed) (start k : ℕ) (message : Message) → map number_in sent ≡ range_with_len start (length (map message_in sent))
    → slice_get (map message_in sent) k ≡ Some message → IsAt sent (start + k) message
placed [] start k message numbers found = absurd (cc)
placed (x ∷ sent) start zero message numbers found = record {
  one = x;
  has = has_head x sent;
  number_is = (let first = head_is x.number start (map number_in sent) _ numbers in omega (arith, first));
  message_is = cc;
}
placed (x ∷ sent) start (suc k) message numbers found =
    let rest = placed sent (start + 1) k message (tail_is x.number start (map number_in sent) _ numbers) found in
    record {
      one = rest.one;
      has = has_tail x sent rest.one rest.has;
      number_is = (let same = rest.number_is in omega (arith, same));
      message_is = rest.message_is;
    }

-- what was sent with a number is a member with that number
numbered : (sent : List Addressed) (number : ℕ) (message : Message) → map number_in sent ≡ range_with_len 1 (length (map message_in sent))
    → sent_as number (map message_in sent) ≡ Some message → IsAt sent number message
numbered sent zero message numbers found = absurd (cc)
numbered sent (suc k) message numbers found =
    let P : Bool × ℕ → Type 0 = λ z. cond {A = Option Message} z.0 None (slice_get (map message_in sent) z.1) ≡ Some message in
    let some : eqb (suc k) 0 ≡ false = ne_eqb (suc k) 0 (λ z. omega (arith, z)) in
    let back : suc k - 1 ≡ k = omega arith in
    let here : slice_get (map message_in sent) k ≡ Some message = subst P (λ i. (some i, back i)) found in
    let at = placed sent 1 k message numbers here in
    record { one = at.one; has = at.has; number_is = (let same = at.number_is in omega (arith, same)); message_is = at.message_is }

-- all that was sent to a shard is for it
for_shard : (shard : ℕ) (log : List GateEntry) (one : Addressed) → Contains (addressed_to shard log) one → one.shard ≡ shard
for_shard shard log one h =
    let entry = flat_has (λ (e : GateEntry). to_shard shard (messages_by e.deed)) log one h in
    let sent = filter_has (λ (a : Addressed). a.shard == shard) (messages_by (entry.0).deed) one entry.2 in
    eqb-true one.shard shard sent.1

-- the message that a channel has under a number was sent to its shard with this number
pub sent_there : (shard number : ℕ) (log : List GateEntry) (message : Message) → IsChannel shard log → sent_as number (channel_of shard log) ≡ Some message
    → Contains (addressed_to shard log) (record { shard = shard; number = number; message = message })
sent_there shard number log message channel found =
    let at = numbered (addressed_to shard log) number message channel.numbers found in
    let same : at.one ≡ record { shard = shard; number = number; message = message } = λ i. record {
      shard = for_shard shard log at.one at.has i;
      number = at.number_is i;
      message = at.message_is i;
    } in
    subst (λ (a : Addressed). Contains (addressed_to shard log) a) same at.has

module _ (laws : LawsForGateNotes) (gate : GateView) (notes : GateNotes) (kept : GateIsKept gate notes) (small : gate.home < 8)
    (rules : IsGateLog gate.home gate.shards gate.log) (shard number : ℕ) where
  is_there : (message : Message) → sent_as number (channel_of shard gate.log) ≡ Some message
      → Contains (addressed_to shard gate.log) (record { shard = shard; number = number; message = message })
  is_there message found = sent_there shard number gate.log message (laws.channel gate.home gate.shards shard gate.log small rules) found

  is_made : (message : Message) → sent_as number (channel_of shard gate.log) ≡ Some message → IsMade gate.shards (seen_of_gate gate notes).store shard message
  is_made message found =
      let a : Addressed = record { shard = shard; number = number; message = message } in
      laws.made gate.shards (seen_of_gate gate notes) gate.home kept.refers shard a
      (subst (λ (l : List GateEntry). Contains (addressed_to shard l) a) (sym (own_log gate notes kept)) (is_there message found))

  module _ {F : Type 0} where
    -- a message that is fetched for a shard and a number was sent to this shard with this number
    pub sent_ok : (r : Result (Option Message) F) → IfOk r (λ (message : Option Message). message ≡ sent_as number (channel_of shard gate.log))
        → IfOk r (λ (message : Option Message). ForSome message (λ (one : Message). Contains (addressed_to shard gate.log)
        (record { shard = shard; number = number; message = one })))
    sent_ok (Ok message) is = λ one e. is_there one (sym is ∙ e)
    sent_ok (Err fault) is = tt

    -- and it is empty, or made of a judgement in what was seen of the store's log
    pub made_ok : (r : Result (Option Message) F) → IfOk r (λ (message : Option Message). message ≡ sent_as number (channel_of shard gate.log))
        → IfOk r (λ (message : Option Message). ForSome message (λ (one : Message). IsMade gate.shards (seen_of_gate gate notes).store shard one))
    made_ok (Ok message) is = λ one e. is_made one (sym is ∙ e)
    made_ok (Err fault) is = tt

-- a copy of what was found
pub copied_ok : {A F : Type 0} (r : Result A F) (copied found : A) → copied ≡ found → IfOk r (λ (a : A). a ≡ copied) → IfOk r (λ (a : A). a ≡ found)
copied_ok (Ok a) copied found same is = is ∙ same
copied_ok (Err fault) copied found same is = tt
