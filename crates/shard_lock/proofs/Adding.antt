-- A shard with one more entry keeps what its type keeps, if what the entry refers to was seen.
-- Used by `apply`, `arrive`, `collect` and Visits.
use Rattle.std.proofs.Common.{◌≡◌, inl, inr, ℕ, ◌≤◌, List, [], ◌∷◌, ◌++◌, length, refl, sym, ap, ◌∙◌, subst, arith, Option, None}
use Rattle.std.specs.Prelude.{Result, Ok, Err, IfOk, OnOk, OnErr}
use Rattle.std.specs.Option.{ForSome}
use Rattle.std.proofs.lemmas.List.{append-nil, length-append}
use Rattle.weave_data.proofs.Ends.{split_last}
use Rattle.shard_queue.specs.declared.inbox.Arrival.{Arrival}
use Rattle.shard_queue.specs.declared.inbox.Arrival.TheVariants.{Kept, Repeat}
use Rattle.weave_entries.specs.declared.message.Message.{Message}
use Rattle.weave_entries.specs.declared.shard_log.ShardDeed.{ShardDeed}
use Rattle.weave_entries.specs.declared.shard_log.ShardDeed.TheVariants.{Arrived, Applied, Collected}
use Rattle.weave_entries.specs.declared.shard_log.ShardEntry.{ShardEntry}
use Rattle.vector_stamp.specs.declared.clock.Clock.{Clock}
use Rattle.weave_entries.specs.ShardReplay.{head_of, waits_at}
use Rattle.weave_entries.specs.ShardRules.{IsShardLog, PassesAt}
use Rattle.shard_node.specs.Shards.{AddsEntry, ShardView}
use Rattle.weave_account.specs.declared.account.Account.{Account}
use Rattle.weave_account.specs.Account.{shard_log}
use Rattle.weave_account.specs.Seen.{HasSeen}
use Rattle.weave_account.proofs.GoesOn.{whole}
use Rattle.seen_logs.specs.References.{ArrivesAsSeen, ShardRefersAs}
use Rattle.seen_logs.specs.Seen.{AreLegal, IsWithin}
use Rattle.chronicle.specs.Passes.{seen_by_note}
use Rattle.oracle_lock.specs.Seen.{gates_noted}
use Rattle.shard_lock.specs.declared.notes.ShardNotes.{ShardNotes}
use Rattle.shard_lock.specs.LowerLaws.{LawsForShardNotes}
use Rattle.shard_lock.specs.Notes.{ShardIsKept, seen_of_shard}
use Rattle.shard_lock.proofs.Accounts.{at_number, at_shards, elsewhere, grows}

abbrev entry_by : ℕ → ShardDeed → ShardEntry
entry_by author deed = record { author = author; deed = deed }

-- the shard with one more entry
abbrev added : ShardView → ℕ → ShardDeed → ShardView
added shard author deed = record { number = shard.number; gates = shard.gates; log = shard.log ++ entry_by author deed ∷ [] }

is_added : (old new : ShardView) (author : ℕ) (deed : ShardDeed) → AddsEntry old new author deed → new ≡ added old author deed
is_added old new author deed adds = λ i. record { number = adds.number i; gates = adds.gates i; log = adds.log i }

module _ (laws : LawsForShardNotes) (shard : ShardView) (shards : ℕ) (notes : ShardNotes) (kept : ShardIsKept shard shards notes) (author : ℕ) (deed : ShardDeed)
    (rules : IsShardLog shard.gates (shard.log ++ entry_by author deed ∷ [])) where
  abbrev more : ShardView
  more = added shard author deed

  abbrev before : Account
  before = seen_of_shard shard notes

  abbrev after : Account
  after = seen_of_shard more notes

  goes : IsWithin before after
  goes = grows shard.number shard.log more.log (gates_noted notes.gates.items) (gates_noted notes.gates.items) (seen_by_note notes.store) (seen_by_note notes.store)
      (seen_by_note notes.oracle) (seen_by_note notes.oracle) (entry_by author deed ∷ [], refl) (λ k. whole _) ([], append-nil (seen_by_note notes.store))
      ([], append-nil (seen_by_note notes.oracle))

  legal : AreLegal shard.gates shards after
  legal = record {
    gate_logs = kept.legal.gate_logs;
    hears = kept.legal.hears;
    store_log = kept.legal.store_log;
    oracle_log = kept.legal.oracle_log;
    shard_logs = at_shards (λ k l. IsShardLog shard.gates l) shard.number more.log rules (λ k other.
        subst (IsShardLog shard.gates) (elsewhere shard.number k shard.log other) (kept.legal.shard_logs k));
  }

  new_one : ShardRefersAs after shards shard.number shard.log author deed
      → (front : List ShardEntry) (entry : ShardEntry) (rest : List ShardEntry) → shard_log after shard.number ≡ front ++ entry ∷ rest
      → length (shard_log before shard.number) ≤ length front → ShardRefersAs after shards shard.number front entry.author entry.deed
  new_one refers front entry rest at long =
      let L : List ShardEntry → ℕ = λ l. length l in
      let is : shard.log ++ entry_by author deed ∷ [] ≡ front ++ entry ∷ rest = sym (at_number shard.number more.log) ∙ at in
      elim (split_last shard.log front rest (entry_by author deed) entry is) [
        | inl last ↦
            subst (λ (z : List ShardEntry × ShardEntry). ShardRefersAs after shards shard.number z.0 z.1.author z.1.deed)
            (λ i. (last.0 i, last.1 i)) refers
        | inr early ↦
            absurd (omega (arith, long, ap L (at_number shard.number shard.log), ap L early.1, length-append front (entry ∷ early.0)))
      ]

  kept_more : ShardRefersAs before shards shard.number shard.log author deed → ShardIsKept more shards notes
  kept_more refers =
      let still = laws.stays shards shard.number before after goes.gates goes.store goes.oracle shard.log author deed refers in
      record {
        number = kept.number;
        gates = kept.gates;
        legal = legal;
        refers = laws.notes shards before after goes.gates goes.store goes.oracle shard.number (goes.shards shard.number) kept.refers (new_one still);
      }

module _ (laws : LawsForShardNotes) (old new : ShardView) (shards : ℕ) (notes : ShardNotes) (kept : ShardIsKept old shards notes)
    (rules : IsShardLog new.gates new.log) (author : ℕ) where
  -- with an entry that refers to what was seen
  pub kept_then : (deed : ShardDeed) → AddsEntry old new author deed → ShardRefersAs (seen_of_shard old notes) shards old.number old.log author deed
      → ShardIsKept new shards notes
  kept_then deed adds refers =
      let is = is_added old new author deed adds in
      subst (λ (v : ShardView). ShardIsKept v shards notes) (sym is)
      (kept_more laws old shards notes kept author deed (subst (λ (v : ShardView). IsShardLog v.gates v.log) is rules) refers)

  -- a shard that stayed as it was has still seen what its log refers to
  pub kept_still : new ≡ old → ShardIsKept new shards notes
  kept_still same = subst (λ (v : ShardView). ShardIsKept v shards notes) (sym same) kept

  arrived_as : (home number : ℕ) (message : Message) → ArrivesAsSeen (seen_of_shard old notes) shards old.number home number message
      → (arrival : Arrival) → (arrival ≡ Kept → AddsEntry old new author (Arrived home number message)) → (arrival ≡ Repeat → new ≡ old)
      → ShardIsKept new shards notes
  arrived_as home number message arrives Kept adds same = kept_then (Arrived home number message) (adds refl) arrives
  arrived_as home number message arrives Repeat adds same = kept_still (same refl)

  -- a shard that takes in a message whose sending and judgement were seen, new or repeated, keeps what its type keeps
  pub kept_arrived : {F : Type 0} (r : Result Arrival F) (home number : ℕ) (message : Message)
      → ArrivesAsSeen (seen_of_shard old notes) shards old.number home number message
      → IfOk r (λ (arrival : Arrival). arrival ≡ Kept → AddsEntry old new author (Arrived home number message))
      → IfOk r (λ (arrival : Arrival). arrival ≡ Repeat → new ≡ old) → OnErr r (new ≡ old) → ShardIsKept new shards notes
  kept_arrived (Ok arrival) home number message arrives adds same refused = arrived_as home number message arrives arrival adds same
  kept_arrived (Err fault) home number message arrives adds same refused = kept_still refused

  -- so does one that processes a message, or can't
  pub kept_applied : {A F : Type 0} (r : Result A F) (home number : ℕ) → OnOk r (AddsEntry old new author (Applied home number)) → OnErr r (new ≡ old)
      → ShardIsKept new shards notes
  kept_applied (Ok done) home number adds refused = kept_then (Applied home number) adds tt
  kept_applied (Err fault) home number adds refused = kept_still refused

  -- so does one that collects, or can't
  pub kept_collected : {A F : Type 0} (r : Result A F) (bound : Option Clock) → OnOk r (AddsEntry old new author (Collected bound)) → OnErr r (new ≡ old)
      → ShardIsKept new shards notes
  kept_collected (Ok done) bound adds refused = kept_then (Collected bound) adds tt
  kept_collected (Err fault) bound adds refused = kept_still refused

-- heads whose counts agree pass
pub heads_pass : (laws : LawsForShardNotes) (shard : ShardView) (shards : ℕ) (notes : ShardNotes) → ShardIsKept shard shards notes → (home : ℕ)
    → ForSome (head_of home shard.log) (λ (head : Message). waits_at head shard.log ≡ None → PassesAt shard.log head)
heads_pass laws shard shards notes kept home head is waits =
    let own = at_number shard.number shard.log in
    let has = laws.has_seen shard.gates shards (seen_of_shard shard notes) shard.number kept.legal.store_log (kept.legal.shard_logs shard.number) kept.refers in
    laws.passes shards (seen_of_shard shard notes).store shard.number shard.log
    (subst (λ (l : List ShardEntry). HasSeen shards (seen_of_shard shard notes).store shard.number l) own has) home head is waits
