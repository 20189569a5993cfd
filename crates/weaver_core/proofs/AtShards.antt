-- If one shard of a core gets one more entry, the table of their logs has it, and the shards stay in order.
-- Used by `apply`, `arrive`, `collect`, `first_shards`, `kept`, `next_number`, `visit` and AtVisits.
use Rattle.std.proofs.Common.{◌≡◌, ℕ, ◌+◌, ◌<◌, List, [], ◌∷◌, ◌++◌, length, map, Option, None, Some, Result, Ok, Err, IfOk, OnErr, refl, sym, ap, ◌∙◌, subst}
use Rattle.std.specs.Prelude.{is_some, slice_get, slice_set, IsSome, if◌then◌else◌}
use Rattle.std.proofs.lemmas.List.{length-replicate, length-map}
use Rattle.shard_queue.specs.declared.inbox.Arrival.{Arrival}
use Rattle.shard_queue.specs.declared.inbox.Arrival.TheVariants.{Kept, Repeat}
use Rattle.shard_node.specs.Shards.{AddsEntry, CanApplyHead, ShardView}
use Rattle.weave_entries.specs.declared.message.Message.{Message}
use Rattle.weave_entries.specs.declared.shard_log.ShardEntry.{ShardEntry}
use Rattle.weave_entries.specs.declared.shard_log.ShardDeed.{ShardDeed}
use Rattle.weave_entries.specs.declared.shard_log.ShardDeed.TheVariants.{Applied, Arrived}
use Rattle.weave_entries.specs.ShardReplay.{arrived_at, processed_count}
use Rattle.weaver_core.specs.Messages.{AppliesHead, ArrivesAtShard}
use Rattle.weaver_core.specs.ShardTable.{AddsToShard, AreFirstShards, AreShardsInOrder, ShardTable, shard_log_at, log_of_shard}
use Rattle.weaver_core.proofs.Tables.{each-push, each-set, image-at, image-changes, image-push, image-rests}

-- the table of these shards
abbrev pub table_of : ℕ → List ShardView → ShardTable
table_of gates shards = record { gates = gates; logs = map log_of_shard shards }

-- what a shard is made for stays
pub record IsMadeAlike (before after : ShardView) : Type 0 where
  pub number : after.number ≡ before.number
  pub gates : after.gates ≡ before.gates

-- what a shard is made for stays if the shard is unchanged
pub alike-if-same : (before after : ShardView) → after ≡ before → IsMadeAlike before after
alike-if-same before after is = record { number = ap (λ (x : ShardView). x.number) is; gates = ap (λ (x : ShardView). x.gates) is }

-- what a shard is made for stays if its log gets one more entry
pub alike-if-adds : (before after : ShardView) (author : ℕ) (deed : ShardDeed) → AddsEntry before after author deed → IsMadeAlike before after
alike-if-adds before after author deed adds = record { number = adds.number; gates = adds.gates }

-- what a shard is made for stays when a message arrives, whether it is kept, repeated or refused
pub alike-if-arrives : {E : Type 0} (before after : ShardView) (result : Result Arrival E) (deed : ShardDeed) → IfOk result (λ arrival. arrival ≡ Kept → AddsEntry before after 0 deed)
    → IfOk result (λ arrival. arrival ≡ Repeat → after ≡ before) → OnErr result (after ≡ before) → IsMadeAlike before after
alike-if-arrives before after (Ok Kept) deed kept repeat refused = alike-if-adds before after 0 deed (kept refl)
alike-if-arrives before after (Ok Repeat) deed kept repeat refused = alike-if-same before after (repeat refl)
alike-if-arrives before after (Err e) deed kept repeat refused = alike-if-same before after refused

-- a message that is kept had not arrived, and one that is repeated had
not-arrived : (o : Option Message) → Kept ≡ (if is_some o then Repeat else Kept) → o ≡ None
not-arrived None is = refl
not-arrived (Some message) is = absurd (let e : Kept ≡ Repeat = is in cc)

had-arrived : (o : Option Message) → Repeat ≡ (if is_some o then Repeat else Kept) → IsSome o
had-arrived None is = absurd (let e : Repeat ≡ Kept = is in cc)
had-arrived (Some message) is = refl

module _ (gates : ℕ) (shards : List ShardView) (s : ℕ) (before after : ShardView) (within : s < length shards) (at : slice_get shards s ≡ Some before) where
  -- the log of the shard, by the table
  pub log-is : before.log ≡ shard_log_at (table_of gates shards) s
  log-is = sym (image-at log_of_shard shards s before at [])

  -- the table has one more entry
  pub adds-at : (deed : ShardDeed) → AddsEntry before after 0 deed → AddsToShard (table_of gates shards) (table_of gates (slice_set shards s after)) s deed
  adds-at deed adds = record { logs = image-changes log_of_shard shards s before at (λ (log : List ShardEntry). log ++ record { author = 0; deed = deed } ∷ []) [] after adds.log; gates = refl }

  -- the table of shards stays the same if the shard that is set is unchanged
  pub table-rests : after ≡ before → table_of gates (slice_set shards s after) ≡ table_of gates shards
  table-rests same = ap (λ (logs : List (List ShardEntry)). record { gates = gates; logs = logs }) (image-rests log_of_shard shards s before at after (ap log_of_shard same))

  -- the shards are still in order
  pub still-in-order : AreShardsInOrder gates shards → IsMadeAlike before after → AreShardsInOrder gates (slice_set shards s after)
  still-in-order are alike = record {
    numbers = each-set (λ n (shard : ShardView). shard.number ≡ n) shards s after within are.numbers (alike.number ∙ are.numbers s before at);
    each_gates = each-set (λ n (shard : ShardView). shard.gates ≡ gates) shards s after within are.each_gates (alike.gates ∙ are.each_gates s before at);
  }

  -- what became of a message, in terms of the table
  pub arrives-at : (home number : ℕ) (message : Message) (arrival : Arrival) → arrival ≡ (if is_some (arrived_at home number before.log) then Repeat else Kept)
      → (arrival ≡ Kept → AddsEntry before after 0 (Arrived home number message)) → (arrival ≡ Repeat → after ≡ before)
      → ArrivesAtShard (table_of gates shards) (table_of gates (slice_set shards s after)) s home number message arrival
  arrives-at home number message Kept is kept repeat =
      (ap (arrived_at home number) (sym log-is) ∙ not-arrived (arrived_at home number before.log) is, adds-at (Arrived home number message) (kept refl))
  arrives-at home number message Repeat is kept repeat =
      (subst (λ (log : List ShardEntry). IsSome (arrived_at home number log)) log-is (had-arrived (arrived_at home number before.log) is), table-rests (repeat refl))

  -- if a shard that can apply the head of a channel does, the table says that it applied that head
  pub applies-at : (home : ℕ) → CanApplyHead home before.log → AddsEntry before after 0 (Applied home (processed_count home before.log + 1))
      → AppliesHead (table_of gates shards) (table_of gates (slice_set shards s after)) s home
  applies-at home next adds = record {
    next = subst (λ (log : List ShardEntry). CanApplyHead home log) log-is next;
    adds = adds-at (Applied home (processed_count home (shard_log_at (table_of gates shards) s) + 1)) (subst (λ (log : List ShardEntry). AddsEntry before after 0 (Applied home (processed_count home log + 1))) log-is adds);
  }

-- the first shards, and the next one before anything arrived, are the first shards up to one number higher
pub first-more : (count gates : ℕ) (made then_made : List ShardView) (shard : ShardView) → AreFirstShards count gates made → length made ≡ count → shard ≡ record { number = count; gates = gates; log = [] } → then_made ≡ made ++ shard ∷ []
    → AreFirstShards (count + 1) gates then_made
first-more count gates made then_made shard are many new is =
    subst (AreFirstShards (count + 1) gates) (sym is) (record {
      in_order = record {
        numbers = each-push (λ n (one : ShardView). one.number ≡ n) made shard are.in_order.numbers (ap (λ (one : ShardView). one.number) new ∙ sym many);
        each_gates = each-push (λ n (one : ShardView). one.gates ≡ gates) made shard are.in_order.each_gates (ap (λ (one : ShardView). one.gates) new);
      };
      logs = image-push log_of_shard made shard [] count are.logs (ap log_of_shard new);
    })

-- if these are the first shards up to a number, there are exactly that many
pub first-count : (count gates : ℕ) (made : List ShardView) → AreFirstShards count gates made → length made ≡ count
first-count count gates made are = sym (length-map made log_of_shard) ∙ ap length are.logs ∙ length-replicate count []
