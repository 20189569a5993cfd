-- A visit at one of the shards of a core, and in the oracle's log.
-- Used by `visit`.
use Rattle.std.proofs.Common.{◌≡◌, ℕ, ◌<◌, Bool, true, false, not, List, [], ◌∷◌, ◌++◌, length, map, take, None, Some, Result, Ok, Err, IfOk, OnOk, inl, inr, refl, sym, ap, subst, ◌∙◌}
use Rattle.std.specs.Prelude.{◌||◌, slice_get, slice_set, if◌then◌else◌}
use Rattle.std.specs.List.{list_any}
use Rattle.std.proofs.lemmas.List.{map-append}
use Rattle.weave_data.specs.declared.name.Name.{Name}
use Rattle.weave_data.proofs.Images.{made-back}
use Rattle.vector_stamp.specs.declared.clock.Stamp.{Stamp}
use Rattle.vector_stamp.specs.Precedence.{GivenPair, precedes}
use Rattle.vector_stamp.specs.Seeing.{last_seen, seen_of}
use Rattle.vector_stamp.specs.Settling.{SettledEntry, entries_of_call, places_of}
use Rattle.graph_ops.specs.Operations.{State}
use Rattle.weave_entries.specs.declared.oracle_log.OracleEntry.{OracleEntry}
use Rattle.weave_entries.specs.declared.shard_log.ShardEntry.{ShardEntry}
use Rattle.weave_entries.specs.declared.shard_log.ShardDeed.{ShardDeed}
use Rattle.weave_entries.specs.declared.shard_log.ShardDeed.TheVariants.{Visited}
use Rattle.weave_entries.specs.OracleReplay.{oracle_entry_of, pairs_of_log, settled_entry}
use Rattle.weave_entries.specs.ShardReplay.{first_unready, state_of_updates, updates_of}
use Rattle.weave_entries.specs.ShardRules.{IsKeptFor, entries_of_visit, is_settled_by, last_read, update_stamps, updates_read}
use Rattle.weave_entries.specs.StoreRule.{entries_of_settling}
use Rattle.shard_node.specs.Shards.{AddsEntry, ShardView}
use Rattle.step_rules.specs.Entries.{made_entry}
use Rattle.weaver_core.specs.ShardTable.{AddsToShard}
use Rattle.weaver_core.specs.Visiting.{IsReadAtShard, Reads, entries_asked, state_seen, updates_seen}
use Rattle.weaver_core.proofs.AtShards.{adds-at, log-is, table_of}
use Rattle.vector_stamp.proofs.Seen.{last-cases}

-- what follows from three clauses on success and one on the value of a result holds of that value
pub if_ok_on_three : {A E : Type 0} (result : Result A E) (P Q R : Type 0) (S T : A → Type 0) → ((a : A) → P → Q → R → S a → T a) → OnOk result P → OnOk result Q → OnOk result R → IfOk result S → IfOk result T
if_ok_on_three (Ok a) P Q R S T go p q r s = go a p q r s
if_ok_on_three (Err e) P Q R S T go p q r s = tt

-- The oracle's log, by what a judge's log has more

module _ (back : (entry : OracleEntry) → oracle_entry_of (settled_entry entry) ≡ entry) where
  -- a log of the oracle that goes on by these settled entries goes on by the oracle's entries of them
  pub oracle-more : (old new : List OracleEntry) (more : List SettledEntry) → map settled_entry new ≡ map settled_entry old ++ more → new ≡ old ++ map oracle_entry_of more
  oracle-more old new more is =
      sym (made-back oracle_entry_of settled_entry back new) ∙ ap (map oracle_entry_of) is ∙ map-append oracle_entry_of (map settled_entry old) more ∙ ap (λ log. log ++ map oracle_entry_of more) (made-back oracle_entry_of settled_entry back old)

  -- logs of the oracle with the same settled entries are the same
  pub oracle-same : (old new : List OracleEntry) → map settled_entry new ≡ map settled_entry old → new ≡ old
  oracle-same old new is = sym (made-back oracle_entry_of settled_entry back new) ∙ ap (map oracle_entry_of) is ∙ made-back oracle_entry_of settled_entry back old

-- A visit is marked exactly if the oracle made an entry

one-made : (pairs : List GivenPair) (stamp update : Stamp) → list_any (λ (u : Stamp). not (precedes pairs u stamp)) (update ∷ []) ≡ made_entry (entries_of_settling 0 pairs (update ∷ []) stamp)
one-made pairs stamp update = by (precedes pairs update stamp)
  where
    by : (b : Bool) → (not b || false) ≡ made_entry (map oracle_entry_of (entries_of_call 0 (update ∷ []) stamp (places_of (if b then [] else (0, update) ∷ []))))
    by true = refl
    by false = refl

-- an update was seen last that doesn't precede the program, exactly if the oracle makes an entry
pub settled-made : (pairs : List GivenPair) (stamp : Stamp) (n : ℕ) (updates : List Stamp)
    → list_any (λ (u : Stamp). not (precedes pairs u stamp)) (last_seen n updates) ≡ made_entry (entries_of_settling 0 pairs (last_seen n updates) stamp)
settled-made pairs stamp n updates = elim (last-cases n updates) [
  | inl none ↦ subst (λ (xs : List Stamp). list_any (λ (u : Stamp). not (precedes pairs u stamp)) xs ≡ made_entry (entries_of_settling 0 pairs xs stamp)) (sym none) refl
  | inr one ↦ subst (λ (xs : List Stamp). list_any (λ (u : Stamp). not (precedes pairs u stamp)) xs ≡ made_entry (entries_of_settling 0 pairs xs stamp)) (sym one.1) (one-made pairs stamp one.0)
]

-- The laws of weave_entries that are cited
pub record VisitLaws : Type 0 where
  -- the entry of the oracle that has what an entry settled is this entry (`oracle_entries_are_a_judges`)
  pub back : (entry : OracleEntry) → oracle_entry_of (settled_entry entry) ≡ entry
  -- updates kept for a program are read as those seen of all (`kept_updates_are_read_like_all`)
  pub updates : (pairs : List GivenPair) (program : Stamp) (v : Name) (log : List ShardEntry) → IsKeptFor program v log → updates_read pairs program v log ≡ seen_of pairs program (update_stamps v log)
  pub last : (pairs : List GivenPair) (program : Stamp) (v : Name) (log : List ShardEntry) → IsKeptFor program v log → last_read pairs program v log ≡ last_seen (seen_of pairs program (update_stamps v log)) (update_stamps v log)

module _ (laws : VisitLaws) (gates : ℕ) (shards : List ShardView) (s : ℕ) (before after : ShardView) (within : s < length shards) (at : slice_get shards s ≡ Some before)
    (made : before.gates ≡ gates) (oracle then_oracle : List OracleEntry) (r : ℕ) (stamp : Stamp) (v : Name) (base : IsKeptFor stamp v before.log) where
  abbrev pairs : List GivenPair
  pairs = pairs_of_log oracle

  -- what was visited, over this log
  abbrev Over : List ShardEntry → Type 0
  Over log = (first_unready gates stamp log ≡ None)
      × AddsToShard (table_of gates shards) (table_of gates (slice_set shards s after)) s (Visited r stamp v (updates_seen oracle log stamp v) (made_entry (entries_asked oracle log stamp v)))
      × (then_oracle ≡ oracle ++ entries_asked oracle log stamp v)

  updates-are : updates_read pairs stamp v before.log ≡ updates_seen oracle before.log stamp v
  updates-are = laws.updates pairs stamp v before.log base

  last-is : last_read pairs stamp v before.log ≡ last_seen (updates_seen oracle before.log stamp v) (update_stamps v before.log)
  last-is = laws.last pairs stamp v before.log base

  settled-is : is_settled_by pairs stamp v before.log ≡ made_entry (entries_asked oracle before.log stamp v)
  settled-is = ap (list_any (λ (u : Stamp). not (precedes pairs u stamp))) last-is ∙ settled-made pairs stamp (updates_seen oracle before.log stamp v) (update_stamps v before.log)

  deed-is : Visited r stamp v (updates_read pairs stamp v before.log) (is_settled_by pairs stamp v before.log) ≡ Visited r stamp v (updates_seen oracle before.log stamp v) (made_entry (entries_asked oracle before.log stamp v))
  deed-is = λ i. Visited r stamp v (updates-are i) (settled-is i)

  module _ (ready : first_unready before.gates stamp before.log ≡ None)
      (entry : AddsEntry before after 0 (Visited r stamp v (updates_read pairs stamp v before.log) (is_settled_by pairs stamp v before.log)))
      (logged : map settled_entry then_oracle ≡ map settled_entry oracle ++ entries_of_visit pairs 0 stamp v before.log) where
    visited-at : IsReadAtShard (table_of gates shards) (table_of gates (slice_set shards s after)) oracle then_oracle s r stamp v
    visited-at =
        let here : Over before.log = (
          ap (λ n. first_unready n stamp before.log) (sym made) ∙ ready,
          adds-at gates shards s before after within at _ (subst (λ (deed : ShardDeed). AddsEntry before after 0 deed) deed-is entry),
          oracle-more laws.back oracle then_oracle (entries_of_visit pairs 0 stamp v before.log) logged ∙ ap (λ (xs : List Stamp). oracle ++ entries_of_settling 0 pairs xs stamp) last-is,
        ) in
        let all = subst Over (log-is gates shards s before after within at) here in
        record { ready = all.0; adds = all.1; oracle_is = all.2 }

    -- what a visit reads at one of the shards
    pub reads-at : (state : State) → state ≡ state_of_updates (take (updates_read pairs stamp v before.log) (updates_of v before.log))
        → Reads (table_of gates shards) (table_of gates (slice_set shards s after)) oracle then_oracle s r stamp v state
    reads-at state is = record {
      visited = visited-at;
      state_is = is ∙ ap (λ n. state_of_updates (take n (updates_of v before.log))) updates-are ∙ ap (λ log. state_seen oracle log stamp v) (log-is gates shards s before after within at);
    }
