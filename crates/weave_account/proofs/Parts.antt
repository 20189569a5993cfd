-- What a message has for one vertex: one update if its transaction names the vertex, otherwise none.
-- Used by Sent, Takable and Unprocessed.
use Rattle.std.proofs.Common.{◌≡◌, ◌≢◌, AllPairs, ℕ, Bool, true, false, cond, ◌||◌, List, [], ◌∷◌, map, IsTrue, inl, inr, refl, sym, ap, ◌∙◌}
use Rattle.std.specs.List.{filter}
use Rattle.std.proofs.lemmas.Bool.{cases_Bool, eq-eqb, false_from_ne_true}
use Rattle.weave_data.specs.Names.{same_name, one_name, shard_of}
use Rattle.weave_data.specs.declared.name.Name.{Name}
use Rattle.graph_ops.specs.Mentions.{named_by, is_among}
use Rattle.graph_ops.specs.declared.op.Op.{Op}
use Rattle.graph_ops.specs.declared.part.Part.{Part}
use Rattle.weave_entries.specs.declared.verdict.Counted.{Counted}
use Rattle.weave_entries.specs.Sending.{part_for, is_kept_at, parts_for}
use Rattle.weave_entries.specs.StoreReplay.{Commit, count_naming}
use Rattle.weave_entries.specs.StoreRule.{counts_of}
use Rattle.weave_account.specs.LowerLaws.{LawsForAccounts}
use Rattle.weave_data.proofs.Ordered.{pairs_head, pairs_tail}

-- The parts of a message for one vertex

-- a vertex with the number of commits that named it
abbrev pub counted : List Commit → Name → Counted
counted before w = record { vertex = w; before = count_naming w before }

module _ (laws : LawsForAccounts) (shards shard : ℕ) (v : Name) (here : shard_of v shards ≡ shard) (ops : List Op) (before : List Commit) where
  -- the part for the vertex
  abbrev pub the-part : Part
  the-part = part_for ops (counted before v)

  abbrev of-vertex : List Part → List Part
  of-vertex parts = filter (λ (part : Part). same_name part.vertex v) parts

  -- of the parts for some vertices that for this vertex is one, if it is among them
  pub parts-here : (ns : List Name) → AllPairs (λ a b. a ≢ b) ns
      → filter (λ (part : Part). same_name part.vertex v) (map (part_for ops) (filter (is_kept_at shards shard) (map (counted before) ns))) ≡ cond (is_among ns v) (the-part ∷ []) []
  parts-here [] u = refl
  parts-here (w ∷ ns) u =
      let more = parts-here ns (pairs_tail (λ a b. a ≢ b) w ns u) in
      elim (cases_Bool (same_name w v)) [
        | inl same ↦ this (one_name w v same) same more
        | inr other ↦ at (is_kept_at shards shard (counted before w)) other more
      ]
    where
      at : (b : Bool) → same_name w v ≡ false
          → of-vertex (map (part_for ops) (filter (is_kept_at shards shard) (map (counted before) ns))) ≡ cond (is_among ns v) (the-part ∷ []) []
          → of-vertex (map (part_for ops) (cond b (counted before w ∷ filter (is_kept_at shards shard) (map (counted before) ns)) (filter (is_kept_at shards shard) (map (counted before) ns)))) ≡ cond (same_name w v || is_among ns v) (the-part ∷ []) []
      at false e same = same ∙ ap (λ k. cond (k || is_among ns v) (the-part ∷ []) []) (sym e)
      at true e same =
          ap (λ k. cond k (part_for ops (counted before w) ∷ of-vertex (map (part_for ops) (filter (is_kept_at shards shard) (map (counted before) ns)))) (of-vertex (map (part_for ops) (filter (is_kept_at shards shard) (map (counted before) ns))))) e
          ∙ same ∙ ap (λ k. cond (k || is_among ns v) (the-part ∷ []) []) (sym e)

      this : w ≡ v → IsTrue (same_name w v)
          → of-vertex (map (part_for ops) (filter (is_kept_at shards shard) (map (counted before) ns))) ≡ cond (is_among ns v) (the-part ∷ []) []
          → of-vertex (map (part_for ops) (filter (is_kept_at shards shard) (map (counted before) (w ∷ ns)))) ≡ cond (is_among (w ∷ ns) v) (the-part ∷ []) []
      this is same more =
          let kept : is_kept_at shards shard (counted before w) ≡ true = eq-eqb (shard_of w shards) shard (ap (λ k. shard_of k shards) is ∙ here) in
          let none : is_among ns v ≡ false =
          false_from_ne_true (is_among ns v) (λ h. pairs_head (λ a b. a ≢ b) w ns v u ((laws.named_among ns v).0 h) is) in
          let empty : of-vertex (map (part_for ops) (filter (is_kept_at shards shard) (map (counted before) ns))) ≡ [] =
          more ∙ ap (λ b. cond b (the-part ∷ []) []) none in
          ap (λ b. of-vertex (map (part_for ops) (cond b (counted before w ∷ filter (is_kept_at shards shard) (map (counted before) ns)) (filter (is_kept_at shards shard) (map (counted before) ns))))) kept
          ∙ ap (λ k. cond k (part_for ops (counted before w) ∷ of-vertex (map (part_for ops) (filter (is_kept_at shards shard) (map (counted before) ns)))) (of-vertex (map (part_for ops) (filter (is_kept_at shards shard) (map (counted before) ns))))) same
          ∙ ap (λ xs. part_for ops (counted before w) ∷ xs) empty
          ∙ ap (λ k. part_for ops (counted before k) ∷ []) is
          ∙ ap (λ k. cond (k || is_among ns v) (the-part ∷ []) []) (sym same)

  -- the parts for the vertex of what a commit sends to its shard
  pub parts-of-commit : filter (λ (part : Part). same_name part.vertex v) (parts_for shards shard ops (counts_of ops before)) ≡ cond (is_among (named_by ops) v) (the-part ∷ []) []
  parts-of-commit = parts-here (named_by ops) (laws.named_once ops)
