-- The chain of a vertex after a collection is that of its updates, with what the collection dropped.
-- Used by Keeping.
use Rattle.std.proofs.Common.{◌≡◌, ℕ, zero, suc, ◌+◌, ◌-◌, ◌≤◌, Bool, true, false, List, [], ◌∷◌, drop, length, None, Some, refl, ap, ◌∙◌, arith}
use Rattle.std.specs.Prelude.{◌==◌, cond, pred, max}
use Rattle.std.specs.Option.{option_map}
use Rattle.std.proofs.lemmas.List.{drop-drop}
use Rattle.graph_ops.specs.Operations.{State}
use Rattle.graph_ops.specs.VertexOps.{state_after_ops}
use Rattle.vector_stamp.specs.declared.clock.Clock.{Clock}
use Rattle.vector_stamp.specs.Order.{is_before}
use Rattle.vector_stamp.specs.Seeing.{with_front, last_place}
use Rattle.vector_stamp.proofs.LastPlaces.{place-drop}
use Rattle.vector_stamp.proofs.Seen.{place-within}
use Rattle.version_chain.specs.declared.version.Version.{Version}
use Rattle.version_chain.specs.Collection.{older_versions, collected_chain}
use Rattle.weave_entries.specs.ShardReplay.{Update, older_than}
use Rattle.shard_node.specs.Keeping.{versions_from}
use Rattle.shard_node.proofs.Updates.{chain_from}

pred-is : (n : ℕ) → pred n ≡ n - 1
pred-is zero = omega arith
pred-is (suc n) = omega arith

-- What a collection drops

module _ (bound : Clock) where
  -- the versions of updates are as old as the updates
  versions-place : (state : State) (updates : List Update) → last_place (λ (version : Version). is_before version.stamp.clock bound) (versions_from state updates) ≡ last_place (λ (update : Update). is_before update.stamp.clock bound) updates
  versions-place state [] = refl
  versions-place state (update ∷ updates) = ap (with_front (is_before update.stamp.clock bound)) (versions-place (state_after_ops update.ops state) updates)

  -- at least the newest version is kept
  pub few-dropped : (dropped : ℕ) (updates : List Update) → dropped ≤ length updates - 1 → max dropped (older_than bound updates) ≤ length updates - 1
  few-dropped dropped updates few =
      let within = place-within (λ (update : Update). is_before update.stamp.clock bound) updates in
      let older = pred-is (last_place (λ (update : Update). is_before update.stamp.clock bound) updates) in
      omega (arith, few, within, older)

  dropped-now : (dropped : ℕ) (updates : List Update) → dropped + older_versions bound (drop dropped (versions_from None updates)) ≡ max dropped (older_than bound updates)
  dropped-now dropped updates =
      let left : last_place (λ (version : Version). is_before version.stamp.clock bound) (drop dropped (versions_from None updates)) ≡ last_place (λ (update : Update). is_before update.stamp.clock bound) updates - dropped =
      place-drop (λ (version : Version). is_before version.stamp.clock bound) dropped (versions_from None updates) ∙ ap (λ n. n - dropped) (versions-place None updates) in
      let now = pred-is (last_place (λ (version : Version). is_before version.stamp.clock bound) (drop dropped (versions_from None updates))) in
      let older = pred-is (last_place (λ (update : Update). is_before update.stamp.clock bound) updates) in
      omega (arith, left, now, older)

  -- a collection leaves the chain of the same updates, without the versions gone before or older by its bound
  pub collected-from : (dropped : ℕ) (updates : List Update) → option_map (collected_chain bound) (chain_from dropped updates) ≡ chain_from (max dropped (older_than bound updates)) updates
  collected-from dropped updates = by (length updates == 0)
    where
      versions : List Version
      versions = versions_from None updates

      kept : drop (older_versions bound (drop dropped versions)) (drop dropped versions) ≡ drop (max dropped (older_than bound updates)) versions
      kept = drop-drop (older_versions bound (drop dropped versions)) dropped versions ∙ ap (λ n. drop n versions) (dropped-now dropped updates)

      by : (none : Bool) → option_map (collected_chain bound) (cond none None (Some (record { dropped = dropped; kept = drop dropped versions }))) ≡ cond none None (Some (record { dropped = max dropped (older_than bound updates); kept = drop (max dropped (older_than bound updates)) versions }))
      by true = refl
      by false = λ i. Some (record { dropped = dropped-now dropped updates i; kept = kept i })
