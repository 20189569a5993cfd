-- A visit splits the updates of a vertex into those that the program reads and those that it precedes.
-- Used by `visits_split_the_updates`.
use Rattle.std.proofs.Common.{◌≡◌, ℕ, zero, suc, ◌+◌, ◌-◌, ◌<◌, ◌≤◌, Bool, true, false, List, [], ◌∷◌, ◌++◌, drop, Contains, IsTrue, Some, refl, sym, ap, subst, ◌∙◌, arith}
use Rattle.std.specs.Prelude.{slice_get, not, ◌||◌, ◌&&◌}
use Rattle.std.specs.Option.{option_map}
use Rattle.std.proofs.lemmas.Option.{slice_get-map}
use Rattle.weave_data.proofs.Members.{has_head}
use Rattle.weave_data.specs.declared.name.Name.{Name}
use Rattle.vector_stamp.specs.declared.clock.Stamp.{Stamp}
use Rattle.vector_stamp.specs.Order.{stamp_before}
use Rattle.vector_stamp.specs.Precedence.{GivenPair, precedes}
use Rattle.vector_stamp.specs.Seeing.{is_seen, seen_of, last_seen}
use Rattle.vector_stamp.specs.Settling.{additions_from, pairs_of}
use Rattle.weave_entries.specs.declared.shard_log.ShardEntry.{ShardEntry}
use Rattle.weave_entries.specs.ShardReplay.{Update, updates_of}
use Rattle.weave_entries.specs.ShardRules.{dropped_of, update_stamps, kept_stamps, updates_read, pairs_after_visit}

slice_get-drop : {A : Type 0} (n : ℕ) (xs : List A) (k : ℕ) → slice_get (drop n xs) k ≡ slice_get xs (n + k)
slice_get-drop zero xs k = ap (slice_get xs) (omega arith)
slice_get-drop (suc n) [] k = refl
slice_get-drop (suc n) (x ∷ xs) k =
    let more : suc (n + k) ≡ suc n + k = omega arith in
    slice_get-drop n xs k ∙ ap (slice_get (x ∷ xs)) more

-- the stamp of an update
abbrev stamp_by : Update → Stamp
stamp_by update = update.stamp

kept_stamp : (v : Name) (log : List ShardEntry) (k : ℕ) → slice_get (kept_stamps v log) k ≡ option_map stamp_by (slice_get (updates_of v log) (dropped_of v log + k))
kept_stamp v log k = slice_get-drop (dropped_of v log) (update_stamps v log) k ∙ slice_get-map stamp_by (updates_of v log) (dropped_of v log + k)

-- what is not seen comes later: before the program it would be seen, and unordered too, unless the program precedes it
comes_later : (before after later : Bool) → ((before || ((not before && not after) && not later)) ≡ true → ⊥) → (after ≡ true → later ≡ true) → later ≡ true
comes_later true after later unseen ordered = absurd (unseen refl)
comes_later false true later unseen ordered = ordered refl
comes_later false false true unseen ordered = refl
comes_later false false false unseen ordered = absurd (unseen refl)

module _ (pairs : List GivenPair) (program : Stamp) (v : Name) (log : List ShardEntry) where
  -- an update that is not read is preceded by the program
  pub later-skipped : ((update : Stamp) (updates : List Stamp) (place : ℕ) → seen_of pairs program updates ≤ place → slice_get updates place ≡ Some update → IsTrue (is_seen pairs program update) → ⊥) → ((a b : Stamp) → IsTrue (stamp_before a b) → IsTrue (precedes pairs a b)) → (place : ℕ) (later : Update) → updates_read pairs program v log ≤ place → slice_get (updates_of v log) place ≡ Some later → IsTrue (precedes pairs program later.stamp)
  later-skipped skipped ordered place later past at =
      let dropped = dropped_of v log in
      let stamps = kept_stamps v log in
      let from : seen_of pairs program stamps ≤ place - dropped = omega (arith, past) in
      let there : slice_get stamps (place - dropped) ≡ Some later.stamp = kept_stamp v log (place - dropped) ∙ ap (λ n. option_map stamp_by (slice_get (updates_of v log) n)) (omega (arith, past)) ∙ ap (option_map stamp_by) at in
      comes_later (stamp_before later.stamp program) (stamp_before program later.stamp) (precedes pairs program later.stamp) (skipped later.stamp stamps (place - dropped) from there) (ordered program later.stamp)

  module _ (named : (updates : List Stamp) (update : Stamp) (before : ℕ) → slice_get updates before ≡ Some update
      → last_seen (before + 1) updates ≡ update ∷ [])
      (all_precede : (earlier : List Stamp) (event : Stamp) → Contains earlier event
      → IsTrue (precedes (pairs ++ pairs_of (additions_from 0 pairs earlier program) program) event program)) where
    -- the last update that is read precedes the program once the visit was judged
    pub last-precedes : (last : Update) → dropped_of v log < updates_read pairs program v log
        → slice_get (updates_of v log) (updates_read pairs program v log - 1) ≡ Some last
        → IsTrue (precedes (pairs_after_visit pairs program v log) last.stamp program)
    last-precedes last some at =
        let dropped = dropped_of v log in
        let stamps = kept_stamps v log in
        let seen = seen_of pairs program stamps in
        let there : slice_get stamps (seen - 1) ≡ Some last.stamp = kept_stamp v log (seen - 1) ∙ ap (λ n. option_map stamp_by (slice_get (updates_of v log) n)) (omega (arith, some)) ∙ ap (option_map stamp_by) at in
        let read : last_seen seen stamps ≡ last.stamp ∷ [] = ap (λ n. last_seen n stamps) (omega (arith, some)) ∙ named stamps last.stamp (seen - 1) there in
        subst (λ (earlier : List Stamp). IsTrue (precedes (pairs ++ pairs_of (additions_from 0 pairs earlier program) program) last.stamp program)) (sym read) (all_precede (last.stamp ∷ []) last.stamp (has_head last.stamp []))
