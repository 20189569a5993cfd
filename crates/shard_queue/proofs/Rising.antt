-- Stamps that rise.
-- Used by `push`.
use Rattle.std.proofs.Common.{◌≡◌, ℕ, ◌-◌, ◌<◌, ◌≤◌, Bool, true, false, cond, List, [], ◌∷◌, ◌++◌, map, length, get_or, IsTrue, inl, inr, sym, subst, arith}
use Rattle.std.proofs.Math.Nat.{eq-or-lt_of_le}
use Rattle.std.proofs.lemmas.List.{map-append}
use Rattle.std.proofs.lemmas.List.Quantifiers.{all_pairs_push}
use Rattle.std.proofs.lemmas.Option.{slice_get-get_or}
use Rattle.vector_stamp.specs.declared.clock.Stamp.{Stamp}
use Rattle.vector_stamp.specs.Order.{stamp_before}
use Rattle.shard_queue.specs.Outbox.{StampsRise, IsAfterLast}

-- with a stamp that is after the last one they still rise
pub rise_on : (transitive : (a b c : Stamp) → IsTrue (stamp_before a b) → IsTrue (stamp_before b c) → IsTrue (stamp_before a c)) → (stamps : List Stamp) (stamp : Stamp) → StampsRise stamps → IsAfterLast stamp stamps → StampsRise (stamps ++ stamp ∷ [])
rise_on transitive stamps stamp rise after = all_pairs_push (λ (a b : Stamp). IsTrue (stamp_before a b)) stamps stamp rise before
  where
    last_before : (d : Stamp) → 0 < length stamps → IsTrue (stamp_before (get_or stamps (length stamps - 1) d) stamp)
    last_before d some = after (get_or stamps (length stamps - 1) d) (slice_get-get_or stamps (length stamps - 1) d (omega arith))

    before : (k : ℕ) (d : Stamp) → k < length stamps → IsTrue (stamp_before (get_or stamps k d) stamp)
    before k d below =
        let some : 0 < length stamps = omega arith in
        let at_most : k ≤ length stamps - 1 = omega arith in
        elim (eq-or-lt_of_le at_most) [
          | inl at ↦ rw at (last_before d some)
          | inr under ↦ transitive (get_or stamps k d) (get_or stamps (length stamps - 1) d) stamp (rise k (length stamps - 1) d under (omega arith)) (last_before d some)
        ]

-- and so whether the message was sent or not
pub rise_sent : {M : Type 0} (stamp_of : M → Stamp) → ((a b c : Stamp) → IsTrue (stamp_before a b) → IsTrue (stamp_before b c) → IsTrue (stamp_before a c)) → (ok : Bool) (items old now new : List M) (message : M) → items ≡ old → now ≡ items → new ≡ cond ok (now ++ message ∷ []) now → StampsRise (map stamp_of items) → IsAfterLast (stamp_of message) (map stamp_of old) → StampsRise (map stamp_of new)
rise_sent stamp_of transitive true items old now new message is_old is_now is_new rise after =
    let sent : new ≡ items ++ message ∷ [] = cc in
    let after_items : IsAfterLast (stamp_of message) (map stamp_of items) = subst (λ xs. IsAfterLast (stamp_of message) (map stamp_of xs)) (sym is_old) after in
    rw sent (rw map-append (rise_on transitive (map stamp_of items) (stamp_of message) rise after_items))
rise_sent stamp_of transitive false items old now new message is_old is_now is_new rise after =
    let kept : new ≡ items = cc in
    rw kept rise
