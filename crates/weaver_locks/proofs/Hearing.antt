-- What a hand began it may let a gatekeeper hear.
-- Used by `what_was_begun_may_be_heard`.
use Rattle.std.proofs.Common.{◌≡◌, ℕ, zero, suc, List, [], ◌∷◌, ◌++◌, length, get_or, set, Contains, inl, inr, refl, sym, subst}
use Rattle.std.proofs.lemmas.List.Elements.{Contains-append_left}
use Rattle.weave_data.proofs.Members.{flat_has, has_flat, has_last}
use Rattle.vector_stamp.specs.declared.clock.Stamp.{Stamp}
use Rattle.weave_entries.specs.declared.gate_log.GateDeed.{GateDeed}
use Rattle.weave_entries.specs.declared.gate_log.GateEntry.{GateEntry}
use Rattle.weave_entries.specs.GateReplay.{BegunRequest, begun_by, begun_in}
use Rattle.weave_account.specs.declared.account.Account.{Account}
use Rattle.weave_account.specs.Account.{gate_log}
use Rattle.weaver_locks.specs.declared.hand.Hand.{Hand}
use Rattle.weaver_locks.specs.declared.shared.Shared.{Shared}
use Rattle.weaver_locks.specs.Following.{MayHear}
use Rattle.weaver_locks.specs.GateHolds.{gate_entry_by, WasAtGate}
use Rattle.weaver_locks.specs.HandLaws.{HandLaws}
use Rattle.weaver_locks.specs.Hands.{hand_number, made_by, seen_by, with_gate_entries, IsHand}
use Rattle.weaver_locks.proofs.Following.{made-gate}

-- what the hand has just begun
pub hears-begun : (laws : HandLaws) (shared : Shared) (old new : Hand) → IsHand shared new → (gate : ℕ) (before : List GateEntry)
    (deed : GateDeed) (begun : BegunRequest) → WasAtGate (length shared.shards.items) old new gate before (gate_entry_by old deed ∷ [])
    → Contains (begun_by (hand_number old) deed) begun → MayHear shared new begun.stamp
hears-begun laws shared old new is_new gate before deed begun was h =
    let entry = gate_entry_by old deed in
    let there : Contains (gate_log (seen_by new) gate) entry = subst (λ l. Contains l entry) (sym was.left) (has_last before entry) in
    let made = made-gate laws shared new is_new gate entry there (sym was.number) in
    record {
      home = gate;
      begun = begun;
      stamp_is = refl;
      there = inl (has_flat (λ (e : GateEntry). begun_by e.author e.deed) (gate_log (made_by new) gate) entry begun made h);
    }

-- what is in a list of lists at a place stays there, if the changed list keeps it
set-keeps : {A : Type 0} (xss : List (List A)) (place k : ℕ) (ys : List A) (x : A) → (Contains (get_or xss place []) x → Contains ys x)
    → Contains (get_or xss k []) x → Contains (get_or (set xss place ys) k []) x
set-keeps [] place k ys x on h = h
set-keeps (xs ∷ xss) zero zero ys x on h = on h
set-keeps (xs ∷ xss) zero (suc k) ys x on h = h
set-keeps (xs ∷ xss) (suc place) zero ys x on h = h
set-keeps (xs ∷ xss) (suc place) (suc k) ys x on h = set-keeps xss place k ys x on h

-- this still holds when the hand has added entries to a gatekeeper's log
pub hears-on : (shared : Shared) (old new : Hand) (gate : ℕ) (added : List GateEntry) → made_by new ≡ with_gate_entries gate added (made_by old)
    → (stamp : Stamp) → MayHear shared old stamp → MayHear shared new stamp
hears-on shared old new gate added made stamp may = record {
  home = may.home;
  begun = may.begun;
  stamp_is = may.stamp_is;
  there = elim may.there [
    | inl own_begun ↦
        let by = flat_has (λ (e : GateEntry). begun_by e.author e.deed) (gate_log (made_by old) may.home) may.begun own_begun in
        let had = gate_log (made_by old) gate in
        let kept = set-keeps (made_by old).gates gate may.home (had ++ added) by.0 (λ h. Contains-append_left had added by.0 h) by.1 in
        let now = subst (λ (a : Account). Contains (gate_log a may.home) by.0) (sym made) kept in
        inl (has_flat (λ (e : GateEntry). begun_by e.author e.deed) (gate_log (made_by new) may.home) by.0 may.begun now by.2)
    | inr given ↦ inr given
  ];
}

-- a hand that has added no entries to gatekeepers' logs may hear what it could hear
pub hears-still : (shared : Shared) (old new : Hand) → (made_by new).gates ≡ (made_by old).gates → (stamp : Stamp) → MayHear shared old stamp
    → MayHear shared new stamp
hears-still shared old new made stamp may = record {
  home = may.home;
  begun = may.begun;
  stamp_is = may.stamp_is;
  there = elim may.there [
    | inl own_begun ↦ inl (subst (λ (ls : List (List GateEntry)). Contains (begun_in (get_or ls may.home [])) may.begun) (sym made) own_begun)
    | inr given ↦ inr given
  ];
}
