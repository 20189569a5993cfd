-- A transaction that a hand began, and has not had judged, has a new stamp in the store's lock.
-- Used by `commit` and AskedOnce.
use Rattle.std.proofs.Common.{◌≡◌, ◌≢◌, ℕ, zero, suc, ◌≤◌, ◌==◌, List, [], ◌∷◌, ◌++◌, length, get_or, Contains, inl, inr, refl, sym, ap, ◌∙◌, subst, arith, eq-eqb}
use Rattle.std.specs.Prelude.{All}
use Rattle.std.specs.List.{flat_map}
use Rattle.std.proofs.lemmas.List.{length-map}
use Rattle.std.proofs.lemmas.List.Elements.{All-contains, Contains-append_left, Contains-get_or}
use Rattle.weave_data.proofs.Members.{cut_at, flat_has, has_cut, has_filter, has_flat, has_head, has_map, has_none, has_tail, map_has}
use Rattle.weave_data.proofs.Ordered.{pairs_cases}
use Rattle.vector_stamp.specs.declared.clock.Stamp.{Stamp}
use Rattle.vector_stamp.specs.Order.{id_of}
use Rattle.weave_entries.specs.GateReplay.{BegunRequest, begun_in, tx_by, txs_of}
use Rattle.weave_entries.specs.declared.gate_log.GateDeed.{GateDeed}
use Rattle.weave_entries.specs.declared.gate_log.GateEntry.{GateEntry}
use Rattle.weave_entries.specs.declared.store_log.StoreDeed.{StoreDeed}
use Rattle.weave_entries.specs.declared.store_log.StoreEntry.{StoreEntry}
use Rattle.weave_entries.specs.StoreReplay.{Judgement, judged_by, judgements_of}
use Rattle.weave_entries.specs.StoreRule.{stamps_judged}
use Rattle.weave_entries.proofs.OwnStamps.{tx-begun}
use Rattle.weave_entries.proofs.StoreLogs.{judged-author}
use Rattle.weave_account.specs.Account.{all_begun, gate_log}
use Rattle.weave_account.specs.GoesOn.{IsBeginningOf}
use Rattle.weave_account.proofs.SeenIds.{IdsDiffer}
use Rattle.seen_logs.specs.Entries.{gate_entries, store_entry, store_pair, store_pairs}
use Rattle.chronicle.specs.declared.held.Held.{Held}
use Rattle.chronicle.specs.declared.pass.Pass.{Pass}
use Rattle.chronicle.specs.Holds.{machine_of}
use Rattle.chronicle.specs.Passes.{own_entries, seen_by_pass}
use Rattle.oracle_lock.specs.Seen.{gates_noted, of_gates}
use Rattle.store_lock.specs.declared.noted_store.NotedStore.{NotedStore}
use Rattle.store_lock.specs.Seen.{StoreView}
use Rattle.store_lock.proofs.Begun.{pairs-back}
use Rattle.weaver_locks.specs.declared.hand.Hand.{Hand}
use Rattle.weaver_locks.specs.declared.shared.Shared.{Shared}
use Rattle.weaver_locks.specs.Hands.{hand_number, IsHand, made_by, seen_by}
use Rattle.weaver_locks.specs.HoldLaws.{HoldLaws}
use Rattle.weaver_locks.specs.InStore.{IsInStore}
use Rattle.weaver_locks.proofs.Beside.{gates_on, named}
use Rattle.weaver_locks.proofs.Following.{SeenIds}
use Rattle.weaver_locks.proofs.Logged.{cut_pairs, inside, records_on}

-- what is in the image of a beginning is in that of the whole
pub still_there : {A B : Type 0} (f : A → List B) (a b : List A) → IsBeginningOf a b → (x : B) → Contains (flat_map f a) x
    → Contains (flat_map f b) x
still_there {A} f a b on x has =
    let from = flat_has f a x has in
    let there : Contains b from.0 = subst (λ (l : List A). Contains l from.0) (sym on.1) (Contains-append_left a on.0 from.0 from.1) in
    has_flat f b from.0 x there from.2

-- what was begun at one gatekeeper was begun
in_all : (logs : List (List GateEntry)) (home : ℕ) (begun : BegunRequest) → Contains (begun_in (get_or logs home [])) begun
    → Contains (all_begun (of_gates logs)) begun
in_all [] home begun h = absurd (has_none begun h)
in_all (log ∷ logs) zero begun h = has_flat begun_in (log ∷ logs) log begun (has_head log logs) h
in_all (log ∷ logs) (suc home) begun h =
    let from = flat_has begun_in logs begun (in_all logs home begun h) in
    has_flat begun_in (log ∷ logs) from.0 begun (has_tail log logs from.0 from.1) from.2

module _ (laws : HoldLaws) (shared : Shared) (old now : Hand) (held : Held NotedStore StoreDeed) (hand : IsHand shared old)
    (i : IsInStore shared old now held) (s : StoreView) (s_is : s ≡ machine_of held) where
  abbrev was : StoreView
  was = machine_of held

  -- what the notes have seen of gatekeepers goes on from what the hand had seen
  noted_on : (home : ℕ) → IsBeginningOf (gate_log (seen_by old) home) (gate_log (of_gates (gates_noted was.gates)) home)
  noted_on = subst (λ (l : List (List GateEntry)). (home : ℕ) → IsBeginningOf (gate_log (seen_by old) home) (get_or l home []))
      (named shared old now hand i.gates ∙ sym i.one) (gates_on shared old now hand i.gates)

  module _ (request : ℕ) (stamp : Stamp) (begun : (home : ℕ) × Contains (txs_of (gate_log (seen_by old) home))
      (record { author = hand_number old; request = request; stamp = stamp })) where
    abbrev tx : BegunRequest
    tx = record { author = hand_number old; request = request; stamp = stamp }

    begun_here : Contains (txs_of (gate_log (of_gates (gates_noted was.gates)) begun.0)) tx
    begun_here = still_there (λ (entry : GateEntry). tx_by entry.author entry.deed) (gate_log (seen_by old) begun.0)
        (gate_log (of_gates (gates_noted was.gates)) begun.0) (noted_on begun.0) tx begun.1

    -- the store's notes have seen the begin of the hand's transaction
    pub begun_noted : (author : ℕ) → author ≡ hand_number old → (home : ℕ) × Contains (txs_of (gate_log (of_gates (gates_noted s.gates)) home))
        (record { author = author; request = request; stamp = stamp })
    begun_noted author is = subst (λ (z : StoreView × ℕ). (home : ℕ) × Contains (txs_of (gate_log (of_gates (gates_noted (z.0).gates)) home))
        (record { author = z.1; request = request; stamp = stamp })) (λ j. (sym s_is j, sym is j)) (begun.0, begun_here)

    module _ (ids : SeenIds) (few : length shared.gates.items ≤ 8)
        (new : All (λ (judged : Stamp). id_of judged ≢ id_of stamp) (stamps_judged (made_by old).store)) where
      few_noted : length (gates_noted was.gates) ≤ 8
      few_noted = omega (arith, few, ap (λ (l : List (List GateEntry)). length l) i.one, length-map now.gates.items (λ (p : Pass GateDeed). gate_entries (seen_by_pass p)), i.gates.count, hand.gates)

      -- an own judgement was seen before
      seen_own : (e : StoreEntry) (cut after : List StoreEntry) → was.store ≡ cut ++ e ∷ after → e.author ≡ hand_number old
          → Contains (seen_by old).store e
      seen_own e cut after at mine =
          let had = seen_by_pass old.store in
          let split = cut_pairs store_entry store_pair (λ x. refl) (store_pairs was.store) cut after e (pairs-back was.store ∙ at) in
          let low = laws.hand.store_places (hand_number old) had (store_pairs was.store) (store_pairs cut) (store_pairs after) (store_pair e) i.found i.own_is split mine in
          let on : IsBeginningOf (seen_by old).store was.store = subst (λ (l : List StoreEntry). IsBeginningOf (seen_by old).store l) (pairs-back was.store)
          (records_on store_entry store_pair (λ x. refl) had (store_pairs was.store) i.found) in
          let within = inside (seen_by old).store on.0 cut after e (sym on.1 ∙ at)
          (omega (arith, low, length-map cut store_pair, length-map had store_entry)) in
          subst (λ (l : List StoreEntry). Contains l e) (sym within.1) (has_cut cut e within.0)

      -- so it is one that the hand made
      made_own : (e : StoreEntry) → Contains (seen_by old).store e → e.author ≡ hand_number old → Contains (made_by old).store e
      made_own e there mine =
          let pair = map_has store_entry (seen_by_pass old.store) e there in
          let is : (pair.0).0 ≡ hand_number old = ap (λ (x : StoreEntry). x.author) pair.2 ∙ mine in
          subst (Contains (made_by old).store) pair.2 (has_map store_entry (own_entries old.store) pair.0
          (has_filter (λ x. x.0 == hand_number old) (seen_by_pass old.store) pair.0 pair.1 (eq-eqb (pair.0).0 (hand_number old) is)))

      fact : (one : Stamp) → Contains (stamps_judged was.store) one → id_of one ≢ id_of stamp
      fact one h same =
          let judged = map_has (λ (j : Judgement). j.stamp) (judgements_of was.store) one h in
          let entry = map_has (λ (e : StoreEntry). judged_by e.author e.deed) was.store judged.0 judged.1 in
          let cut = cut_at was.store entry.0 entry.1 in
          let as_seen = i.kept.refers cut.before entry.0 cut.after cut.is in
          let its : Judgement = judged_by (entry.0).author (entry.0).deed in
          let first : BegunRequest = record { author = its.author; request = its.request; stamp = its.stamp } in
          let stamp_is : its.stamp ≡ one = ap (λ (j : Judgement). j.stamp) entry.2 ∙ judged.2 in
          let one_id : id_of first.stamp ≡ id_of stamp = ap id_of stamp_is ∙ same in
          let logs = gates_noted was.gates in
          elim (pairs_cases IdsDiffer (all_begun (of_gates logs)) (ids was.shards (of_gates logs) few_noted i.kept.legal.gate_logs) first tx
          (in_all logs as_seen.home first (tx-begun (get_or logs as_seen.home []) first as_seen.begun))
          (in_all logs begun.0 tx (tx-begun (get_or logs begun.0 []) tx begun_here))) [
            | inl is ↦
                let mine : (entry.0).author ≡ hand_number old = sym (judged-author (entry.0).author (entry.0).deed) ∙ ap (λ (b : BegunRequest). b.author) is in
                let has = made_own entry.0 (seen_own entry.0 cut.before cut.after cut.is mine) mine in
                let there = has_map (λ (j : Judgement). j.stamp) (judgements_of (made_by old).store) its
                (has_map (λ (e : StoreEntry). judged_by e.author e.deed) (made_by old).store entry.0 has) in
                All-contains (λ (judged : Stamp). id_of judged ≢ id_of stamp) (stamps_judged (made_by old).store) its.stamp new there one_id
            | inr (inl differ) ↦ differ one_id
            | inr (inr differ) ↦ differ (sym one_id)
          ]

      -- no stamp judged in the store's log has this one's id, if none that the hand itself had judged has it
      pub new_stamp : All (λ (judged : Stamp). id_of judged ≢ id_of stamp) (stamps_judged s.store)
      new_stamp = subst (λ (v : StoreView). All (λ (judged : Stamp). id_of judged ≢ id_of stamp) (stamps_judged v.store)) (sym s_is)
          (λ k d low. fact (get_or (stamps_judged was.store) k d) (Contains-get_or (stamps_judged was.store) k d low))
