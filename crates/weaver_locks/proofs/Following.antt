-- What a hand began may be judged, and what was judged may be sent.
-- Used by `begun_stamps_may_be_heard`, `calls_follow_each_other`, `what_was_begun_goes_on`,
-- `what_was_not_begun_stays`, Hearing, StoreNew and crate weaver_hands.
use Rattle.std.proofs.Common.{◌≡◌, ◌≢◌, ◌⊎◌, ℕ, ◌<◌, ◌≤◌, ◌==◌, zero, suc, List, [], ◌∷◌, ◌++◌, length, map, get_or, set, All, AllPairs, Contains, Some, Ok, inl, inr, refl, sym, ap, ◌∙◌, subst, arith, append_assoc, length-append, eq-eqb}
use Rattle.std.proofs.lemmas.Bool.{cases_lt, eqb-true}
use Rattle.std.proofs.lemmas.List.{get_or_past, get_or-map, length-map, map-append}
use Rattle.std.proofs.lemmas.List.Elements.{Contains-append_left, Contains-append_cases, Contains-get_or}
use Rattle.weave_data.proofs.Members.{cut_at, filter_has, flat_has, has_filter, has_flat, has_head, has_last, has_map, has_none, map_has, only}
use Rattle.weave_data.proofs.Ordered.{pairs_cases}
use Rattle.graph_ops.specs.declared.op.Op.{Op}
use Rattle.vector_stamp.specs.declared.clock.Stamp.{Stamp}
use Rattle.vector_stamp.specs.Order.{id_of}
use Rattle.weave_entries.specs.declared.gate_log.GateDeed.{GateDeed}
use Rattle.weave_entries.specs.declared.gate_log.GateEntry.{GateEntry}
use Rattle.weave_entries.specs.declared.gate_log.GateDeed.TheVariants.{BeganTx, BeganProgram, Sent, Nop, Heard, Raised, Finished}
use Rattle.weave_entries.specs.declared.store_log.StoreEntry.{StoreEntry}
use Rattle.weave_entries.specs.declared.verdict.Verdict.{Verdict}
use Rattle.weave_entries.specs.GateReplay.{BegunRequest, begun_by, begun_in, flight_of, program_by, running_of, tx_by, txs_of}
use Rattle.weave_entries.specs.GateRules.{IsGateLog}
use Rattle.weave_entries.specs.StoreReplay.{Judgement, judged_by, judgements_of}
use Rattle.weave_entries.specs.StoreRule.{stamps_judged}
use Rattle.weave_entries.proofs.StoreLogs.{judged-author}
use Rattle.weave_account.specs.declared.account.Account.{Account}
use Rattle.backing_store.specs.Commits.{judged_entry}
use Rattle.weave_account.specs.Account.{all_begun, gate_log}
use Rattle.weave_account.specs.Clocks.{IsKnown}
use Rattle.weave_account.specs.GoesOn.{IsBeginningOf}
use Rattle.weave_account.proofs.GoesOn.{has-on, flat-on}
use Rattle.seen_logs.specs.References.{GateRefersAs}
use Rattle.seen_logs.specs.Seen.{IsWithin}
use Rattle.seen_logs.proofs.MakesAccount.{tx-begun}
use Rattle.seen_logs.specs.Entries.{gate_entries, gate_entry, gate_pair, gate_pairs, store_entry}
use Rattle.chronicle.specs.Logs.{Log, entries_of}
use Rattle.chronicle.specs.declared.pass.Pass.{Pass}
use Rattle.chronicle.specs.Passes.{number_of, own_entries, seen_by_pass}
use Rattle.lock_row.proofs.Lists.{one_of}
use Rattle.weaver_locks.specs.declared.hand.Hand.{Hand}
use Rattle.weaver_locks.specs.declared.shared.Shared.{Shared}
use Rattle.weaver_locks.specs.Following.{HasNotBegun, IsInFlight, MayHear, MayJudge}
use Rattle.weaver_locks.specs.GateHolds.{gate_entry_by, MaySend, WasAtGate}
use Rattle.weaver_locks.specs.GateLaws.{GateLaws}
use Rattle.weaver_locks.specs.HandLaws.{HandLaws}
use Rattle.weaver_locks.specs.Hands.{hand_number, made_by, seen_by, with_gate_entries, IsHand}
use Rattle.weaver_locks.specs.Locks.{start_of}
use Rattle.weaver_locks.specs.Onward.{GoesOnWithout}
use Rattle.weaver_locks.specs.StoreHolds.{JudgesIn}
use Rattle.weaver_locks.proofs.Adding.{AddsNone, gate_author}
use Rattle.weaver_locks.proofs.Passing.{gate_none, stays}
use Rattle.weaver_locks.proofs.Running.{still_running}
use Rattle.weaver_locks.proofs.Sending.{flight_goes_on}

-- and a begin the author of its entry
tx-author : (author : ℕ) (deed : GateDeed) (begun : BegunRequest) → Contains (tx_by author deed) begun → author ≡ begun.author
tx-author author (BeganTx r stamp) begun h = ap (λ (b : BegunRequest). b.author) (only (record { author = author; request = r; stamp = stamp }) begun h)
tx-author author (BeganProgram r stamp) begun h = absurd (has_none begun h)
tx-author author (Sent r messages) begun h = absurd (has_none begun h)
tx-author author (Nop shard number stamp low) begun h = absurd (has_none begun h)
tx-author author (Heard clock) begun h = absurd (has_none begun h)
tx-author author (Raised epoch) begun h = absurd (has_none begun h)
tx-author author (Finished r) begun h = absurd (has_none begun h)

-- begins have ids of their own
abbrev pub SeenIds : Type 0
SeenIds = (shards : ℕ) (seen : Account) → length seen.gates ≤ 8 → ((home : ℕ) → IsGateLog home shards (gate_log seen home))
    → AllPairs (λ (a b : BegunRequest). id_of a.stamp ≢ id_of b.stamp) (all_begun seen)

-- Own entries

module _ (laws : HandLaws) (shared : Shared) (hand : Hand) (is : IsHand shared hand) where
  -- an entry with the hand's number that was seen in a gatekeeper's log is one that the hand made
  pub made-gate : (home : ℕ) (entry : GateEntry) → Contains (gate_log (seen_by hand) home) entry → entry.author ≡ hand_number hand
      → Contains (gate_log (made_by hand) home) entry
  made-gate home entry there author_is =
      let gates = hand.gates.items in
      let seen_at = laws.at_gate (map seen_by_pass gates) (seen_by_pass hand.store) (seen_by_pass hand.oracle) (map seen_by_pass hand.shards.items) home in
      let made_at = laws.at_gate (map own_entries gates) (own_entries hand.store) (own_entries hand.oracle) (map own_entries hand.shards.items) home in
      elim (cases_lt home (length gates)) [
        | inl low ↦
            let p : Pass GateDeed = get_or gates home (one_of gates home low) in
            let a : get_or (map seen_by_pass gates) home [] ≡ seen_by_pass p = get_or-map seen_by_pass gates home (one_of gates home low) [] low in
            let b : get_or (map own_entries gates) home [] ≡ own_entries p = get_or-map own_entries gates home (one_of gates home low) [] low in
            let number : number_of p ≡ hand_number hand = is.gate_numbers home (one_of gates home low) low in
            let pair = map_has gate_entry (seen_by_pass p) entry (subst (λ l. Contains l entry) (seen_at ∙ ap gate_entries a) there) in
            let mine : (pair.0).0 ≡ number_of p = ap (λ (e : GateEntry). e.author) pair.2 ∙ author_is ∙ sym number in
            let kept = has_filter (λ e. e.0 == number_of p) (seen_by_pass p) pair.0 pair.1 (eq-eqb (pair.0).0 (number_of p) mine) in
            let here = subst (Contains (gate_entries (own_entries p))) pair.2 (has_map gate_entry (own_entries p) pair.0 kept) in
            subst (λ l. Contains l entry) (sym (made_at ∙ ap gate_entries b)) here
        | inr past ↦
            let a : get_or (map seen_by_pass gates) home [] ≡ [] = get_or_past (map seen_by_pass gates) home [] (omega (arith, length-map gates seen_by_pass, past)) in
            absurd (has_none entry (subst (λ l. Contains l entry) (seen_at ∙ ap gate_entries a) there))
      ]

  -- what the hand made in a gatekeeper's log was seen there, with its number
  pub seen-gate : (home : ℕ) (entry : GateEntry) → Contains (gate_log (made_by hand) home) entry
      → Contains (gate_log (seen_by hand) home) entry × (entry.author ≡ hand_number hand)
  seen-gate home entry there =
      let gates = hand.gates.items in
      let seen_at = laws.at_gate (map seen_by_pass gates) (seen_by_pass hand.store) (seen_by_pass hand.oracle) (map seen_by_pass hand.shards.items) home in
      let made_at = laws.at_gate (map own_entries gates) (own_entries hand.store) (own_entries hand.oracle) (map own_entries hand.shards.items) home in
      elim (cases_lt home (length gates)) [
        | inl low ↦
            let p : Pass GateDeed = get_or gates home (one_of gates home low) in
            let a : get_or (map seen_by_pass gates) home [] ≡ seen_by_pass p = get_or-map seen_by_pass gates home (one_of gates home low) [] low in
            let b : get_or (map own_entries gates) home [] ≡ own_entries p = get_or-map own_entries gates home (one_of gates home low) [] low in
            let number : number_of p ≡ hand_number hand = is.gate_numbers home (one_of gates home low) low in
            let pair = map_has gate_entry (own_entries p) entry (subst (λ l. Contains l entry) (made_at ∙ ap gate_entries b) there) in
            let kept = filter_has (λ e. e.0 == number_of p) (seen_by_pass p) pair.0 pair.1 in (
              subst (λ l. Contains l entry) (sym (seen_at ∙ ap gate_entries a))
                  (subst (Contains (gate_entries (seen_by_pass p))) pair.2 (has_map gate_entry (seen_by_pass p) pair.0 kept.0)),
              sym (ap (λ (e : GateEntry). e.author) pair.2) ∙ eqb-true (pair.0).0 (number_of p) kept.1 ∙ number,
            )
        | inr past ↦
            let a : get_or (map own_entries gates) home [] ≡ [] = get_or_past (map own_entries gates) home [] (omega (arith, length-map gates own_entries, past)) in
            absurd (has_none entry (subst (λ l. Contains l entry) (made_at ∙ ap gate_entries a) there))
      ]

  -- a begin that was seen, and for which the hand answers, has a known clock
  known-begun : (author : ℕ) (deed : GateDeed) (before : List GateEntry) (begun : BegunRequest)
      → GateRefersAs (seen_by hand) (length shared.shards.items) before author deed → Contains (begun_by author deed) begun
      → IsKnown (seen_by hand) begun.stamp.clock
  known-begun author (BeganTx r stamp) before begun refers h =
      subst (λ (b : BegunRequest). IsKnown (seen_by hand) b.stamp.clock) (only (record { author = author; request = r; stamp = stamp }) begun h) refers
  known-begun author (BeganProgram r stamp) before begun refers h =
      subst (λ (b : BegunRequest). IsKnown (seen_by hand) b.stamp.clock) (only (record { author = author; request = r; stamp = stamp }) begun h) refers
  known-begun author (Sent r messages) before begun refers h = absurd (has_none begun h)
  known-begun author (Nop shard number stamp low) before begun refers h = absurd (has_none begun h)
  known-begun author (Heard clock) before begun refers h = absurd (has_none begun h)
  known-begun author (Raised epoch) before begun refers h = absurd (has_none begun h)
  known-begun author (Finished r) before begun refers h = absurd (has_none begun h)

  -- so a stamp that may be heard is known
  pub may-be-heard : (stamp : Stamp) → MayHear shared hand stamp → IsKnown (seen_by hand) stamp.clock
  may-be-heard stamp may =
      let log = gate_log (seen_by hand) may.home in
      subst (λ (s : Stamp). IsKnown (seen_by hand) s.clock) may.stamp_is (elim may.there [
        | inl own_begun ↦
            let by = flat_has (λ (e : GateEntry). begun_by e.author e.deed) (gate_log (made_by hand) may.home) may.begun own_begun in
            let there = seen-gate may.home by.0 by.1 in
            let cut = cut_at log by.0 there.0 in
            known-begun (by.0).author (by.0).deed cut.before may.begun
            (is.seen.gate_entries may.home cut.before by.0 cut.after cut.is (inl there.1)) by.2
        | inr given ↦
            let start = gate_log (start_of shared) may.home in
            let by = flat_has (λ (e : GateEntry). begun_by e.author e.deed) start may.begun given in
            let cut = cut_at start by.0 by.1 in
            let on = is.seen.starts.gates may.home in
            let at = on.1 ∙ ap (λ l. l ++ on.0) cut.is ∙ append_assoc cut.before (by.0 ∷ cut.after) on.0 in
            let less = ap (λ (l : List GateEntry). length l) cut.is ∙ length-append cut.before (by.0 ∷ cut.after) in
            known-begun (by.0).author (by.0).deed cut.before may.begun
            (is.seen.gate_entries may.home cut.before by.0 (cut.after ++ on.0) at (inr (omega (arith, less)))) by.2
      ])

  -- what the hand made in the store's log was seen there, with its number
  pub seen-store : (entry : StoreEntry) → Contains (made_by hand).store entry
      → Contains (seen_by hand).store entry × (entry.author ≡ hand_number hand)
  seen-store entry there =
      let pair = map_has store_entry (own_entries hand.store) entry there in
      let kept = filter_has (λ e. e.0 == hand_number hand) (seen_by_pass hand.store) pair.0 pair.1 in (
        subst (Contains (seen_by hand).store) pair.2 (has_map store_entry (seen_by_pass hand.store) pair.0 kept.0),
        sym (ap (λ (e : StoreEntry). e.author) pair.2) ∙ eqb-true (pair.0).0 (hand_number hand) kept.1,
      )

  -- each of its judgements was begun by it
  pub judged-begun : (entry : StoreEntry) → Contains (made_by hand).store entry → (home : ℕ) × Contains (txs_of (gate_log (seen_by hand) home))
      (record { author = hand_number hand; request = (judged_by entry.author entry.deed).request; stamp = (judged_by entry.author entry.deed).stamp })
  judged-begun entry there =
      let own_entry = seen-store entry there in
      let cut = cut_at (seen_by hand).store entry own_entry.0 in
      let refers = is.seen.store_entries cut.before entry cut.after cut.is (inl own_entry.1) in (
        refers.home,
        subst (λ n. Contains (txs_of (gate_log (seen_by hand) refers.home))
            (record { author = n; request = (judged_by entry.author entry.deed).request; stamp = (judged_by entry.author entry.deed).stamp }))
            (judged-author entry.author entry.deed ∙ own_entry.1) refers.begun,
      )

  -- the hand has seen at most 8 gatekeepers' logs
  pub few-gates : length (seen_by hand).gates ≤ 8
  few-gates =
      let gates = hand.gates.items in
      let few = shared.framed.few_gates in
      omega (arith, length-map (map seen_by_pass gates) gate_entries, length-map gates seen_by_pass, is.gates, few)

-- Judging

module _ (laws : HandLaws) (ids : SeenIds) (shared : Shared) (old new : Hand) (is_old : IsHand shared old) (is_new : IsHand shared new)
    (gate request : ℕ) (stamp : Stamp) (before : List GateEntry) (fresh : HasNotBegun old request)
    (was : WasAtGate (length shared.shards.items) old new gate before (gate_entry_by old (BeganTx request stamp) ∷ [])) where
  abbrev began : GateEntry
  began = gate_entry_by old (BeganTx request stamp)

  abbrev mine : BegunRequest
  mine = record { author = hand_number new; request = request; stamp = stamp }

  mine-begun : Contains (txs_of (gate_log (seen_by new) gate)) mine
  mine-begun =
      let b : BegunRequest = record { author = hand_number old; request = request; stamp = stamp } in
      subst (λ n. Contains (txs_of (gate_log (seen_by new) gate)) (record { author = n; request = request; stamp = stamp })) (sym was.number)
      (has_flat (λ (e : GateEntry). tx_by e.author e.deed) (gate_log (seen_by new) gate) began b
      (subst (λ l. Contains l began) (sym was.left) (has_last before began)) (has_head b []))

  -- what was judged was another request, so its stamp has another id
  others : (judged : Stamp) → Contains (stamps_judged (made_by new).store) judged → id_of judged ≢ id_of stamp
  others judged there same =
      let had = subst (λ l. Contains (stamps_judged l) judged) (ap (λ (a : Account). a.store) was.made) there in
      let one = map_has (λ (j : Judgement). j.stamp) (judgements_of (made_by old).store) judged had in
      let entry = map_has (λ (e : StoreEntry). judged_by e.author e.deed) (made_by old).store one.0 one.1 in
      let home = judged-begun laws shared old is_old entry.0 entry.1 in
      let other : BegunRequest = record { author = hand_number old; request = (judged_by (entry.0).author (entry.0).deed).request; stamp = (judged_by (entry.0).author (entry.0).deed).stamp } in
      let log = gate_log (seen_by old) home.0 in
      let by = flat_has (λ (e : GateEntry). tx_by e.author e.deed) log other home.1 in
      let made = made-gate laws shared old is_old home.0 by.0 by.1 (tx-author (by.0).author (by.0).deed other by.2) in
      let differs : other.request ≢ request = fresh home.0 other
      (has_flat (λ (e : GateEntry). begun_by e.author e.deed) (gate_log (made_by old) home.0) by.0 other made
      (Contains-append_left (tx_by (by.0).author (by.0).deed) (program_by (by.0).author (by.0).deed) other by.2)) in
      let on = was.more.gates home.0 in
      let later = has-on (txs_of log) (txs_of (gate_log (seen_by new) home.0))
      (flat-on (λ (e : GateEntry). tx_by e.author e.deed) log (gate_log (seen_by new) home.0) on) other home.1 in
      let stamps : id_of other.stamp ≡ id_of stamp = ap (λ (j : Judgement). id_of j.stamp) entry.2 ∙ ap id_of one.2 ∙ same in
      elim (pairs_cases (λ (x y : BegunRequest). id_of x.stamp ≢ id_of y.stamp) (all_begun (seen_by new))
      (ids (length shared.shards.items) (seen_by new) (few-gates laws shared new is_new) is_new.legal.gate_logs) other mine
      (tx-begun (seen_by new) home.0 other later) (tx-begun (seen_by new) gate mine mine-begun)) [
        | inl one_begin ↦ differs (ap (λ (b : BegunRequest). b.request) one_begin)
        | inr (inl differ) ↦ differ stamps
        | inr (inr differ) ↦ differ (sym stamps)
      ]

  -- the hand may have a transaction judged that it has just begun, and had not begun before
  pub may-judge : MayJudge new request stamp
  may-judge = record {
    begun = (gate, mine-begun);
    new = λ k d low. others (get_or (stamps_judged (made_by new).store) k d) (Contains-get_or (stamps_judged (made_by new).store) k d low);
  }

  -- and this transaction is in flight at the gatekeeper
  pub in-flight : GateLaws → IsInFlight new gate request stamp
  in-flight rules =
      subst (λ n. flight_of (gate_log (seen_by new) gate) ≡ Some (record { author = n; request = request; stamp = stamp })) (sym was.number)
      (ap flight_of was.left ∙ rules.flight before began)

-- Sending

module _ (laws : HandLaws) (shared : Shared) (old new : Hand) (is_old : IsHand shared old) (is_new : IsHand shared new) (gate : ℕ)
    (number : hand_number new ≡ hand_number old) (made : (made_by new).gates ≡ (made_by old).gates)
    (more : IsBeginningOf (gate_log (seen_by old) gate) (gate_log (seen_by new) gate)) where
  -- the hand made no entry past what it had seen
  no-own : AddsNone gate_author (hand_number old) (gate_log (seen_by old) gate) (gate_log (seen_by new) gate)
  no-own = gate_none laws (hand_number old) (map seen_by_pass old.gates.items) (map seen_by_pass new.gates.items) (seen_by_pass old.store) (seen_by_pass new.store)
      (seen_by_pass old.oracle) (seen_by_pass new.oracle) (map seen_by_pass old.shards.items) (map seen_by_pass new.shards.items) gate (goes-on (cases_lt gate (length old.gates.items)))
    where
      long : length new.gates.items ≡ length old.gates.items
      long = is_new.gates ∙ sym is_old.gates

      goes-on : (gate < length old.gates.items) ⊎ (length old.gates.items ≤ gate)
          → GoesOnWithout (hand_number old) (get_or (map seen_by_pass old.gates.items) gate []) (get_or (map seen_by_pass new.gates.items) gate [])
      goes-on (inr past) =
          let a : get_or (map seen_by_pass old.gates.items) gate [] ≡ [] = get_or_past (map seen_by_pass old.gates.items) gate [] (omega (arith, length-map old.gates.items seen_by_pass, past)) in
          let b : get_or (map seen_by_pass new.gates.items) gate [] ≡ [] = get_or_past (map seen_by_pass new.gates.items) gate [] (omega (arith, length-map new.gates.items seen_by_pass, long, past)) in
          let P : Log GateDeed × Log GateDeed → Type 0 = λ z. GoesOnWithout (hand_number old) z.0 z.1 in
          subst P (λ i. (sym a i, sym b i)) (stays (hand_number old) [])
      goes-on (inl low) =
          let low_now : gate < length new.gates.items = omega (arith, low, long) in
          let one = one_of old.gates.items gate low in
          let p : Pass GateDeed = get_or old.gates.items gate one in
          let q : Pass GateDeed = get_or new.gates.items gate one in
          let a : get_or (map seen_by_pass old.gates.items) gate [] ≡ seen_by_pass p = get_or-map seen_by_pass old.gates.items gate one [] low in
          let b : get_or (map seen_by_pass new.gates.items) gate [] ≡ seen_by_pass q = get_or-map seen_by_pass new.gates.items gate one [] low_now in
          let own_a : get_or (map own_entries old.gates.items) gate [] ≡ own_entries p = get_or-map own_entries old.gates.items gate one [] low in
          let own_b : get_or (map own_entries new.gates.items) gate [] ≡ own_entries q = get_or-map own_entries new.gates.items gate one [] low_now in
          let p_is : number_of p ≡ hand_number old = is_old.gate_numbers gate one low in
          let q_is : number_of q ≡ hand_number old = is_new.gate_numbers gate one low_now ∙ number in
          let made_old = laws.at_gate (map own_entries old.gates.items) (own_entries old.store) (own_entries old.oracle) (map own_entries old.shards.items) gate ∙ ap gate_entries own_a in
          let made_new = laws.at_gate (map own_entries new.gates.items) (own_entries new.store) (own_entries new.oracle) (map own_entries new.shards.items) gate ∙ ap gate_entries own_b in
          let owns : own_entries q ≡ own_entries p = sym (laws.gate_back (own_entries q)) ∙ ap gate_pairs (sym made_new ∙ ap (λ (ls : List (List GateEntry)). get_or ls gate []) made ∙ made_old) ∙ laws.gate_back (own_entries p) in
          let seen_old = laws.at_gate (map seen_by_pass old.gates.items) (seen_by_pass old.store) (seen_by_pass old.oracle) (map seen_by_pass old.shards.items) gate ∙ ap gate_entries a in
          let seen_new = laws.at_gate (map seen_by_pass new.gates.items) (seen_by_pass new.store) (seen_by_pass new.oracle) (map seen_by_pass new.shards.items) gate ∙ ap gate_entries b in
          let longer : seen_by_pass p ++ gate_pairs more.0 ≡ seen_by_pass q =
          ap (λ l. l ++ gate_pairs more.0) (sym (laws.gate_back (seen_by_pass p))) ∙ sym (map-append gate_pair (gate_entries (seen_by_pass p)) more.0)
          ∙ ap gate_pairs (ap (λ l. l ++ more.0) (sym seen_old) ∙ sym more.1 ∙ seen_new) ∙ laws.gate_back (seen_by_pass q) in
          let P : Log GateDeed × Log GateDeed → Type 0 = λ z. GoesOnWithout (hand_number old) z.0 z.1 in
          subst P (λ i. (sym a i, sym b i)) (record {
            own_is = ap (λ n. entries_of n (seen_by_pass q)) (sym q_is) ∙ owns ∙ ap (λ n. entries_of n (seen_by_pass p)) p_is;
            more = (gate_pairs more.0, longer);
          })

  -- a transaction of the hand in flight at the gatekeeper still is, if it has made no entry at gatekeepers since
  pub flight-still : GateLaws → (request : ℕ) (stamp : Stamp) → IsInFlight old gate request stamp → IsInFlight new gate request stamp
  flight-still rules request stamp flies =
      let log = gate_log (seen_by old) gate in
      let flight : BegunRequest = record { author = hand_number old; request = request; stamp = stamp } in
      let legal = subst (IsGateLog gate (length shared.shards.items)) more.1 (is_new.legal.gate_logs gate) in
      subst (λ n. flight_of (gate_log (seen_by new) gate) ≡ Some (record { author = n; request = request; stamp = stamp })) (sym number)
      (ap flight_of more.1 ∙ flight_goes_on rules gate (length shared.shards.items) log more.0 flight legal flies
      (subst (AddsNone gate_author (hand_number old) log) more.1 no-own))

  -- a program of the hand that was running still is
  pub runs-still : (request : ℕ) (stamp : Stamp) → Contains (running_of (gate_log (seen_by old) gate))
      (record { author = hand_number old; request = request; stamp = stamp })
      → Contains (running_of (gate_log (seen_by new) gate)) (record { author = hand_number new; request = request; stamp = stamp })
  runs-still request stamp runs =
      let log = gate_log (seen_by old) gate in
      let program : BegunRequest = record { author = hand_number old; request = request; stamp = stamp } in
      let none = no-own in
      let now : Contains (running_of (log ++ more.0)) program = still_running log more.0 program (λ e has by.
      let cut = cut_at more.0 e has in
      let at : gate_log (seen_by new) gate ≡ (log ++ cut.before) ++ e ∷ cut.after =
      more.1 ∙ (ap (λ (l : List GateEntry). log ++ l) cut.is ∙ sym (append_assoc log cut.before (e ∷ cut.after))) in
      none (log ++ cut.before) e cut.after at (by, omega (arith, length-append log cut.before))) runs in
      subst (λ n. Contains (running_of (gate_log (seen_by new) gate)) (record { author = n; request = request; stamp = stamp })) (sym number)
      (subst (λ (l : List GateEntry). Contains (running_of l) program) (sym more.1) now)

-- what a hand may have judged it still may
pub judges-still : (old new : Hand) → hand_number new ≡ hand_number old → (made_by new).store ≡ (made_by old).store
    → IsWithin (seen_by old) (seen_by new) → (request : ℕ) (stamp : Stamp) → MayJudge old request stamp → MayJudge new request stamp
judges-still old new number made more request stamp may =
    let home = may.begun.0 in
    let log = gate_log (seen_by old) home in
    let later = gate_log (seen_by new) home in
    let mine : BegunRequest = record { author = hand_number old; request = request; stamp = stamp } in
    let there = has-on (txs_of log) (txs_of later) (flat-on (λ (e : GateEntry). tx_by e.author e.deed) log later (more.gates home)) mine may.begun.1 in
    record {
      begun = (home, subst (λ n. Contains (txs_of later) (record { author = n; request = request; stamp = stamp })) (sym number) there);
      new = subst (λ (l : List StoreEntry). All (λ (judged : Stamp). id_of judged ≢ id_of stamp) (stamps_judged l)) (sym made) may.new;
    }

-- a transaction of the hand in flight may be sent by its verdict once it was judged
pub may-send : (laws : HandLaws) (rules : GateLaws) (shared : Shared) (old new : Hand) (gate request : ℕ) (stamp : Stamp)
    (ops : List Op) (verdict : Verdict) → IsHand shared old → IsHand shared new → IsInFlight old gate request stamp
    → JudgesIn old new request stamp ops (Ok verdict) → MaySend (seen_by new) (hand_number new) gate ops verdict
may-send laws rules shared old new gate request stamp ops verdict is_old is_new flies judges =
    let was = judges.was in
    let entry = judged_entry (hand_number old) request stamp ops judges.before verdict in
    let there : Contains (seen_by new).store entry = subst (λ l. Contains l entry) (sym was.left) (has_last judges.before entry) in
    record {
      flight = record { author = hand_number new; request = request; stamp = stamp };
      flies = flight-still laws shared old new is_old is_new gate was.number (ap (λ (a : Account). a.gates) was.made) (was.more.gates gate) rules request stamp flies;
      own = refl;
      judged = record {
        judged = judged_by entry.author entry.deed;
        is_judged = has_map (λ (e : StoreEntry). judged_by e.author e.deed) (seen_by new).store entry there;
        request_is = refl;
        stamp_is = refl;
        ops_are = refl;
        verdict_is = refl;
      };
    }

-- What was not begun

-- what is in a changed list at a place was there, or was put there
pub set-has : {A : Type 0} (xss : List (List A)) (place k : ℕ) (ys : List A) (x : A) → Contains (get_or (set xss place ys) k []) x
    → Contains (get_or xss k []) x ⊎ Contains ys x
set-has [] place k ys x h = inl h
set-has (xs ∷ xss) zero zero ys x h = inr h
set-has (xs ∷ xss) zero (suc k) ys x h = inl h
set-has (xs ∷ xss) (suc place) zero ys x h = inl h
set-has (xs ∷ xss) (suc place) (suc k) ys x h = set-has xss place k ys x h

-- a hand that adds no begin of a request has not begun it
pub stays-new : (old new : Hand) (gate : ℕ) (added : List GateEntry) → made_by new ≡ with_gate_entries gate added (made_by old) → (r : ℕ)
    → ((entry : GateEntry) (begun : BegunRequest) → Contains added entry → Contains (begun_by entry.author entry.deed) begun → begun.request ≢ r)
    → HasNotBegun old r → HasNotBegun new r
stays-new old new gate added made r none fresh home begun h =
    let had = gate_log (made_by old) gate in
    let by = flat_has (λ (e : GateEntry). begun_by e.author e.deed) (gate_log (made_by new) home) begun h in
    elim (set-has (made_by old).gates gate home (had ++ added) by.0 (subst (λ (a : Account). Contains (gate_log a home) by.0) made by.1)) [
      | inl there ↦ fresh home begun (has_flat (λ (e : GateEntry). begun_by e.author e.deed) (gate_log (made_by old) home) by.0 begun there by.2)
      | inr here ↦ elim (Contains-append_cases had added by.0 here) [
        | inl there ↦ fresh gate begun (has_flat (λ (e : GateEntry). begun_by e.author e.deed) had by.0 begun there by.2)
        | inr one ↦ none by.0 begun one by.2
      ]
    ]

-- nor does one that adds nothing to gatekeepers' logs
pub stays-unbegun : (old new : Hand) → (made_by new).gates ≡ (made_by old).gates → (r : ℕ) → HasNotBegun old r → HasNotBegun new r
stays-unbegun old new made r fresh home begun h =
    fresh home begun (subst (λ (ls : List (List GateEntry)). Contains (begun_in (get_or ls home [])) begun) made h)
