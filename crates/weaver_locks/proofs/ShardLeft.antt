-- After `leave_shard` a hand is one again: it has seen all that its new entries refer to, and made these alone.
-- Used by `leave_shard`.
use Rattle.std.proofs.Common.{◌≡◌, ◌≢◌, ℕ, ◌<◌, ◌≤◌, List, [], ◌∷◌, ◌++◌, length, map, get_or, set, inl, inr, refl, sym, ap, ◌∙◌, subst, arith}
use Rattle.std.proofs.lemmas.List.{length-append, length-map}
use mathlib.Core.Logic.{dite}
use native.Mathlib.Decide.{ℕ_discrete}
use Rattle.weave_entries.specs.declared.gate_log.GateEntry.{GateEntry}
use Rattle.weave_entries.specs.declared.oracle_log.OracleEntry.{OracleEntry}
use Rattle.weave_entries.specs.declared.shard_log.ShardDeed.{ShardDeed}
use Rattle.weave_entries.specs.declared.shard_log.ShardEntry.{ShardEntry}
use Rattle.weave_entries.specs.declared.store_log.StoreEntry.{StoreEntry}
use Rattle.weave_entries.specs.GateRules.{HearsNoMore, IsGateLog}
use Rattle.weave_entries.specs.ShardReplay.{Visit}
use Rattle.weave_entries.specs.ShardRules.{IsShardLog}
use Rattle.weave_account.specs.declared.account.Account.{Account}
use Rattle.weave_account.specs.Account.{shard_log}
use Rattle.weave_account.specs.GoesOn.{IsBeginningOf}
use Rattle.weave_account.specs.Oracle.{seen_last}
use Rattle.weave_account.proofs.GoesOn.{whole}
use Rattle.seen_logs.specs.Entries.{shard_entries, shard_entry, shard_pair, shard_pairs, store_entries, store_entry, store_pair}
use Rattle.seen_logs.specs.References.{ShardRefersAs}
use Rattle.seen_logs.specs.Seen.{AddsAsSeen, AreLegal, HasAsked, IsOwn, IsSeenByHand, IsWithin, ShardRefersWithin, ShardsGoOn, visit_entry}
use Rattle.chronicle.specs.declared.chronicle.Chronicle.{Chronicle}
use Rattle.chronicle.specs.declared.pass.Pass.{Pass}
use Rattle.chronicle.specs.Locks.{lock_of}
use Rattle.chronicle.specs.Logs.{Log, entries_of}
use Rattle.chronicle.specs.Passes.{IsReady, number_of, own_entries, seen_by_pass}
use Rattle.oracle_lock.specs.Seen.{gates_seen, of_gates}
use Rattle.shard_lock.specs.declared.noted_shard.NotedShard.{NotedShard}
use Rattle.shard_lock.specs.Notes.{seen_by_shard_passes}
use Rattle.shard_lock.proofs.Accounts.{at_number}
use Rattle.weaver_locks.specs.declared.hand.Hand.{Hand}
use Rattle.weaver_locks.specs.declared.shared.Shared.{Shared}
use Rattle.weaver_locks.specs.Hands.{hand_number, IsHand, made_by, seen_by, with_shard_entries}
use Rattle.weaver_locks.specs.HoldLaws.{HoldLaws}
use Rattle.weaver_locks.specs.InShard.{DoesInShard}
use Rattle.weaver_locks.specs.Locks.{start_of}
use Rattle.weaver_locks.specs.ShardHolds.{WasAtShard}
use Rattle.weaver_locks.proofs.Beside.{gates_made, gates_on, named, no_gate_entry, oracle_added, oracle_made, oracle_on}
use Rattle.weaver_locks.proofs.Logged.{begin_length, none_past, own_adds, past_before, records_on}
use Rattle.weaver_locks.proofs.Rows.{image_at, image_or, image_set, row_numbers, row_ready, set_here, set_length, set_there}
use Rattle.weaver_locks.proofs.Seeing.{begins_longer, same_gates, shard_at, shards_back}
use Rattle.weaver_locks.proofs.HandParts.{has_shard}

module _ (laws : HoldLaws) (shared : Shared) (old new : Hand) (shard : ℕ) (before added : List ShardEntry) (asked : List OracleEntry)
    (d : DoesInShard shared old shard new.gates.items new.store new.oracle before added asked)
    (p : Pass ShardDeed) (shards_is : new.shards.items ≡ set old.shards.items shard p)
    (ready : (c : Chronicle NotedShard ShardDeed) → IsReady (lock_of (get_or shared.shards.items shard c)) p)
    (number_is : number_of p ≡ hand_number old) (seen_is : seen_by_pass p ≡ shard_pairs (before ++ added)) where
  abbrev n : ℕ
  n = hand_number old

  abbrev was : Account
  was = seen_by old

  abbrev next : Account
  next = seen_by new

  abbrev many : ℕ
  many = length shared.shards.items

  low_old : shard < length old.shards.items
  low_old = has_shard shared old d.hand shard d.low

  -- The store's log

  store_on : IsBeginningOf was.store next.store
  store_on = records_on store_entry store_pair (λ x. refl) (seen_by_pass old.store) (seen_by_pass new.store) d.store_on.more

  no_store_entry : (cut after : List StoreEntry) (e : StoreEntry) → next.store ≡ cut ++ e ∷ after → IsOwn n was.store cut e.author → ⊥
  no_store_entry cut after e at mine =
      none_past store_entry store_pair (λ x. refl) laws.hand.store_places n (seen_by_pass old.store) (seen_by_pass new.store) d.store_on.more
      (ap (λ (m : ℕ). entries_of m (seen_by_pass new.store)) (sym d.store_on.number) ∙ d.store_on.own_is) cut after e at mine.0 mine.1

  -- The logs of shards

  seen_set : map seen_by_pass new.shards.items ≡ set (map seen_by_pass old.shards.items) shard (seen_by_pass p)
  seen_set = ap (λ (l : List (Pass ShardDeed)). map seen_by_pass l) shards_is ∙ image_set seen_by_pass old.shards.items shard p

  here : shard_log next shard ≡ before ++ added
  here = shard_at new shard ∙ (ap (λ (l : List (Log ShardDeed)). shard_entries (get_or l shard [])) seen_set
      ∙ (ap shard_entries (set_here (map seen_by_pass old.shards.items) shard (seen_by_pass p) [] (omega (arith, low_old, length-map old.shards.items seen_by_pass)))
      ∙ (ap shard_entries seen_is ∙ shards_back (before ++ added))))

  there : (k : ℕ) → k ≢ shard → shard_log next k ≡ shard_log was k
  there k other = shard_at new k ∙ (ap (λ (l : List (Log ShardDeed)). shard_entries (get_or l k [])) seen_set
      ∙ (ap shard_entries (set_there (map seen_by_pass old.shards.items) shard k (seen_by_pass p) [] other) ∙ sym (shard_at old k)))

  abbrev had : Log ShardDeed
  had = seen_by_pass (get_or old.shards.items shard p)

  had_is : shard_log was shard ≡ shard_entries had
  had_is = shard_at old shard ∙ ap shard_entries (image_at seen_by_pass old.shards.items shard p [] low_old)

  found : IsBeginningOf (shard_log was shard) before
  found = subst (λ (z : List ShardEntry × List ShardEntry). IsBeginningOf z.0 z.1) (λ i. (sym had_is i, shards_back before i))
      (records_on shard_entry shard_pair (λ x. refl) had (shard_pairs before) (d.found p))

  shards_on : ShardsGoOn was next
  shards_on k = dite (ℕ_discrete k shard)
      (λ same. subst (λ (j : ℕ). IsBeginningOf (shard_log was j) (shard_log next j)) (sym same)
      (subst (λ (l : List ShardEntry). IsBeginningOf (shard_log was shard) l) (sym here) (begins_longer (shard_log was shard) before added found)))
      (λ other. subst (λ (l : List ShardEntry). IsBeginningOf (shard_log was k) l) (sym (there k other)) (whole (shard_log was k)))

  -- the hand has seen no less than it had
  pub within : IsWithin was next
  within = record { gates = gates_on shared old new d.hand d.gates_on; store = store_on; oracle = oracle_on shared old new d.hand d.settled asked d.oracle_adds; shards = shards_on }

  own_number : number_of (get_or old.shards.items shard p) ≡ n
  own_number = d.hand.shard_numbers shard p low_old

  shard_added : (cut after : List ShardEntry) (e : ShardEntry) → shard_log next shard ≡ cut ++ e ∷ after
      → IsOwn n (shard_log was shard) cut e.author → length before ≤ length cut
  shard_added cut after e at mine =
      let past : length (shard_entries had) ≤ length cut = subst (λ (l : List ShardEntry). length l ≤ length cut) had_is mine.1 in
      past_before shard_entry shard_pair (λ x. refl) laws.hand.shard_places n had before added (d.found p)
      (d.own_is p ∙ ap (λ (m : ℕ). entries_of m had) own_number) cut after e (sym here ∙ at) mine.0 past

  -- What was seen is legal

  legal : AreLegal (length shared.gates.items) many next
  legal = record {
    gate_logs = λ home. subst (λ (l : List (List GateEntry)). IsGateLog home many (get_or l home [])) (sym (named shared old new d.hand d.gates_on)) (d.gates_legal.rules home);
    hears = λ home. subst (λ (l : List (List GateEntry)). HearsNoMore home (get_or l home [])) (sym (named shared old new d.hand d.gates_on)) (d.gates_legal.hears home);
    store_log = d.store_legal;
    oracle_log = d.oracle_legal;
    shard_logs = λ k. dite (ℕ_discrete k shard)
        (λ same. subst (λ (j : ℕ). IsShardLog (length shared.gates.items) (shard_log next j)) (sym same)
        (subst (IsShardLog (length shared.gates.items)) (sym here) d.shard_legal))
        (λ other. subst (IsShardLog (length shared.gates.items)) (sym (there k other)) (d.hand.legal.shard_logs k));
  }

  -- What was added refers to what was seen

  abbrev by_passes : Account
  by_passes = seen_by_shard_passes shard (before ++ added) new.gates.items new.store new.oracle

  -- the hand has seen all that the entries in this shard's log refer to
  pub refers : ShardRefersWithin many next shard
  refers cut e after at =
      laws.shard_stays many shard by_passes next (same_gates by_passes next (sym (named shared old new d.hand d.gates_on))) (whole next.store) (whole next.oracle)
      cut e.author e.deed (d.refers cut e after (at_number shard (before ++ added) ∙ (sym here ∙ at)))

  adds_at : (k : ℕ) (cut : List ShardEntry) (e : ShardEntry) (after : List ShardEntry) → shard_log next k ≡ cut ++ e ∷ after
      → IsOwn n (shard_log was k) cut e.author → ShardRefersAs next many k cut e.author e.deed
  adds_at k cut e after at mine = dite (ℕ_discrete k shard)
      (λ same. subst (λ (j : ℕ). ShardRefersAs next many j cut e.author e.deed) (sym same)
      (refers cut e after (subst (λ (j : ℕ). shard_log next j ≡ cut ++ e ∷ after) same at)))
      (λ other.
      let L : List ShardEntry → ℕ = λ l. length l in
      absurd (omega (arith, mine.1, ap L (sym (there k other) ∙ at), length-append cut (e ∷ after))))

  start_low : (k : ℕ) → length (shard_log (start_of shared) k) ≤ length (shard_log was k)
  start_low k = let on = d.hand.seen.starts.shards k in begin_length (shard_log (start_of shared) k) (shard_log was k) (on.0, sym on.1)

  asks_at : (k other : ℕ) (cut rest : List ShardEntry) (a b : Visit) → HasAsked n (start_of shared) next k cut a
      → HasAsked n (start_of shared) next other rest b → length (shard_log was k) ≤ length cut → a.stamp ≡ b.stamp
      → seen_last cut a ≡ seen_last rest b → (k ≡ other) × (length cut ≡ length rest)
  asks_at k other cut rest a b of_a of_b past same alike = dite (ℕ_discrete k shard)
      (λ is.
      let at : shard_log next shard ≡ cut ++ visit_entry a ∷ of_a.after = subst (λ (j : ℕ). shard_log next j ≡ cut ++ visit_entry a ∷ of_a.after) is of_a.at in
      let later : length (shard_log was shard) ≤ length cut = subst (λ (j : ℕ). length (shard_log was j) ≤ length cut) is past in
      let mine : a.author ≡ n = elim of_a.answers [ inl by ↦ by | inr first ↦ absurd (omega (arith, first, past, start_low k)) ] in
      let over = shard_added cut of_a.after (visit_entry a) at (mine, later) in
      let one = d.asks_new next here there cut of_a.after a (sym here ∙ at) over of_a.marked other rest b of_b same alike in
      (is ∙ one.0, one.1))
      (λ apart.
      let L : List ShardEntry → ℕ = λ l. length l in
      absurd (omega (arith, past, ap L (sym (there k apart) ∙ of_a.at), length-append cut (visit_entry a ∷ of_a.after))))

  adds : AddsAsSeen many n (start_of shared) was next
  adds = record {
    gate_entries = λ home cut e after at mine. absurd (no_gate_entry shared old new d.hand d.gates_on laws home cut after e at mine);
    store_entries = λ cut e after at mine. absurd (no_store_entry cut after e at mine);
    oracle_entries = λ cut e after at mine.
        let has = oracle_added shared old new d.hand d.settled asked d.oracle_adds laws cut after e at mine in
        (laws.oracle_stays (of_gates (gates_seen new.gates.items)) next (same_gates (of_gates (gates_seen new.gates.items)) next (sym (named shared old new d.hand d.gates_on))) e.deed (d.asked_refers e has), d.asked_for next here e has);
    shard_entries = adds_at;
    asks_once = asks_at;
  }

  -- The hand

  new_length : length new.shards.items ≡ length old.shards.items
  new_length = ap (λ (l : List (Pass ShardDeed)). length l) shards_is ∙ set_length old.shards.items shard p

  at_shards : (P : ℕ → Pass ShardDeed → Type 0) → P shard p → ((k : ℕ) (q : Pass ShardDeed) → k < many → P k (get_or old.shards.items k q))
      → (k : ℕ) (q : Pass ShardDeed) → k < many → P k (get_or new.shards.items k q)
  at_shards P now others k q low = subst (λ (l : List (Pass ShardDeed)). P k (get_or l k q)) (sym shards_is)
      (dite (ℕ_discrete k shard)
      (λ same. subst (λ (j : ℕ). P j (get_or (set old.shards.items shard p) j q)) (sym same)
      (subst (P shard) (sym (set_here old.shards.items shard p q low_old)) now))
      (λ other. subst (P k) (sym (set_there old.shards.items shard k p q other)) (others k q low)))

  -- so it is a hand again: all its passes are ready, and it has seen what its entries refer to
  pub is_hand : IsHand shared new
  is_hand = record {
    gates = d.gates_on.count ∙ d.hand.gates;
    shards = new_length ∙ d.hand.shards;
    gates_ready = row_ready shared.gates.items old.gates.items new.gates.items d.gates_on d.hand.gates;
    store_ready = d.store_on.ready;
    oracle_ready = d.oracle_adds.ready;
    shards_ready = λ k c q low. at_shards (λ j x. IsReady (lock_of (get_or shared.shards.items j c)) x) (ready c) (λ j x l. d.hand.shards_ready j c x l) k q low;
    gate_numbers = row_numbers shared.gates.items old.gates.items new.gates.items d.gates_on d.hand.gates (hand_number new)
        (λ k q low. d.hand.gate_numbers k q low ∙ sym d.store_on.number);
    oracle_number = d.oracle_adds.number ∙ sym d.store_on.number;
    shard_numbers = λ k q low. at_shards (λ j x. number_of x ≡ hand_number new) (number_is ∙ sym d.store_on.number)
        (λ j x l. d.hand.shard_numbers j x (omega (arith, l, d.hand.shards)) ∙ sym d.store_on.number) k q (omega (arith, low, new_length, d.hand.shards));
    legal = legal;
    seen = subst (λ (m : ℕ). IsSeenByHand many m (start_of shared) next) (sym d.store_on.number) (laws.hand.see_more (length shared.gates.items) many n (start_of shared) was next d.hand.seen within legal.shard_logs adds);
  }

  -- What the hand made

  shard_made : shard_entries (own_entries p) ≡ shard_log (made_by old) shard ++ added
  shard_made = ap (λ (m : ℕ). shard_entries (entries_of m (seen_by_pass p))) number_is
      ∙ (ap (λ (l : Log ShardDeed). shard_entries (entries_of n l)) seen_is
      ∙ (own_adds shard_entry shard_pair (λ x. refl) (λ x. refl) n before added (own_entries (get_or old.shards.items shard p)) (d.own_is p) d.added_by
      ∙ ap (λ (l : List ShardEntry). l ++ added) (sym (image_or shard_entries (map own_entries old.shards.items) shard [] [] refl
      ∙ ap shard_entries (image_at own_entries old.shards.items shard p [] low_old)))))

  shards_made : map shard_entries (map own_entries new.shards.items)
      ≡ set (map shard_entries (map own_entries old.shards.items)) shard (shard_log (made_by old) shard ++ added)
  shards_made = ap (λ (l : List (Pass ShardDeed)). map shard_entries (map own_entries l)) shards_is
      ∙ (ap (λ (l : List (Log ShardDeed)). map shard_entries l) (image_set own_entries old.shards.items shard p)
      ∙ (image_set shard_entries (map own_entries old.shards.items) shard (own_entries p)
      ∙ ap (λ (l : List ShardEntry). set (map shard_entries (map own_entries old.shards.items)) shard l) shard_made))

  made : made_by new ≡ with_shard_entries shard added asked (made_by old)
  made = λ i. record {
    gates = gates_made shared old new d.hand d.gates_on i;
    store = store_entries (d.store_on.own_is i);
    oracle = oracle_made shared old new d.hand d.settled asked d.oracle_adds i;
    shards = shards_made i;
    sessions = [];
  }

  -- the hand was in the shard's lock, and added these entries there and to the oracle's log, and nothing else
  pub was_there : WasAtShard many old new shard before added asked
  was_there = record {
    number = d.store_on.number;
    found = found;
    left = here;
    made = made;
    more = within;
    refers = refers;
  }
