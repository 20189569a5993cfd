-- A hand that leaves the lock of the store is a hand again, and added just these entries there and at the oracle.
-- Used by `leave_store`.
use Rattle.std.proofs.Common.{◌≡◌, ℕ, ◌≤◌, List, [], ◌∷◌, ◌++◌, length, map, get_or, refl, sym, ap, ◌∙◌, subst, arith}
use Rattle.std.proofs.lemmas.List.{length-append}
use Rattle.weave_entries.specs.declared.gate_log.GateEntry.{GateEntry}
use Rattle.weave_entries.specs.declared.oracle_log.OracleEntry.{OracleEntry}
use Rattle.weave_entries.specs.declared.shard_log.ShardDeed.{ShardDeed}
use Rattle.weave_entries.specs.declared.shard_log.ShardEntry.{ShardEntry}
use Rattle.weave_entries.specs.declared.store_log.StoreDeed.{StoreDeed}
use Rattle.weave_entries.specs.declared.store_log.StoreEntry.{StoreEntry}
use Rattle.weave_entries.specs.GateRules.{HearsNoMore, IsGateLog}
use Rattle.weave_entries.specs.ShardRules.{IsShardLog}
use Rattle.weave_entries.specs.StoreRule.{IsStoreLog}
use Rattle.weave_account.specs.declared.account.Account.{Account}
use Rattle.weave_account.specs.Account.{shard_log}
use Rattle.weave_account.specs.GoesOn.{IsBeginningOf}
use Rattle.weave_account.proofs.GoesOn.{whole}
use Rattle.seen_logs.specs.Entries.{oracle_entries, shard_entries, store_entries, store_entry, store_pair, store_pairs}
use Rattle.seen_logs.specs.Seen.{AddsAsSeen, AreLegal, IsSeenByHand, IsWithin, OracleRefersWithin, StoreRefersWithin, visit_entry}
use Rattle.chronicle.specs.declared.pass.Pass.{Pass}
use Rattle.chronicle.specs.Locks.{lock_of}
use Rattle.chronicle.specs.Logs.{Log, entries_of}
use Rattle.chronicle.specs.Passes.{IsReady, number_of, own_entries, seen_by_pass}
use Rattle.oracle_lock.specs.Seen.{gates_seen, oracle_seen}
use Rattle.store_lock.specs.Seen.{store_seen}
use Rattle.store_lock.proofs.Begun.{pairs-back}
use Rattle.weaver_locks.specs.declared.hand.Hand.{Hand}
use Rattle.weaver_locks.specs.declared.shared.Shared.{Shared}
use Rattle.weaver_locks.specs.Hands.{hand_number, IsHand, made_by, seen_by, with_store_entries}
use Rattle.weaver_locks.specs.HoldLaws.{HoldLaws}
use Rattle.weaver_locks.specs.InStore.{DoesInStore}
use Rattle.weaver_locks.specs.Locks.{start_of}
use Rattle.weaver_locks.specs.StoreHolds.{WasAtStore}
use Rattle.weaver_locks.proofs.Beside.{gates_made, gates_on, named, no_gate_entry, oracle_added, oracle_found, oracle_left, oracle_made, oracle_on}
use Rattle.weaver_locks.proofs.Logged.{own_adds, records_on}
use Rattle.weaver_locks.proofs.Rows.{row_numbers, row_ready}
use Rattle.weaver_locks.proofs.Seeing.{begins_longer, same_gates}

module _ (laws : HoldLaws) (shared : Shared) (old new : Hand) (before added : List StoreEntry) (settled asked : List OracleEntry)
    (d : DoesInStore shared old new.gates.items new.oracle before added settled asked) (shards_is : new.shards.items ≡ old.shards.items)
    (ready : IsReady (lock_of shared.store) new.store) (number_is : hand_number new ≡ hand_number old)
    (seen_is : seen_by_pass new.store ≡ store_pairs (before ++ added)) where
  abbrev n : ℕ
  n = hand_number old

  abbrev was : Account
  was = seen_by old

  abbrev next : Account
  next = seen_by new

  abbrev many : ℕ
  many = length shared.shards.items

  -- The store's log

  left : next.store ≡ before ++ added
  left = ap store_entries seen_is ∙ pairs-back (before ++ added)

  found : IsBeginningOf was.store before
  found = subst (λ (l : List StoreEntry). IsBeginningOf was.store l) (pairs-back before)
      (records_on store_entry store_pair (λ x. refl) (seen_by_pass old.store) (store_pairs before) d.found)

  store_on : IsBeginningOf was.store next.store
  store_on = subst (λ (l : List StoreEntry). IsBeginningOf was.store l) (sym left) (begins_longer was.store before added found)

  -- The shards' logs

  shards_same : (k : ℕ) → shard_log next k ≡ shard_log was k
  shards_same k = ap (λ (l : List (Pass ShardDeed)). get_or (map shard_entries (map seen_by_pass l)) k []) shards_is

  within : IsWithin was next
  within = record {
    gates = gates_on shared old new d.hand d.gates_on;
    store = store_on;
    oracle = oracle_on shared old new d.hand settled asked d.oracle_adds;
    shards = λ k. subst (λ (l : List ShardEntry). IsBeginningOf (shard_log was k) l) (sym (shards_same k)) (whole (shard_log was k));
  }

  none_new : {E : Type 0} (one two cut after : List E) (e : E) → one ≡ two → one ≡ cut ++ e ∷ after → length two ≤ length cut → ⊥
  none_new {E} one two cut after e same at past =
      let L : List E → ℕ = λ l. length l in
      absurd (omega (arith, past, ap L (sym same ∙ at), length-append cut (e ∷ after)))

  legal : AreLegal (length shared.gates.items) many next
  legal = record {
    gate_logs = λ home. subst (λ (l : List (List GateEntry)). IsGateLog home many (get_or l home [])) (sym (named shared old new d.hand d.gates_on)) (d.oracle_kept.legal.gate_logs home);
    hears = λ home. subst (λ (l : List (List GateEntry)). HearsNoMore home (get_or l home [])) (sym (named shared old new d.hand d.gates_on)) (d.oracle_kept.legal.hears home);
    store_log = subst (λ (l : List StoreEntry). IsStoreLog l) (sym left) d.store_legal;
    oracle_log = d.oracle_kept.legal.oracle_log;
    shard_logs = λ k. subst (IsShardLog (length shared.gates.items)) (sym (shards_same k)) (d.hand.legal.shard_logs k);
  }

  abbrev by_store : Account
  by_store = store_seen (gates_seen new.gates.items) (oracle_entries (seen_by_pass new.oracle)) (before ++ added)

  refers : StoreRefersWithin next
  refers cut e after at = laws.store_stays by_store next (same_gates by_store next (sym (named shared old new d.hand d.gates_on))) (whole next.oracle) cut e.author e.deed
      (d.refers cut e after (sym left ∙ at))

  abbrev by_oracle : Account
  by_oracle = oracle_seen (gates_seen new.gates.items) (oracle_entries (seen_by_pass new.oracle))

  oracle_refers : OracleRefersWithin next
  oracle_refers cut e after at = laws.oracle_stays by_oracle next (same_gates by_oracle next (sym (named shared old new d.hand d.gates_on))) e.deed (d.oracle_kept.refers cut e after at)

  adds : AddsAsSeen many n (start_of shared) was next
  adds = record {
    gate_entries = λ home cut e after at mine. absurd (no_gate_entry shared old new d.hand d.gates_on laws home cut after e at mine);
    store_entries = λ cut e after at mine. refers cut e after at;
    oracle_entries = λ cut e after at mine.
        (oracle_refers cut e after at, d.asked_for next left e (oracle_added shared old new d.hand settled asked d.oracle_adds laws cut after e at mine));
    shard_entries = λ k cut e after at mine. absurd (none_new (shard_log next k) (shard_log was k) cut after e (shards_same k) at mine.1);
    asks_once = λ k other cut rest a b of_a of_b past same alike.
        absurd (none_new (shard_log next k) (shard_log was k) cut of_a.after (visit_entry a) (shards_same k) of_a.at past);
  }

  -- The hand

  -- so it is a hand again: all its passes are ready, and it has seen what its entries refer to
  pub is_hand : IsHand shared new
  is_hand = record {
    gates = d.gates_on.count ∙ d.hand.gates;
    shards = ap (λ (l : List (Pass ShardDeed)). length l) shards_is ∙ d.hand.shards;
    gates_ready = row_ready shared.gates.items old.gates.items new.gates.items d.gates_on d.hand.gates;
    store_ready = ready;
    oracle_ready = d.oracle_adds.ready;
    shards_ready = λ k c q low. subst (λ (l : List (Pass ShardDeed)). IsReady (lock_of (get_or shared.shards.items k c)) (get_or l k q)) (sym shards_is) (d.hand.shards_ready k c q low);
    gate_numbers = row_numbers shared.gates.items old.gates.items new.gates.items d.gates_on d.hand.gates (hand_number new)
        (λ k q low. d.hand.gate_numbers k q low ∙ sym number_is);
    oracle_number = d.oracle_adds.number ∙ sym number_is;
    shard_numbers = λ k q low. subst (λ (l : List (Pass ShardDeed)). number_of (get_or l k q) ≡ hand_number new) (sym shards_is)
        (d.hand.shard_numbers k q (omega (arith, low, ap (λ (l : List (Pass ShardDeed)). length l) shards_is)) ∙ sym number_is);
    legal = legal;
    seen = subst (λ (m : ℕ). IsSeenByHand many m (start_of shared) next) (sym number_is) (laws.hand.see_more (length shared.gates.items) many n (start_of shared) was next d.hand.seen within legal.shard_logs adds);
  }

  -- What the hand made

  store_made : store_entries (own_entries new.store) ≡ store_entries (own_entries old.store) ++ added
  store_made = ap (λ (m : ℕ). store_entries (entries_of m (seen_by_pass new.store))) number_is
      ∙ (ap (λ (l : Log StoreDeed). store_entries (entries_of n l)) seen_is
      ∙ own_adds store_entry store_pair (λ x. refl) (λ x. refl) n before added (own_entries old.store) d.own_is d.added_by)

  made : made_by new ≡ with_store_entries added asked (made_by old)
  made = λ i. record {
    gates = gates_made shared old new d.hand d.gates_on i;
    store = store_made i;
    oracle = oracle_made shared old new d.hand settled asked d.oracle_adds i;
    shards = map shard_entries (map own_entries (shards_is i));
    sessions = [];
  }

  -- the hand was in the store's lock, and added these entries there and to the oracle's log, and nothing else
  pub was_there : WasAtStore old new before added settled asked
  was_there = record {
    number = number_is;
    found = found;
    oracle_found = oracle_found shared old new d.hand settled asked d.oracle_adds;
    left = left;
    oracle_left = oracle_left shared old new d.hand settled asked d.oracle_adds;
    made = made;
    more = within;
    refers = refers;
    oracle_refers = oracle_refers;
  }
