-- What was seen, as an account: its logs, place by place.
-- Used by Adding and Meeting.
use Rattle.std.proofs.Common.{◌≡◌, ◌≢◌, ◌⊎◌, inl, inr, ℕ, ◌<◌, List, [], length, map, get_or, set, refl, sym, ap, ◌∙◌, subst, arith}
use Rattle.std.proofs.lemmas.List.{get_or-set_same, get_or-set_other, length-map, length-set}
use Rattle.std.proofs.Math.ListN.{get_or-map}
use mathlib.Core.List.{IsPrefix}
use mathlib.Core.Logic.{dite}
use native.Mathlib.Decide.{ℕ_discrete}
use Rattle.weave_entries.specs.declared.gate_log.GateDeed.{GateDeed}
use Rattle.weave_entries.specs.declared.gate_log.GateEntry.{GateEntry}
use Rattle.weave_entries.specs.declared.shard_log.ShardDeed.{ShardDeed}
use Rattle.weave_entries.specs.declared.shard_log.ShardEntry.{ShardEntry}
use Rattle.weave_entries.specs.declared.store_log.StoreDeed.{StoreDeed}
use Rattle.weave_entries.specs.GateRules.{HearsNoMore, IsGateLog}
use Rattle.weave_entries.specs.ShardRules.{IsShardLog}
use Rattle.weave_entries.specs.StoreRule.{IsStoreLog}
use Rattle.weave_account.specs.declared.account.Account.{Account}
use Rattle.weave_account.specs.Account.{gate_log, shard_log}
use Rattle.weave_account.specs.GoesOn.{IsBeginningOf}
use Rattle.seen_logs.specs.Seen.{AreLegal, IsWithin}
use Rattle.chronicle.specs.Logs.{Log}
use Rattle.lock_row.proofs.Lists.{mapped_on}
use Rattle.seen_logs.specs.Entries.{gate_entries, gate_entry, shard_entries, shard_entry, store_entries, store_entry}
use Rattle.gate_lock.specs.Notes.{account_of_gate}
use Rattle.gate_lock.proofs.Lists.{alike}

module _ (home : ℕ) (own : List GateEntry) (gates : List (Log GateDeed)) (store : Log StoreDeed) (shards : List (Log ShardDeed)) where
  -- the own log is in its place
  pub at_home : home < length gates → gate_log (account_of_gate home own gates store shards) home ≡ own
  at_home low = get_or-set_same (map gate_entries gates) home own [] (omega (arith, low, length-map gates gate_entries))

  -- each other place has the gatekeeper's log there
  pub elsewhere : (k : ℕ) → k ≢ home → gate_log (account_of_gate home own gates store shards) k ≡ gate_entries (get_or gates k [])
  elsewhere k other = get_or-set_other (map gate_entries gates) home k own [] other ∙ get_or-map gate_entries gates k []

  -- each shard's place has the shard's log there
  pub at_shard : (k : ℕ) → shard_log (account_of_gate home own gates store shards) k ≡ shard_entries (get_or shards k [])
  at_shard k = get_or-map shard_entries shards k []

-- if a gatekeeper's log and all that it has seen go on, so does the account of them
pub grows : (home : ℕ) (own more : List GateEntry) (gates later : List (Log GateDeed)) (store last : Log StoreDeed) (shards further : List (Log ShardDeed))
    → home < length gates → home < length later → IsBeginningOf own more
    → ((k : ℕ) → k ≢ home → IsPrefix (get_or gates k []) (get_or later k [])) → IsPrefix store last
    → ((k : ℕ) → IsPrefix (get_or shards k []) (get_or further k []))
    → IsWithin (account_of_gate home own gates store shards) (account_of_gate home more later last further)
grows home own more gates later store last shards further low low_later own_on gates_on store_on shards_on =
    let P : List GateEntry × List GateEntry → Type 0 = λ z. IsBeginningOf z.0 z.1 in
    let Q : List ShardEntry × List ShardEntry → Type 0 = λ z. IsBeginningOf z.0 z.1 in
    record {
      gates = λ k. dite (ℕ_discrete k home)
          (λ e. subst (λ (j : ℕ). IsBeginningOf (gate_log (account_of_gate home own gates store shards) j)
          (gate_log (account_of_gate home more later last further) j)) (sym e)
          (subst P (λ i. (sym (at_home home own gates store shards low) i, sym (at_home home more later last further low_later) i)) own_on))
          (λ other. subst P (λ i. (sym (elsewhere home own gates store shards k other) i, sym (elsewhere home more later last further k other) i))
          (mapped_on gate_entry (get_or gates k []) (get_or later k []) (gates_on k other)));
      store = mapped_on store_entry store last store_on;
      oracle = ([], refl);
      shards = λ k. subst Q (λ i. (sym (at_shard home own gates store shards k) i, sym (at_shard home more later last further k) i))
          (mapped_on shard_entry (get_or shards k []) (get_or further k []) (shards_on k));
    }

-- if the gatekeeper has seen the same, the account of its own log and of that is the same
pub same_account : (home : ℕ) (own : List GateEntry) (gates later : List (Log GateDeed)) (store last : Log StoreDeed)
    (shards further : List (Log ShardDeed))
    → home < length gates → length gates ≡ length later → length shards ≡ length further
    → ((k : ℕ) → k ≢ home → get_or gates k [] ≡ get_or later k []) → store ≡ last → ((k : ℕ) → get_or shards k [] ≡ get_or further k [])
    → account_of_gate home own gates store shards ≡ account_of_gate home own later last further
same_account home own gates later store last shards further low long long_shards gates_are store_is shards_are =
    let xs = map gate_entries gates in
    let ys = map gate_entries later in
    let both : length (set xs home own) ≡ length (set ys home own) = omega (
      arith,
      length-set xs home own,
      length-set ys home own,
      length-map
          gates gate_entries,
      length-map later gate_entries,
      long,
    ) in
    let g : set xs home own ≡ set ys home own = alike [] (set xs home own) (set ys home own) both (λ k. dite (ℕ_discrete k home)
    (λ e. subst (λ (j : ℕ). get_or (set xs home own) j [] ≡ get_or (set ys home own) j []) (sym e)
    (at_home home own gates store shards low ∙ sym (at_home home own later last further (omega (arith, low, long)))))
    (λ other. elsewhere home own gates store shards k other ∙ (ap gate_entries (gates_are k other) ∙ sym
    (elsewhere home own later last further k other)))) in
    let s : shards ≡ further = alike [] shards further long_shards shards_are in
    λ i. record { gates = g i; store = store_entries (store_is i); oracle = []; shards = map shard_entries (s i); sessions = [] }

-- what was seen is legal if each of its lists is that of one of two accounts that are
module _ (gates shards home : ℕ) (own : List GateEntry) (noted passed later : List (Log GateDeed)) (store store_passed last : Log StoreDeed)
    (noted_shards passed_shards further : List (Log ShardDeed)) (low : home < length noted) (low_later : home < length later)
    (mine : AreLegal gates shards (account_of_gate home own noted store noted_shards))
    (theirs : AreLegal gates shards (account_of_gate home [] passed store_passed passed_shards))
    (gates_are : (k : ℕ) → k ≢ home → (get_or later k [] ≡ get_or passed k []) ⊎ (get_or later k [] ≡ get_or noted k []))
    (store_is : (last ≡ store_passed) ⊎ (last ≡ store))
    (shards_are : (k : ℕ) → (get_or further k [] ≡ get_or passed_shards k []) ⊎ (get_or further k [] ≡ get_or noted_shards k [])) where
  abbrev now : Account
  now = account_of_gate home own later last further

  gate_either : (P : List GateEntry → Type 0) (k : ℕ) → P (gate_log (account_of_gate home own noted store noted_shards) k)
      → P (gate_log (account_of_gate home [] passed store_passed passed_shards) k) → P (gate_log now k)
  gate_either P k here there = dite (ℕ_discrete k home)
      (λ e. subst (λ (j : ℕ). P (gate_log now j)) (sym e)
      (subst P (at_home home own noted store noted_shards low ∙ sym (at_home home own later last further low_later))
      (subst (λ (j : ℕ). P (gate_log (account_of_gate home own noted store noted_shards) j)) e here)))
      (λ other. elim (gates_are k other) [
        | inl is ↦ subst P (elsewhere home [] passed store_passed passed_shards k other ∙
            (ap gate_entries (sym is) ∙ sym (elsewhere home own later last further k other))) there
        | inr is ↦ subst P (elsewhere home own noted store noted_shards k other ∙ (ap gate_entries (sym is) ∙ sym
            (elsewhere home own later last further k other))) here
      ])

  store_either : IsStoreLog (store_entries last)
  store_either = elim store_is [
    | inl is ↦ subst (λ (l : Log StoreDeed). IsStoreLog (store_entries l)) (sym is) theirs.store_log
    | inr is ↦ subst (λ (l : Log StoreDeed). IsStoreLog (store_entries l)) (sym is) mine.store_log
  ]

  shard_either : (k : ℕ) → IsShardLog gates (shard_log now k)
  shard_either k = elim (shards_are k) [
    | inl is ↦ subst (IsShardLog gates) (at_shard home [] passed store_passed passed_shards k ∙
        (ap shard_entries (sym is) ∙ sym (at_shard home own later last further k))) (theirs.shard_logs k)
    | inr is ↦ subst (IsShardLog gates) (at_shard home own noted store noted_shards k ∙
        (ap shard_entries (sym is) ∙ sym (at_shard home own later last further k))) (mine.shard_logs k)
  ]

  -- what was seen is legal, if each of its logs is that of one of two legal accounts
  pub legal_now : AreLegal gates shards now
  legal_now = record {
    gate_logs = λ k. gate_either (IsGateLog k shards) k (mine.gate_logs k) (theirs.gate_logs k);
    hears = λ k. gate_either (HearsNoMore k) k (mine.hears k) (theirs.hears k);
    store_log = store_either;
    oracle_log = mine.oracle_log;
    shard_logs = shard_either;
  }
