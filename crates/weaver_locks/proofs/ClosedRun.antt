-- The closed logs of a run are legal if what each hand has seen is, and each of their entries was there at the start
-- or is of a hand.
-- Used by Closings and OwnLogs.
use Rattle.std.proofs.Common.{◌≡◌, ◌≢◌, ⊎_elim, ℕ, ◌<◌, ◌≤◌, eq-eqb, ne_eqb, Bool, cond, List, [], ◌∷◌, map, get_or, refl, sym, ap, ◌∙◌, subst, arith}
use Rattle.std.specs.List.{All, Contains}
use Rattle.std.proofs.lemmas.List.Elements.{All-contains}
use mathlib.Core.Logic.{dite}
use mathlib.Core.List.{IsPrefix}
use native.Mathlib.Decide.{ℕ_discrete}
use Rattle.weave_data.proofs.Members.{has_read, has_tail}
use Rattle.weave_entries.specs.declared.gate_log.GateDeed.{GateDeed}
use Rattle.weave_entries.specs.declared.gate_log.GateEntry.{GateEntry}
use Rattle.weave_entries.specs.declared.oracle_log.OracleDeed.{OracleDeed}
use Rattle.weave_entries.specs.declared.shard_log.ShardDeed.{ShardDeed}
use Rattle.weave_entries.specs.declared.shard_log.ShardEntry.{ShardEntry}
use Rattle.weave_entries.specs.declared.store_log.StoreDeed.{StoreDeed}
use Rattle.weave_entries.specs.GateRules.{HearsNoMore, IsGateLog}
use Rattle.weave_entries.specs.OracleRules.{IsOracleLog}
use Rattle.weave_entries.specs.ShardRules.{IsShardLog}
use Rattle.weave_entries.specs.StoreRule.{IsStoreLog}
use Rattle.weave_account.specs.declared.account.Account.{Account}
use Rattle.weave_account.specs.Account.{gate_log, shard_log}
use Rattle.seen_logs.specs.Closed.{AreOfHands}
use Rattle.seen_logs.specs.Entries.{account_of_logs, gate_entries, gate_entry, gate_pair, oracle_entries, oracle_entry, oracle_pair, shard_entries, shard_entry, shard_pair, store_entries, store_entry, store_pair}
use Rattle.seen_logs.specs.Seen.{AreLegal, IsSeenByHand, IsWithin, VisitsOwnPrograms}
use Rattle.seen_logs.proofs.Paired.{list-at}
use Rattle.chronicle.specs.Logs.{Log}
use Rattle.chronicle.specs.Passes.{seen_by_pass}
use Rattle.weaver_locks.specs.declared.hand.Hand.{Hand}
use Rattle.weaver_locks.specs.Hands.{hand_number, seen_by}
use Rattle.weaver_locks.specs.Closing.{AreEntriesOfHands, seen_by_number}
use Rattle.weaver_locks.specs.ClosingLaws.{ClosingLaws}
use Rattle.weaver_locks.proofs.ClosedLogs.{IsClosedLog, IsNumbered, entries_of_hands}
use Rattle.weaver_locks.proofs.Passing.{beginning}

-- there is a hand with this number, and `seen_by_number` gives what it has seen
pub record IsFound (hands : List Hand) (number : ℕ) : Type 0 where
  pub is : IsNumbered hands number
  pub seen_is : seen_by_number hands number ≡ seen_by is.hand

found_here : (hand : Hand) (hands : List Hand) (number : ℕ) → hand_number hand ≡ number → IsFound (hand ∷ hands) number
found_here hand hands number same = record {
  is = record { hand = hand; there = (0, omega arith, refl); number_is = same };
  seen_is = ap (λ (b : Bool). cond b (seen_by hand) (seen_by_number hands number)) (eq-eqb (hand_number hand) number same);
}

found_later : (hand : Hand) (hands : List Hand) (number : ℕ) → hand_number hand ≢ number → IsFound hands number → IsFound (hand ∷ hands) number
found_later hand hands number other found = record {
  is = record { hand = found.is.hand; there = has_tail hand hands found.is.hand found.is.there; number_is = found.is.number_is };
  seen_is = ap (λ (b : Bool). cond b (seen_by hand) (seen_by_number hands number)) (ne_eqb (hand_number hand) number other) ∙ found.seen_is;
}

-- if one of the hands has this number, a hand with it is found, and has seen what counts as seen by the number
pub find_hand : (hands : List Hand) (number : ℕ) → Contains (map hand_number hands) number → IsFound hands number
find_hand [] number c = absurd (omega (arith, c.1))
find_hand (hand ∷ hands) number c = dite (ℕ_discrete (hand_number hand) number)
    (λ same. found_here hand hands number same)
    (λ other. found_later hand hands number other (find_hand hands number
    (⊎_elim (λ same. absurd (other same)) (λ more. more) (has_read (hand_number hand) (map hand_number hands) number c))))

-- the logs at the start and the closed logs, with what each hand has seen of them
pub record IsClosedRun (hands : List Hand) (passes : ℕ) (gates_start : List (Log GateDeed)) (store_start : Log StoreDeed)
    (oracle_start : Log OracleDeed) (shards_start : List (Log ShardDeed)) (gates : List (Log GateDeed)) (store : Log StoreDeed)
    (oracle : Log OracleDeed) (shards : List (Log ShardDeed)) : Type 0 where
  pub gate_logs : (k : ℕ) → IsClosedLog hands (λ h. get_or (map seen_by_pass h.gates.items) k []) passes (get_or gates_start k []) (get_or gates k [])
  pub store_log : IsClosedLog hands (λ h. seen_by_pass h.store) passes store_start store
  pub oracle_log : IsClosedLog hands (λ h. seen_by_pass h.oracle) passes oracle_start oracle
  pub shard_logs : (k : ℕ) → IsClosedLog hands (λ h. get_or (map seen_by_pass h.shards.items) k []) passes (get_or shards_start k []) (get_or shards k [])

module _ (laws : ClosingLaws) (hands : List Hand) (passes : ℕ) (gates_start : List (Log GateDeed)) (store_start : Log StoreDeed)
    (oracle_start : Log OracleDeed) (shards_start : List (Log ShardDeed)) (gates : List (Log GateDeed)) (store : Log StoreDeed)
    (oracle : Log OracleDeed) (shards : List (Log ShardDeed))
    (run : IsClosedRun hands passes gates_start store_start oracle_start shards_start gates store oracle shards) where
  abbrev start_is : Account
  start_is = account_of_logs gates_start store_start oracle_start shards_start

  abbrev closed : Account
  closed = account_of_logs gates store oracle shards

  gate_at : (logs : List (Log GateDeed)) (k : ℕ) → get_or (map gate_entries logs) k [] ≡ gate_entries (get_or logs k [])
  gate_at logs k = list-at gate_entries refl logs k

  shard_at : (logs : List (Log ShardDeed)) (k : ℕ) → get_or (map shard_entries logs) k [] ≡ shard_entries (get_or logs k [])
  shard_at logs k = list-at shard_entries refl logs k

  -- some hand has seen a whole log
  gate_whole : (k : ℕ) (h : Hand) → get_or (map seen_by_pass h.gates.items) k [] ≡ get_or gates k [] → gate_log (seen_by h) k ≡ gate_log closed k
  gate_whole k h whole = gate_at (map seen_by_pass h.gates.items) k ∙ (ap gate_entries whole ∙ sym (gate_at gates k))

  shard_whole : (k : ℕ) (h : Hand) → get_or (map seen_by_pass h.shards.items) k [] ≡ get_or shards k [] → shard_log (seen_by h) k ≡ shard_log closed k
  shard_whole k h whole = shard_at (map seen_by_pass h.shards.items) k ∙ (ap shard_entries whole ∙ sym (shard_at shards k))

  -- the closed logs are legal if what each hand has seen is
  pub closed_legal : (gate_count shard_count : ℕ) → All (λ h. AreLegal gate_count shard_count (seen_by h)) hands
      → AreLegal gate_count shard_count closed
  closed_legal gate_count shard_count legal = record {
    gate_logs = λ home. let a = (run.gate_logs home).longest in
        let l = All-contains (λ h. AreLegal gate_count shard_count (seen_by h)) hands a.1 legal (a.0, a.2, a.3) in
        subst (λ (log : List GateEntry). IsGateLog home shard_count log) (gate_whole home a.1 a.4) (l.gate_logs home);
    hears = λ home. let a = (run.gate_logs home).longest in
        let l = All-contains (λ h. AreLegal gate_count shard_count (seen_by h)) hands a.1 legal (a.0, a.2, a.3) in
        subst (λ (log : List GateEntry). HearsNoMore home log) (gate_whole home a.1 a.4) (l.hears home);
    store_log = let a = run.store_log.longest in
        let l = All-contains (λ h. AreLegal gate_count shard_count (seen_by h)) hands a.1 legal (a.0, a.2, a.3) in
        subst (λ (log : Log StoreDeed). IsStoreLog (store_entries log)) a.4 l.store_log;
    oracle_log = let a = run.oracle_log.longest in
        let l = All-contains (λ h. AreLegal gate_count shard_count (seen_by h)) hands a.1 legal (a.0, a.2, a.3) in
        subst (λ (log : Log OracleDeed). IsOracleLog (oracle_entries log)) a.4 l.oracle_log;
    shard_logs = λ shard. let a = (run.shard_logs shard).longest in
        let l = All-contains (λ h. AreLegal gate_count shard_count (seen_by h)) hands a.1 legal (a.0, a.2, a.3) in
        subst (λ (log : List ShardEntry). IsShardLog gate_count log) (shard_whole shard a.1 a.4) (l.shard_logs shard);
  }

  -- what each hand has seen is within the closed logs
  pub seen_within : (h : Hand) → Contains hands h → IsWithin (seen_by h) closed
  seen_within h there = laws.more (map seen_by_pass h.gates.items) gates (seen_by_pass h.store) store (seen_by_pass h.oracle) oracle (map seen_by_pass h.shards.items) shards
      (λ home. beginning _ _ (All-contains (λ x. IsPrefix (get_or (map seen_by_pass x.gates.items) home []) (get_or gates home [])) hands h
      (run.gate_logs home).prefixes there))
      (beginning _ _ (All-contains (λ x. IsPrefix (seen_by_pass x.store) store) hands h run.store_log.prefixes there))
      (beginning _ _ (All-contains (λ x. IsPrefix (seen_by_pass x.oracle) oracle) hands h run.oracle_log.prefixes there))
      (λ shard. beginning _ _ (All-contains (λ x. IsPrefix (get_or (map seen_by_pass x.shards.items) shard []) (get_or shards shard [])) hands h
      (run.shard_logs shard).prefixes there))

  module _ (all : (n : ℕ) → n < passes → Contains (map hand_number hands) n) where
    found : (n : ℕ) → n < passes → IsFound hands n
    found n low = find_hand hands n (all n low)

    -- each entry of the closed logs was there at the start, or is of a hand, which has seen it
    pub closed_entries : AreEntriesOfHands passes start_is (seen_by_number hands) closed
    closed_entries = record {
      gate_entries = λ home. entries_of_hands gate_pair gate_entry laws.gate_back laws.gate_entries hands
          (λ h. get_or (map seen_by_pass h.gates.items) home []) passes (get_or gates_start home []) (get_or gates home []) (run.gate_logs home)
          (λ n. gate_log (seen_by_number hands n) home)
          (λ n low. let f = found n low in (f.is, ap (λ (a : Account). gate_log a home) f.seen_is ∙ gate_at (map seen_by_pass f.is.hand.gates.items) home))
          (gate_log start_is home) (gate_log closed home) (gate_at gates_start home) (gate_at gates home);
      store_entries = entries_of_hands store_pair store_entry laws.store_back laws.store_entries hands (λ h. seen_by_pass h.store) passes store_start store
          run.store_log (λ n. (seen_by_number hands n).store)
          (λ n low. let f = found n low in (f.is, ap (λ (a : Account). a.store) f.seen_is)) start_is.store closed.store refl refl;
      oracle_entries = entries_of_hands oracle_pair oracle_entry laws.oracle_back laws.oracle_entries hands (λ h. seen_by_pass h.oracle) passes oracle_start
          oracle run.oracle_log (λ n. (seen_by_number hands n).oracle)
          (λ n low. let f = found n low in (f.is, ap (λ (a : Account). a.oracle) f.seen_is)) start_is.oracle closed.oracle refl refl;
      shard_entries = λ shard. entries_of_hands shard_pair shard_entry laws.shard_back laws.shard_entries hands
          (λ h. get_or (map seen_by_pass h.shards.items) shard []) passes (get_or shards_start shard []) (get_or shards shard []) (run.shard_logs shard)
          (λ n. shard_log (seen_by_number hands n) shard)
          (λ n low. let f = found n low in (f.is, ap (λ (a : Account). shard_log a shard) f.seen_is ∙ shard_at (map seen_by_pass f.is.hand.shards.items) shard))
          (shard_log start_is shard) (shard_log closed shard) (shard_at shards_start shard) (shard_at shards shard);
    }

    -- if hands saw what their entries refer to, and visited for own programs, the closed logs are of these hands
    pub closed_of_hands : (shard_count : ℕ) → 1 ≤ passes
        → All (λ h. IsSeenByHand shard_count (hand_number h) start_is (seen_by h)) hands
        → ((n : ℕ) → n < passes → VisitsOwnPrograms n start_is (seen_by_number hands n))
        → AreOfHands shard_count passes start_is (seen_by_number hands) closed
    closed_of_hands shard_count some seen_all visits = record {
      some = some;
      seen = λ n low. let f = found n low in
          subst (λ (z : ℕ × Account). IsSeenByHand shard_count z.0 start_is z.1) (λ i. (f.is.number_is i, sym f.seen_is i))
          (All-contains (λ h. IsSeenByHand shard_count (hand_number h) start_is (seen_by h)) hands f.is.hand seen_all f.is.there);
      own_visits = visits;
      within = λ n low. let f = found n low in subst (λ (a : Account). IsWithin a closed) (sym f.seen_is) (seen_within f.is.hand f.is.there);
      gate_entries = closed_entries.gate_entries;
      store_entries = closed_entries.store_entries;
      oracle_entries = closed_entries.oracle_entries;
      shard_entries = closed_entries.shard_entries;
    }
