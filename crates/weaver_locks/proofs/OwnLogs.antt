-- The entries of a hand in the closed logs are its own.
-- Used by `own_entries_are_those_seen`, Closings and EachLog.
use Rattle.std.proofs.Common.{◌≡◌, ℕ, eqb, List, [], length, map, get_or, refl, sym, ap, ◌∙◌, arith}
use Rattle.std.specs.List.{All, Contains, filter}
use Rattle.std.proofs.lemmas.List.{get_or-map, get_or_default, length-map}
use Rattle.std.proofs.lemmas.List.Elements.{All-contains}
use Rattle.weave_entries.specs.declared.gate_log.GateDeed.{GateDeed}
use Rattle.weave_entries.specs.declared.gate_log.GateEntry.{GateEntry}
use Rattle.weave_entries.specs.declared.oracle_log.OracleDeed.{OracleDeed}
use Rattle.weave_entries.specs.declared.oracle_log.OracleEntry.{OracleEntry}
use Rattle.weave_entries.specs.declared.shard_log.ShardDeed.{ShardDeed}
use Rattle.weave_entries.specs.declared.shard_log.ShardEntry.{ShardEntry}
use Rattle.weave_entries.specs.declared.store_log.StoreDeed.{StoreDeed}
use Rattle.weave_entries.specs.declared.store_log.StoreEntry.{StoreEntry}
use Rattle.seen_logs.specs.Entries.{account_of_logs, gate_entry, oracle_entry, shard_entry, store_entry}
use Rattle.chronicle.specs.declared.pass.Pass.{Pass}
use Rattle.chronicle.specs.Logs.{Log, entries_of}
use Rattle.chronicle.specs.Passes.{number_of, seen_by_pass, own_entries}
use Rattle.lock_row.proofs.Lists.{mapped_alike}
use Rattle.weaver_locks.specs.declared.hand.Hand.{Hand}
use Rattle.weaver_locks.specs.declared.shared.Shared.{Shared}
use Rattle.weaver_locks.specs.Hands.{hand_number, made_by, seen_by, IsHand}
use Rattle.weaver_locks.specs.Closing.{entries_by}
use Rattle.weaver_locks.proofs.Lists.{filtered, map_twice}
use Rattle.weaver_locks.proofs.ClosedRun.{IsClosedRun}
use Rattle.weaver_locks.proofs.HandParts.{HaveItsNumber}

module _ {E R : Type 0} (entry : ℕ × E → R) (author : R → ℕ) (same : (x : ℕ × E) → author (entry x) ≡ x.0) (number : ℕ) where
  test_of : (x : ℕ × E) → eqb (author (entry x)) number ≡ eqb x.0 number
  test_of x = ap (λ (n : ℕ). eqb n number) (same x)

  -- the entries with this author, of the log of a lock
  pub own_in : (log : Log E) (p : Pass E) → number_of p ≡ number → entries_of number log ≡ entries_of number (seen_by_pass p)
      → filter (λ (r : R). eqb (author r) number) (map entry log) ≡ map entry (own_entries p)
  own_in log p its is = filtered (λ (r : R). eqb (author r) number) (λ (x : ℕ × E). eqb x.0 number) entry test_of log
      ∙ ap (map entry) (is ∙ ap (λ (n : ℕ). entries_of n (seen_by_pass p)) (sym its))

  -- and of the logs of a row
  pub own_in_row : (logs : List (Log E)) (row : List (Pass E)) → length logs ≡ length row → All (λ p. number_of p ≡ number) row
      → ((k : ℕ) → entries_of number (get_or logs k []) ≡ entries_of number (get_or (map seen_by_pass row) k []))
      → map (filter (λ (r : R). eqb (author r) number)) (map (map entry) logs) ≡ map (map entry) (map own_entries row)
  own_in_row logs row long numbers is =
      map_twice (filter (λ (r : R). eqb (author r) number)) (map entry) logs
      ∙ (mapped_alike (λ (p : Pass E). map entry (own_entries p)) (λ (log : Log E). filter (λ (r : R). eqb (author r) number) (map entry log)) row logs long
      (λ k p log low. own_in (get_or logs k log) (get_or row k p) (numbers k p low)
      (ap (entries_of number) (get_or_default logs k log [] (omega (arith, low, long))) ∙ (is k ∙ ap (entries_of number) (get_or-map seen_by_pass row k p [] low))))
      ∙ sym (map_twice (map entry) own_entries row))

-- what a hand made is what it has seen of itself
pub made_of_seen : (shared : Shared) (hand : Hand) → IsHand shared hand → made_by hand ≡ entries_by (hand_number hand) (seen_by hand)
made_of_seen shared hand is =
    let n : ℕ = hand_number hand in
    let gates = map seen_by_pass hand.gates.items in
    let shards = map seen_by_pass hand.shards.items in
    let gates_own = own_in_row gate_entry (λ (e : GateEntry). e.author) (λ x. refl) n gates hand.gates.items
    (length-map hand.gates.items seen_by_pass) is.gate_numbers (λ k. refl) in
    let store_own = own_in store_entry (λ (e : StoreEntry). e.author) (λ x. refl) n (seen_by_pass hand.store) hand.store refl refl in
    let oracle_own = own_in oracle_entry (λ (e : OracleEntry). e.author) (λ x. refl) n (seen_by_pass hand.oracle) hand.oracle is.oracle_number refl in
    let shards_own = own_in_row shard_entry (λ (e : ShardEntry). e.author) (λ x. refl) n shards hand.shards.items
    (length-map hand.shards.items seen_by_pass) is.shard_numbers (λ k. refl) in
    sym (λ i. record { gates = gates_own i; store = store_own i; oracle = oracle_own i; shards = shards_own i; sessions = [] })

module _ (hands : List Hand) (passes : ℕ) (gates_start : List (Log GateDeed)) (store_start : Log StoreDeed)
    (oracle_start : Log OracleDeed) (shards_start : List (Log ShardDeed)) (gates : List (Log GateDeed)) (store : Log StoreDeed)
    (oracle : Log OracleDeed) (shards : List (Log ShardDeed))
    (run : IsClosedRun hands passes gates_start store_start oracle_start shards_start gates store oracle shards) where
  -- the hand's passes are of these locks, and have its number
  pub record IsWhole (hand : Hand) : Type 0 where
    pub gates_long : length gates ≡ length hand.gates.items
    pub shards_long : length shards ≡ length hand.shards.items
    pub numbers : HaveItsNumber hand

  -- the entries with a hand's number in the closed logs are those that it made, if its passes are of these locks
  pub closed_own : (hand : Hand) → Contains hands hand → IsWhole hand
      → entries_by (hand_number hand) (account_of_logs gates store oracle shards) ≡ made_by hand
  closed_own hand there whole =
      let n : ℕ = hand_number hand in
      let gates_own = own_in_row gate_entry (λ (e : GateEntry). e.author) (λ x. refl) n gates hand.gates.items whole.gates_long whole.numbers.gates
      (λ k. All-contains (λ h. entries_of (hand_number h) (get_or gates k []) ≡ entries_of (hand_number h) (get_or (map seen_by_pass h.gates.items) k []))
      hands hand (run.gate_logs k).own there) in
      let store_own = own_in store_entry (λ (e : StoreEntry). e.author) (λ x. refl) n store hand.store refl
      (All-contains (λ h. entries_of (hand_number h) store ≡ entries_of (hand_number h) (seen_by_pass h.store)) hands hand run.store_log.own there) in
      let oracle_own = own_in oracle_entry (λ (e : OracleEntry). e.author) (λ x. refl) n oracle hand.oracle whole.numbers.oracle
      (All-contains (λ h. entries_of (hand_number h) oracle ≡ entries_of (hand_number h) (seen_by_pass h.oracle)) hands hand run.oracle_log.own there) in
      let shards_own = own_in_row shard_entry (λ (e : ShardEntry). e.author) (λ x. refl) n shards hand.shards.items whole.shards_long whole.numbers.shards
      (λ k. All-contains (λ h. entries_of (hand_number h) (get_or shards k []) ≡ entries_of (hand_number h) (get_or (map seen_by_pass h.shards.items) k []))
      hands hand (run.shard_logs k).own there) in
      λ i. record { gates = gates_own i; store = store_own i; oracle = oracle_own i; shards = shards_own i; sessions = [] }
