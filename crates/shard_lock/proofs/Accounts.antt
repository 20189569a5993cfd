-- What was seen, as an account: the shard's own log in its place, and more of the others.
-- Used by Adding, Meeting, Starting, Visits and crate weaver_locks.
use Rattle.std.proofs.Common.{◌≡◌, ◌≢◌, ℕ, zero, suc, List, [], get_or, refl, sym, ap, subst}
use mathlib.Core.List.{IsPrefix}
use mathlib.Core.Logic.{dite}
use native.Mathlib.Decide.{ℕ_discrete}
use Rattle.weave_entries.specs.declared.gate_log.GateEntry.{GateEntry}
use Rattle.weave_entries.specs.declared.oracle_log.OracleDeed.{OracleDeed}
use Rattle.weave_entries.specs.declared.shard_log.ShardEntry.{ShardEntry}
use Rattle.weave_entries.specs.declared.store_log.StoreDeed.{StoreDeed}
use Rattle.weave_account.specs.GoesOn.{IsBeginningOf}
use Rattle.seen_logs.specs.Seen.{GatesGoOn, IsWithin}
use Rattle.chronicle.specs.Logs.{Log}
use Rattle.lock_row.proofs.Lists.{mapped_on}
use Rattle.seen_logs.specs.Entries.{oracle_entry, store_entry}
use Rattle.oracle_lock.specs.Seen.{of_gates}
use Rattle.shard_lock.specs.Notes.{account_of_shard, at_place}

-- the own log is in its place
pub at_number : (number : ℕ) (own : List ShardEntry) → get_or (at_place number own) number [] ≡ own
unfolding at_place
at_number zero own = refl
at_number (suc number) own = at_number number own

-- with the shard's own log at its place, there is no log at any other place
pub elsewhere : (number k : ℕ) (own : List ShardEntry) → k ≢ number → get_or (at_place number own) k [] ≡ []
unfolding at_place
elsewhere zero zero own other = absurd (other refl)
elsewhere zero (suc k) own other = refl
elsewhere (suc number) zero own other = refl
elsewhere (suc number) (suc k) own other = elsewhere number k own (λ e. other (ap suc e))

-- a property of the own log at each place holds of what was seen, if it holds elsewhere of nothing
pub at_shards : (P : ℕ → List ShardEntry → Type 0) (number : ℕ) (own : List ShardEntry) → P number own → ((k : ℕ) → k ≢ number → P k [])
    → (k : ℕ) → P k (get_or (at_place number own) k [])
at_shards P number own here there k = dite (ℕ_discrete k number)
    (λ e. subst (λ (j : ℕ). P j (get_or (at_place number own) j [])) (sym e) (subst (P number) (sym (at_number number own)) here))
    (λ other. subst (P k) (sym (elsewhere number k own other)) (there k other))

-- the shards' logs go on if the own one does
shards_on : (number : ℕ) (own more : List ShardEntry) → IsBeginningOf own more
    → (k : ℕ) → IsBeginningOf (get_or (at_place number own) k []) (get_or (at_place number more) k [])
shards_on number own more on k =
    let P : List ShardEntry × List ShardEntry → Type 0 = λ z. IsBeginningOf z.0 z.1 in
    dite (ℕ_discrete k number)
    (λ e. subst (λ (j : ℕ). IsBeginningOf (get_or (at_place number own) j []) (get_or (at_place number more) j [])) (sym e)
    (subst P (λ i. (sym (at_number number own) i, sym (at_number number more) i)) on))
    (λ other. subst P (λ i. (sym (elsewhere number k own other) i, sym (elsewhere number k more other) i)) ([], refl))

-- if a shard's log and all that it has seen go on, so does the account of them
pub grows : (number : ℕ) (own more : List ShardEntry) (gates later : List (List GateEntry)) (store last : Log StoreDeed)
    (oracle latest : Log OracleDeed) → IsBeginningOf own more → GatesGoOn (of_gates gates) (of_gates later) → IsPrefix store last
    → IsPrefix oracle latest → IsWithin (account_of_shard number own gates store oracle) (account_of_shard number more later last latest)
grows number own more gates later store last oracle latest own_on gates_on store_on oracle_on = record {
  gates = gates_on;
  store = mapped_on store_entry store last store_on;
  oracle = mapped_on oracle_entry oracle latest oracle_on;
  shards = shards_on number own more own_on;
}
