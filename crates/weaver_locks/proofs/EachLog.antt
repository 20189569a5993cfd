-- What a hand made in each log, and which entries with its number others have seen: for the laws on own entries.
-- Used by `own_entries_of_each_log`, `seen_entries_are_their_authors`, OwnVisits and crates sessions_account,
-- weaver_hands and workers_account.
use Rattle.std.proofs.Common.{◌≡◌, ℕ, eqb, eq-eqb, List, [], map, get_or, sym, ap, ◌∙◌, refl, subst}
use Rattle.std.specs.List.{Contains, filter}
use Rattle.std.proofs.lemmas.List.Elements.{Contains-append_left}
use Rattle.weave_data.proofs.Members.{has_filter, has_none}
use Rattle.weave_entries.specs.declared.gate_log.GateEntry.{GateEntry}
use Rattle.weave_entries.specs.declared.oracle_log.OracleEntry.{OracleEntry}
use Rattle.weave_entries.specs.declared.shard_log.ShardEntry.{ShardEntry}
use Rattle.weave_entries.specs.declared.store_log.StoreEntry.{StoreEntry}
use Rattle.weave_entries.specs.GateReplay.{BegunRequest, begun_in}
use Rattle.weave_account.specs.declared.account.Account.{Account}
use Rattle.weave_account.specs.Account.{gate_log, shard_log}
use Rattle.weave_account.specs.GoesOn.{IsBeginningOf}
use Rattle.seen_logs.specs.Seen.{IsWithin}
use Rattle.seen_logs.proofs.Paired.{list-at}
use Rattle.weaver_locks.specs.declared.hand.Hand.{Hand}
use Rattle.weaver_locks.specs.declared.shared.Shared.{Shared}
use Rattle.weaver_locks.specs.Closing.{entries_by}
use Rattle.weaver_locks.specs.Hands.{hand_number, made_by, seen_by, IsHand}
use Rattle.weaver_locks.proofs.OwnLogs.{made_of_seen}

-- what is made of each list of a row, at a place
pub row-at : {A : Type 0} (f : List A → List A) → f [] ≡ [] → (row : List (List A)) (k : ℕ) → get_or (map f row) k [] ≡ f (get_or row k [])
row-at f none row k = list-at f none row k

-- the entries of a log with this author, at each place
module _ (number : ℕ) (account : Account) where
  -- the author's part of a gatekeeper's log has just the entries there with its number
  pub gate-by : (home : ℕ) → gate_log (entries_by number account) home ≡ filter (λ (e : GateEntry). eqb e.author number) (gate_log account home)
  gate-by = row-at (filter (λ (e : GateEntry). eqb e.author number)) refl account.gates

  -- one author's part of a shard's log is its entries in that log
  pub shard-by : (shard : ℕ) → shard_log (entries_by number account) shard ≡ filter (λ (e : ShardEntry). eqb e.author number) (shard_log account shard)
  shard-by = row-at (filter (λ (e : ShardEntry). eqb e.author number)) refl account.shards

-- what a hand made at each place
module _ (shared : Shared) (hand : Hand) (is : IsHand shared hand) where
  -- what the hand made at a gatekeeper are just the entries with its number that it has seen there
  pub own-gate : (home : ℕ) → gate_log (made_by hand) home ≡ filter (λ (e : GateEntry). eqb e.author (hand_number hand)) (gate_log (seen_by hand) home)
  own-gate home = ap (λ (a : Account). gate_log a home) (made_of_seen shared hand is) ∙ gate-by (hand_number hand) (seen_by hand) home

  -- what a hand made of a shard's log is its entries in what it has seen of it
  pub own-shard : (shard : ℕ) → shard_log (made_by hand) shard ≡ filter (λ (e : ShardEntry). eqb e.author (hand_number hand)) (shard_log (seen_by hand) shard)
  own-shard shard = ap (λ (a : Account). shard_log a shard) (made_of_seen shared hand is) ∙ shard-by (hand_number hand) (seen_by hand) shard

-- an entry with an author's number that was seen is among that author's in the whole log
there : {E : Type 0} (author : E → ℕ) (number : ℕ) (seen whole : List E) → IsBeginningOf seen whole → (e : E) → Contains seen e
    → author e ≡ number → Contains (filter (λ (x : E). eqb (author x) number) whole) e
there {E} author number seen whole on e has by =
    has_filter (λ (x : E). eqb (author x) number) whole e (subst (λ (l : List E). Contains l e) (sym on.1) (Contains-append_left seen on.0 e has))
    (eq-eqb (author e) number by)

module _ (one other : Hand) (closed : Account) (within : IsWithin (seen_by other) closed)
    (made : entries_by (hand_number one) closed ≡ made_by one) where
  -- once locks are closed, an entry with a hand's number that another hand has seen at a gatekeeper is the hand's own
  pub seen-gate-made : (home : ℕ) (e : GateEntry) → Contains (gate_log (seen_by other) home) e → e.author ≡ hand_number one
      → Contains (gate_log (made_by one) home) e
  seen-gate-made home e has by =
      subst (λ (l : List GateEntry). Contains l e) (sym (gate-by (hand_number one) closed home) ∙ ap (λ (a : Account). gate_log a home) made)
      (there (λ (x : GateEntry). x.author) (hand_number one) (gate_log (seen_by other) home) (gate_log closed home) (within.gates home) e has by)

  -- an entry of one hand that another has seen in the store's log was made by the one
  pub seen-store-made : (e : StoreEntry) → Contains (seen_by other).store e → e.author ≡ hand_number one → Contains (made_by one).store e
  seen-store-made e has by =
      subst (λ (l : List StoreEntry). Contains l e) (ap (λ (a : Account). a.store) made)
      (there (λ (x : StoreEntry). x.author) (hand_number one) (seen_by other).store closed.store within.store e has by)

  -- an entry of one hand that another has seen in the oracle's log was made by the one
  pub seen-oracle-made : (e : OracleEntry) → Contains (seen_by other).oracle e → e.author ≡ hand_number one → Contains (made_by one).oracle e
  seen-oracle-made e has by =
      subst (λ (l : List OracleEntry). Contains l e) (ap (λ (a : Account). a.oracle) made)
      (there (λ (x : OracleEntry). x.author) (hand_number one) (seen_by other).oracle closed.oracle within.oracle e has by)

  -- an entry of one hand that another has seen in a shard's log was made by the one
  pub seen-shard-made : (shard : ℕ) (e : ShardEntry) → Contains (shard_log (seen_by other) shard) e → e.author ≡ hand_number one
      → Contains (shard_log (made_by one) shard) e
  seen-shard-made shard e has by =
      subst (λ (l : List ShardEntry). Contains l e) (sym (shard-by (hand_number one) closed shard) ∙ ap (λ (a : Account). shard_log a shard) made)
      (there (λ (x : ShardEntry). x.author) (hand_number one) (shard_log (seen_by other) shard) (shard_log closed shard) (within.shards shard) e has by)

-- a hand that made no entry at gatekeepers began nothing
pub none-begun : (hand : Hand) → ((home : ℕ) → gate_log (made_by hand) home ≡ []) → (home : ℕ) (begun : BegunRequest) → Contains (begun_in (gate_log (made_by hand) home)) begun → ⊥
none-begun hand none home begun h = has_none begun (subst (λ (l : List GateEntry). Contains (begun_in l) begun) (none home) h)
