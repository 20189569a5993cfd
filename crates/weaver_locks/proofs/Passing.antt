-- Logs that a pass has seen, and to which it added nothing.
-- Used by ClosedRun, Following, Leaving and Sending.
use Rattle.std.proofs.Common.{◌≡◌, inl, inr, ℕ, ◌<◌, List, [], ◌∷◌, ◌++◌, length, map, get_or, refl, sym, ap, ◌∙◌, subst, arith}
use Rattle.std.proofs.lemmas.Bool.{cases_lt}
use Rattle.std.proofs.lemmas.List.{append-nil, get_or_past, get_or-map, length-map, map-append}
use mathlib.Core.List.{IsPrefix}
use Rattle.weave_entries.specs.declared.gate_log.GateDeed.{GateDeed}
use Rattle.weave_entries.specs.declared.gate_log.GateEntry.{GateEntry}
use Rattle.weave_entries.specs.declared.oracle_log.OracleDeed.{OracleDeed}
use Rattle.weave_entries.specs.declared.shard_log.ShardDeed.{ShardDeed}
use Rattle.weave_entries.specs.declared.shard_log.ShardEntry.{ShardEntry}
use Rattle.weave_entries.specs.declared.store_log.StoreDeed.{StoreDeed}
use Rattle.weave_account.specs.declared.account.Account.{Account}
use Rattle.weave_account.specs.Account.{gate_log, shard_log}
use Rattle.weave_account.specs.GoesOn.{IsBeginningOf}
use Rattle.seen_logs.specs.Entries.{account_of_logs, gate_entry, gate_pair, oracle_entry, oracle_pair, shard_entry, shard_pair, store_entry, store_pair}
use Rattle.chronicle.specs.declared.pass.Pass.{Pass}
use Rattle.chronicle.specs.Logs.{Log, entries_of}
use Rattle.chronicle.specs.Passes.{number_of, seen_by_pass}
use Rattle.lock_row.proofs.Lists.{one_of}
use Rattle.weaver_locks.specs.HandLaws.{HandLaws, KeepsPlaces}
use Rattle.weaver_locks.specs.Onward.{GoesOnWithout, OnlySees}
use Rattle.weaver_locks.proofs.Adding.{AddsNone, gate_author, oracle_author, shard_author, store_author}

-- Passes

-- what a list begins, as a part of the account
pub beginning : {E : Type 0} (xs ys : List E) → IsPrefix xs ys → IsBeginningOf xs ys
beginning xs ys on = (on.0, sym on.1)

-- a log that stays as it is goes on without entries of this author
pub stays : {E : Type 0} (number : ℕ) (log : Log E) → GoesOnWithout number log log
stays number log = record { own_is = refl; more = ([], append-nil log) }

-- what a pass has seen that only sees more
pub without : {E : Type 0} (number : ℕ) (p q : Pass E) → number_of p ≡ number → OnlySees p q → GoesOnWithout number (seen_by_pass p) (seen_by_pass q)
without {E} number p q is sees = record {
  own_is = subst (λ (n : ℕ). entries_of n (seen_by_pass q) ≡ entries_of n (seen_by_pass p)) is
      (ap (λ (n : ℕ). entries_of n (seen_by_pass q)) (sym sees.number) ∙ sees.own_is);
  more = sees.more;
}

-- at a place of a row, or past its end
pub at_place : {E : Type 0} (number k : ℕ) (before after : List (Pass E)) → length after ≡ length before
    → ((p : Pass E) → k < length before → GoesOnWithout number (seen_by_pass (get_or before k p)) (seen_by_pass (get_or after k p)))
    → GoesOnWithout number (get_or (map seen_by_pass before) k []) (get_or (map seen_by_pass after) k [])
at_place {E} number k before after long sees =
    let P : Log E × Log E → Type 0 = λ z. GoesOnWithout number z.0 z.1 in
    elim (cases_lt k (length before)) [
      | inl low ↦
          let p = one_of before k low in
          let a : get_or (map seen_by_pass before) k [] ≡ seen_by_pass (get_or before k p) = get_or-map seen_by_pass before k p [] low in
          let b : get_or (map seen_by_pass after) k [] ≡ seen_by_pass (get_or after k p) = get_or-map seen_by_pass after k p [] (omega (arith, low, long)) in
          subst P (λ i. (sym a i, sym b i)) (sees p low)
      | inr past ↦
          let a : get_or (map seen_by_pass before) k [] ≡ [] = get_or_past (map seen_by_pass before) k [] (omega (arith, length-map before seen_by_pass, past)) in
          let b : get_or (map seen_by_pass after) k [] ≡ [] = get_or_past (map seen_by_pass after) k [] (omega (arith, length-map after seen_by_pass, long, past)) in
          subst P (λ i. (sym a i, sym b i)) (stays number [])
    ]

-- Logs of entries

module _ {D R : Type 0} (pair : R → ℕ × D) (entry : ℕ × D → R) (back : (log : Log D) → map pair (map entry log) ≡ log)
    (author : R → ℕ) (author_is : (r : R) → (pair r).0 ≡ author r) (places : KeepsPlaces D) where
  -- if a log goes on without new entries of an author, it does so as its machine has the entries, too
  pub none_of : (number : ℕ) (xs ys : Log D) → GoesOnWithout number xs ys → AddsNone author number (map entry xs) (map entry ys)
  none_of number xs ys on before e after at new =
      let split : ys ≡ map pair before ++ pair e ∷ map pair after =
      sym (back ys) ∙ (ap (λ (l : List R). map pair l) at ∙ map-append pair before (e ∷ after)) in
      let low : length (map pair before) < length xs = places number xs ys (map pair before) (map pair after) (pair e) on.more on.own_is split
      (author_is e ∙ new.0) in
      absurd (omega (arith, low, new.1, length-map before pair, length-map xs entry))

-- Accounts of logs

module _ (laws : HandLaws) (number : ℕ) (gates later : List (Log GateDeed)) (store last : Log StoreDeed) (oracle asked : Log OracleDeed)
    (shards further : List (Log ShardDeed)) where
  abbrev before : Account
  before = account_of_logs gates store oracle shards

  abbrev after : Account
  after = account_of_logs later last asked further

  -- if what was seen of a gatekeeper's log goes on without new entries of an author, so it does in the account
  pub gate_none : (home : ℕ) → GoesOnWithout number (get_or gates home []) (get_or later home [])
      → AddsNone gate_author number (gate_log before home) (gate_log after home)
  gate_none home on =
      let P : List GateEntry × List GateEntry → Type 0 = λ z. AddsNone gate_author number z.0 z.1 in
      subst P (λ i. (sym (laws.at_gate gates store oracle shards home) i, sym (laws.at_gate later last asked further home) i))
      (none_of gate_pair gate_entry laws.gate_back gate_author (λ r. refl) laws.gate_places number (get_or gates home []) (get_or later home []) on)

  -- a store's log that goes on without entries of an author adds none of it to the account
  pub store_none : GoesOnWithout number store last → AddsNone store_author number before.store after.store
  store_none on = none_of store_pair store_entry laws.store_back store_author (λ r. refl) laws.store_places number store last on

  -- an oracle's log that goes on without entries of an author adds none of it to the account
  pub oracle_none : GoesOnWithout number oracle asked → AddsNone oracle_author number before.oracle after.oracle
  oracle_none on = none_of oracle_pair oracle_entry laws.oracle_back oracle_author (λ r. refl) laws.oracle_places number oracle asked on

  -- a shard's log that goes on without entries of an author adds none of it to the account
  pub shard_none : (shard : ℕ) → GoesOnWithout number (get_or shards shard []) (get_or further shard [])
      → AddsNone shard_author number (shard_log before shard) (shard_log after shard)
  shard_none shard on =
      let P : List ShardEntry × List ShardEntry → Type 0 = λ z. AddsNone shard_author number z.0 z.1 in
      subst P (λ i. (sym (laws.at_shard gates store oracle shards shard) i, sym (laws.at_shard later last asked further shard) i))
      (none_of shard_pair shard_entry laws.shard_back shard_author (λ r. refl) laws.shard_places number (get_or shards shard [])
      (get_or further shard []) on)
