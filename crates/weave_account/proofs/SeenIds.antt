-- No two begins in gatekeepers' logs, as far as they were seen, have the same id.
-- Used by `begun_stamps_are_coherent` and crates shard_lock, store_lock and weaver_locks.
use Rattle.std.proofs.Common.{◌≡◌, ◌≢◌, ℕ, suc, ◌+◌, ◌<◌, ◌≤◌, List, [], ◌∷◌, ◌++◌, length, get_or, AllPairs, Contains, IsTrue, inl, inr, subst, ap, arith}
use Rattle.std.specs.List.{flat_map}
use Rattle.std.proofs.lemmas.List.Elements.{Contains-append_cases, Contains-get_or}
use Rattle.weave_data.proofs.Members.{has_none, has_head, has_tail}
use Rattle.weave_data.proofs.Ordered.{pairs_none, pairs_cons, pairs_head, pairs_tail}
use Rattle.vector_stamp.specs.declared.clock.EventId.{EventId}
use Rattle.vector_stamp.specs.Order.{id_of, stamp_before}
use Rattle.weave_entries.specs.declared.gate_log.GateEntry.{GateEntry}
use Rattle.weave_entries.specs.GateReplay.{BegunRequest, begun_in}
use Rattle.weave_entries.specs.GateRules.{IsGateLog}
use Rattle.weave_account.specs.declared.account.Account.{Account}
use Rattle.weave_account.specs.Account.{all_begun, gate_log}
use Rattle.weave_account.specs.LowerLaws.{LawsForAccounts}
use Rattle.weave_account.proofs.RepliesClause.{begins-rise}

module _ {A : Type 0} (R : A → A → Type 0) where
  -- two lists put together, if each of the first has it to each of the second
  pairs-joined : (xs ys : List A) → AllPairs R xs → AllPairs R ys → ((x y : A) → Contains xs x → Contains ys y → R x y)
      → AllPairs R (xs ++ ys)
  pairs-joined [] ys px py across = py
  pairs-joined (x ∷ xs) ys px py across =
      pairs_cons R x (xs ++ ys)
      (λ z h. elim (Contains-append_cases xs ys z h) [ inl first ↦ pairs_head R x xs z px first | inr later ↦ across x z (has_head x xs) later ])
      (pairs-joined xs ys (pairs_tail R x xs px) py (λ y z hy hz. across y z (has_tail x xs y hy) hz))

-- two begins have different ids
abbrev pub IdsDiffer : BegunRequest → BegunRequest → Type 0
IdsDiffer a b = id_of a.stamp ≢ id_of b.stamp

module _ (laws : LawsForAccounts) (shards : ℕ) where
  home-of : (home : ℕ) (log : List GateEntry) → home < 8 → IsGateLog home shards log → (b : BegunRequest) → Contains (begun_in log) b
      → b.stamp.home ≡ home
  home-of home log below is b h = laws.stamps_home home shards log below is b.stamp (laws.own_stamp log b h)

  one-log : (home : ℕ) (log : List GateEntry) → home < 8 → IsGateLog home shards log → AllPairs IdsDiffer (begun_in log)
  one-log home log below is i j d less within same =
      let rising = begins-rise laws log (laws.rise home shards log below is) in
      let coherent = laws.coherent home shards log below is in
      let a = get_or (begun_in log) i d in
      let b = get_or (begun_in log) j d in
      let in-a : Contains (begun_in log) a = Contains-get_or (begun_in log) i d (omega (arith, less, within)) in
      let in-b : Contains (begun_in log) b = Contains-get_or (begun_in log) j d within in
      let one : a.stamp ≡ b.stamp = coherent.one_of_id a.stamp b.stamp (laws.own_stamp log a in-a) (laws.own_stamp log b in-b) same in
      laws.irreflexive b.stamp (subst (λ s. IsTrue (stamp_before s b.stamp)) one (rising i j d less within))

  all-logs : (from : ℕ) (logs : List (List GateEntry)) → from + length logs ≤ 8
      → ((i : ℕ) → IsGateLog (from + i) shards (get_or logs i []))
      → AllPairs IdsDiffer (flat_map begun_in logs) × ((b : BegunRequest) → Contains (flat_map begun_in logs) b → from ≤ b.stamp.home)
  all-logs from [] few each = (pairs_none IdsDiffer, λ b h. absurd (has_none b h))
  all-logs from (log ∷ logs) few each =
      let many : from + suc (length logs) ≤ 8 = few in
      let below : from < 8 = omega (arith, many) in
      let here : from + 0 ≡ from = omega arith in
      let is : IsGateLog from shards log = subst (λ n. IsGateLog n shards log) here (each 0) in
      let shift : (i : ℕ) → from + suc i ≡ (from + 1) + i = λ i. omega arith in
      let rest = all-logs (from + 1) logs (omega (arith, many)) (λ i. subst (λ n. IsGateLog n shards (get_or logs i [])) (shift i) (each (suc i))) in (
        pairs-joined IdsDiffer (begun_in log) (flat_map begun_in logs) (one-log from log below is) rest.0 (λ a b ha hb same.
            let first = home-of from log below is a ha in
            let second = rest.1 b hb in
            let homes : a.stamp.home ≡ b.stamp.home = ap (λ (id : EventId). id.home) same in
            omega (arith, first, second, homes)),
        λ b h. elim (Contains-append_cases (begun_in log) (flat_map begun_in logs) b h) [
          | inl first ↦ (let e = home-of from log below is b first in omega (arith, e))
          | inr later ↦ (let e = rest.1 b later in omega (arith, e))
        ],
      )

  -- no two begins seen have the same id
  pub seen-ids : (seen : Account) → length seen.gates ≤ 8 → ((home : ℕ) → IsGateLog home shards (gate_log seen home))
      → AllPairs (λ (a b : BegunRequest). id_of a.stamp ≢ id_of b.stamp) (all_begun seen)
  seen-ids seen few logs =
      let from-0 : (i : ℕ) → i ≡ 0 + i = λ i. omega arith in
      let many : 0 + length seen.gates ≤ 8 = omega (arith, few) in
      (all-logs 0 seen.gates many (λ i. subst (λ n. IsGateLog n shards (gate_log seen i)) (from-0 i) (logs i))).0
