-- The stamps that the store keeps were begun in what it has seen of the gatekeepers' logs.
-- Used by `commit`, `judge_over`, `own_transactions_are_new`, `pairs_tell_entries` and crate weaver_locks.
use Rattle.std.proofs.Common.{◌≡◌, ◌≢◌, ℕ, ◌≤◌, List, [], ◌∷◌, length, get_or, Contains, AllPairs, inl, inr, refl, sym, ap, ◌∙◌, subst}
use Rattle.std.specs.Prelude.{All}
use Rattle.std.proofs.lemmas.List.Elements.{Contains-get_or}
use Rattle.weave_data.proofs.Members.{cut_at, has_head, has_map, has_read, map_has, only}
use Rattle.weave_data.proofs.Ordered.{pairs_cases}
use Rattle.vector_stamp.specs.declared.clock.Stamp.{Stamp}
use Rattle.vector_stamp.specs.Order.{id_of}
use Rattle.weave_entries.specs.GateRules.{IsGateLog}
use Rattle.weave_entries.specs.declared.gate_log.GateEntry.{GateEntry}
use Rattle.weave_entries.specs.declared.oracle_log.OracleDeed.{OracleDeed}
use Rattle.weave_entries.specs.declared.oracle_log.OracleDeed.TheVariants.{Settled}
use Rattle.weave_entries.specs.declared.oracle_log.OracleEntry.{OracleEntry}
use Rattle.weave_entries.specs.declared.store_log.StoreEntry.{StoreEntry}
use Rattle.weave_entries.specs.GateReplay.{BegunRequest, txs_of}
use Rattle.weave_entries.specs.StoreReplay.{Judgement, commits_of, judged_by, judgements_of}
use Rattle.weave_entries.specs.StoreRule.{stamps_judged}
use Rattle.weave_entries.proofs.OwnStamps.{tx-begun}
use Rattle.backing_store.specs.Commits.{stamps_kept}
use Rattle.weave_account.specs.declared.account.Account.{Account}
use Rattle.weave_account.specs.Account.{IsBegunStamp, all_begun, gate_log}
use Rattle.weave_account.proofs.Beginning.{all-in}
use Rattle.weave_account.proofs.SeenIds.{IdsDiffer}
use Rattle.seen_logs.specs.References.{OracleRefersAs}
use Rattle.seen_logs.specs.Seen.{GatesGoOn, StoreRefersWithin}
use Rattle.oracle_lock.specs.Seen.{of_gates}
use Rattle.seen_logs.specs.Entries.{store_entries, store_pairs}
use Rattle.store_lock.specs.Seen.{store_seen, IsBegunTx, StoreIsKept}

-- the stamp of a transaction was begun
pub tx-stamp : (logs : List (List GateEntry)) (home : ℕ) (begun : BegunRequest) → Contains (txs_of (gate_log (of_gates logs) home)) begun
    → IsBegunStamp (of_gates logs) begun.stamp
tx-stamp logs home begun h =
    has_map (λ (b : BegunRequest). b.stamp) (all_begun (of_gates logs)) begun (all-in (of_gates logs) home begun (tx-begun (get_or logs home []) begun h))

-- the stamp of a judgement was begun
judged-stamp : (gates : List (List GateEntry)) (oracle : List OracleEntry) (log : List StoreEntry) → StoreRefersWithin (store_seen gates oracle log)
    → (event : Stamp) → Contains (stamps_judged log) event → IsBegunStamp (of_gates gates) event
judged-stamp gates oracle log refers event h =
    let judged = map_has (λ (j : Judgement). j.stamp) (judgements_of log) event h in
    let entry = map_has (λ (e : StoreEntry). judged_by e.author e.deed) log judged.0 judged.1 in
    let cut = cut_at log entry.0 entry.1 in
    let as_seen = refers cut.before entry.0 cut.after cut.is in
    let own : Judgement = judged_by (entry.0).author (entry.0).deed in
    subst (λ (s : Stamp). IsBegunStamp (of_gates gates) s) (ap (λ (j : Judgement). j.stamp) entry.2 ∙ judged.2)
    (tx-stamp gates as_seen.home (record { author = own.author; request = own.request; stamp = own.stamp }) as_seen.begun)

-- a begun stamp stays begun while more is seen
abbrev pub StampsStay : Type 0
StampsStay = (seen next : Account) → GatesGoOn seen next → (deed : OracleDeed) → OracleRefersAs seen deed → OracleRefersAs next deed

-- the stamp of a begun request is one still when more of the gatekeepers' logs is seen
pub stamp-stays : StampsStay → (logs more : List (List GateEntry)) → GatesGoOn (of_gates logs) (of_gates more) → (event : Stamp)
    → IsBegunStamp (of_gates logs) event → IsBegunStamp (of_gates more) event
stamp-stays stays logs more on event h =
    stays (of_gates logs) (of_gates more) on (Settled [] event []) (λ stamp has. subst (λ (s : Stamp). IsBegunStamp (of_gates logs) s)
    (only event stamp has) h) event (has_head event [])

abbrev pub kept_in : List StoreEntry → List Stamp
kept_in log = stamps_kept (commits_of log)

-- what the store keeps, and a stamp that was begun, were begun in what is seen by now
pub kept-begun : StampsStay → ((log : List StoreEntry) (one : Stamp) → Contains (kept_in log) one → Contains (stamps_judged log) one)
    → (gates more : List (List GateEntry)) (oracle : List OracleEntry) (log : List StoreEntry) (author request : ℕ) (stamp : Stamp)
    → StoreRefersWithin (store_seen gates oracle log) → GatesGoOn (of_gates gates) (of_gates more)
    → IsBegunTx gates author request stamp
    → (event : Stamp) → Contains (stamp ∷ kept_in log) event → IsBegunStamp (of_gates more) event
kept-begun stays judged gates more oracle log author request stamp refers on begun event h =
    stamp-stays stays gates more on event
    (elim (has_read stamp (kept_in log) event h) [
      | inl same ↦ subst (λ (s : Stamp). IsBegunStamp (of_gates gates) s) same
          (tx-stamp gates begun.0 (record { author = author; request = request; stamp = stamp }) begun.1)
      | inr more ↦ judged-stamp gates oracle log refers event (judged log event more)
    ])

-- New stamps

module _ (ids : (shards : ℕ) (seen : Account) → length seen.gates ≤ 8
    → ((home : ℕ) → IsGateLog home shards (gate_log seen home))
    → AllPairs IdsDiffer (all_begun seen)) where
  -- a transaction whose request its author hasn't had judged has a new stamp
  pub own-new : (shards : ℕ) (gates : List (List GateEntry)) (oracle : List OracleEntry) (log : List StoreEntry)
      (author request : ℕ)
      (stamp : Stamp) → StoreIsKept shards gates oracle log → length gates ≤ 8 → IsBegunTx gates author request stamp
      → ((judged : Judgement) → Contains (judgements_of log) judged → judged.author ≡ author → judged.request ≢ request)
      → All (λ (judged : Stamp). id_of judged ≢ id_of stamp) (stamps_judged log)
  own-new shards gates oracle log author request stamp kept few begun others =
      λ k d low. fact (get_or (stamps_judged log) k d) (Contains-get_or (stamps_judged log) k d low)
    where
      fact : (one : Stamp) → Contains (stamps_judged log) one → id_of one ≢ id_of stamp
      fact one h same =
          let judged = map_has (λ (j : Judgement). j.stamp) (judgements_of log) one h in
          let entry = map_has (λ (e : StoreEntry). judged_by e.author e.deed) log judged.0 judged.1 in
          let cut = cut_at log entry.0 entry.1 in
          let as_seen = kept.refers cut.before entry.0 cut.after cut.is in
          let its : Judgement = judged_by (entry.0).author (entry.0).deed in
          let first : BegunRequest = record { author = its.author; request = its.request; stamp = its.stamp } in
          let second : BegunRequest = record { author = author; request = request; stamp = stamp } in
          let one_id : id_of first.stamp ≡ id_of second.stamp = ap id_of (ap (λ (j : Judgement). j.stamp) entry.2 ∙ judged.2) ∙ same in
          elim (pairs_cases IdsDiffer (all_begun (of_gates gates)) (ids shards (of_gates gates) few kept.legal.gate_logs) first second
          (all-in (of_gates gates) as_seen.home first (tx-begun (get_or gates as_seen.home []) first as_seen.begun))
          (all-in (of_gates gates) begun.0 second (tx-begun (get_or gates begun.0 []) second begun.1))) [
            | inl is ↦ others judged.0 judged.1 (ap (λ (j : Judgement). j.author) (sym entry.2) ∙ ap (λ (b : BegunRequest). b.author) is)
                (ap (λ (j : Judgement). j.request) (sym entry.2) ∙ ap (λ (b : BegunRequest). b.request) is)
            | inr (inl differ) ↦ differ one_id
            | inr (inr differ) ↦ differ (sym one_id)
          ]

-- the entries come back from the pairs that the lock has
pub pairs-back : (log : List StoreEntry) → store_entries (store_pairs log) ≡ log
pairs-back [] = refl
pairs-back (entry ∷ log) = ap (λ (l : List StoreEntry). entry ∷ l) (pairs-back log)
