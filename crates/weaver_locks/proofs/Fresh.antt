-- Machines without entries may be put behind locks.
-- Used by `new_machines_may_start`.
use Rattle.std.proofs.Common.{◌≡◌, ℕ, ◌<◌, ◌≤◌, List, [], ◌∷◌, ◌++◌, length, map, get_or, inl, inr, sym, ap, ◌∙◌, subst, arith, length-append}
use Rattle.std.proofs.lemmas.Bool.{cases_lt}
use Rattle.std.proofs.lemmas.List.{get_or_past, get_or-map, length-map}
use Rattle.weave_entries.specs.GateRules.{IsGateLog}
use Rattle.weave_entries.specs.OracleRules.{IsOracleLog}
use Rattle.weave_entries.specs.ShardRules.{IsShardLog}
use Rattle.weave_entries.specs.StoreRule.{IsStoreLog}
use Rattle.weave_account.specs.declared.account.Account.{Account}
use Rattle.weave_account.specs.Account.{gate_log, shard_log}
use Rattle.gatekeeper.specs.Gates.{GateView}
use Rattle.shard_node.specs.Shards.{ShardView}
use Rattle.lock_row.proofs.Lists.{one_of}
use Rattle.seen_logs.specs.Seen.{AreLegal, IsSeenByHand, IsWithin}
use Rattle.weaver_locks.specs.Closing.{logs_of, AreInOrder, MayStart}

-- the log at each place is empty, or there is none
nothing-at : {A E : Type 0} (log_of : A → List E) (xs : List A) → ((k : ℕ) (d : A) → k < length xs → log_of (get_or xs k d) ≡ [])
    → (k : ℕ) → get_or (map log_of xs) k [] ≡ []
nothing-at {A} {E} log_of xs none k = elim (cases_lt k (length xs)) [
  | inl low ↦ get_or-map log_of xs k (one_of xs k low) [] low ∙ none k (one_of xs k low) low
  | inr past ↦ get_or_past (map log_of xs) k [] (omega (arith, length-map xs log_of, past))
]

-- an empty log has no entry
no-entry : {E : Type 0} (before : List E) (entry : E) (after : List E) → [] ≡ before ++ entry ∷ after → ⊥
no-entry {E} before entry after at =
    let many : length {A = E} [] ≡ length (before ++ entry ∷ after) = ap (λ (l : List E). length l) at in
    omega (arith, many, length-append before (entry ∷ after))

module _ (within : (seen : Account) → IsWithin seen seen) (gate_first : (home shards : ℕ) → IsGateLog home shards [])
    (store_first : IsStoreLog []) (oracle_first : IsOracleLog []) (shard_first : (gates : ℕ) → IsShardLog gates [])
    (gates : List GateView) (shards : List ShardView)
    (no_gate : (k : ℕ) (g : GateView) → k < length gates → (get_or gates k g).log ≡ [])
    (no_shard : (k : ℕ) (s : ShardView) → k < length shards → (get_or shards k s).log ≡ []) where
  abbrev fresh : Account
  fresh = logs_of gates [] [] shards

  gate-none : (home : ℕ) → gate_log fresh home ≡ []
  gate-none home = nothing-at (λ (gate : GateView). gate.log) gates no_gate home

  shard-none : (shard : ℕ) → shard_log fresh shard ≡ []
  shard-none shard = nothing-at (λ (one : ShardView). one.log) shards no_shard shard

  legal : AreLegal (length gates) (length shards) fresh
  legal = record {
    gate_logs = λ home. subst (IsGateLog home (length shards)) (sym (gate-none home)) (gate_first home (length shards));
    hears = λ home before entry after at. absurd (no-entry before entry after (sym (gate-none home) ∙ at));
    store_log = store_first;
    oracle_log = oracle_first;
    shard_logs = λ shard. subst (IsShardLog (length gates)) (sym (shard-none shard)) (shard_first (length gates));
  }

  seen : (number : ℕ) → IsSeenByHand (length shards) number fresh fresh
  seen number = record {
    starts = within fresh;
    gate_entries = λ home before entry after at mine. absurd (no-entry before entry after (sym (gate-none home) ∙ at));
    store_entries = λ before entry after at mine. absurd (no-entry before entry after at);
    oracle_entries = λ before entry after at mine. absurd (no-entry before entry after at);
    shard_entries = λ shard before entry after at mine. absurd (no-entry before entry after (sym (shard-none shard) ∙ at));
    asks_once = λ shard other before rest a b asked again stamps lasts.
        absurd (no-entry before _ asked.after (sym (shard-none shard) ∙ asked.at));
  }

  -- from 1 to 8 gatekeepers and from 1 to 16 shards, without entries and in order, may be put behind locks
  pub may-start : 1 ≤ length gates → length gates ≤ 8 → 1 ≤ length shards → length shards ≤ 16 → AreInOrder gates shards
      → MayStart gates [] [] shards
  may-start some few some_shard few_shards order = record {
    some_gate = some;
    few_gates = few;
    some_shard = some_shard;
    few_shards = few_shards;
    order = order;
    legal = legal;
    refers = seen;
  }
