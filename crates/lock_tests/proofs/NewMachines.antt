-- New machines, one for each place: they are in order, and their logs are empty.
-- Used by `new_locks`.
use Rattle.std.proofs.Common.{◌≡◌, ℕ, zero, suc, ◌<◌, List, [], ◌∷◌, ◌++◌, length, map, get_or, inl, inr, refl, sym, ap, ◌∙◌, arith}
use Rattle.std.specs.List.{flat_map}
use Rattle.std.proofs.lemmas.Bool.{cases_lt}
use Rattle.std.proofs.lemmas.List.{get_or-map, get_or_past, length-map}
use Rattle.gatekeeper.specs.Gates.{GateView, IsNew}
use Rattle.shard_node.specs.Shards.{ShardView}
use Rattle.weave_entries.specs.declared.shard_log.ShardEntry.{ShardEntry}
use Rattle.weave_entries.specs.ShardReplay.{reads_in}
use Rattle.weave_account.specs.Account.{gate_log, reads_of}
use Rattle.lock_row.proofs.Lists.{one_of}
use Rattle.weaver_locks.specs.Closing.{logs_of, AreInOrder, IsNewShard}

module _ (gates : List GateView) (shards : List ShardView) (gate_count shard_count : ℕ)
    (gates_are : length gates ≡ gate_count) (shards_are : length shards ≡ shard_count)
    (new_gates : (k : ℕ) (g : GateView) → k < gate_count → IsNew k gate_count shard_count (get_or gates k g))
    (new_shards : (k : ℕ) (s : ShardView) → k < shard_count → IsNewShard k gate_count (get_or shards k s)) where
  -- the new machines are in order
  pub in-order : AreInOrder gates shards
  in-order = record {
    homes = λ k g low. (new_gates k g (omega (arith, low, gates_are))).home_is;
    gates_of = λ k g low. (new_gates k g (omega (arith, low, gates_are))).gates_are ∙ sym gates_are;
    shards_of = λ k g low. (new_gates k g (omega (arith, low, gates_are))).shards_are ∙ sym shards_are;
    numbers = λ k s low. ap (λ (v : ShardView). v.number) (new_shards k s (omega (arith, low, shards_are)));
    shard_gates = λ k s low. ap (λ (v : ShardView). v.gates) (new_shards k s (omega (arith, low, shards_are))) ∙ sym gates_are;
  }

  -- the log of each new gatekeeper is empty
  pub no-gate-log : (k : ℕ) (g : GateView) → k < length gates → (get_or gates k g).log ≡ []
  no-gate-log k g low = (new_gates k g (omega (arith, low, gates_are))).log_is

  -- the log of each new shard is empty
  pub no-shard-log : (k : ℕ) (s : ShardView) → k < length shards → (get_or shards k s).log ≡ []
  no-shard-log k s low = ap (λ (v : ShardView). v.log) (new_shards k s (omega (arith, low, shards_are)))

-- no gatekeeper has an entry
pub no-entries : (gates : List GateView) (store : _) (oracle : _) (shards : List ShardView)
    → ((k : ℕ) (g : GateView) → k < length gates → (get_or gates k g).log ≡ []) → (home : ℕ)
    → gate_log (logs_of gates store oracle shards) home ≡ []
no-entries gates store oracle shards none home = elim (cases_lt home (length gates)) [
  | inl low ↦
      let g = one_of gates home low in
      get_or-map (λ (gate : GateView). gate.log) gates home g [] low ∙ none home g low
  | inr past ↦ get_or_past (map (λ (gate : GateView). gate.log) gates) home [] (omega (arith, length-map gates (λ (gate : GateView). gate.log), past))
]

-- nothing was read in the shards
no-reads-in : (r : ℕ) (shards : List ShardView) → ((k : ℕ) (s : ShardView) → k < length shards → (get_or shards k s).log ≡ [])
    → flat_map (reads_in r) (map (λ (shard : ShardView). shard.log) shards) ≡ []
no-reads-in r [] none = refl
no-reads-in r (s ∷ shards) none =
    let rest = no-reads-in r shards (λ k d low. none (suc k) d (omega (arith, low))) in
    ap (λ (l : List ShardEntry). reads_in r l ++ flat_map (reads_in r) (map (λ (shard : ShardView). shard.log) shards))
    (none zero s (omega arith)) ∙ rest

-- no request has read anything if the logs of the shards are empty
pub no-reads : (gates : List GateView) (store : _) (oracle : _) (shards : List ShardView)
    → ((k : ℕ) (s : ShardView) → k < length shards → (get_or shards k s).log ≡ []) → (r : ℕ)
    → reads_of (logs_of gates store oracle shards) r ≡ []
no-reads gates store oracle shards none r = no-reads-in r shards none
