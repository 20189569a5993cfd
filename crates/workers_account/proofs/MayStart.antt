-- Machines whose logs are an account may be put behind locks.
-- Used by `split_machines_may_start`.
use Rattle.std.proofs.Common.{◌≡◌, ℕ, List, length, sym, ap, subst, arith}
use Rattle.program_defs.specs.declared.script.Script.{Script}
use Rattle.program_defs.specs.Limits.{IsWithinLimits}
use Rattle.gatekeeper.specs.Gates.{GateView}
use Rattle.shard_node.specs.Shards.{ShardView}
use Rattle.weave_entries.specs.declared.oracle_log.OracleEntry.{OracleEntry}
use Rattle.weave_entries.specs.declared.store_log.StoreEntry.{StoreEntry}
use Rattle.weave_entries.specs.ShardRules.{IsShardLog}
use Rattle.weave_entries.specs.StoreRule.{IsStoreLog}
use Rattle.weave_account.specs.declared.account.Account.{Account}
use Rattle.weave_account.specs.Account.{shard_log}
use Rattle.weave_account.specs.IsAccount.{IsAccount}
use Rattle.seen_logs.specs.Seen.{AreLegal, IsSeenByHand, without_sessions}
use Rattle.weaver_locks.specs.Closing.{logs_of, AreInOrder, MayStart}
use Rattle.workers_account.specs.ReadyLaws.{ReadyLaws}

module _ (laws : ReadyLaws) (script : Script) (start : Account) (gates : List GateView) (store : List StoreEntry)
    (oracle : List OracleEntry) (shards : List ShardView) (limits : IsWithinLimits script)
    (is_account : IsAccount script start) (logs_are : logs_of gates store oracle shards ≡ without_sessions start)
    (many : length gates ≡ script.gates) (many_shards : length shards ≡ script.shards) (order : AreInOrder gates shards)
    (store_log : IsStoreLog store) (shard_logs : (shard : ℕ) → IsShardLog script.gates (shard_log start shard)) where
  -- with as many machines as the script has, what holds of the start's logs holds of the machines'
  of-machines : (P : ℕ × ℕ × Account → Type 0) → P (script.gates, script.shards, without_sessions start)
      → P (length gates, length shards, logs_of gates store oracle shards)
  of-machines P holds = subst P (λ i. (sym many i, sym many_shards i, sym logs_are i)) holds

  legal : AreLegal (length gates) (length shards) (logs_of gates store oracle shards)
  legal =
      of-machines (λ m. AreLegal m.0 m.1 m.2) (record {
        gate_logs = is_account.gatekeepers.logs;
        hears = is_account.clocks.hears_no_more;
        store_log = subst IsStoreLog (ap (λ (a : Account). a.store) logs_are) store_log;
        oracle_log = is_account.oracle.log;
        shard_logs = shard_logs;
      })

  -- machines in order, whose logs are an account's and keep the rules, may be put behind locks
  pub may-start : MayStart gates store oracle shards
  may-start = record {
    some_gate = (let e = limits.some_gate in omega (arith, many, e));
    few_gates = (let e = limits.few_gates in omega (arith, many, e));
    some_shard = (let e = limits.some_shard in omega (arith, many_shards, e));
    few_shards = (let e = limits.few_shards in omega (arith, many_shards, e));
    order = order;
    legal = legal;
    refers = λ number. of-machines (λ m. IsSeenByHand m.1 number m.2 m.2) (laws.seen script start limits is_account shard_logs number);
  }
