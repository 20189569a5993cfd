use Rattle.weave_entries.specs.GateRules.{HearsNoMore, IsGateLog}
use Rattle.weave_entries.specs.OracleRules.{IsOracleLog}
use Rattle.weave_entries.specs.ShardRules.{IsShardLog}
use Rattle.weave_entries.specs.StoreRule.{IsStoreLog}
use Rattle.seen_logs.proofs.Within.{hears-before, of-beginning}
use Rattle.seen_logs.proofs.laws.beginnings_are_legal.Goals as goal

pub returns : goal.returns
returns c = λ gates shards seen next on legal. record {
  gate_logs = λ home. of-beginning (IsGateLog home shards) (c.a_log_goes_on.ensures.right_before home shards) _ _ (on.gates home) (legal.gate_logs home);
  hears = λ home. of-beginning (HearsNoMore home) (hears-before home) _ _ (on.gates home) (legal.hears home);
  store_log = of-beginning IsStoreLog c.a_store_log_goes_on.ensures.right_before _ _ on.store legal.store_log;
  oracle_log = of-beginning IsOracleLog c.an_oracle_log_goes_on.ensures.right_before _ _ on.oracle legal.oracle_log;
  shard_logs = λ shard. of-beginning (IsShardLog gates) (c.a_shard_log_goes_on.ensures.right_before gates) _ _ (on.shards shard) (legal.shard_logs shard);
}
