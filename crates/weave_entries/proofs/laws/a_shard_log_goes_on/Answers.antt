use Rattle.std.proofs.Common.{ℕ, List}
use Rattle.weave_data.proofs.Entries.{each_none, each_push, each_before}
use Rattle.weave_entries.specs.declared.shard_log.ShardEntry.{ShardEntry}
use Rattle.weave_entries.specs.ShardRules.{FitsShard}
use Rattle.weave_entries.proofs.laws.a_shard_log_goes_on.Goals as goal

-- the rule of an entry
abbrev Rule : ℕ → List ShardEntry → ShardEntry → Type 0
Rule gates before one = FitsShard gates before one.deed

pub returns : goal.returns
returns c =
    record {
      at_first = λ gates. each_none (Rule gates);
      right = λ gates log entry so_far fits. each_push (Rule gates) log entry so_far fits;
      right_before = λ gates log rest all. each_before (Rule gates) log rest all;
    }
