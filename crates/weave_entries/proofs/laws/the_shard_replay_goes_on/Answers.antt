use Rattle.std.proofs.Common.{[]}
use Rattle.weave_data.proofs.Ends.{flat_push}
use Rattle.weave_entries.specs.declared.shard_log.ShardEntry.{ShardEntry}
use Rattle.weave_entries.specs.ShardReplay.{arrival_by, processed_by, visit_by}
use Rattle.weave_entries.proofs.ShardLogs.{dropped-push}
use Rattle.weave_entries.proofs.laws.the_shard_replay_goes_on.Goals as goal

pub returns : goal.returns
returns c =
    record {
      arrivals = λ log entry. flat_push (λ (one : ShardEntry). arrival_by one.deed) log entry;
      processed = λ log entry. flat_push (λ (one : ShardEntry). processed_by one.deed) log entry;
      visits = λ log entry. flat_push (λ (one : ShardEntry). visit_by one.author one.deed) log entry;
      dropped = λ v log entry. dropped-push v [] log entry 0;
    }
