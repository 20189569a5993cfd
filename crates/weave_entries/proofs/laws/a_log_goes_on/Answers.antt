use Rattle.std.proofs.Common.{ℕ, List}
use Rattle.weave_data.proofs.Entries.{each_none, each_push, each_before}
use Rattle.weave_entries.specs.declared.gate_log.GateEntry.{GateEntry}
use Rattle.weave_entries.specs.GateRules.{FitsAs, HearsAs}
use Rattle.weave_entries.proofs.laws.a_log_goes_on.Goals as goal

-- what holds at each entry
abbrev Rule : ℕ → ℕ → List GateEntry → GateEntry → Type 0
Rule home shards before entry = FitsAs home shards before entry.author entry.deed

pub returns : goal.returns
returns c =
    record {
      at_first = λ home shards. each_none (Rule home shards);
      right = λ home shards log entry so_far fits. each_push (Rule home shards) log entry so_far fits;
      right_before = λ home shards log rest all. each_before (Rule home shards) log rest all;
      hears = λ home log entry so_far hears. each_push (λ before (one : GateEntry). HearsAs home before one.deed) log entry so_far hears;
    }
