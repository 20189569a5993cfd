use Rattle.std.proofs.Common.{List, map, sym, ap, ◌∙◌, subst}
use Rattle.weave_entries.specs.declared.gate_log.GateEntry.{GateEntry}
use Rattle.seen_logs.specs.Entries.{gate_entries}
use Rattle.chronicle.specs.Passes.{seen_by_note}
use Rattle.oracle_lock.specs.Seen.{OracleIsKept}
use Rattle.weaver_locks.proofs.Lists.{map_twice}
use Rattle.weaver_locks.proofs.noting_all.note_oracle.Goals as goal

pub new-requires : goal.new-requires
new-requires c =
    let notes = c.in_ok-gates.gates.items in
    let gates = sym (map_twice gate_entries seen_by_note notes) ∙ ap (map gate_entries) c.in_ok-gates.ensures.notes.starts in
    subst (λ (l : List (List GateEntry)). OracleIsKept c.args.count l c.args.oracle) (sym gates) c.requires.kept

pub returns-clause-hand : goal.returns-clause-hand
returns-clause-hand c =
    let was = c.requires.hand in
    record {
      gate_count = c.in_ok-gates.ensures.count;
      gates = c.in_ok-gates.ensures.first;
      store = was.store;
      oracle = was.oracle;
      shard_count = was.shard_count;
      shards = was.shards;
    }
