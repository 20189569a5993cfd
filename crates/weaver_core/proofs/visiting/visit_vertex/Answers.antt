use Rattle.std.proofs.Common.{◌≡◌, ◌≤◌, ◌∷◌, List, take, length, IfSome, refl, sym, ap, subst, ◌∙◌}
use Rattle.graph_ops.specs.Operations.{State}
use Rattle.graph_ops.specs.declared.record.Record.{Record}
use Rattle.weave_data.specs.Names.{shard_of}
use Rattle.weave_data.specs.declared.name.Name.{Name}
use Rattle.weave_entries.specs.ShardReplay.{updates_of}
use Rattle.path_program.specs.AnyPrograms.{HasRead}
use Rattle.weaver_core.specs.ShardTable.{shard_log_at}
use Rattle.weaver_core.specs.Visiting.{Reads, state_seen, updates_seen}
use Rattle.weaver_core.proofs.FewEdges.{few-edges}
use Rattle.weaver_core.proofs.visiting.visit_vertex.Goals as goal

pub see-requires-clause-edges : goal.see-requires-clause-edges
see-requires-clause-edges c =
    let log = shard_log_at c.args.shards.now (shard_of c.args.vertex c.args.count) in
    let oracle = c.args.oracle.now in
    let is : c.in-Ok.state ≡ state_seen oracle log c.args.running.now.stamp c.args.vertex = c.in-Ok.ensures.reads.state_is ∙ ap (λ s. state_seen oracle (shard_log_at c.args.shards.now s) c.args.running.now.stamp c.args.vertex) c.shard-shard.ensures in
    subst (λ (state : State). IfSome state (λ (found : Record). length found.edges ≤ 1000)) (sym is) (few-edges (take (updates_seen oracle log c.args.running.now.stamp c.args.vertex) (updates_of c.args.vertex log)))

pub returns-in-Ok-clause-visits : goal.returns-in-Ok-clause-visits
returns-in-Ok-clause-visits c =
    let v = c.args.vertex in
    let stamp = c.args.running.now.stamp in
    let reads = subst (λ s. Reads c.args.shards.now c.visit.new.self c.args.oracle.now c.visit.new.oracle s c.args.running.now.request stamp v c.in-Ok.state) c.shard-shard.ensures c.in-Ok.ensures.reads in
    record {
      vertex = v;
      next_is = c.requires.next;
      visited = reads.visited;
      read = record {
        request_is = refl;
        stamp_is = refl;
        program_is = c.see.ensures.program ∙ c.ready.ensures.program;
        reads = λ (all : List (Name × State)) has. subst (λ (state : State). HasRead c.see.new.self ((v, state) ∷ all)) reads.state_is (c.see.ensures.reads v all (c.ready.ensures.next ∙ c.requires.next) (c.ready.ensures.reads all has));
      };
    }
