use Rattle.std.proofs.Common.{◌≡◌, ◌≤◌, ℕ, List, length, IfSome, Ok, Err, Some, refl, sym, ap, subst, ◌∙◌}
use Rattle.weave_data.specs.Names.{shard_of}
use Rattle.weave_data.specs.declared.name.Name.{Name}
use Rattle.graph_ops.specs.Operations.{State}
use Rattle.graph_ops.specs.declared.record.Record.{Record}
use Rattle.weave_entries.specs.OracleReplay.{pairs_of_log}
use Rattle.weave_entries.specs.ShardReplay.{updates_of}
use Rattle.weave_entries.specs.ShardRules.{updates_read}
use Rattle.std.specs.Prelude.{take}
use Rattle.path_program.specs.AnyPrograms.{any_of, next_read, HasRead}
use Rattle.program_defs.specs.Visits.{next_visit}
use Rattle.shard_node.specs.declared.fault.VisitFault.{VisitFault}
use Rattle.shard_node.specs.declared.fault.VisitFault.TheVariants as unread
use Rattle.weaver_core.specs.declared.walks.Running.{Running}
use Rattle.weaver_core.proofs.FewEdges.{few-edges}
use Rattle.weaver_locks.specs.declared.hand.Hand.{Hand}
use Rattle.weaver_locks.specs.Locks.{gate_count, shard_count}
use Rattle.weaver_locks.specs.ShardHolds.{VisitsIn}
use Rattle.weaver_hands.specs.Faults.{visit_fault}
use Rattle.weaver_hands.specs.Programs.{own_reads, ReadsNoMore, VisitsAs}
use Rattle.weaver_hands.proofs.Alone.{alone-if-none, none-at-shard}
use Rattle.weaver_hands.proofs.Running.{gains, in-turn, roomy, runs-here, runs-on, shard-there, still-runs}
use Rattle.weaver_hands.proofs.visiting.visit.Goals as goal

pub visit-read-requires-clause-running : goal.visit-read-requires-clause-running
visit-read-requires-clause-running g c =
    runs-here c.own_programs_are_running.ensures c.args.shared.now c.args.hand.now c.args.running.now c.requires.running

pub see-requires-clause-edges : goal.see-requires-clause-edges
see-requires-clause-edges g c =
    let hold = c.in-Ok.ensures.hold in
    let stamp = c.args.running.now.stamp in
    let v = c.in-Some.vertex in
    subst (λ (state : State). IfSome state (λ (found : Record). length found.edges ≤ 1000)) (sym hold.state)
    (few-edges (take (updates_read (pairs_of_log hold.settled) stamp v hold.before) (updates_of v hold.before)))

pub returns-in-Ok-clause-done : goal.returns-in-Ok-clause-done
returns-in-Ok-clause-done g c =
    let shared = c.args.shared.now in
    let was = c.args.running.now in
    let v = c.in-Some.vertex in
    let next = sym c.next_vertex.ensures.next ∙ c.in-Some.is in
    let old = c.args.hand.now in
    let new = c.visit-read.new.hand in
    let at = c.shard-shard.ensures ∙ ap (λ n. shard_of v n) c.shards.ensures in
    let visits = subst (λ s. VisitsIn (gate_count shared) (shard_count shared) old new s was.request was.stamp v (Ok c.in-Ok.state))
    at c.in-Ok.ensures.hold in
    let asks = λ (reads : List (Name × State)) (has : HasRead was.walk reads). sym c.in-Some.is ∙ c.next_vertex.ensures.visit reads has in
    let hands = c.hands_keep_their_laws.ensures in
    let laws = c.the_crates_below_keep_their_laws.ensures in
    let low = shard-there v (shard_count shared) shared.framed.some_shard in
    record {
      vertex = v;
      next_is = next;
      in_turn = in-turn hands laws shared old new c.requires.hand c.visit-read.ensures.hand was v c.in-Ok.state
          (shard_of v (shard_count shared)) low visits c.requires.running asks c.order_of_reads_is_free.ensures.next;
      state = c.in-Ok.state;
      visits = visits;
      more = gains hands laws shared old new c.requires.hand c.visit-read.ensures.hand was v c.in-Ok.state
          (shard_of v (shard_count shared)) low visits;
      fed = record {
        request_is = refl;
        stamp_is = refl;
        program_is = c.see.ensures.program ∙ c.ready.ensures.program;
        reads = λ reads has. c.see.ensures.reads v reads (c.ready.ensures.next ∙ next) (c.ready.ensures.reads reads has);
      };
    }

pub returns-in-Ok-clause-running : goal.returns-in-Ok-clause-running
returns-in-Ok-clause-running g c =
    let shared = c.args.shared.now in
    let was = c.args.running.now in
    let v = c.in-Some.vertex in
    let next = sym c.next_vertex.ensures.next ∙ c.in-Some.is in
    let at = c.shard-shard.ensures ∙ ap (λ n. shard_of v n) c.shards.ensures in
    let visits = subst (λ s. VisitsIn (gate_count shared) (shard_count shared) c.args.hand.now c.visit-read.new.hand s was.request was.stamp v (Ok c.in-Ok.state))
    at c.in-Ok.ensures.hold in
    runs-on c.hands_keep_their_laws.ensures c.the_crates_below_keep_their_laws.ensures shared c.args.hand.now c.visit-read.new.hand
    c.requires.hand c.visit-read.ensures.hand was v c.in-Ok.state (shard_of v (shard_count shared))
    (shard-there v (shard_count shared) shared.framed.some_shard) visits c.requires.running
    (λ reads has. sym c.in-Some.is ∙ c.next_vertex.ensures.visit reads has)
    c.see.new.self (λ reads has. c.see.ensures.reads v reads (c.ready.ensures.next ∙ next) (c.ready.ensures.reads reads has))

-- what is answered if the shard refused
refused : (gates shards : ℕ) (old new : Hand) (was is : Running) (v : Name) (s : ℕ) (fault : VisitFault) → next_read was.walk ≡ Some v
    → next_visit (own_reads old was.request) (any_of was.walk) ≡ Some v → s ≡ shard_of v shards → VisitsIn gates shards old new s was.request was.stamp v (Err fault) → ReadsNoMore was is
    → VisitsAs gates shards old new was is (Err (visit_fault s fault))
refused gates shards old new was is v s (unread.Again gate) next turn at visits still =
    record { vertex = v; next_is = next; in_turn = turn; shard_is = at; visits = visits; still = still }
refused gates shards old new was is v s unread.Memory next turn at visits still = (none-at-shard old new s visits.before visits.was, still)

pub returns-in-Err-clause-done : goal.returns-in-Err-clause-done
returns-in-Err-clause-done g c =
    let shared = c.args.shared.now in
    let old = c.args.hand.now in
    let new = c.visit-read.new.hand in
    let was = c.args.running.now in
    let is : Running = record { request = was.request; stamp = was.stamp; walk = c.ready.new.self } in
    let v = c.in-Some.vertex in
    let runs = c.requires.running in
    let turn : next_visit (own_reads old was.request) (any_of was.walk) ≡ Some v =
    sym (c.order_of_reads_is_free.ensures.next runs.reads (own_reads old was.request) (any_of was.walk) runs.same)
    ∙ sym (c.next_vertex.ensures.visit runs.reads runs.walk) ∙ c.in-Some.is in
    subst (λ fault. VisitsAs (gate_count shared) (shard_count shared) old new was is (Err fault)) (sym c.of_visit.ensures)
    (refused (gate_count shared) (shard_count shared) old new was is v c.shard-shard.result c.in-Err.fault
    (sym c.next_vertex.ensures.next ∙ c.in-Some.is) turn (c.shard-shard.ensures ∙ ap (λ n. shard_of v n) c.shards.ensures) c.in-Err.ensures.hold
    (record {
      request_is = refl;
      stamp_is = refl;
      program_is = c.ready.ensures.program;
      next_is = c.ready.ensures.next;
      reads = c.ready.ensures.reads;
    }))

pub returns-in-Err-clause-running : goal.returns-in-Err-clause-running
returns-in-Err-clause-running g c =
    let shared = c.args.shared.now in
    let old = c.args.hand.now in
    let new = c.visit-read.new.hand in
    let was = c.args.running.now in
    let hold = c.in-Err.ensures.hold in
    still-runs c.hands_keep_their_laws.ensures c.the_crates_below_keep_their_laws.ensures shared old new c.requires.hand c.visit-read.ensures.hand
    (record { request = was.request; stamp = was.stamp; walk = c.ready.new.self })
    (alone-if-none old new was.request (none-at-shard old new c.shard-shard.result hold.before hold.was))
    (roomy shared old was c.requires.running c.ready.new.self c.ready.ensures.reads)
