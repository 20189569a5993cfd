use Rattle.std.proofs.Common.{◌≡◌, ℕ, length, ap, ◌∙◌, subst}
use Rattle.std.specs.Prelude.{IfErr, None, OnOk, Vec}
use Rattle.std.specs.Global.{Global}
use Rattle.weave_entries.specs.declared.gate_log.GateDeed.{GateDeed}
use Rattle.weave_entries.specs.declared.oracle_log.OracleDeed.{OracleDeed}
use Rattle.seen_logs.specs.Entries.{oracle_entries}
use Rattle.weave_entries.specs.ShardReplay.{first_unready}
use Rattle.shard_node.specs.Shards.{IsRightlyUnread}
use Rattle.chronicle.specs.declared.pass.Pass.{Pass}
use Rattle.chronicle.specs.Holds.{machine_of}
use Rattle.chronicle.specs.Passes.{seen_by_pass}
use Rattle.shard_lock.specs.Notes.{NotedShardView}
use Rattle.oracle_lock.proofs.Settling.{pairs_back}
use Rattle.weaver_locks.proofs.Beside.{oracle_found}
use Rattle.weaver_locks.proofs.FrameParts.{oracle_framed}
use Rattle.weaver_locks.proofs.RowAsked.{all_ready, as_many, few_locks}
use Rattle.weaver_locks.proofs.ShardAsked.{gate_count, gates_legal, its_note, kept_here, notes_met, runs_here}
use Rattle.weaver_locks.proofs.ShardVisited.{oracle_keeps, oracle_refers_on, oracle_was, visit_done, visit_follows, visited_here}
use Rattle.weaver_locks.proofs.shared.Shared.visit.Goals as goal

pub visit-read-requires-clause-frame : goal.visit-read-requires-clause-frame
visit-read-requires-clause-frame g c =
    oracle_framed c.args.self.now c.state-state.result.now.shards c.as_slice.result.now
    (ap (λ (v : NotedShardView). v.shards) c.state-state.ensures.value ∙ c.enter_shard-held.ensures.shard_count) c.as_slice.ensures.value

pub visit-read-requires-clause-note : goal.visit-read-requires-clause-note
visit-read-requires-clause-note g c =
    its_note c.args.self.now c.args.hand.now c.enter_shard-held.new.hand c.args.shard c.enter_shard-held.result c.requires.hand
    c.requires.shard c.enter_shard-held.ensures c.state-state.result.now c.state-state.ensures.value c.as_slice.result.now c.as_slice.ensures.value
    c.as_mut_slice.result.now c.as_mut_slice.ensures.value

pub visit-read-requires-clause-passes : goal.visit-read-requires-clause-passes
visit-read-requires-clause-passes g c =
    as_many c.args.self.now c.as_slice.result.now c.as_slice.ensures.value c.args.hand.now c.enter_shard-held.new.hand c.requires.hand
    c.enter_shard-held.ensures.gates c.as_mut_slice.result.now c.as_mut_slice.ensures.value

pub visit-read-requires-clause-all_ready : goal.visit-read-requires-clause-all_ready
visit-read-requires-clause-all_ready g c =
    all_ready c.args.self.now c.as_slice.result.now c.as_slice.ensures.value c.args.hand.now c.enter_shard-held.new.hand c.requires.hand
    c.enter_shard-held.ensures.gates c.as_mut_slice.result.now c.as_mut_slice.ensures.value

pub visit-read-requires-clause-legal : goal.visit-read-requires-clause-legal
visit-read-requires-clause-legal g c =
    gates_legal c.args.self.now c.args.hand.now c.enter_shard-held.new.hand c.args.shard c.enter_shard-held.result c.requires.hand
    c.requires.shard c.enter_shard-held.ensures c.state-state.result.now c.state-state.ensures.value c.as_slice.result.now c.as_slice.ensures.value
    c.as_mut_slice.result.now c.as_mut_slice.ensures.value c.shows_what_it_keeps.ensures

pub visit-read-requires-clause-met : goal.visit-read-requires-clause-met
visit-read-requires-clause-met g c =
    notes_met c.args.self.now c.args.hand.now c.enter_shard-held.new.hand c.args.shard c.enter_shard-held.result c.requires.hand
    c.requires.shard c.enter_shard-held.ensures c.state-state.result.now c.state-state.ensures.value c.as_slice.result.now c.as_slice.ensures.value
    c.as_mut_slice.result.now c.as_mut_slice.ensures.value

pub visit-read-requires-clause-gates : goal.visit-read-requires-clause-gates
visit-read-requires-clause-gates g c =
    gate_count c.args.self.now c.args.hand.now c.enter_shard-held.new.hand c.args.shard c.enter_shard-held.result c.requires.hand
    c.requires.shard c.enter_shard-held.ensures c.state-state.result.now c.state-state.ensures.value c.as_slice.result.now c.as_slice.ensures.value
    c.as_mut_slice.result.now c.as_mut_slice.ensures.value

pub visit-read-requires-clause-few : goal.visit-read-requires-clause-few
visit-read-requires-clause-few g c =
    few_locks c.args.self.now c.as_slice.result.now c.as_slice.ensures.value

pub visit-read-requires-clause-kept_here : goal.visit-read-requires-clause-kept_here
visit-read-requires-clause-kept_here g c =
    kept_here c.args.self.now c.args.hand.now c.enter_shard-held.new.hand c.args.shard c.enter_shard-held.result c.requires.hand
    c.requires.shard c.enter_shard-held.ensures c.state-state.result.now c.state-state.ensures.value c.as_slice.result.now c.as_slice.ensures.value
    c.as_mut_slice.result.now c.as_mut_slice.ensures.value c.args.vertex c.requires.vertex

pub visit-read-requires-clause-running : goal.visit-read-requires-clause-running
visit-read-requires-clause-running g c =
    runs_here c.args.self.now c.args.hand.now c.enter_shard-held.new.hand c.args.shard c.enter_shard-held.result c.requires.hand
    c.requires.shard c.enter_shard-held.ensures c.state-state.result.now c.state-state.ensures.value c.as_slice.result.now c.as_slice.ensures.value
    c.as_mut_slice.result.now c.as_mut_slice.ensures.value c.the_crates_below_keep_their_laws.ensures c.args.request c.args.stamp c.requires.running

pub leave_shard-requires-clause-log : goal.leave_shard-requires-clause-log
leave_shard-requires-clause-log g c =
    let did = c.visit-read in
    let e = did.ensures in
    visit_follows c.args.self.now c.args.hand.now c.enter_shard-held.new.hand c.args.shard c.enter_shard-held.result c.requires.hand c.requires.shard
    c.enter_shard-held.ensures c.state-state.result.now did.new.self c.state-state.ensures.value c.args.request c.args.stamp c.args.vertex did.result did.new.pass
    e.answer.0 e.answer.1

pub returns-clause-hand : goal.returns-clause-hand
returns-clause-hand g c =
    let did = c.visit-read in
    let e = did.ensures in
    let is = visit_done c.args.self.now c.args.hand.now c.enter_shard-held.new.hand c.args.shard c.enter_shard-held.result c.requires.hand c.requires.shard
    c.enter_shard-held.ensures c.state-state.result.now did.new.self c.state-state.ensures.value c.args.request c.args.stamp c.args.vertex did.result did.new.pass
    e.answer.0 e.answer.1 c.the_crates_below_keep_their_laws.ensures c.visits_keep_their_laws.ensures c.as_mut_slice.result.now did.new.passes
    c.as_mut_slice.ensures.value c.as_slice.result.now c.as_slice.ensures.value e.gates e.store e.shards e.one e.ready e.number e.passes e.passes_on
    e.oracle_kept e.met c.shows_what_it_keeps-2.ensures in
    (c.leave_shard.ensures.done c.args.hand.now _ _ _ is).0

pub returns-clause-hold : goal.returns-clause-hold
returns-clause-hold g c =
    let did = c.visit-read in
    let e = did.ensures in
    let is = visit_done c.args.self.now c.args.hand.now c.enter_shard-held.new.hand c.args.shard c.enter_shard-held.result c.requires.hand c.requires.shard
    c.enter_shard-held.ensures c.state-state.result.now did.new.self c.state-state.ensures.value c.args.request c.args.stamp c.args.vertex did.result did.new.pass
    e.answer.0 e.answer.1 c.the_crates_below_keep_their_laws.ensures c.visits_keep_their_laws.ensures c.as_mut_slice.result.now did.new.passes
    c.as_mut_slice.ensures.value c.as_slice.result.now c.as_slice.ensures.value e.gates e.store e.shards e.one e.ready e.number e.passes e.passes_on
    e.oracle_kept e.met c.shows_what_it_keeps-2.ensures in
    let adds = oracle_was c.args.self.now c.args.hand.now c.enter_shard-held.new.hand c.args.shard c.enter_shard-held.result c.requires.hand c.requires.shard
    c.enter_shard-held.ensures c.state-state.result.now did.new.self c.state-state.ensures.value c.args.request c.args.stamp c.args.vertex did.result did.new.pass
    e.answer.0 e.answer.1 c.the_crates_below_keep_their_laws.ensures c.visits_keep_their_laws.ensures c.as_mut_slice.result.now did.new.passes
    c.as_mut_slice.ensures.value c.as_slice.result.now c.as_slice.ensures.value e.gates e.store e.shards e.one e.ready e.number e.passes e.passes_on
    e.oracle_kept e.met c.shows_what_it_keeps-2.ensures in
    let here = visited_here c.args.self.now c.args.hand.now c.enter_shard-held.new.hand c.args.shard c.enter_shard-held.result c.requires.hand c.requires.shard
    c.enter_shard-held.ensures c.state-state.result.now did.new.self c.state-state.ensures.value c.args.request c.args.stamp c.args.vertex did.result did.new.pass
    e.answer.0 e.answer.1 in
    let same = c.leave_shard.ensures.oracle in
    record {
      before = (machine_of c.enter_shard-held.result).shard.log;
      settled = e.answer.0;
      was = (c.leave_shard.ensures.done c.args.hand.now _ _ _ is).1;
      oracle_found = oracle_found c.args.self.now c.args.hand.now
          (record { gates = c.enter_shard-held.new.hand.gates; store = c.enter_shard-held.new.hand.store; oracle = did.new.pass; shards = c.enter_shard-held.new.hand.shards })
          c.requires.hand e.answer.0 _ adds;
      oracle_left = ap (λ (p : Pass OracleDeed). oracle_entries (seen_by_pass p)) same ∙ (ap oracle_entries adds.left ∙ pairs_back _);
      oracle_refers = oracle_refers_on c.the_crates_below_keep_their_laws.ensures (length c.args.self.now.shards.items) c.leave_shard.new.hand _ did.new.pass
          (ap (λ (v : Vec (Pass GateDeed) Global). v.items) c.leave_shard.ensures.gates) same (oracle_keeps c.args.self.now c.args.hand.now c.enter_shard-held.new.hand c.args.shard c.enter_shard-held.result c.requires.hand c.requires.shard
          c.enter_shard-held.ensures c.state-state.result.now did.new.self c.state-state.ensures.value c.args.request c.args.stamp c.args.vertex did.result did.new.pass
          e.answer.0 e.answer.1 c.the_crates_below_keep_their_laws.ensures c.visits_keep_their_laws.ensures c.as_mut_slice.result.now did.new.passes
          c.as_mut_slice.ensures.value c.as_slice.result.now c.as_slice.ensures.value e.gates e.store e.shards e.one e.ready e.number e.passes e.passes_on
          e.oracle_kept e.met c.shows_what_it_keeps-2.ensures);
      ready = subst (λ (k : ℕ). OnOk did.result (first_unready k c.args.stamp (machine_of c.enter_shard-held.result).shard.log ≡ None)) c.enter_shard-held.ensures.gate_count here.ready;
      state = here.state;
      refused = subst (λ (k : ℕ). IfErr did.result (λ fault. IsRightlyUnread k c.args.stamp (machine_of c.enter_shard-held.result).shard.log fault)) c.enter_shard-held.ensures.gate_count here.refused;
    }
