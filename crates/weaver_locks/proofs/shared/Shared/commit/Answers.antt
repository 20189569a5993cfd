use Rattle.std.proofs.Common.{ap, ◌∙◌}
use Rattle.chronicle.specs.Holds.{machine_of}
use Rattle.chronicle.specs.Passes.{number_of}
use Rattle.store_lock.specs.Seen.{StoreView}
use Rattle.weaver_locks.proofs.FrameParts.{oracle_framed}
use Rattle.weaver_locks.proofs.RowAsked.{all_ready, as_many, few_locks}
use Rattle.weaver_locks.proofs.StoreAsked.{gates_legal, its_note, notes_met, pass_ready}
use Rattle.weaver_locks.proofs.StoreCommitted.{done, follows, judged}
use Rattle.weaver_locks.proofs.StoreNew.{begun_noted, new_stamp}
use Rattle.weaver_locks.proofs.shared.Shared.commit.Goals as goal

pub commit-judged-requires-clause-frame : goal.commit-judged-requires-clause-frame
commit-judged-requires-clause-frame g c =
    oracle_framed c.args.self.now c.state-state.result.now.shards c.as_slice.result.now
    (ap (λ (v : StoreView). v.shards) c.state-state.ensures.value ∙ c.enter_store-held.ensures.shard_count) c.as_slice.ensures.value

pub commit-judged-requires-clause-note : goal.commit-judged-requires-clause-note
commit-judged-requires-clause-note g c =
    its_note c.args.self.now c.args.hand.now c.enter_store-held.new.hand c.enter_store-held.result c.requires.hand c.enter_store-held.ensures
    c.state-state.result.now c.state-state.ensures.value c.as_slice.result.now c.as_slice.ensures.value c.as_mut_slice.result.now c.as_mut_slice.ensures.value

pub commit-judged-requires-clause-pass : goal.commit-judged-requires-clause-pass
commit-judged-requires-clause-pass g c =
    pass_ready c.args.self.now c.args.hand.now c.enter_store-held.new.hand c.enter_store-held.result c.requires.hand c.enter_store-held.ensures
    c.state-state.result.now c.state-state.ensures.value c.as_slice.result.now c.as_slice.ensures.value c.as_mut_slice.result.now c.as_mut_slice.ensures.value

pub commit-judged-requires-clause-passes : goal.commit-judged-requires-clause-passes
commit-judged-requires-clause-passes g c =
    as_many c.args.self.now c.as_slice.result.now c.as_slice.ensures.value c.args.hand.now c.enter_store-held.new.hand c.requires.hand
    c.enter_store-held.ensures.gates c.as_mut_slice.result.now c.as_mut_slice.ensures.value

pub commit-judged-requires-clause-all_ready : goal.commit-judged-requires-clause-all_ready
commit-judged-requires-clause-all_ready g c =
    all_ready c.args.self.now c.as_slice.result.now c.as_slice.ensures.value c.args.hand.now c.enter_store-held.new.hand c.requires.hand
    c.enter_store-held.ensures.gates c.as_mut_slice.result.now c.as_mut_slice.ensures.value

pub commit-judged-requires-clause-legal : goal.commit-judged-requires-clause-legal
commit-judged-requires-clause-legal g c =
    gates_legal c.args.self.now c.args.hand.now c.enter_store-held.new.hand c.enter_store-held.result c.requires.hand c.enter_store-held.ensures
    c.state-state.result.now c.state-state.ensures.value c.as_slice.result.now c.as_slice.ensures.value c.as_mut_slice.result.now c.as_mut_slice.ensures.value

pub commit-judged-requires-clause-met : goal.commit-judged-requires-clause-met
commit-judged-requires-clause-met g c =
    notes_met c.args.self.now c.args.hand.now c.enter_store-held.new.hand c.enter_store-held.result c.requires.hand c.enter_store-held.ensures
    c.state-state.result.now c.state-state.ensures.value c.as_slice.result.now c.as_slice.ensures.value c.as_mut_slice.result.now c.as_mut_slice.ensures.value

pub commit-judged-requires-clause-gates : goal.commit-judged-requires-clause-gates
commit-judged-requires-clause-gates g c =
    few_locks c.args.self.now c.as_slice.result.now c.as_slice.ensures.value

pub commit-judged-requires-clause-new : goal.commit-judged-requires-clause-new
commit-judged-requires-clause-new g c =
    new_stamp c.the_crates_below_keep_their_laws.ensures c.args.self.now c.args.hand.now c.enter_store-held.new.hand c.enter_store-held.result
    c.requires.hand c.enter_store-held.ensures c.state-state.result.now c.state-state.ensures.value c.args.request c.args.stamp c.requires.begun
    c.begun_stamps_are_coherent.ensures.seen_ids c.args.self.now.framed.few_gates c.requires.new

pub commit-judged-requires-clause-begun : goal.commit-judged-requires-clause-begun
commit-judged-requires-clause-begun g c =
    let i = c.enter_store-held.ensures in
    begun_noted c.the_crates_below_keep_their_laws.ensures c.args.self.now c.args.hand.now c.enter_store-held.new.hand c.enter_store-held.result
    c.requires.hand i c.state-state.result.now c.state-state.ensures.value c.args.request c.args.stamp c.requires.begun
    (number_of c.enter_store-held.new.hand.oracle) (ap number_of i.oracle ∙ c.requires.hand.oracle_number)

pub leave_store-requires-clause-log : goal.leave_store-requires-clause-log
leave_store-requires-clause-log g c =
    let did = c.commit-judged in
    follows c.args.self.now c.args.hand.now c.enter_store-held.new.hand c.enter_store-held.result c.requires.hand c.enter_store-held.ensures
    c.state-state.result.now did.new.self c.state-state.ensures.value c.args.request c.args.stamp c.args.ops.now did.result did.new.pass
    did.ensures.answer.0 did.ensures.answer.1

pub returns-clause-hand : goal.returns-clause-hand
returns-clause-hand g c =
    let did = c.commit-judged in
    let e = did.ensures in
    let is = done c.args.self.now c.args.hand.now c.enter_store-held.new.hand c.enter_store-held.result c.requires.hand c.enter_store-held.ensures
    c.state-state.result.now did.new.self c.state-state.ensures.value c.args.request c.args.stamp c.args.ops.now did.result did.new.pass
    e.answer.0 e.answer.1 c.the_crates_below_keep_their_laws.ensures c.as_mut_slice.result.now did.new.passes c.as_mut_slice.ensures.value
    c.as_slice.result.now c.as_slice.ensures.value e.gates e.shards e.one e.ready e.number e.passes e.passes_on e.oracle_kept e.met
    c.shows_what_it_keeps.ensures in
    (c.leave_store.ensures c.args.hand.now _ _ _ _ is).0

pub returns-clause-hold : goal.returns-clause-hold
returns-clause-hold g c =
    let did = c.commit-judged in
    let e = did.ensures in
    let is = done c.args.self.now c.args.hand.now c.enter_store-held.new.hand c.enter_store-held.result c.requires.hand c.enter_store-held.ensures
    c.state-state.result.now did.new.self c.state-state.ensures.value c.args.request c.args.stamp c.args.ops.now did.result did.new.pass
    e.answer.0 e.answer.1 c.the_crates_below_keep_their_laws.ensures c.as_mut_slice.result.now did.new.passes c.as_mut_slice.ensures.value
    c.as_slice.result.now c.as_slice.ensures.value e.gates e.shards e.one e.ready e.number e.passes e.passes_on e.oracle_kept e.met
    c.shows_what_it_keeps.ensures in
    record {
      before = (machine_of c.enter_store-held.result).store;
      settled = e.answer.0;
      was = (c.leave_store.ensures c.args.hand.now _ _ _ _ is).1;
      verdict = (judged c.args.self.now c.args.hand.now c.enter_store-held.new.hand c.enter_store-held.result c.requires.hand c.enter_store-held.ensures
          c.state-state.result.now did.new.self c.state-state.ensures.value c.args.request c.args.stamp c.args.ops.now did.result did.new.pass
          e.answer.0 e.answer.1).verdict;
    }
