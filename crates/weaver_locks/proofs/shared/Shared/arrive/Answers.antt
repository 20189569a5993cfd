use Rattle.std.proofs.Common.{◌≡◌, ◌<◌, ℕ, length, sym, ap, ◌∙◌, subst}
use Rattle.std.specs.Prelude.{IfOk, is_some, if◌then◌else◌}
use Rattle.shard_queue.specs.declared.inbox.Arrival.TheVariants.{Kept, Repeat}
use Rattle.weave_entries.specs.declared.shard_log.ShardDeed.TheVariants.{Arrived}
use Rattle.weave_entries.specs.ShardReplay.{arrived_at}
use Rattle.chronicle.specs.Holds.{machine_of}
use Rattle.shard_lock.specs.Notes.{NotedShardView}
use Rattle.weaver_locks.specs.Hands.{seen_by}
use Rattle.weaver_locks.proofs.ShardArrived.{are_apart, arrivals_by, arrived, no_arrival_visits, still_seen}
use Rattle.weaver_locks.proofs.ShardCalled.{called_done, called_follows}
use Rattle.weaver_locks.proofs.shared.Shared.arrive.Goals as goal

pub take_in-arrived-requires-clause-apart : goal.take_in-arrived-requires-clause-apart
take_in-arrived-requires-clause-apart g c =
    are_apart c.store_logs_have_passed.ensures c.messages_can_be_taken.ensures.seen_apart (length c.args.self.now.shards.items) c.args.shard
    (seen_by c.args.hand.now).store c.requires.hand.legal.store_log c.args.message c.requires.seen.made

pub take_in-arrived-requires-clause-gate : goal.take_in-arrived-requires-clause-gate
take_in-arrived-requires-clause-gate g c =
    subst (λ (n : ℕ). c.args.gate < n) (sym (ap (λ (v : NotedShardView). v.shard.gates) c.state-state.ensures.value ∙ c.enter_shard-held.ensures.gate_count)) c.requires.gate

pub take_in-arrived-requires-clause-seen : goal.take_in-arrived-requires-clause-seen
take_in-arrived-requires-clause-seen g c =
    still_seen c.the_crates_below_keep_their_laws.ensures c.args.self.now c.args.hand.now c.enter_shard-held.new.hand c.args.shard c.enter_shard-held.result
    c.requires.hand c.enter_shard-held.ensures c.state-state.result.now c.state-state.ensures.value c.args.gate c.args.number c.args.message c.requires.seen

pub leave_shard-requires-clause-log : goal.leave_shard-requires-clause-log
leave_shard-requires-clause-log g c =
    let old = c.args.hand.now in
    let r = c.take_in-arrived.result in
    let s = c.state-state.result.now in
    let m = c.take_in-arrived.new.shard in
    let did = c.take_in-arrived.ensures in
    let deed = Arrived c.args.gate c.args.number c.args.message in
    let call = arrived old c.number-author.result deed c.number-author.ensures s m r did.kept did.repeat did.refused did.shards did.notes in
    called_follows c.args.self.now old c.enter_shard-held.new.hand c.args.shard c.enter_shard-held.result c.requires.hand c.requires.shard
    c.enter_shard-held.ensures s m c.state-state.ensures.value _ call (arrivals_by old deed r)

pub returns-clause-hand : goal.returns-clause-hand
returns-clause-hand g c =
    let old = c.args.hand.now in
    let r = c.take_in-arrived.result in
    let s = c.state-state.result.now in
    let m = c.take_in-arrived.new.shard in
    let did = c.take_in-arrived.ensures in
    let deed = Arrived c.args.gate c.args.number c.args.message in
    let call = arrived old c.number-author.result deed c.number-author.ensures s m r did.kept did.repeat did.refused did.shards did.notes in
    let done = called_done c.args.self.now old c.enter_shard-held.new.hand c.args.shard c.enter_shard-held.result c.requires.hand c.requires.shard
    c.enter_shard-held.ensures s m c.state-state.ensures.value _ call (arrivals_by old deed r) c.shows_what_it_keeps.ensures
    (no_arrival_visits old c.args.gate c.args.number c.args.message r) in
    (c.leave_shard.ensures.done old _ _ _ done).0

pub returns-clause-hold : goal.returns-clause-hold
returns-clause-hold g c =
    let old = c.args.hand.now in
    let r = c.take_in-arrived.result in
    let s = c.state-state.result.now in
    let m = c.take_in-arrived.new.shard in
    let did = c.take_in-arrived.ensures in
    let deed = Arrived c.args.gate c.args.number c.args.message in
    let call = arrived old c.number-author.result deed c.number-author.ensures s m r did.kept did.repeat did.refused did.shards did.notes in
    let done = called_done c.args.self.now old c.enter_shard-held.new.hand c.args.shard c.enter_shard-held.result c.requires.hand c.requires.shard
    c.enter_shard-held.ensures s m c.state-state.ensures.value _ call (arrivals_by old deed r) c.shows_what_it_keeps.ensures
    (no_arrival_visits old c.args.gate c.args.number c.args.message r) in (
      (machine_of c.enter_shard-held.result).shard.log,
      (c.leave_shard.ensures.done old _ _ _ done).1,
      subst (λ (v : NotedShardView). IfOk r (λ arrival. arrival ≡ (if is_some (arrived_at c.args.gate c.args.number v.shard.log) then Repeat else Kept)))
          c.state-state.ensures.value did.answer,
    )
