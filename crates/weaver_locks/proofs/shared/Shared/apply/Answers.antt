use Rattle.std.proofs.Common.{subst}
use Rattle.std.specs.Prelude.{IfErr, OnOk}
use Rattle.chronicle.specs.Holds.{machine_of}
use Rattle.shard_node.specs.Shards.{CanApplyHead, IsRightlyUnapplied}
use Rattle.shard_lock.specs.Notes.{NotedShardView}
use Rattle.weaver_locks.proofs.ShardApplied.{applied}
use Rattle.weaver_locks.proofs.ShardCalled.{applied_apart, called_done, called_follows, no_visits}
use Rattle.weaver_locks.proofs.ShardDone.{entries_by}
use Rattle.weaver_locks.proofs.shared.Shared.apply.Goals as goal

pub leave_shard-requires-clause-log : goal.leave_shard-requires-clause-log
leave_shard-requires-clause-log g c =
    let old = c.args.hand.now in
    let r = c.apply-applied.result in
    let s = c.state-state.result.now in
    let m = c.apply-applied.new.self in
    let held = c.enter_shard-held.result in
    let did = c.apply-applied.ensures in
    let call = applied old c.number-author.result c.args.gate c.number-author.ensures r s m (machine_of held) c.state-state.ensures.value did.entry did.unchanged did.shards did.notes in
    called_follows c.args.self.now old c.enter_shard-held.new.hand c.args.shard held c.requires.hand c.requires.shard c.enter_shard-held.ensures s m
    c.state-state.ensures.value _ call (entries_by old _ r)

pub returns-clause-hand : goal.returns-clause-hand
returns-clause-hand g c =
    let old = c.args.hand.now in
    let r = c.apply-applied.result in
    let s = c.state-state.result.now in
    let m = c.apply-applied.new.self in
    let held = c.enter_shard-held.result in
    let did = c.apply-applied.ensures in
    let call = applied old c.number-author.result c.args.gate c.number-author.ensures r s m (machine_of held) c.state-state.ensures.value did.entry did.unchanged did.shards did.notes in
    let done = called_done c.args.self.now old c.enter_shard-held.new.hand c.args.shard held c.requires.hand c.requires.shard c.enter_shard-held.ensures s m
    c.state-state.ensures.value _ call (entries_by old _ r) c.shows_what_it_keeps.ensures (no_visits old _ r (applied_apart c.args.gate _)) in
    (c.leave_shard.ensures.done old _ _ _ done).0

pub returns-clause-hold : goal.returns-clause-hold
returns-clause-hold g c =
    let old = c.args.hand.now in
    let r = c.apply-applied.result in
    let s = c.state-state.result.now in
    let m = c.apply-applied.new.self in
    let held = c.enter_shard-held.result in
    let did = c.apply-applied.ensures in
    let call = applied old c.number-author.result c.args.gate c.number-author.ensures r s m (machine_of held) c.state-state.ensures.value did.entry did.unchanged did.shards did.notes in
    let done = called_done c.args.self.now old c.enter_shard-held.new.hand c.args.shard held c.requires.hand c.requires.shard c.enter_shard-held.ensures s m
    c.state-state.ensures.value _ call (entries_by old _ r) c.shows_what_it_keeps.ensures (no_visits old _ r (applied_apart c.args.gate _)) in (
      (machine_of held).shard.log,
      (c.leave_shard.ensures.done old _ _ _ done).1,
      subst (λ (v : NotedShardView). OnOk r (CanApplyHead c.args.gate v.shard.log)) c.state-state.ensures.value did.next,
      subst (λ (v : NotedShardView). IfErr r (λ fault. IsRightlyUnapplied c.args.gate v.shard.log fault)) c.state-state.ensures.value did.refused,
    )
