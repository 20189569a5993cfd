use Rattle.std.proofs.Common.{◌<◌, List, length, sym, ap, ◌∙◌, arith}
use Rattle.oracle_chain.specs.Chain.{ReplicaView}
use Rattle.oracle_chain.specs.Held.{HeldView}
use Rattle.oracle_chain.proofs.Views.{same-is, held-length}
use Rattle.oracle_chain.proofs.Rooms.{room-more}
use Rattle.oracle_chain.proofs.levelling.reserve_in_each.Goals as goal

pub returns-in_err-reserve_for-clause-seen : goal.returns-in_err-reserve_for-clause-seen
returns-in_err-reserve_for-clause-seen c =
    let same = ap (λ (l : List ReplicaView). length l) c.loop-number.invariant.seen in
    let now = held-length c.loop-number.replicas in
    let old = held-length c.args.replicas.now in
    let test = c.loop-number-test.true in
    let each = c.requires.a_list_each in
    let within : c.loop-number.number < length c.loop-number.replicas = omega (arith, same, now, old, test, each) in
    same-is c.loop-number.replicas c.loop-number.number c.index-replicas-number.result c.reserve_for.new.replica within c.index-replicas-number.is
    (c.reserve_for.ensures.live ∙ ap (λ (x : HeldView). x.live) (sym c.index-replicas-number.is)) (c.reserve_for.ensures.asks ∙ ap (λ (x : HeldView). x.asks) (sym c.index-replicas-number.is))
    ∙ c.loop-number.invariant.seen

pub loop-number-preserved : goal.loop-number-preserved
loop-number-preserved c =
    let same = ap (λ (l : List ReplicaView). length l) c.loop-number.invariant.seen in
    let now = held-length c.loop-number.replicas in
    let old = held-length c.args.replicas.now in
    let test = c.loop-number-test.true in
    let each = c.requires.a_list_each in
    let of : c.loop-number.number < length c.args.lacked.now = omega (arith, test) in
    let within : c.loop-number.number < length c.loop-number.replicas = omega (arith, same, now, old, of, each) in
    record {
      seen = same-is c.loop-number.replicas c.loop-number.number c.index-replicas-number.result c.reserve_for.new.replica within c.index-replicas-number.is
          (c.reserve_for.ensures.live ∙ ap (λ (x : HeldView). x.live) (sym c.index-replicas-number.is)) (c.reserve_for.ensures.asks ∙ ap (λ (x : HeldView). x.asks) (sym c.index-replicas-number.is))
          ∙ c.loop-number.invariant.seen;
      room = room-more c.loop-number.replicas c.args.lacked.now c.loop-number.number c.reserve_for.new.replica c.index-lacked-number.result within of c.index-lacked-number.is c.loop-number.invariant.room
          (record { room = c.in_ok-reserve_for.ensures.room; events = c.in_ok-reserve_for.ensures.events });
    }
