use Rattle.std.proofs.Common.{◌<◌, length, sym, ap, ◌∙◌, arith}
use Rattle.oracle_chain.specs.Held.{HeldView, no_held}
use Rattle.oracle_chain.proofs.Finding.{next-at, next-none}
use Rattle.oracle_chain.proofs.ends.next_live.Goals as goal

pub returns-then-is_live : goal.returns-then-is_live
returns-then-is_live c =
    let test = c.loop-other-test.true in
    let below : c.loop-other.other < length c.args.replicas.now = omega (arith, test) in
    let after : c.args.number < c.loop-other.other = omega arith in
    sym (next-at c.args.replicas.now c.args.number c.loop-other.other c.index-replicas-other.result below after (λ k e above under. c.loop-other.invariant k e above under)
    (ap (λ (x : HeldView). x.live) (sym c.index-replicas-other.is) ∙ sym c.if-is_live.ensures))

pub returns : goal.returns
returns c =
    let test = c.loop-other-test.false in
    sym (next-none c.args.replicas.now c.args.number no_held (λ k e above below. c.loop-other.invariant k e above (omega (arith, below, test))))
