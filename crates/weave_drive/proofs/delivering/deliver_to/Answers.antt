use Rattle.std.proofs.Common.{refl, ap, arith}
use Rattle.program_defs.specs.declared.script.Script.{Script}
use Rattle.weave_drive.proofs.Deliveries.{below-all, below-next, below-none}
use Rattle.weave_drive.proofs.Driven.{drives-core, drives-through}
use Rattle.weave_drive.proofs.Going.{step-on}
use Rattle.weave_drive.proofs.delivering.deliver_to.Goals as goal

pub loop-gate-init : goal.loop-gate-init
loop-gate-init c = below-none c.args.shard c.args.core.now

pub deliver_all-requires-clause-gate : goal.deliver_all-requires-clause-gate
deliver_all-requires-clause-gate c =
    let test = c.loop-gate-test.true in
    let at_first = ap (λ (s : Script). s.gates) c.script.ensures.script in
    let still = ap (λ (s : Script). s.gates) c.loop-gate.invariant.drives.script_is in
    omega (arith, test, at_first, still)

pub deliver_all-requires-clause-shard : goal.deliver_all-requires-clause-shard
deliver_all-requires-clause-shard c =
    let inside = c.requires in
    let still = ap (λ (s : Script). s.shards) c.loop-gate.invariant.drives.script_is in
    omega (arith, inside, still)

pub returns-in_err-deliver_all-clause-drives : goal.returns-in_err-deliver_all-clause-drives
returns-in_err-deliver_all-clause-drives c = drives-through 0 c.args.core.now c.loop-gate.core c.deliver_all.new.core c.loop-gate.invariant.drives c.deliver_all.ensures.drives

pub loop-gate-preserved : goal.loop-gate-preserved
loop-gate-preserved c =
    below-next c.args.core.now c.loop-gate.core c.deliver_all.new.core c.loop-gate.gate _ c.args.shard refl
    (step-on 0 0 c.the_crates_below_keep_their_laws.ensures c.args.core.now c.loop-gate.core c.deliver_all.new.core c.script.ensures.limits c.script.ensures.core c.loop-gate.invariant.drives c.deliver_all.ensures.drives)
    c.loop-gate.invariant c.deliver_all.ensures.drives c.in_ok-deliver_all.ensures.delivers

pub returns-clause-drives : goal.returns-clause-drives
returns-clause-drives c = c.loop-gate.invariant.drives

pub returns-clause-delivers : goal.returns-clause-delivers
returns-clause-delivers c =
    let test = c.loop-gate-test.false in
    let at_first = ap (λ (s : Script). s.gates) c.script.ensures.script in
    below-all c.the_crates_below_keep_their_laws.ensures c.args.core.now c.loop-gate.core c.loop-gate.gate c.args.shard c.script.ensures.limits
    (drives-core 0 c.args.core.now c.loop-gate.core c.script.ensures.core c.loop-gate.invariant.drives) (omega (arith, test, at_first)) c.loop-gate.invariant
