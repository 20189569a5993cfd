use Rattle.std.proofs.Common.{true, false, refl, ap, subst, arith}
use Rattle.program_defs.specs.declared.script.Script.{Script}
use Rattle.weave_drive.specs.Progress.{AppliesChannel}
use Rattle.weave_drive.proofs.Applications.{applied-at, applying-end, applying-none, applying-on}
use Rattle.weave_drive.proofs.Driven.{drives-through}
use Rattle.weave_drive.proofs.applying.apply_channel.Goals as goal

pub loop-moved-init : goal.loop-moved-init
loop-moved-init c = applying-none c.args.core.now.script.gates c.args.shard c.args.core.now

pub apply-requires-clause-gate : goal.apply-requires-clause-gate
apply-requires-clause-gate c =
    let inside = c.requires.gate in
    let still = ap (λ (s : Script). s.gates) c.loop-moved.invariant.drives.script_is in
    omega (arith, inside, still)

pub apply-requires-clause-shard : goal.apply-requires-clause-shard
apply-requires-clause-shard c =
    let inside = c.requires.shard in
    let still = ap (λ (s : Script). s.shards) c.loop-moved.invariant.drives.script_is in
    omega (arith, inside, still)

pub returns-in_err-apply-clause-drives : goal.returns-in_err-apply-clause-drives
returns-in_err-apply-clause-drives c = drives-through 0 c.args.core.now c.loop-moved.core c.apply.new.core c.loop-moved.invariant.drives c.apply.ensures.drives

pub loop-moved-smaller : goal.loop-moved-smaller
loop-moved-smaller c =
    (applied-at c.args.shard c.args.gate c.args.core.now c.loop-moved.core c.apply.new.core true c.loop-moved.invariant.drives
    (subst (AppliesChannel c.loop-moved.core.script.gates c.args.shard c.args.gate c.loop-moved.core.state c.apply.new.core.state) c.if-branch.true c.in_ok-apply.ensures.applies)).fewer refl

pub loop-moved-preserved : goal.loop-moved-preserved
loop-moved-preserved c =
    applying-on c.args.core.now.script.gates c.args.shard c.args.gate c.args.core.now c.loop-moved.core c.apply.new.core c.loop-moved.moved c.loop-moved.invariant c.apply.ensures.drives
    (applied-at c.args.shard c.args.gate c.args.core.now c.loop-moved.core c.apply.new.core true c.loop-moved.invariant.drives
    (subst (AppliesChannel c.loop-moved.core.script.gates c.args.shard c.args.gate c.loop-moved.core.state c.apply.new.core.state) c.if-branch.true c.in_ok-apply.ensures.applies))

pub returns-clause-drives : goal.returns-clause-drives
returns-clause-drives c = drives-through 0 c.args.core.now c.loop-moved.core c.apply.new.core c.loop-moved.invariant.drives c.apply.ensures.drives

pub returns-clause-applies : goal.returns-clause-applies
returns-clause-applies c =
    applying-end c.args.core.now.script.gates c.args.shard c.args.gate c.args.core.now c.loop-moved.core c.apply.new.core c.loop-moved.moved c.loop-moved.invariant
    (applied-at c.args.shard c.args.gate c.args.core.now c.loop-moved.core c.apply.new.core false c.loop-moved.invariant.drives
    (subst (AppliesChannel c.loop-moved.core.script.gates c.args.shard c.args.gate c.loop-moved.core.state c.apply.new.core.state) c.if-branch.false c.in_ok-apply.ensures.applies))
