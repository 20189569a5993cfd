use Rattle.std.proofs.Common.{refl, ap, arith}
use Rattle.program_defs.specs.declared.script.Script.{Script}
use Rattle.weave_drive.proofs.Driven.{drives-on, drives-through}
use Rattle.weave_drive.proofs.Quiet.{drives-quiet}
use Rattle.weave_drive.proofs.Going.{step-on}
use Rattle.weave_drive.proofs.Nudging.{nudges-next, nudges-none}
use Rattle.weave_drive.proofs.readying.nudge_all.Goals as goal

pub loop-gate-init : goal.loop-gate-init
loop-gate-init c = nudges-none c.args.home c.args.shard c.args.core.now

pub nudge-requires-clause-home : goal.nudge-requires-clause-home
nudge-requires-clause-home c =
    let inside = c.requires.home in
    let still = ap (λ (s : Script). s.gates) c.loop-gate.invariant.drives.script_is in
    omega (arith, inside, still)

pub nudge-requires-clause-gate : goal.nudge-requires-clause-gate
nudge-requires-clause-gate c =
    let test = c.loop-gate-test.true in
    let at_first = ap (λ (s : Script). s.gates) c.script.ensures.script in
    let still = ap (λ (s : Script). s.gates) c.loop-gate.invariant.drives.script_is in
    omega (arith, test, at_first, still)

pub nudge-requires-clause-shard : goal.nudge-requires-clause-shard
nudge-requires-clause-shard c =
    let inside = c.requires.shard in
    let still = ap (λ (s : Script). s.shards) c.loop-gate.invariant.drives.script_is in
    omega (arith, inside, still)

pub nudge-requires-clause-quiet : goal.nudge-requires-clause-quiet
nudge-requires-clause-quiet c = drives-quiet c.args.core.now c.loop-gate.core c.loop-gate.invariant.drives c.requires.quiet

pub returns-in_err-nudge-clause-drives : goal.returns-in_err-nudge-clause-drives
returns-in_err-nudge-clause-drives c = drives-through 0 c.args.core.now c.loop-gate.core c.nudge.new.core c.loop-gate.invariant.drives c.nudge.ensures.drives

pub loop-gate-preserved : goal.loop-gate-preserved
loop-gate-preserved c =
    let laws = c.the_crates_below_keep_their_laws.ensures in
    nudges-next c.args.home c.args.shard c.loop-gate.gate _ c.args.core.now c.loop-gate.core c.nudge.new.core refl
    (drives-on 0 laws c.args.core.now c.loop-gate.core c.script.ensures.limits c.script.ensures.core c.loop-gate.invariant.drives)
    (step-on 0 0 laws c.args.core.now c.loop-gate.core c.nudge.new.core c.script.ensures.limits c.script.ensures.core c.loop-gate.invariant.drives c.nudge.ensures.drives)
    c.loop-gate.invariant c.nudge.ensures.drives c.in_ok-nudge.ensures.nudges

pub returns-clause-drives : goal.returns-clause-drives
returns-clause-drives c = c.loop-gate.invariant.drives

pub returns-clause-nudges : goal.returns-clause-nudges
returns-clause-nudges c gate below =
    let test = c.loop-gate-test.false in
    let at_first = ap (λ (s : Script). s.gates) c.script.ensures.script in
    c.loop-gate.invariant.nudges gate (omega (arith, test, at_first, below))
