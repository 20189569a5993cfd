use Rattle.std.proofs.Common.{refl, ap, arith}
use Rattle.program_defs.specs.declared.script.Script.{Script}
use Rattle.weave_drive.proofs.Applications.{applied-at, round-end, round-next, round-none}
use Rattle.weave_drive.proofs.Driven.{drives-through}
use Rattle.weave_drive.proofs.applying.apply_round.Goals as goal

pub loop-gate-init : goal.loop-gate-init
loop-gate-init c = round-none c.args.core.now.script.gates c.args.shard c.args.core.now

pub apply_channel-requires-clause-gate : goal.apply_channel-requires-clause-gate
apply_channel-requires-clause-gate c =
    let test = c.loop-gate-test.true in
    let at_first = ap (λ (s : Script). s.gates) c.script.ensures.script in
    let still = ap (λ (s : Script). s.gates) c.loop-gate.invariant.applying.drives.script_is in
    omega (arith, test, at_first, still)

pub apply_channel-requires-clause-shard : goal.apply_channel-requires-clause-shard
apply_channel-requires-clause-shard c =
    let inside = c.requires in
    let still = ap (λ (s : Script). s.shards) c.loop-gate.invariant.applying.drives.script_is in
    omega (arith, inside, still)

pub returns-in_err-applied-clause-drives : goal.returns-in_err-applied-clause-drives
returns-in_err-applied-clause-drives c = drives-through 0 c.args.core.now c.loop-gate.core c.apply_channel.new.core c.loop-gate.invariant.applying.drives c.apply_channel.ensures.drives

pub loop-gate-preserved : goal.loop-gate-preserved
loop-gate-preserved c =
    round-next c.args.core.now.script.gates c.args.shard c.loop-gate.gate _ c.args.core.now c.loop-gate.core c.apply_channel.new.core c.loop-gate.moved c.in_ok-applied.applied refl c.loop-gate.invariant c.apply_channel.ensures.drives
    (applied-at c.args.shard c.loop-gate.gate c.args.core.now c.loop-gate.core c.apply_channel.new.core c.in_ok-applied.applied c.loop-gate.invariant.applying.drives c.in_ok-applied.ensures.applies)

pub returns-clause-drives : goal.returns-clause-drives
returns-clause-drives c = c.loop-gate.invariant.applying.drives

pub returns-clause-applies : goal.returns-clause-applies
returns-clause-applies c =
    let test = c.loop-gate-test.false in
    let at_first = ap (λ (s : Script). s.gates) c.script.ensures.script in
    round-end c.args.core.now.script.gates c.args.shard c.loop-gate.gate c.args.core.now c.loop-gate.core c.loop-gate.moved (omega (arith, test, at_first)) c.loop-gate.invariant
