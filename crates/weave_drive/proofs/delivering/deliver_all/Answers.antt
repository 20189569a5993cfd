use Rattle.std.proofs.Common.{ap, subst, arith}
use Rattle.program_defs.specs.declared.script.Script.{Script}
use Rattle.weave_drive.specs.Progress.{DeliversMessage}
use Rattle.weave_drive.proofs.Deliveries.{delivering-all, delivering-less, delivering-next, delivering-none}
use Rattle.weave_drive.proofs.Driven.{drives-through}
use Rattle.weave_drive.proofs.Going.{step-on}
use Rattle.weave_drive.proofs.delivering.deliver_all.Goals as goal

pub loop-number-init : goal.loop-number-init
loop-number-init c =
    let is = c.next_message-number.ensures.number in
    delivering-none c.args.core.now c.args.gate c.args.shard c.next_message-number.result (omega (arith, is)) c.next_message-number.ensures.arrived

pub deliver-requires-clause-gate : goal.deliver-requires-clause-gate
deliver-requires-clause-gate c =
    let inside = c.requires.gate in
    let still = ap (λ (s : Script). s.gates) c.loop-number.invariant.drives.script_is in
    omega (arith, inside, still)

pub deliver-requires-clause-shard : goal.deliver-requires-clause-shard
deliver-requires-clause-shard c =
    let inside = c.requires.shard in
    let still = ap (λ (s : Script). s.shards) c.loop-number.invariant.drives.script_is in
    omega (arith, inside, still)

pub deliver-requires-clause-number : goal.deliver-requires-clause-number
deliver-requires-clause-number c = c.loop-number.invariant.some

pub returns-in_err-deliver-clause-drives : goal.returns-in_err-deliver-clause-drives
returns-in_err-deliver-clause-drives c = drives-through 0 c.args.core.now c.loop-number.core c.deliver.new.core c.loop-number.invariant.drives c.deliver.ensures.drives

pub returns-in_err-number-clause-drives : goal.returns-in_err-number-clause-drives
returns-in_err-number-clause-drives c = drives-through 0 c.args.core.now c.loop-number.core c.deliver.new.core c.loop-number.invariant.drives c.deliver.ensures.drives

pub loop-number-smaller : goal.loop-number-smaller
loop-number-smaller c =
    delivering-less c.loop-number.core.state.account c.deliver.new.core.state.account c.args.gate c.args.shard c.loop-number.number _ c.in_ok-number.ensures.next c.loop-number.invariant.some
    (subst (DeliversMessage c.args.gate c.args.shard c.loop-number.number c.loop-number.core.state.account c.deliver.new.core.state.account) c.if-branch.true c.in_ok-deliver.ensures.delivers)

pub loop-number-preserved : goal.loop-number-preserved
loop-number-preserved c =
    delivering-next c.args.core.now c.loop-number.core c.deliver.new.core c.args.gate c.args.shard c.loop-number.number _ c.in_ok-number.ensures.next
    (step-on 0 0 c.the_crates_below_keep_their_laws.ensures c.args.core.now c.loop-number.core c.deliver.new.core c.script.ensures.limits c.script.ensures.core c.loop-number.invariant.drives c.deliver.ensures.drives)
    c.loop-number.invariant c.deliver.ensures.drives
    (subst (DeliversMessage c.args.gate c.args.shard c.loop-number.number c.loop-number.core.state.account c.deliver.new.core.state.account) c.if-branch.true c.in_ok-deliver.ensures.delivers)

pub returns-clause-drives : goal.returns-clause-drives
returns-clause-drives c = drives-through 0 c.args.core.now c.loop-number.core c.deliver.new.core c.loop-number.invariant.drives c.deliver.ensures.drives

pub returns-clause-delivers : goal.returns-clause-delivers
returns-clause-delivers c =
    delivering-all c.args.core.now c.loop-number.core c.deliver.new.core c.args.gate c.args.shard c.loop-number.number
    (step-on 0 0 c.the_crates_below_keep_their_laws.ensures c.args.core.now c.loop-number.core c.deliver.new.core c.script.ensures.limits c.script.ensures.core c.loop-number.invariant.drives c.deliver.ensures.drives)
    c.loop-number.invariant
    (subst (DeliversMessage c.args.gate c.args.shard c.loop-number.number c.loop-number.core.state.account c.deliver.new.core.state.account) c.if-branch.false c.in_ok-deliver.ensures.delivers)
