use Rattle.std.proofs.Common.{true, false, refl, ap, subst, arith}
use Rattle.program_defs.specs.declared.script.Script.{Script}
use Rattle.weave_drive.specs.Progress.{AppliesRound}
use Rattle.weave_drive.proofs.Applications.{catching-end, catching-next, catching-none, round-at}
use Rattle.weave_drive.proofs.Driven.{drives-through}
use Rattle.weave_drive.proofs.applying.apply_all.Goals as goal

pub loop-init : goal.loop-init
loop-init c = catching-none c.args.shard c.args.core.now

pub apply_round-requires : goal.apply_round-requires
apply_round-requires c =
    let inside = c.requires.shard in
    let still = ap (λ (s : Script). s.shards) c.loop.invariant.drives.script_is in
    omega (arith, inside, still)

pub returns-in_err-apply_round-clause-drives : goal.returns-in_err-apply_round-clause-drives
returns-in_err-apply_round-clause-drives c = drives-through 0 c.args.core.now c.loop.core c.apply_round.new.core c.loop.invariant.drives c.apply_round.ensures.drives

pub loop-smaller : goal.loop-smaller
loop-smaller c =
    (round-at c.args.shard c.args.core.now c.loop.core c.apply_round.new.core true c.loop.invariant.drives
    (subst (AppliesRound c.loop.core.script.gates c.args.shard c.loop.core.script.gates c.loop.core.state c.apply_round.new.core.state) c.if-branch.true c.in_ok-apply_round.ensures.applies)).fewer refl

pub loop-preserved : goal.loop-preserved
loop-preserved c =
    catching-next _ c.args.shard _ c.args.core.now c.loop.core c.apply_round.new.core _ c.loop.invariant c.apply_round.ensures.drives c.in_ok-apply_round.ensures.applies

pub returns-clause-drives : goal.returns-clause-drives
returns-clause-drives c = drives-through 0 c.args.core.now c.loop.core c.apply_round.new.core c.loop.invariant.drives c.apply_round.ensures.drives

pub returns-clause-applies : goal.returns-clause-applies
returns-clause-applies c =
    catching-end c.the_crates_below_keep_their_laws.ensures c.args.shard c.args.core.now c.loop.core c.apply_round.new.core c.script.ensures.limits c.script.ensures.core c.requires.quiet c.requires.arrived c.loop.invariant
    (round-at c.args.shard c.args.core.now c.loop.core c.apply_round.new.core false c.loop.invariant.drives
    (subst (AppliesRound c.loop.core.script.gates c.args.shard c.loop.core.script.gates c.loop.core.state c.apply_round.new.core.state) c.if-branch.false c.in_ok-apply_round.ensures.applies))
