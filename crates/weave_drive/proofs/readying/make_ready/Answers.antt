use Rattle.std.proofs.Common.{refl, ap, arith}
use Rattle.program_defs.specs.declared.script.Script.{Script}
use Rattle.weave_drive.proofs.Driven.{drives-core, drives-through}
use Rattle.weave_drive.proofs.Quiet.{drives-quiet}
use Rattle.weave_drive.proofs.Nudging.{ready-made}
use Rattle.weave_drive.proofs.readying.make_ready.Goals as goal

pub deliver_to-requires : goal.deliver_to-requires
deliver_to-requires c =
    let inside = c.requires.shard in
    let still = ap (λ (s : Script). s.shards) c.nudge_all.ensures.drives.script_is in
    omega (arith, inside, still)

pub returns-in_err-deliver_to-clause-drives : goal.returns-in_err-deliver_to-clause-drives
returns-in_err-deliver_to-clause-drives c = drives-through 0 c.args.core.now c.nudge_all.new.core c.deliver_to.new.core c.nudge_all.ensures.drives c.deliver_to.ensures.drives

pub apply_all-requires-clause-shard : goal.apply_all-requires-clause-shard
apply_all-requires-clause-shard c =
    let inside = c.requires.shard in
    let still = ap (λ (s : Script). s.shards) c.nudge_all.ensures.drives.script_is in
    let further = ap (λ (s : Script). s.shards) c.deliver_to.ensures.drives.script_is in
    omega (arith, inside, still, further)

pub apply_all-requires-clause-quiet : goal.apply_all-requires-clause-quiet
apply_all-requires-clause-quiet c =
    drives-quiet c.args.core.now c.deliver_to.new.core (drives-through 0 c.args.core.now c.nudge_all.new.core c.deliver_to.new.core c.nudge_all.ensures.drives c.deliver_to.ensures.drives) c.requires.quiet

pub apply_all-requires-clause-arrived : goal.apply_all-requires-clause-arrived
apply_all-requires-clause-arrived c = c.in_ok-deliver_to.ensures.delivers.arrived

pub returns-in_err-apply_all-clause-drives : goal.returns-in_err-apply_all-clause-drives
returns-in_err-apply_all-clause-drives c =
    drives-through 0 c.args.core.now c.deliver_to.new.core c.apply_all.new.core
    (drives-through 0 c.args.core.now c.nudge_all.new.core c.deliver_to.new.core c.nudge_all.ensures.drives c.deliver_to.ensures.drives) c.apply_all.ensures.drives

pub returns-clause-drives : goal.returns-clause-drives
returns-clause-drives c =
    drives-through 0 c.args.core.now c.deliver_to.new.core c.apply_all.new.core
    (drives-through 0 c.args.core.now c.nudge_all.new.core c.deliver_to.new.core c.nudge_all.ensures.drives c.deliver_to.ensures.drives) c.apply_all.ensures.drives

pub returns-clause-ready : goal.returns-clause-ready
returns-clause-ready c =
    let laws = c.the_crates_below_keep_their_laws.ensures in
    let old = c.args.core.now in
    let before = drives-through 0 old c.nudge_all.new.core c.deliver_to.new.core c.nudge_all.ensures.drives c.deliver_to.ensures.drives in
    let whole = drives-through 0 old c.deliver_to.new.core c.apply_all.new.core before c.apply_all.ensures.drives in
    ready-made laws old.script old.state.account c.nudge_all.new.core.state.account c.deliver_to.new.core.state.account c.apply_all.new.core.state.account c.args.home c.args.shard c.script.ensures.limits
    c.apply_all.new.core.state refl (drives-core 0 old c.apply_all.new.core c.script.ensures.core whole)
    c.in_ok-nudge_all.ensures.nudges c.in_ok-deliver_to.ensures.delivers c.in_ok-apply_all.ensures.applies
