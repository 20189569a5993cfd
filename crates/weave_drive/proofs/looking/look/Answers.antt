use Rattle.std.proofs.Common.{true, false, refl, sym, subst}
use Rattle.program_defs.specs.declared.script.Script.{Script}
use Rattle.weave_drive.specs.Progress.{IsReading, ReadsOnward}
use Rattle.weave_drive.proofs.Driven.{drives-none, drives-on, drives-through}
use Rattle.weave_drive.proofs.Quiet.{drives-quiet}
use Rattle.weave_drive.proofs.Reading.{still-reading, visits-at}
use Rattle.weave_drive.proofs.looking.look.Goals as goal

pub loop-init : goal.loop-init
loop-init c = drives-none 0 c.args.core.now

pub visit-requires-clause-reading : goal.visit-requires-clause-reading
visit-requires-clause-reading c =
    subst (λ (s : Script). IsReading s c.args.request c.args.home c.loop.core.state.account) (sym c.loop.invariant.script_is)
    (still-reading c.args.core.now.script c.args.core.now.state.account c.loop.core.state.account
    (drives-on 0 c.the_crates_below_keep_their_laws.ensures c.args.core.now c.loop.core c.script.ensures.limits c.script.ensures.core c.loop.invariant)
    c.args.request c.args.home c.requires.reading)

pub visit-requires-clause-quiet : goal.visit-requires-clause-quiet
visit-requires-clause-quiet c = drives-quiet c.args.core.now c.loop.core c.loop.invariant c.requires.quiet

pub returns-in_err-visit-clause-drives : goal.returns-in_err-visit-clause-drives
returns-in_err-visit-clause-drives c = drives-through 0 c.args.core.now c.loop.core c.visit.new.core c.loop.invariant c.visit.ensures.drives

pub loop-smaller : goal.loop-smaller
loop-smaller c =
    (visits-at c.args.request c.args.home c.args.core.now c.loop.core c.visit.new.core true c.loop.invariant
    (subst (ReadsOnward c.loop.core.script c.args.request c.args.home c.loop.core.state.account c.visit.new.core.state.account) c.if-branch.true c.in_ok-visit.ensures.visits)).less refl

pub loop-preserved : goal.loop-preserved
loop-preserved c = drives-through 0 c.args.core.now c.loop.core c.visit.new.core c.loop.invariant c.visit.ensures.drives

pub returns-clause-drives : goal.returns-clause-drives
returns-clause-drives c = drives-through 0 c.args.core.now c.loop.core c.visit.new.core c.loop.invariant c.visit.ensures.drives

pub returns-clause-whole : goal.returns-clause-whole
returns-clause-whole c =
    (visits-at c.args.request c.args.home c.args.core.now c.loop.core c.visit.new.core false c.loop.invariant
    (subst (ReadsOnward c.loop.core.script c.args.request c.args.home c.loop.core.state.account c.visit.new.core.state.account) c.if-branch.false c.in_ok-visit.ensures.visits)).whole refl
