use Rattle.std.proofs.Common.{refl}
use Rattle.weaver_top.proofs.PhaseEnds.{whole-run}
use Rattle.weaver_top.proofs.phases.run.Goals as goal

pub returns-clause-whole : goal.returns-clause-whole
returns-clause-whole c =
    let script = c.args.core.now.script in
    let run = c.in_ok-end_phases.ensures.run in
    whole-run c.the_crates_below_keep_their_laws.ensures script script c.end_phases.new.core.script (c.scripts_are_small.ensures.limits script c.requires.valid)
    refl c.in_ok-end_phases.ensures.script run.0 _ _ c.end_phase.new.core.state.account c.count_of-all.ensures run.1 c.in_ok-end_phase.ensures.ends
