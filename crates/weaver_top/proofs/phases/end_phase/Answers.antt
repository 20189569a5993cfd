use Rattle.std.proofs.Common.{subst}
use Rattle.program_defs.specs.declared.script.Script.{Script}
use Rattle.weaver_top.specs.PhaseByPhase.{EndsAt, RunsBelow}
use Rattle.weaver_top.proofs.Onward.{driven-runs, ends-then}
use Rattle.weaver_top.proofs.phases.end_phase.Goals as goal

pub returns-clause-ends : goal.returns-clause-ends
returns-clause-ends c =
    let laws = c.the_crates_below_keep_their_laws.ensures in
    let script = c.args.core.now.script in
    let limits = c.script.ensures.limits in
    let bound = c.args.bound in
    let driven : EndsAt script bound c.args.core.now.state.account c.drive.new.core.state.account = record {
      runs = driven-runs laws script limits bound c.args.core.now.state c.drive.new.core.state c.script.ensures.core c.drive.ensures.driven c.drive.ensures.gates;
      replied = c.in_ok-drive.ensures.replied;
    } in
    ends-then laws script limits bound c.args.core.now.state.account c.drive.new.core.state.account c.collect_all.new.core.state.account driven
    (subst (λ (s : Script). RunsBelow s bound c.drive.new.core.state.account c.collect_all.new.core.state.account) c.drive.ensures.script (c.in_ok-collect_all.ensures.runs bound))
