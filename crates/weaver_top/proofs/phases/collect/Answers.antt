use Rattle.weaver_top.proofs.Onward.{collected-so}
use Rattle.weaver_top.proofs.phases.collect.Goals as goal

pub returns-clause-runs : goal.returns-clause-runs
returns-clause-runs c bound =
    collected-so c.the_crates_below_keep_their_laws.ensures c.args.core.now.script c.script.ensures.limits c.step.new.self.script bound c.args.core.now.state c.step.new.self.state c.args.shard
    c.in_ok-step.ensures.done.script_is c.requires c.script.ensures.core c.in_ok-step.ensures.done.state_is c.script-2.ensures.core
