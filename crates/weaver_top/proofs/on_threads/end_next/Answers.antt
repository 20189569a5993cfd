use Rattle.weaver_top.proofs.OnThreads.{next-ends, one-more}
use Rattle.weaver_top.proofs.on_threads.end_next.Goals as goal

pub returns-clause-run : goal.returns-clause-run
returns-clause-run g c =
    next-ends c.the_crates_below_keep_their_laws.ensures c.args.core.script c.script.ensures.limits c.args.phase c.args.core.state.account c.in_ok-core.core.state.account c.requires.rise c.requires.there c.requires.run
    c.in_ok-core.ensures.ends

pub returns-clause-workers : goal.returns-clause-workers
returns-clause-workers g c =
    one-more c.args.core.script c.args.phase c.args.core.state.account c.in_ok-core.core.state.account c.requires.workers c.in_ok-core.ensures.workers
