use Rattle.version_graph.proofs.Chains.{last_newest, one_less, none_left}
use Rattle.version_graph.proofs.table.take_all_back.Goals as goal

pub take_one_back-requires : goal.take_one_back-requires
take_one_back-requires c =
    last_newest c.args.stamp c.loop-last.rest.now c.in-Some.earlier.now c.in-Some.last.now c.requires.0 c.loop-last.table.entries c.in-Some.ensures.cases.0 (c.loop-last.invariant c.requires.0 c.requires.1)

pub loop-last-preserved : goal.loop-last-preserved
loop-last-preserved c = λ before were.
    one_less c.args.stamp c.loop-last.rest.now c.in-Some.earlier.now c.in-Some.last.now before c.loop-last.table.entries c.in-Some.ensures.cases.0 (c.loop-last.invariant before were) c.take_one_back.new.table.entries c.take_one_back.ensures

pub returns : goal.returns
returns c = λ before were. none_left c.args.stamp c.loop-last.rest.now before c.loop-last.table.entries c.in_default.ensures.cases (c.loop-last.invariant before were)
