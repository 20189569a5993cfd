use Rattle.std.proofs.Common.{sym}
use Rattle.order_witness.proofs.Topping.{below_then, surely_last}
use Rattle.order_witness.proofs.tops.comes_last.Goals as goal

pub returns-then-surely-clause-holds : goal.returns-then-surely-clause-holds
returns-then-surely-clause-holds c =
    sym (surely_last c.args.script.now c.args.before.now c.args.request c.args.tops.now c.put-surely.new.tops c.put-surely.result c.put-surely.ensures c.requires c.if-surely.true)

pub returns-then-surely-clause-tops : goal.returns-then-surely-clause-tops
returns-then-surely-clause-tops c =
    below_then c.args.script.now c.args.before.now c.args.request c.args.tops.now c.put-surely.new.tops c.put-surely.result c.put-surely.ensures c.requires

pub returns-clause-tops : goal.returns-clause-tops
returns-clause-tops c =
    below_then c.args.script.now c.args.before.now c.args.request c.args.tops.now c.put-surely.new.tops c.put-surely.result c.put-surely.ensures c.requires
