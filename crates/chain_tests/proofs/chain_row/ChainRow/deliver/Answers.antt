use Rattle.std.proofs.Common.{[]}
use Rattle.oracle_chain.specs.Calls.{after_delivery, Deliver}
use Rattle.chain_tests.proofs.Known.{none-of, either-knows}
use Rattle.chain_tests.proofs.chain_row.ChainRow.deliver.Goals as goal

pub invariant_of-self : goal.invariant_of-self
invariant_of-self c =
    either-knows c.deliver.result c.self.inside.events.items c.self.inside.chain c.deliver.new.self (after_delivery c.self.inside.chain c.args.message) [] c.deliver.ensures.delivered c.deliver.ensures.as_before
    (c.stamps_come_with_asks.ensures.called c.self.inside.chain (Deliver c.args.message) c.is_chain.ensures tt) (none-of c.self.inside.events.items) c.self.invariant
