use Rattle.std.proofs.Common.{◌<◌, [], length, arith}
use Rattle.oracle_chain.specs.Calls.{after_stop, Stop}
use Rattle.chain_tests.proofs.Known.{none-of, called-knows}
use Rattle.chain_tests.proofs.store_row.StoreRow.stop.Goals as goal

pub invariant_of-self : goal.invariant_of-self
invariant_of-self g c =
    let count = c.count.ensures in
    let within : c.args.replica < length c.self.inside.chain.replicas = omega (arith, count) in (
      called-knows c.self.inside.events.items c.self.inside.chain c.stop.new.self (after_stop c.self.inside.chain c.args.replica) [] c.stop.ensures.after
          (c.stamps_come_with_asks.ensures.called c.self.inside.chain (Stop c.args.replica) c.is_chain.ensures within) (none-of c.self.inside.events.items) c.self.invariant.0,
      c.self.invariant.1,
    )
