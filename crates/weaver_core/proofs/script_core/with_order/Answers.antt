use Rattle.weaver_core.proofs.script_core.with_order.Goals as goal

-- the order is that of the report as it was handed in: `order_of` was asked before the order was put in
pub returns-clause-order : goal.returns-clause-order
returns-clause-order c = rw c.from_vec.ensures c.in_ok-order.ensures
