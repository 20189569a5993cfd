use Rattle.order_witness.proofs.replies.fault_in_place.Goals as goal

pub returns-then-surely : goal.returns-then-surely
returns-then-surely c = c.in_ok-surely.ensures c.if-surely.true
