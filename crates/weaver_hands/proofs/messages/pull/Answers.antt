use Rattle.std.proofs.Common.{Ok, sym, subst}
use Rattle.std.specs.Prelude.{Bool}
use Rattle.weaver_locks.specs.Locks.{shard_count}
use Rattle.weaver_hands.specs.Messages.{PullsAs}
use Rattle.weaver_hands.proofs.Arrived.{pulls_so, refused_so}
use Rattle.weaver_hands.proofs.messages.pull.Goals as goal

pub returns-in-Ok-clause-pulled : goal.returns-in-Ok-clause-pulled
returns-in-Ok-clause-pulled g c =
    subst (λ (b : Bool). PullsAs (shard_count c.args.shared.now) c.args.hand.now c.bring.new.hand c.args.gate c.args.shard c.args.number (Ok b))
    (sym c.was_sent.ensures) (pulls_so (shard_count c.args.shared.now) c.args.hand.now c.bring.new.hand c.args.gate c.args.shard c.args.number
    c.in-Ok.pulled c.in-Ok.ensures.brought)

pub returns-in-Err-clause-pulled : goal.returns-in-Err-clause-pulled
returns-in-Err-clause-pulled g c =
    refused_so (shard_count c.args.shared.now) c.args.hand.now c.bring.new.hand c.args.gate c.args.shard c.args.number c.in-Err.fault
    c.in-Err.ensures.brought
