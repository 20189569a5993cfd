use Rattle.std.proofs.Common.{subst}
use Rattle.backing_store.specs.Keeping.{IsAsked}
use Rattle.backing_store.proofs.Tables.{unordered_more}
use Rattle.backing_store.proofs.asked.asked_at.Goals as goal

pub loop-name-preserved : goal.loop-name-preserved
loop-name-preserved c =
    subst (IsAsked c.ask_at.new.asked)
    (unordered_more c.args.lasts.now.entries c.args.stamp.now c.args.names.now c.loop-name.name-index c.name-item.result c.loop-name-test.true c.name-item.is)
    (c.in_ok-ask_at.ensures _ c.loop-name.invariant)
