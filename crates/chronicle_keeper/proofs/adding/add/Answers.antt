use Rattle.chronicle_keeper.proofs.Added.{seen_grows}
use Rattle.chronicle_keeper.proofs.adding.add.Goals as goal

pub returns-clause-seen : goal.returns-clause-seen
returns-clause-seen g c = seen_grows _ _ _ _ _ _ _ c.enter-held.ensures.log c.state.ensures.value c.add-added.ensures.ok c.add-added.ensures.err c.leave.ensures.seen
