use Rattle.weave_entries.specs.declared.session_log.SessionDeed.TheVariants.{Begun}
use Rattle.weaver_core.proofs.AtClients.{client-adds}
use Rattle.weaver_core.proofs.client.Client.begun.Goals as goal

pub returns-clause-begun : goal.returns-clause-begun
returns-clause-begun c =
    client-adds (record { replay = c.a_log_goes_on.ensures.replay; right = c.a_log_goes_on.ensures.right }) c.args.number c.args.self.now _ (Begun c.args.request c.args.stamp) c.requires.client c.requires.turn c.begun.ensures c.push_reserved.ensures.items
