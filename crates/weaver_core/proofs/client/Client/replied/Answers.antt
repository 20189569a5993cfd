use Rattle.weave_entries.specs.declared.session_log.SessionDeed.TheVariants.{Replied}
use Rattle.weaver_core.proofs.AtClients.{client-adds}
use Rattle.weaver_core.proofs.client.Client.replied.Goals as goal

pub returns-clause-replied : goal.returns-clause-replied
returns-clause-replied c =
    client-adds (record { replay = c.a_log_goes_on.ensures.replay; right = c.a_log_goes_on.ensures.right }) c.args.number c.args.self.now _ (Replied c.args.reply.request) c.requires.client c.requires.turn c.replied.ensures c.push_reserved.ensures.items
