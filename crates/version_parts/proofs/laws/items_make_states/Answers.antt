use Rattle.version_parts.proofs.OneMore.{earlier_stay, one_more}
use Rattle.version_parts.proofs.laws.items_make_states.Goals as goal

pub returns-clause-next : goal.returns-clause-next
returns-clause-next c time op lists before numbered rise passes = one_more time lists before numbered op rise passes

pub returns-clause-earlier : goal.returns-clause-earlier
returns-clause-earlier c update time op lists after rise = earlier_stay update time lists after op rise
