use Rattle.weaver_workers.proofs.OnlyCarried.{landed-still}
use Rattle.weaver_workers.proofs.StillKept.{still-kept}
use Rattle.weaver_workers.proofs.laws.hands_go_on.Goals as goal

pub returns-clause-client : goal.returns-clause-client
returns-clause-client c = λ shared script number upto old new within locks keeps is_hand runs at_end does.
    still-kept c.workers_keep_their_laws.ensures shared script number upto within locks old new keeps is_hand at_end runs does

pub returns-clause-landed : goal.returns-clause-landed
returns-clause-landed c = λ old new only landed. landed-still old new only landed
