use Rattle.weaver_locks.proofs.Following.{may-be-heard}
use Rattle.weaver_locks.proofs.laws.begun_stamps_may_be_heard.Goals as goal

pub returns : goal.returns
returns c = λ shared hand stamp is may. may-be-heard c.hands_keep_their_laws.ensures shared hand is stamp may
