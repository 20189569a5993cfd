use Rattle.workers_account.proofs.AskedFor.{asks-for-own}
use Rattle.workers_account.proofs.BegunTurns.{begun-in-turn}
use Rattle.workers_account.proofs.GoneOn.{keeps-at-end, number-and-more, running-below}
use Rattle.workers_account.proofs.InStep.{in-step}
use Rattle.workers_account.proofs.OwnPrograms.{visits-its-own}
use Rattle.workers_account.proofs.RepliesKept.{replies-by-hand}
use Rattle.workers_account.proofs.TurnsKept.{read-in-turn}
use Rattle.workers_account.proofs.session_laws.workers_follow_their_sessions.Goals as goal

pub returns : goal.returns
returns c = λ shared script number upto from at path within locks keeps own went.
    let laws = c.hands_read_by_their_laws.ensures in
    let seen = number-and-more shared script number upto path from at went in
    record {
      number_is = seen.0;
      more = seen.1;
      keeps = keeps-at-end shared script number upto path from at keeps went;
      in_step = in-step c.in_step_stands_on.ensures shared script number upto path from at within locks keeps went;
      begins = begun-in-turn c.turns_keep_their_laws.ensures shared script number upto path from at within locks keeps went;
      visits = visits-its-own laws shared script number upto path from at keeps own went;
      reads = read-in-turn laws shared script number upto path from at keeps went;
      replies = replies-by-hand laws shared script number upto path from at keeps went;
      asks = asks-for-own shared script number upto path from at keeps went;
      running = running-below shared script number upto path from at went;
    }
