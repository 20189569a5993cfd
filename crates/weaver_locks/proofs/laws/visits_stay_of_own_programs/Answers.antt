use Rattle.std.proofs.Common.{sym, subst}
use Rattle.weave_account.specs.declared.account.Account.{Account}
use Rattle.seen_logs.specs.Seen.{VisitsOwnPrograms}
use Rattle.weaver_locks.specs.Hands.{hand_number}
use Rattle.weaver_locks.specs.Locks.{start_of}
use Rattle.weaver_locks.proofs.OwnVisits.{visits-stay-at, visits-stay-without}
use Rattle.weaver_locks.proofs.laws.visits_stay_of_own_programs.Goals as goal

pub returns : goal.returns
returns c =
    let stay = c.own_visits_stay.ensures in
    record {
      start = λ shared hand new. subst (λ (a : Account). VisitsOwnPrograms (hand_number hand) (start_of shared) a) (sym new)
          (stay.start (hand_number hand) (start_of shared));
      others = λ shared old new is_old is_new number made more. visits-stay-without shared old new is_old is_new number more stay.on made;
      shard = visits-stay-at stay.on;
    }
