use Rattle.seen_logs.proofs.Within.{all-later, itself, of-account, same-logs}
use Rattle.seen_logs.proofs.laws.more_is_seen.Goals as goal

pub returns : goal.returns
returns c = record {
  itself = itself;
  later = all-later;
  account = of-account;
  apart = λ account. (same-logs account).0;
  back = λ account. (same-logs account).1;
}
