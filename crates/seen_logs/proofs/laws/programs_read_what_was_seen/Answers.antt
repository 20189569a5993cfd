use Rattle.std.proofs.Common.{ℕ, ◌≤◌, length, refl}
use Rattle.weave_account.specs.declared.account.Account.{Account}
use Rattle.seen_logs.specs.Closed.{AreOfHands}
use Rattle.seen_logs.specs.LowerLaws.{LawsForSeenLogs}
use Rattle.seen_logs.specs.Seen.{AreLegal}
use Rattle.seen_logs.proofs.Closing.{IsEnd}
use Rattle.seen_logs.proofs.Reading.{own-end, own-reads, start-reads}
use Rattle.seen_logs.proofs.laws.programs_read_what_was_seen.Goals as goal

ended : LawsForSeenLogs → (gates shards hands : ℕ) (start : Account) (seen_by : ℕ → Account) (closed : Account) → length closed.gates ≤ 8
    → AreLegal gates shards closed → AreOfHands shards hands start seen_by closed → IsEnd gates shards hands start seen_by closed
ended laws gates shards hands start seen_by closed few legal of = record { laws = laws; few = few; legal = legal; of = of }

pub returns : goal.returns
returns c =
    let laws = c.the_crates_below_keep_their_laws.ensures in
    record {
      reads = λ gates shards hands start seen_by closed few legal of once number home r stamp known there.
          own-reads (ended laws gates shards hands start seen_by closed few legal of) once number known home
          (record { author = number; request = r; stamp = stamp }) refl there;
      ended = λ gates shards hands start seen_by closed few legal of once number home r stamp known there.
          own-end (ended laws gates shards hands start seen_by closed few legal of) once number known home
          (record { author = number; request = r; stamp = stamp }) refl there;
      at_start = λ gates shards hands start seen_by closed few legal of once home begun there.
          start-reads (ended laws gates shards hands start seen_by closed few legal of) once home begun there;
    }
