-- The closed logs follow the script, so they are an account: each hand has seen what its own entries refer to, and so
-- all references are within the closed logs.
-- Used by `closed_logs_are_an_account` and Example.
use Rattle.std.proofs.Common.{ℕ}
use Rattle.program_defs.specs.declared.script.Script.{Script}
use Rattle.weave_account.specs.declared.account.Account.{Account}
use Rattle.weave_account.specs.IsAccount.{IsAccount}
use Rattle.seen_logs.specs.FollowsScript.{FollowsScript}
use Rattle.seen_logs.specs.Seen.{IsSeenByHand, without_sessions}
use Rattle.hands_account.proofs.Begins.{begins-all}
use Rattle.hands_account.proofs.ByHands.{IsClosedRun}
use Rattle.hands_account.proofs.InTurn.{turn-all}
use Rattle.hands_account.proofs.Once.{each-once}
use Rattle.hands_account.proofs.Programs.{begun-read, few, legal-apart}
use Rattle.hands_account.proofs.Work.{work-all}

module _ {script : Script} {hands : ℕ} {start : Account} {seen_by : ℕ → Account} {closed : Account} (run : IsClosedRun script hands start seen_by closed) where
  refers : IsSeenByHand script.shards 0 (without_sessions closed) (without_sessions closed)
  refers =
      run.laws.refer_within script.gates script.shards hands (without_sessions start) seen_by (without_sessions closed) (few run) (legal-apart run) run.of 0

  follows-script : FollowsScript script closed
  follows-script = record {
    gates = run.runs.gates;
    shards = run.runs.shards;
    begins = begins-all run;
    once = each-once run;
    work = work-all run;
    in_turn = turn-all run;
    programs = run.laws.programs_follow script closed 0 run.legal refers (begins-all run) (begun-read run);
    sessions = run.runs.sessions;
  }

  -- the closed logs are an account
  pub closed-account : IsAccount script closed
  closed-account = run.laws.make_account script closed 0 run.legal refers follows-script
