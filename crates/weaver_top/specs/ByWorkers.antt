-- What workers did of a run, as its logs say.
use Rattle.std.specs.Prelude.{◌≡◌, ℕ, zero, suc, ◌+◌, List, length}
use Rattle.program_defs.specs.declared.script.Script.{Script}
use Rattle.weave_account.specs.declared.account.Account.{Account}
use Rattle.weave_account.specs.Account.{NoneInFlight}
use Rattle.weave_account.specs.GoesOn.{GoesOn}
use Rattle.weave_account.specs.IsAccount.{IsAccount}
use Rattle.weave_account.specs.NoLogs.{no_logs}
use Rattle.weaver_workers.specs.Phases.{phase_end, phase_start}
use Rattle.weave_phase.specs.Pairs.{AreBegunByOwnWorkers}
use Rattle.weave_phase.specs.Ready.{IsAnsweredUpTo}
use Rattle.weave_phase.specs.SessionRuns.{WasRunForSession}
use Rattle.weaver_top.specs.RunLogs.{TellsByLogs}

-- A phase, from its opening to its end. At the opening each earlier request has its reply, and no other has begun. The
-- workers left logs that go on from there, with no transaction in flight: each session had a worker of its own, which
-- began its requests, and each of these has its reply, unless the logs show why its worker could stop. What was left
-- undone was done afterwards. A phase of one session that was only driven looks the same, and so does one in which a
-- driven transaction is the reason why the workers of other sessions could stop.
pub record IsPhaseOfWorkers (script : Script) (phase : ℕ) (opening ended : Account) : Type 0 where
  pub opens : IsAnsweredUpTo script (phase_start script phase) opening
  pub left : Account
  pub is_account : IsAccount script left
  pub begins_with : GoesOn opening left
  pub landed : NoneInFlight left
  pub own_workers : AreBegunByOwnWorkers script opening left
  pub sessions : (session : ℕ) → WasRunForSession script (phase_end script phase) session opening left
  pub goes_on : GoesOn left ended

-- The first phases, that many, were such, one after another from empty logs on, and ended with these logs.
abbrev pub AreRunByWorkers : Script → ℕ → Account → Type 0
AreRunByWorkers script zero logs = logs ≡ no_logs script
AreRunByWorkers script (suc phase) logs =
    (opening : Account) × AreRunByWorkers script phase opening × IsPhaseOfWorkers script phase opening logs

-- the text is the report of logs that all phases of the script ended with, each run by workers
pub record TellsByWorkers (input text : List ℕ) : Type 0 where
  pub by_logs : TellsByLogs input text
  pub by_workers : AreRunByWorkers by_logs.script (length by_logs.script.phases + 1) by_logs.logs
