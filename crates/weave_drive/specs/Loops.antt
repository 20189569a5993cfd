-- What holds at each turn of the loops of driving. No public contract cites this.
use Rattle.std.specs.Prelude.{◌≡◌, ℕ, ◌+◌, ◌<◌, ◌≤◌, Bool, false, length, IsTrue, None}
use Rattle.weave_entries.specs.GateReplay.{channel_of, flight_of}
use Rattle.weave_account.specs.Account.{gate_log}
use Rattle.weaver_core.specs.Cores.{CoreView}
use Rattle.drive_rules.specs.Heads.{CanApply}
use Rattle.weave_drive.specs.Driving.{Drives}
use Rattle.weave_drive.specs.Progress.{HaveArrived, AreAnsweredBelow, Nudges, left_of}

-- no transaction is in flight at the first n gatekeepers
pub record EndsBelow (n : ℕ) (old new : CoreView) : Type 0 where
  pub drives : Drives 0 old new
  pub none : (gate : ℕ) → gate < n → flight_of (gate_log new.state.account gate) ≡ None

-- the messages of a channel before this number have arrived
pub record IsDelivering (gate shard number : ℕ) (old new : CoreView) : Type 0 where
  pub drives : Drives 0 old new
  pub same_gates : new.state.account.gates ≡ old.state.account.gates
  pub some : 1 ≤ number
  pub arrived : HaveArrived new.state.account shard gate number

-- all messages of the first n gatekeepers have arrived at the shard
pub record DeliversBelow (n shard : ℕ) (old new : CoreView) : Type 0 where
  pub drives : Drives 0 old new
  pub same_gates : new.state.account.gates ≡ old.state.account.gates
  pub arrived : (gate : ℕ) → gate < n
      → HaveArrived new.state.account shard gate (length (channel_of shard (gate_log new.state.account gate)) + 1)

-- heads are processed: there are fewer messages left, or nothing has changed
pub record IsApplying (gates shard : ℕ) (old new : CoreView) (moved : Bool) : Type 0 where
  pub drives : Drives 0 old new
  pub same_gates : new.state.account.gates ≡ old.state.account.gates
  pub fewer : IsTrue moved → left_of gates new.state.account shard < left_of gates old.state.account shard
  pub same : moved ≡ false → new.state ≡ old.state

-- and the first n channels are stuck, if nothing has changed
pub record AppliesBelow (gates shard n : ℕ) (old new : CoreView) (moved : Bool) : Type 0 where
  pub applying : IsApplying gates shard old new moved
  pub stuck : moved ≡ false → (gate : ℕ) → gate < n → ¬ CanApply old.state.account shard gate

-- rounds of applications
pub record IsCatchingUp (shard : ℕ) (old new : CoreView) : Type 0 where
  pub drives : Drives 0 old new
  pub same_gates : new.state.account.gates ≡ old.state.account.gates

-- the first n gatekeepers have sent later messages
pub record NudgesBelow (n home shard : ℕ) (old new : CoreView) : Type 0 where
  pub drives : Drives 0 old new
  pub nudges : (gate : ℕ) → gate < n → Nudges home gate shard old.state.account new.state.account

-- the first n requests have their replies
pub record AnswersBelow (upto n : ℕ) (old new : CoreView) : Type 0 where
  pub drives : Drives upto old new
  pub answered : AreAnsweredBelow old.script n new.state.account
