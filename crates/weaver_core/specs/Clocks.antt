-- What the machines do at `hear`, `epoch` and `restart`. No public contract cites this.
use Rattle.std.specs.Prelude.{◌≡◌, ℕ, true, false, not, nat_lt, List, None, Some}
use Rattle.vector_stamp.specs.declared.clock.Clock.{Clock}
use Rattle.shard_queue.specs.Outbox.{sent_as}
use Rattle.report_rules.specs.declared.report.StepAnswer.{StepAnswer}
use Rattle.report_rules.specs.declared.report.StepAnswer.TheVariants.{Ok, Old, Unknown}
use Rattle.weave_entries.specs.declared.gate_log.GateDeed.TheVariants.{Heard, Raised}
use Rattle.weave_entries.specs.GateReplay.{clock_of}
use Rattle.weaver_core.specs.GateTable.{GateTable, AddsToGate, gate_log_at}

-- the notice of this number is heard
pub record HearsNotice (old new : GateTable) (notices : List Clock) (home notice : ℕ) : Type 0 where
  pub clock : Clock
  pub notice_is : sent_as notice notices ≡ Some clock
  pub adds : AddsToGate old new home 0 (Heard clock)

-- what `hear` answers, and what it leaves
abbrev pub Hears : GateTable → GateTable → List Clock → ℕ → ℕ → StepAnswer → Type 0
Hears old new notices home notice Ok = HearsNotice old new notices home notice
Hears old new notices home notice Unknown = (new ≡ old) × (sent_as notice notices ≡ None)
Hears old new notices home notice _ = ⊥

-- what `epoch` and `restart` answer, and what they leave
abbrev pub Raises : GateTable → GateTable → ℕ → ℕ → StepAnswer → Type 0
Raises old new home epoch Ok =
    AddsToGate old new home 0 (Raised epoch) × (not (nat_lt (clock_of home (gate_log_at old home)).epoch epoch) ≡ false)
Raises old new home epoch Old = (new ≡ old) × (not (nat_lt (clock_of home (gate_log_at old home)).epoch epoch) ≡ true)
Raises old new home epoch _ = ⊥
